-- A line's fields, where parts, operands and arguments are sections of an image.
-- Assumes nothing.
use mathlib.Core.Path.{◌≡◌}
use mathlib.Core.List.{List}
use Rattle.std.specs.Prelude.{Option as Maybe}
use Prim.Native.Nat.{ℕ, ◌-◌}
use native.Mathlib.Omega.{arith}
use native.Mathlib.Nat.{le_refl}
use lib.ListN.{length}
use borrow.Rule.Slice.PartMut.{put_mid}
use Rattle.image.specs.declared.Places.{Places}
use Rattle.image.specs.Sections.{Ordered, Outside, part_section}
use Rattle.image.proofs.Laws.{before, wider}
use Rattle.text_decode.specs.line.Answers.{operands_in, PlainIs, RowIs, FormIs}
use Rattle.text_decode.specs.declared.line.Said.{Said}
use Rattle.text_decode.proofs.line.ImageLaws.{parts_back}
use Rattle.text_decode.proofs.line.LineLaws.{row_form, plain_line}

module _ (code : ℕ) (fs : List (List ℕ)) (k v a : ℕ) (p : Places) (l ns : List ℕ) (o : Ordered p (length l)) where
  abbrev pub Formed : List ℕ → List ℕ → Maybe Said → Type 0
  Formed l' ns' s = FormIs code fs k v a (part_section p l) (part_section p l') (operands_in p l ns) (operands_in p l' ns') s × Outside p.parts p.uses l l'

  -- a row's parts came back as y
  pub row_in : (y : List ℕ) → length y ≡ length (part_section p l) → (s : Maybe Said) (n : ℕ) → code ≡ n → RowIs n fs k (part_section p l) y s → Formed (put_mid p.parts (p.operands - p.parts) l y) ns s
  row_in y e s n c r =
      let b = parts_back p l o y e in
      (rw (b.parts, b.kinds, b.args) (row_form code fs k v a (part_section p l) y (operands_in p l ns) (operands_in p l ns) s n c r), b.outside)

  -- operands were read
  pub plain_in : (l' ns' : List ℕ) (s : Maybe Said) → PlainIs code fs v a (operands_in p l ns) (operands_in p l' ns') s → Outside p.operands p.uses l l' → Formed l' ns' s
  plain_in l' ns' s r w =
      let e : part_section p l' ≡ part_section p l = before p.operands p.uses l l' (omega arith) w p.parts p.operands o.parts (le_refl p.operands) in
      (rw e (plain_line code fs k v a (part_section p l) (part_section p l) (operands_in p l ns) (operands_in p l' ns') s r), wider p.operands p.uses p.parts p.uses l l' o.parts (le_refl p.uses) (omega arith) w)
