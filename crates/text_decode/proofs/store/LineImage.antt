-- What a line leaves of the sections that it does not write.
-- Assumes nothing.
use mathlib.Core.Path.{◌≡◌}
use mathlib.Core.List.{List}
use Prim.Native.Nat.{ℕ, ◌*◌, ◌<◌, ◌≤◌}
use native.Mathlib.Omega.{arith}
use native.Mathlib.Nat.{le_refl}
use lib.ListN.{length}
use Rattle.image.specs.declared.Places.{Places}
use Rattle.image.specs.Sections.{Ordered, Outside, row_section, block_section, instr_section, part_section, operand_section, arg_section}
use Rattle.text.specs.Bytes.{fields_of}
use Rattle.text.specs.Grammar.{entry_of, forms}
use Rattle.text_fields.specs.names.Names.{form_at}
use Rattle.std.specs.Prelude.{Some, None}
use Rattle.text_decode.specs.line.Answers.{operands_in, FormIs}
use Rattle.text_decode.specs.declared.line.Said.{Said}
use Rattle.text_decode.specs.store.Store.{store_in, RoomFor}
use Rattle.text_decode.specs.store.Lines.{LineIs, NoForm, Stored}
use Rattle.text_decode.specs.declared.store.Used.{Used}
use Rattle.text_decode.specs.declared.store.Line.{Line}
use Rattle.text_decode.proofs.store.LineLaws.{line_bad, line_good}
use Rattle.image.proofs.Laws.{before, behind, wider, then}

-- where only parts, operands and arguments were written
module _ (p : Places) (l l' : List ℕ) (o : Ordered p (length l)) (w : Outside p.parts p.uses l l') where
  pub rows_kept : row_section p l' ≡ row_section p l
  rows_kept = before p.parts p.uses l l' (omega arith) w p.rows p.blocks o.rows (omega arith)

  pub blocks_kept : block_section p l' ≡ block_section p l
  blocks_kept = before p.parts p.uses l l' (omega arith) w p.blocks p.instrs o.blocks o.instrs

  pub instrs_kept : instr_section p l' ≡ instr_section p l
  instrs_kept = before p.parts p.uses l l' (omega arith) w p.instrs p.parts o.instrs (le_refl p.parts)

  pub fields_outside : Outside p.rows p.uses l l'
  fields_outside = wider p.parts p.uses p.rows p.uses l l' (omega arith) (le_refl p.uses) (omega arith) w

-- where only rows, blocks and instructions were
module _ (p : Places) (l l' : List ℕ) (o : Ordered p (length l)) (w : Outside p.rows p.parts l l') where
  pub parts_kept : part_section p l' ≡ part_section p l
  parts_kept = behind p.rows p.parts l l' w p.parts p.operands (le_refl p.parts)

  pub operands_kept : operand_section p l' ≡ operand_section p l
  operands_kept = behind p.rows p.parts l l' w p.operands p.args o.parts

  pub args_kept : arg_section p l' ≡ arg_section p l
  args_kept = behind p.rows p.parts l l' w p.args p.uses (omega arith)

  pub line_outside : Outside p.rows p.uses l l'
  line_outside = wider p.rows p.parts p.rows p.uses l l' (le_refl p.rows) (omega arith) (omega arith) w

-- ---- a line, read into an image
module _ (line : List ℕ) (u : Used) (p : Places) (l ns : List ℕ) (o : Ordered p (length l)) (code : ℕ) (fs : List (List ℕ)) (is : entry_of (fields_of line) ≡ form_at forms code fs) where
  module _ (l₁ ns₁ : List ℕ) (w : Outside p.parts p.uses l l₁) where
    pub bad_in : FormIs code fs (17 * u.rows) u.operands u.args (part_section p l) (part_section p l₁) (operands_in p l ns) (operands_in p l₁ ns₁) None → NoForm line u (store_in p l ns) (store_in p l₁ ns₁)
    bad_in form =
        rw (rows_kept p l l₁ o w, instrs_kept p l l₁ o w, blocks_kept p l l₁ o w) (line_bad line u (store_in p l ns) code fs is (part_section p l₁) (operand_section p l₁) ns₁ (arg_section p l₁) form)

    module _ (o₁ : Ordered p (length l₁)) (l₂ : List ℕ) (w₂ : Outside p.rows p.parts l₁ l₂) (r : Line) where
      pub good_in : (s : Said) → FormIs code fs (17 * u.rows) u.operands u.args (part_section p l) (part_section p l₁) (operands_in p l ns) (operands_in p l₁ ns₁) (Some s) → 2 * s.args ≤ length line → RoomFor u (store_in p l ns) → code < 36 → Stored code s u (row_section p l₁) (instr_section p l₁) (block_section p l₁) (row_section p l₂) (instr_section p l₂) (block_section p l₂) r → LineIs line u (store_in p l ns) (store_in p l₂ ns₁) r
      good_in s form two room k t =
          let t' : Stored code s u (row_section p l) (instr_section p l) (block_section p l) (row_section p l₂) (instr_section p l₂) (block_section p l₂) r = rw (rows_kept p l l₁ o w, instrs_kept p l l₁ o w, blocks_kept p l l₁ o w) at t in
          rw (parts_kept p l₁ l₂ o₁ w₂, operands_kept p l₁ l₂ o₁ w₂, args_kept p l₁ l₂ o₁ w₂) (line_good line u (store_in p l ns) code fs is (part_section p l₁) (operand_section p l₁) ns₁ (arg_section p l₁) s form two room (row_section p l₂) (instr_section p l₂) (block_section p l₂) r k t')

      pub good_outside : Outside p.rows p.uses l l₂
      good_outside = then (fields_outside p l l₁ o w) (line_outside p l₁ l₂ o₁ w₂)
