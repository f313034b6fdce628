-- The loop that reads a line's fields as operands, where operands and arguments are sections of an image.
-- Assumes nothing.
use mathlib.Core.Path.{◌≡◌, ap, sym, subst, ◌∙◌}
use Rattle.std.specs.Prelude.{Some, None}
use mathlib.Core.List.{List}
use Prim.Native.Nat.{ℕ, ◌+◌, ◌-◌, ◌*◌, ◌<◌, ◌≤◌}
use lib.ListN.{length, take, drop, set}
use borrow.Rule.Slice.PartMut.{put_mid}
use Rattle.text.specs.Grammar.{operand}
use Rattle.image.specs.declared.Places.{Places}
use Rattle.image.specs.Sections.{Ordered, Outside, operand_section, arg_section}
use Rattle.image.proofs.Laws.{then}
use Rattle.text_lines.specs.Parts.{first_part}
use Rattle.text_fields.specs.plain_operands.Answers.{OperandIs}
use Rattle.text_fields.specs.declared.plain_operands.OperandRead.{OperandRead}
use Rattle.text_decode.specs.line.Fields.{fields_from}
use Rattle.text_decode.specs.line.Answers.{operands_in, base_number, with_operand, OperandRoom, OperandsRead}
use Rattle.text_decode.proofs.line.ImageLaws.{args_back, KindsBack, kinds_back}
use Rattle.text_decode.proofs.line.OperandLaws.{OperandsGo, operands_bad, operands_on}

-- places in an image are places in one of the same length
pub ordered_as : (p : Places) (l l' : List ℕ) → length l' ≡ length l → Ordered p (length l) → Ordered p (length l')
ordered_as p l l' e o = subst (Ordered p) (sym e) o

-- the operands are as long as they were
pub kinds_same : (p : Places) (l : List ℕ) → Ordered p (length l) → (y : List ℕ) → length y ≡ length (arg_section p l) → length (operand_section p (put_mid p.args (p.uses - p.args) l y)) ≡ length (operand_section p l)
kinds_same p l o y e = ap length (args_back p l o y e).kinds

module _ (rest : List ℕ) (at most v a : ℕ) (p : Places) (l₀ ns₀ l ns : List ℕ) (o : Ordered p (length l)) (i n m : ℕ) (g : OperandsGo rest at most v a (operands_in p l₀ ns₀) (operands_in p l ns) i n m) where
  module _ (h : i ≤ length rest) (e : ℕ) (is : e ≡ i + length (first_part 44 (drop i rest))) (y : List ℕ) (ey : length y ≡ length (arg_section p l)) where
    -- the image with the arguments that came back
    abbrev l₁ : List ℕ
    l₁ = put_mid p.args (p.uses - p.args) l y

    pub bad_in : OperandIs (operand (take (e - i) (drop i rest))) (arg_section p l) (a + m) None y → OperandsRead (fields_from rest at) most v a (operands_in p l₀ ns₀) (operands_in p l₁ ns) None
    bad_in is' =
        let b = args_back p l o y ey in
        rw (b.kinds, b.args) (operands_bad rest at most v a (operands_in p l₀ ns₀) (operands_in p l ns) i n m g h e is y is')

    pub bad_outside : Outside p.operands p.uses l₀ l → Outside p.operands p.uses l₀ l₁
    bad_outside w = then w (args_back p l o y ey).outside

    -- and with the operand that came back
    module _ (r : OperandRead) (is' : OperandIs (operand (take (e - i) (drop i rest))) (arg_section p l) (a + m) (Some r) y) (z : List ℕ) (ez : length z ≡ length (operand_section p l₁)) where
      abbrev l₂ : List ℕ
      l₂ = put_mid p.operands (p.args - p.operands) l₁ z

      back₂ : KindsBack p l₁ (ordered_as p l l₁ (args_back p l o y ey).size o) z l₂
      back₂ = kinds_back p l₁ (ordered_as p l l₁ (args_back p l o y ey).size o) z ez

      pub on_in : n < most → OperandRoom (v + most) (a + 8 * most) (length (operand_section p l₀)) (length ns₀) (length (arg_section p l₀))
          → z ≡ with_operand (operand_section p l₁) (v + n) r (a + m) → (ns' : List ℕ) → ns' ≡ set ns (v + n) (base_number r.base)
          → OperandsGo rest at most v a (operands_in p l₀ ns₀) (operands_in p l₂ ns') (e + 1) (n + 1) (m + r.count)
      on_in d room z' ns' c =
          let b = args_back p l o y ey in
          rw (back₂.kinds, back₂.args, b.args) (operands_on rest at most v a (operands_in p l₀ ns₀) (operands_in p l ns) i n m g h e is d room r z ns' y is' (z' ∙ ap (λ (x : List ℕ). with_operand x (v + n) r (a + m)) b.kinds) c)

      pub on_outside : Outside p.operands p.uses l₀ l → Outside p.operands p.uses l₀ l₂
      on_outside w = then (bad_outside w) back₂.outside
