-- Laws of plain operands, read by their first byte and the number behind it.
-- Assumes nothing.
use Rattle.std.proofs.Common.{◌≡◌, ℕ, ◌+◌, ◌-◌, false, List, [], ◌∷◌, length, get_or, sym, refl, ap, ◌∙◌, arith}
use mathlib.Core.Option.{Option, none, some, none-ne-some, some-injective}
use Rattle.syntax.specs.Bits.{modulus, half}
use Rattle.syntax.specs.Partial.{chain}
use Rattle.syntax.specs.Syntax.{reg, lit, lab, plain}
use Rattle.text.specs.Bytes.{part, split, number, literal}
use Rattle.text.specs.Grammar.{label_number, register, carrier, from_parts, operand}
use Rattle.text_lines.specs.Parts.{field_in, InLine}
use Rattle.text_lines.proofs.InLine.{next_place, field_on, field_first}
use Rattle.text_fields.specs.numbers.Numbers.{ScanRead}
use Rattle.text_fields.specs.declared.numbers.Scan.{Scan}
use Rattle.text_fields.specs.declared.plain_operands.Base.TheVariants.{Register, Literal, Label}
use Rattle.text_fields.proofs.numbers.Laws.{register_is, literal_plus}
use Rattle.text_fields.specs.plain_operands.Answers.{plain_placed, PlainIs}
use Rattle.text_fields.proofs.plain_operands.Digits.{digits_whole, number_digits, literal_operand}

-- ---- a field of such a byte and a number
register_operand : (t : List ℕ) (v : ℕ) → number 1 8 t ≡ some v → operand (114 ∷ t) ≡ some (plain (reg (v - 1)))
unfolding operand split carrier register
register_operand t v e =
    ap (λ (ps : List (List ℕ)). from_parts (part false 114 ps)) (digits_whole t (number_digits 1 8 t v e)) ∙ simp e

label_operand : (t : List ℕ) (v : ℕ) → number 0 63 t ≡ some v → operand (35 ∷ t) ≡ some (plain (lab v))
unfolding operand split carrier label_number
label_operand t v e =
    ap (λ (ps : List (List ℕ)). from_parts (part false 35 ps)) (digits_whole t (number_digits 0 63 t v e)) ∙ simp e

minus_literal : (t : List ℕ) (v : ℕ) → number 1 half t ≡ some v → literal (45 ∷ t) ≡ some (modulus - v)
unfolding literal
minus_literal t v e = simp e

register_plain : (t : List ℕ) (r : ℕ) → register (114 ∷ t) ≡ some r → operand (114 ∷ t) ≡ some (plain (reg r))
register_plain t r e = go (number 1 8 t) refl (sym (register_is t) ∙ e)
  where
    go : (o : Option ℕ) → number 1 8 t ≡ o → chain o (λ v. some (v - 1)) ≡ some r → operand (114 ∷ t) ≡ some (plain (reg r))
    go none q h = absurd (none-ne-some r h)
    go (some v) q h = register_operand t v q ∙ ap (λ (n : ℕ). some (plain (reg n))) (some-injective (v - 1) r h)

-- ---- read from a place of a line on
module _ (s : List ℕ) (at : ℕ) (p : InLine s at) where
  -- behind a first byte
  module _ (c : ℕ) (e : get_or s at 0 ≡ c) (x : c ≡ 44 → ⊥) (y : c ≡ 10 → ⊥) where
    pub ahead : InLine s (at + 1)
    ahead = next_place s at p (λ q. x (sym e ∙ q)) (λ q. y (sym e ∙ q))

    behind : field_in s at ≡ c ∷ field_in s (at + 1)
    behind = field_on s at p (λ q. x (sym e ∙ q)) (λ q. y (sym e ∙ q)) ∙ ap (λ (z : ℕ). z ∷ field_in s (at + 1)) e

  pub register_placed : get_or s at 0 ≡ 114 → (x : Scan) → ScanRead s at (register (field_in s at)) x → PlainIs s at (plain_placed (Register x.value) x.next)
  register_placed e x g =
      let f = behind 114 e (λ q. omega arith) (λ q. omega arith) in
      record {
        base = reg x.value;
        operand_is = ap operand f ∙ register_plain (field_in s (at + 1)) x.value (sym (ap register f) ∙ g.says);
        read = refl;
        ends = g.ends;
      }

  pub label_placed : get_or s at 0 ≡ 35 → (x : Scan) → ScanRead s (at + 1) (number 0 63 (field_in s (at + 1))) x → PlainIs s at (plain_placed (Label x.value) x.next)
  label_placed e x g =
      let f = behind 35 e (λ q. omega arith) (λ q. omega arith) in
      record {
        base = lab x.value;
        operand_is = ap operand f ∙ label_operand (field_in s (at + 1)) x.value g.says;
        read = refl;
        ends = omega (arith, g.ends, ap length f);
      }

  pub minus_placed : get_or s at 0 ≡ 45 → (x : Scan) → ScanRead s (at + 1) (number 1 half (field_in s (at + 1))) x → (n : ℕ) → n ≡ modulus - x.value → PlainIs s at (plain_placed (Literal n) x.next)
  minus_placed e x g n w =
      let f = behind 45 e (λ q. omega arith) (λ q. omega arith) in
      let t = field_in s (at + 1) in
      record {
        base = lit n;
        operand_is = ap operand f ∙ literal_operand (45 ∷ t) n (minus_literal t x.value g.says ∙ ap {B = Option ℕ} some (sym w));
        read = refl;
        ends = omega (arith, g.ends, ap length f);
      }

  pub digit_placed : (get_or s at 0 ≡ 45 → ⊥) → (x : Scan) → ScanRead s at (number 0 (half - 1) (field_in s at)) x → PlainIs s at (plain_placed (Literal x.value) x.next)
  digit_placed m x g = record {
    base = lit x.value;
    operand_is = literal_operand (field_in s at) x.value (sym (literal_plus (field_in s at) no_minus) ∙ g.says);
    read = refl;
    ends = g.ends;
  }
    where
      no_minus : get_or (field_in s at) 0 0 ≡ 45 → ⊥
      no_minus q = go (field_in s at) refl q
        where
          go : (f : List ℕ) → field_in s at ≡ f → get_or f 0 0 ≡ 45 → ⊥
          go [] w h = omega arith
          go (b ∷ f) w h =
              let l : length (field_in s at) ≡ 0 → ⊥ = (λ z. let k = ap length w in omega arith) in
              m (sym (field_first s at p l) ∙ ap (λ (t : List ℕ). get_or t 0 0) w ∙ h)
