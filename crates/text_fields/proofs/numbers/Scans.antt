-- Laws of a number read in one walk over a field of a line.
-- Assumes nothing.
use Rattle.std.proofs.Common.{◌≡◌, ℕ, ◌+◌, ◌-◌, ◌<◌, ◌≤◌, Bool, true, false, ◌&&◌, eqb, ltb, List, [], ◌∷◌, length, get_or, sym, refl, ap, ◌∙◌, arith, ltb-false, ltb-true, eqb-true}
use Rattle.std.specs.Prelude.{Some}
use mathlib.Core.Option.{Option, none, some}
use borrow.Author.Tests.{eqb-false}
use Rattle.syntax.specs.Partial.{chain}
use Rattle.text.specs.Bytes.{number}
use Rattle.text.specs.Grammar.{register}
use Rattle.text_lines.specs.Parts.{field_in, InLine}
use Rattle.text_lines.proofs.InLine.{next_place, field_on, field_longer, field_first}
use Rattle.text_fields.specs.numbers.Numbers.{with_digit, up_to, zero_led, ScanRead, ScanIs}
use Rattle.text_fields.specs.declared.numbers.Scan.{Scan}
use Rattle.text_fields.proofs.numbers.Laws.{empty_list, up_none, up_some, up_end, number_none, number_led, number_here, number_low, led_short, led_first, number_bounds, register_none, register_is, register_other}

-- ---- the loop
-- n is what the digits before i spell
pub record Scanning (s : List ℕ) (at high n i : ℕ) : Type 0 where
  pub place : InLine s i
  pub low : n ≤ high
  pub left : up_to high n (field_in s i) ≡ up_to high 0 (field_in s at)
  pub ends : i + length (field_in s i) ≡ at + length (field_in s at)

module _ (s : List ℕ) (at high n i : ℕ) (g : Scanning s at high n i) where
  pub scan_stop : field_in s i ≡ [] → ScanIs s at (up_to high 0 (field_in s at)) (Some (record { value = n; next = i }))
  scan_stop e = record {
    says = sym g.left ∙ ap (up_to high n) e ∙ up_end high n g.low;
    ends = let q = ap length e in omega (arith, g.ends);
  }

  module _ (c : get_or s i 0 ≡ 44 → ⊥) (l : get_or s i 0 ≡ 10 → ⊥) where
    pub scan_bad : none ≡ with_digit high n (get_or s i 0) → up_to high 0 (field_in s at) ≡ none
    scan_bad e = sym g.left ∙ ap (up_to high n) (field_on s i g.place c l) ∙ up_none high n (get_or s i 0) (field_in s (i + 1)) e

    pub scan_on : (m : ℕ) → some m ≡ with_digit high n (get_or s i 0) → Scanning s at high m (i + 1)
    scan_on m e =
        let u = up_some high n (get_or s i 0) (field_in s (i + 1)) m e in
        record {
          place = next_place s i g.place c l;
          low = u.0;
          left = sym u.1 ∙ sym (ap (up_to high n) (field_on s i g.place c l)) ∙ g.left;
          ends = sym (field_longer s i g.place c l) ∙ g.ends;
        }

-- ---- the number
pub led_is : (f : List ℕ) → zero_led f ≡ (ltb 1 (length f) && eqb (get_or f 0 0) 48)
led_is f = go (ltb 1 (length f)) refl
  where
    go : (t : Bool) → ltb 1 (length f) ≡ t → zero_led f ≡ (t && eqb (get_or f 0 0) 48)
    go true e = sym (led_first f (ltb-true 1 (length f) e))
    go false e = sym (led_short f (ltb-false 1 (length f) e))

-- what was read of a field, and what that says of its number
module _ (s : List ℕ) (at low high : ℕ) (p : InLine s at) (x : Scan) (g : ScanRead s at (up_to high 0 (field_in s at)) x) where
  pub at_empty : x.next ≡ at → number low high (field_in s at) ≡ none
  at_empty e = sym (number_none low high (field_in s at) (let q = g.ends in omega arith))

  module _ (e : x.next ≡ at → ⊥) where
    some_bytes : length (field_in s at) ≡ 0 → ⊥
    some_bytes z = let q = g.ends in e (omega arith)

    led_at : (l : Bool) → l ≡ (ltb 1 (x.next - at) && eqb (get_or s at 0) 48) → zero_led (field_in s at) ≡ l
    led_at l h =
        let n : length (field_in s at) ≡ x.next - at = (let q = g.ends in omega arith) in
        led_is (field_in s at)
        ∙ ap (λ (k : ℕ). ltb 1 k && eqb (get_or (field_in s at) 0 0) 48) n
        ∙ ap (λ (b : ℕ). ltb 1 (x.next - at) && eqb b 48) (field_first s at p some_bytes)
        ∙ sym h

    pub at_led : (l : Bool) → l ≡ (ltb 1 (x.next - at) && eqb (get_or s at 0) 48) → l ≡ true → number low high (field_in s at) ≡ none
    at_led l h w = sym (number_led low high (field_in s at) (led_at l h ∙ w))

    module _ (l : Bool) (h : l ≡ (ltb 1 (x.next - at) && eqb (get_or s at 0) 48)) (w : l ≡ false) where
      pub at_low : x.value < low → number low high (field_in s at) ≡ none
      at_low k = number_low low high (field_in s at) x.value g.says some_bytes (led_at l h ∙ w) k

      pub at_number : low ≤ x.value → ScanRead s at (number low high (field_in s at)) x
      at_number k = record { says = number_here low high (field_in s at) x.value g.says some_bytes (led_at l h ∙ w) k; ends = g.ends }

-- ---- registers
module _ (s : List ℕ) (at : ℕ) (p : InLine s at) where
  pub register_lacks : (get_or s at 0 ≡ 114 → ⊥) → register (field_in s at) ≡ none
  register_lacks h = go (eqb (length (field_in s at)) 0) refl
    where
      go : (t : Bool) → eqb (length (field_in s at)) 0 ≡ t → register (field_in s at) ≡ none
      go true e = ap register (empty_list (field_in s at) (eqb-true (length (field_in s at)) 0 e)) ∙ register_none
      go false e =
          let n : length (field_in s at) ≡ 0 → ⊥ = eqb-false (length (field_in s at)) 0 e in
          register_other (field_in s at) (λ q. h (sym (field_first s at p n) ∙ q))

  module _ (e : get_or s at 0 ≡ 114) where
    pub behind_r : InLine s (at + 1)
    behind_r = next_place s at p (λ q. omega arith) (λ q. omega arith)

    r_field : field_in s at ≡ 114 ∷ field_in s (at + 1)
    r_field = field_on s at p (λ q. omega arith) (λ q. omega arith) ∙ ap (λ (b : ℕ). b ∷ field_in s (at + 1)) e

    r_number : register (field_in s at) ≡ chain (number 1 8 (field_in s (at + 1))) (λ v. some (v - 1))
    r_number = ap register r_field ∙ register_is (field_in s (at + 1))

    pub r_bad : number 1 8 (field_in s (at + 1)) ≡ none → register (field_in s at) ≡ none
    r_bad t = r_number ∙ ap (λ (o : Option ℕ). chain o (λ v. some (v - 1))) t

    module _ (x : Scan) (g : ScanRead s (at + 1) (number 1 8 (field_in s (at + 1))) x) where
      pub r_low : 1 ≤ x.value
      r_low = (number_bounds 1 8 (field_in s (at + 1)) x.value g.says).0

      pub r_is : ScanRead s at (register (field_in s at)) (record { value = x.value - 1; next = x.next })
      r_is = record { says = r_number ∙ ap (λ (o : Option ℕ). chain o (λ v. some (v - 1))) g.says; ends = let w = ap length r_field in omega (arith, g.ends) }
