-- Laws of literals: of what starts with a digit or a minus sign.
use Rattle.std.proofs.Common.{◌≡◌, ℕ, ◌-◌, ◌≤◌, Bool, true, false, not, ◌&&◌, eqb, leb, List, [], ◌∷◌, sym, refl, ap, ◌∙◌, ap₂, true≢false, arith, ne_eqb, eqb-true, leb-true}
use mathlib.Core.Option.{Option, none, some, none-ne-some}
use Rattle.syntax.specs.Partial.{chain, guarded}
use Rattle.syntax.specs.Syntax.{lit, plain}
use Rattle.text.specs.Bytes.{part, split, is_digit, all_digits, is_decimal, spelled, number, literal}
use Rattle.syntax.specs.Bits.{modulus, half}
use Rattle.text.specs.Grammar.{register, carrier, from_parts, operand}

and_left : (a b : Bool) → (a && b) ≡ true → a ≡ true
and_left true b e = refl
and_left false b e = e

and_right : (a b : Bool) → (a && b) ≡ true → b ≡ true
and_right true b e = e
and_right false b e = absurd (true≢false (sym e))

-- ---- a literal has no `=`, and is no register and no label
digit_low : (b : ℕ) → is_digit b ≡ true → 48 ≤ b
unfolding is_digit
digit_low b e = leb-true 48 b (and_left (leb 48 b) (leb b 57) e)

digit_high : (b : ℕ) → is_digit b ≡ true → b ≤ 57
unfolding is_digit
digit_high b e = leb-true b 57 (and_right (leb 48 b) (leb b 57) e)

pub digits_whole : (s : List ℕ) → all_digits s ≡ true → split 61 s ≡ s ∷ []
unfolding split all_digits
digits_whole [] e = refl
digits_whole (b ∷ s) e =
    let d = digit_high b (and_left (is_digit b) (all_digits s) e) in
    let n : eqb b 61 ≡ false = ne_eqb b 61 (λ q. omega arith) in
    ap₂ (λ (x : Bool) (ps : List (List ℕ)). part x b ps) n (digits_whole s (and_right (is_digit b) (all_digits s) e))

decimal_digits : (s : List ℕ) → is_decimal s ≡ true → all_digits s ≡ true
unfolding is_decimal all_digits
decimal_digits [] e = absurd (true≢false (sym e))
decimal_digits (b ∷ []) e = ap (λ (x : Bool). x && true) e
decimal_digits (b ∷ c ∷ s) e = and_right (not (eqb b 48)) (is_digit b && (is_digit c && all_digits s)) e

pub number_digits : (low high : ℕ) (s : List ℕ) (n : ℕ) → number low high s ≡ some n → all_digits s ≡ true
unfolding number
number_digits low high s n e = decimal_digits s (go (is_decimal s) refl)
  where
    go : (b : Bool) → is_decimal s ≡ b → is_decimal s ≡ true
    go true q = q
    go false q = absurd (none-ne-some n (sym (ap (λ (x : Bool). guarded (x && (leb low (spelled 0 s) && leb (spelled 0 s) high)) (spelled 0 s)) q) ∙ e))

-- a field of one part whose first byte is neither `#` nor r
no_carrier_at : (b : ℕ) (s : List ℕ) → eqb b 35 ≡ false → eqb b 114 ≡ false → carrier (b ∷ s) ≡ none
unfolding carrier register
no_carrier_at b s p q = rw (p, q) refl

-- digits, with a minus sign before them or not
minus_whole : (s : List ℕ) → all_digits s ≡ true → split 61 (45 ∷ s) ≡ (45 ∷ s) ∷ []
unfolding split
minus_whole s e = ap (λ (ps : List (List ℕ)). part false 45 ps) (digits_whole s e)

minus_carrier : (s : List ℕ) → carrier (45 ∷ s) ≡ none
minus_carrier s = no_carrier_at 45 s refl refl

digit_carrier : (b : ℕ) (s : List ℕ) → all_digits (b ∷ s) ≡ true → carrier (b ∷ s) ≡ none
unfolding all_digits
digit_carrier b s e =
    let l = digit_low b (and_left (is_digit b) (all_digits s) e) in
    let h = digit_high b (and_left (is_digit b) (all_digits s) e) in
    no_carrier_at b s (ne_eqb b 35 (λ q. omega arith)) (ne_eqb b 114 (λ q. omega arith))

plain_literal : (f : List ℕ) (n : ℕ) → literal f ≡ some n → split 61 f ≡ f ∷ [] → carrier f ≡ none → operand f ≡ some (plain (lit n))
unfolding operand
plain_literal f n e p q = ap from_parts p ∙ rw (q, e) refl

digits_literal : (b : ℕ) (s : List ℕ) → eqb b 45 ≡ false → literal (b ∷ s) ≡ number 0 (half - 1) (b ∷ s)
unfolding literal
digits_literal b s e = rw e refl

minus_digits : (s : List ℕ) (n : ℕ) → literal (45 ∷ s) ≡ some n → all_digits s ≡ true
unfolding literal
minus_digits s n q = sub (number 1 half s) refl q
  where
    sub : (o : Option ℕ) → number 1 half s ≡ o → chain o (λ m. some (modulus - m)) ≡ some n → all_digits s ≡ true
    sub none g h = absurd (none-ne-some n h)
    sub (some m) g h = number_digits 1 half s m g

no_literal : literal [] ≡ none
unfolding literal
no_literal = refl

pub literal_operand : (f : List ℕ) (n : ℕ) → literal f ≡ some n → operand f ≡ some (plain (lit n))
literal_operand [] n e = absurd (none-ne-some n (sym no_literal ∙ e))
literal_operand (b ∷ s) n e = go (eqb b 45) refl
  where
    go : (x : Bool) → eqb b 45 ≡ x → operand (b ∷ s) ≡ some (plain (lit n))
    go true g =
        let q : b ≡ 45 = eqb-true b 45 g in
        let k : literal (45 ∷ s) ≡ some n = ap (λ (c : ℕ). literal (c ∷ s)) (sym q) ∙ e in
        ap (λ (c : ℕ). operand (c ∷ s)) q ∙ plain_literal (45 ∷ s) n k (minus_whole s (minus_digits s n k)) (minus_carrier s)
    go false g =
        let k : number 0 (half - 1) (b ∷ s) ≡ some n = sym (digits_literal b s g) ∙ e in
        let d = number_digits 0 (half - 1) (b ∷ s) n k in
        plain_literal (b ∷ s) n e (digits_whole (b ∷ s) d) (digit_carrier b s d)
