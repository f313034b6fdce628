-- A number within bounds, and one of 32 signed bits, is read from what is printed of it, and from nothing else.
use Prim.Native.Nat.{ℕ, suc, ◌-◌, ◌<◌, ◌≤◌}
use Prim.Native.Char.{code}
use native.Mathlib.Omega.{arith}
use mathlib.Core.Path.{◌≡◌, refl, ap, ap₂, ◌∙◌}
use mathlib.Core.Bool.{Bool, true, false, ◌&&◌, not, cond}
use mathlib.Core.Option.{some}
use mathlib.Core.List.{List, [], ◌∷◌}
use lib.Dec.{eqb, leb, ltb}
use lib.ListN.{length}
use lib.IntN.{pos, negsuc}
use borrow.Author.Tests.{eqb-true, ne_eqb, le-leb, leb-true, lt-ltb, le-ltb, ltb-true, ltb-false}
use Rattle.syntax.specs.Bits.{modulus, half, signed}
use Rattle.syntax.specs.Partial.{chain}
use Rattle.text.specs.Bytes.{is_digit, all_digits, is_decimal, spelled, number, literal}
use Rattle.types.proofs.Equal.{and_inv, none_true}
use Rattle.valid.proofs.Reading.{none_some, some_inj}
use Rattle.calls.proofs.All.{chain_inv, guarded_inv}
use Rattle.print.specs.Decimal.{decimal, signed_decimal}
use Rattle.print.proofs.Decimal.{decimal_is, decimal_spells, decimal_only, decimal_long}

-- ---- numbers
-- a number within its bounds is read from its digits
pub number_back : (low high n : ℕ) → low ≤ n → n ≤ high → number low high (decimal n) ≡ some n
unfolding number
number_back low high n l h = rw (decimal_is n, decimal_spells n, le-leb low n l, le-leb n high h)

-- and from nothing else
pub number_only : (low high : ℕ) (s : List ℕ) (n : ℕ) → number low high s ≡ some n → (s ≡ decimal n) × (low ≤ n) × (n ≤ high)
unfolding number
number_only low high s n e =
    let v = spelled 0 s in
    let g = guarded_inv (is_decimal s && (leb low v && leb v high)) v n e in
    let j = and_inv (is_decimal s) (leb low v && leb v high) g.0 in
    let k = and_inv (leb low v) (leb v high) j.1 in
    rw (← g.1) (decimal_only s j.0, leb-true low v k.0, leb-true v high k.1)

-- ---- signed
signed_low : (n : ℕ) → n < half → signed n ≡ pos n
unfolding signed
signed_low n h = rw (lt-ltb n half h)

signed_high : (n : ℕ) → half ≤ n → signed n ≡ negsuc (modulus - suc n)
unfolding signed
signed_high n h = rw (le-ltb n half h)

-- digits do not begin with `-`
first_digit : (b : ℕ) (s : List ℕ) → is_decimal (b ∷ s) ≡ true → is_digit b ≡ true
unfolding is_decimal all_digits
first_digit b [] h = h
first_digit b (c ∷ s) h =
    let j = and_inv (not (eqb b (code "0"))) (is_digit b && all_digits (c ∷ s)) h in
    (and_inv (is_digit b) (all_digits (c ∷ s)) j.1).0

no_minus : (b : ℕ) → is_digit b ≡ true → eqb b (code "-") ≡ false
unfolding is_digit
no_minus b h =
    let l = leb-true (code "0") b (and_inv (leb (code "0") b) (leb b (code "9")) h).0 in
    let q : b ≡ code "-" → ⊥ = λ e. omega arith in
    ne_eqb b (code "-") q

plain : (s : List ℕ) → is_decimal s ≡ true → literal s ≡ number 0 (half - 1) s
unfolding is_decimal literal
plain [] h = none_true h
plain (b ∷ s) h = rw (no_minus b (first_digit b s h))

-- bits are read from the digits of what they are as signed
pub literal_back : (n : ℕ) → n < modulus → literal (signed_decimal (signed n)) ≡ some n
unfolding signed_decimal literal
literal_back n h = go (ltb n half) refl
  where
    go : (t : Bool) → ltb n half ≡ t → literal (signed_decimal (signed n)) ≡ some n
    go true e =
        let l = ltb-true n half e in
        rw (signed_low n l) (plain (decimal n) (decimal_is n) ∙ number_back 0 (half - 1) n (omega arith) (omega arith))
    go false e =
        let l = ltb-false n half e in
        let q : modulus - suc (modulus - suc n) ≡ n = omega arith in
        rw (signed_high n l, number_back 1 half (suc (modulus - suc n)) (omega arith) (omega arith)) (ap some q)

-- and from nothing else
pub literal_only : (s : List ℕ) (n : ℕ) → literal s ≡ some n → (s ≡ signed_decimal (signed n)) × (n < modulus)
unfolding signed_decimal literal
literal_only [] n e = none_some e
literal_only (b ∷ s) n e = go (eqb b (code "-")) refl e
  where
    go : (t : Bool) → eqb b (code "-") ≡ t
        → cond t (chain (number 1 half s) (λ n. some (modulus - n))) (number 0 (half - 1) (b ∷ s)) ≡ some n
        → (b ∷ s ≡ signed_decimal (signed n)) × (n < modulus)
    go true z e =
        let j = chain_inv (number 1 half s) (λ n. some (modulus - n)) n e in
        let k = number_only 1 half s j.0 j.1 in
        let q : modulus - j.0 ≡ n = some_inj j.2 in
        let l : half ≤ n = omega arith in
        let r : j.0 ≡ suc (modulus - suc n) = omega arith in
        (rw (signed_high n l) (ap₂ ◌∷◌ (eqb-true b (code "-") z) (k.0 ∙ ap decimal r)), omega arith)
    go false z e =
        let k = number_only 0 (half - 1) (b ∷ s) n e in
        let l : n < half = omega arith in
        (rw (signed_low n l) k.0, omega arith)

-- they have at most ten digits, and perhaps `-`
pub literal_long : (n : ℕ) → n < modulus → length (signed_decimal (signed n)) ≤ 11
unfolding signed_decimal
literal_long n h = go (ltb n half) refl
  where
    go : (t : Bool) → ltb n half ≡ t → length (signed_decimal (signed n)) ≤ 11
    go true e =
        let l = ltb-true n half e in
        let k = decimal_long 9 n (omega arith) in
        rw (signed_low n l) (omega arith)
    go false e =
        let l = ltb-false n half e in
        let k = decimal_long 9 (suc (modulus - suc n)) (omega arith) in
        rw (signed_high n l) (omega arith)
