-- A branch is taken exactly if its test holds of the integer that the tested bits stand for. First how that integer compares with 0, which
-- is what code computes.
use Prim.Native.Nat.{ℕ, zero, suc, ◌-◌}
use mathlib.Core.Path.{◌≡◌, refl, sym, ◌∙◌}
use mathlib.Core.Logic.{◌↔◌}
use mathlib.Core.Bool.{Bool, true, false, not, cond}
use native.Mathlib.Omega.{arith}
use lib.Dec.{T, ltb, eqb-suc-zero, leb-zero, leb-suc-zero}
use lib.IntN.{ℤ, pos, negsuc}
use lib.Signed.{lt_z, le_z, lt_z_yes, le_z_yes}
use borrow.Author.Tests.{lt-ltb, le-ltb}
use Rattle.syntax.specs.Bits.{modulus, half, signed}
use Rattle.syntax.specs.Syntax.{Branch, beq, bneq, bgt, blt, bgte, blte}
use Rattle.exec.specs.Machine.{Sign, negative, null, positive, sign_of, taken}
use Rattle.exec.specs.Tests.{Holds}

-- ---- the sign of an integer
pub data OfSign : Sign → ℤ → Type 0 where
  minus : (k : ℕ) → OfSign negative (negsuc k)
  nought : OfSign null (pos 0)
  plus : (k : ℕ) → OfSign positive (pos (suc k))

pub sign_is : (n : ℕ) → OfSign (sign_of n) (signed n)
unfolding sign_of signed
sign_is zero = nought
sign_is (suc k) = rw (eqb-suc-zero k) (by (ltb (suc k) half))
  where
    by : (b : Bool) → OfSign (cond b positive negative) (cond b (pos (suc k)) (negsuc (modulus - suc (suc k))))
    by true = plus k
    by false = minus (modulus - suc (suc k))

-- the number is zero
abbrev is_zero : Sign → Bool
is_zero null = true
is_zero negative = false
is_zero positive = false

-- it is above zero
abbrev is_above : Sign → Bool
is_above positive = true
is_above negative = false
is_above null = false

-- it is below zero
abbrev is_below : Sign → Bool
is_below negative = true
is_below null = false
is_below positive = false

-- ---- comparisons with 0
pub lt_zero : {s : Sign} {z : ℤ} → OfSign s z → lt_z z (pos 0) ≡ is_below s
lt_zero (minus k) = refl
lt_zero nought = refl
lt_zero (plus k) = le-ltb (suc k) 0 (omega arith)

pub gt_zero : {s : Sign} {z : ℤ} → OfSign s z → lt_z (pos 0) z ≡ is_above s
gt_zero (minus k) = refl
gt_zero nought = refl
gt_zero (plus k) = lt-ltb 0 (suc k) (omega arith)

pub ge_zero : {s : Sign} {z : ℤ} → OfSign s z → le_z (pos 0) z ≡ not (is_below s)
ge_zero (minus k) = refl
ge_zero nought = refl
ge_zero (plus k) = leb-zero (suc k)

pub le_zero : {s : Sign} {z : ℤ} → OfSign s z → le_z z (pos 0) ≡ not (is_above s)
le_zero (minus k) = refl
le_zero nought = refl
le_zero (plus k) = leb-suc-zero k

eq_zero : {s : Sign} {z : ℤ} → OfSign s z → (is_zero s ≡ true) ↔ (z ≡ pos 0)
eq_zero (minus k) = (λ t. let y : ◌≡◌ {A = ℕ} 0 1 = cc in absurd (omega arith), λ e. let y : ◌≡◌ {A = ℕ} 0 1 = cc in absurd (omega arith))
eq_zero nought = (λ t. refl, λ e. refl)
eq_zero (plus k) = (λ t. let y : ◌≡◌ {A = ℕ} 0 1 = cc in absurd (omega arith), λ e. let y : ◌≡◌ {A = ℕ} 0 1 = cc in absurd (omega arith))

-- ---- the tests
computed : {a b : Bool} → a ≡ b → b ≡ true → T a
computed e t = rw (e ∙ t) tt

back : (a : Bool) {b : Bool} → a ≡ b → T a → b ≡ true
back true e t = sym e
back false e t = absurd t

unlike : (b : Bool) {A : Type 0} → (b ≡ true) ↔ A → (not b ≡ true) ↔ (¬ A)
unlike true h = (λ t. let y : ◌≡◌ {A = ℕ} 0 1 = cc in absurd (omega arith), λ n. absurd (n (h.0 refl)))
unlike false h = (λ t a. let e = h.1 a in let y : ◌≡◌ {A = ℕ} 0 1 = cc in absurd (omega arith), λ n. refl)

-- the table's row, as a formula
abbrev formula : Branch → Sign → Bool
formula beq s = is_zero s
formula bneq s = not (is_zero s)
formula bgt s = is_above s
formula blt s = is_below s
formula bgte s = not (is_below s)
formula blte s = not (is_above s)

row_is : (o : Branch) (s : Sign) → taken o s ≡ formula o s
unfolding taken
row_is beq negative = refl
row_is beq null = refl
row_is beq positive = refl
row_is bneq negative = refl
row_is bneq null = refl
row_is bneq positive = refl
row_is bgt negative = refl
row_is bgt null = refl
row_is bgt positive = refl
row_is blt negative = refl
row_is blt null = refl
row_is blt positive = refl
row_is bgte negative = refl
row_is bgte null = refl
row_is bgte positive = refl
row_is blte negative = refl
row_is blte null = refl
row_is blte positive = refl

tests : (o : Branch) {s : Sign} {z : ℤ} → OfSign s z → (formula o s ≡ true) ↔ Holds o z
tests beq h = eq_zero h
tests bneq h = unlike _ (eq_zero h)
tests bgt h = (λ t. lt_z_yes (computed (gt_zero h) t), λ p. back _ (gt_zero h) p.lt)
tests blt h = (λ t. lt_z_yes (computed (lt_zero h) t), λ p. back _ (lt_zero h) p.lt)
tests bgte h = (λ t. le_z_yes (computed (ge_zero h) t), λ p. back _ (ge_zero h) p.le)
tests blte h = (λ t. le_z_yes (computed (le_zero h) t), λ p. back _ (le_zero h) p.le)

-- a branch is taken on bits n exactly if its test holds of the integer that they stand for
pub taken_exactly : (o : Branch) (n : ℕ) → (taken o (sign_of n) ≡ true) ↔ Holds o (signed n)
taken_exactly o n = rw (row_is o (sign_of n)) (tests o (sign_is n))
