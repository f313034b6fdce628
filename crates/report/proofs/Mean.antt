-- The mean of the report: its quotient and remainder are those of the division that rounds down.
use Prim.Native.Nat.{ℕ, zero, suc, ◌+◌, ◌*◌, ◌-◌, ◌/◌, ◌%◌, ◌<◌}
use native.Mathlib.Omega.{arith}
use native.Mathlib.Nat.{mod-lt, div-add-mod, mul-suc}
use mathlib.Core.Path.{◌≡◌, ap, sym}
use lib.IntN.{ℤ, pos, negsuc, neg_ℤ, ◌+ℤ◌, ◌*ℤ◌}
use borrow.Author.Tests.{lt-ltb}
use Rattle.report.specs.Day.{quotient_by, remainder_by}

-- a negative number and what is added to it, where the sum is negative
negative_sum : (k a n : ℕ) → k ≡ suc n + a → neg_ℤ (pos k) +ℤ pos a ≡ negsuc n
negative_sum zero a n e = absurd (omega arith)
negative_sum (suc m) a n e =
    let h : a < suc m = omega arith in
    let d : suc m - suc a ≡ n = omega arith in
    rw (lt-ltb a (suc m) h) (ap negsuc d)

-- the number is the divisor times its quotient, and the remainder
pub divides : (c : ℕ) (t : ℤ) → 0 < c → t ≡ pos c *ℤ quotient_by c t +ℤ pos (remainder_by c t)
unfolding quotient_by remainder_by
divides c (pos n) h = ap pos (sym (div-add-mod n c))
divides c (negsuc n) h =
    let e : c * suc (n / c) ≡ suc n + (c - suc (n % c)) = omega (arith, mul-suc c (n / c), div-add-mod n c, mod-lt n h) in
    sym (negative_sum (c * suc (n / c)) (c - suc (n % c)) n e)

-- "The remainder is 0 to count - 1."
pub remainder_small : (c : ℕ) (t : ℤ) → 0 < c → remainder_by c t < c
unfolding remainder_by
remainder_small c (pos n) h = mod-lt n h
remainder_small c (negsuc n) h = omega arith
