-- Integers of 64 bits: a number below 2^64, read as signed.
use Rattle.std.specs.Prelude.{ℕ, suc, ◌-◌, ◌^◌, cond, ltb, ℤ, pos, negsuc}

-- the integer that has the bits n
unfoldable pub signed64 : ℕ → ℤ
signed64 n = cond (ltb n (2 ^ 63)) (pos n) (negsuc (2 ^ 64 - suc n))
