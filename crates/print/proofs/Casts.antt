-- Bits read as signed, as a cast reads them.
use mathlib.Core.Path.{◌≡◌, refl}
use mathlib.Core.Bool.{Bool, true, false, cond}
use Prim.Native.Nat.{ℕ, suc, ◌-◌, ◌^◌}
use lib.Dec.{ltb}
use lib.IntN.{pos, negsuc}
use mir.Syntax.{w32}
use mir.Val.{to_z, sel}
use Rattle.syntax.specs.Bits.{signed}

pub signed_is : (n : ℕ) → to_z w32 n ≡ signed n
unfolding signed
signed_is n = go (ltb n (2 ^ 31))
  where
    go : (t : Bool) → sel t (pos n) (negsuc (2 ^ 32 - suc n)) ≡ cond t (pos n) (negsuc (2 ^ 32 - suc n))
    go true = refl
    go false = refl
