-- Arrays that are as long as they were have the room that they had.
use Prim.Native.Nat.{ℕ}
use native.Mathlib.Omega.{arith}
use mathlib.Core.Path.{◌≡◌}
use mathlib.Core.List.{List}
use lib.ListN.{length}
use Rattle.valid_pass_three.specs.body.Tables.{Arrays}

pub record AsLong (γ σ ω π γ₀ σ₀ ω₀ π₀ : List ℕ) : Type 0 where
  pub registers : length γ ≡ length γ₀
  pub items : length σ ≡ length σ₀
  pub work : length ω ≡ length ω₀
  pub pending : length π ≡ length π₀

pub still : {γ σ ω π γ₀ σ₀ ω₀ π₀ : List ℕ} → Arrays γ₀ σ₀ ω₀ π₀ → AsLong γ σ ω π γ₀ σ₀ ω₀ π₀ → Arrays γ σ ω π
still a l = record { registers = omega arith; items = omega arith; work = omega arith; pending = omega arith }
