-- Laws of tables of names in the place of environments.
use mathlib.Core.Path.{◌≡◌, refl, ap, ◌∙◌}
use mathlib.Core.Bool.{Bool, true, false}
use mathlib.Core.List.{List}
use Rattle.std.specs.Prelude.{Option, IfSome}
use Rattle.std.specs.Bool.{then_some}
use Prim.Native.Nat.{ℕ, ◌+◌, ◌-◌, ◌*◌, ◌/◌, ◌%◌, ◌≤◌}
use native.Mathlib.Omega.{arith}
use lib.ListN.{length}
use Rattle.types_rows.specs.Environments.{var_in, name_at}
use Rattle.types_rows.proofs.Environments.{var_even, name_even, name_listed, names_kept}
use Rattle.types_equal.specs.names.Names.{Stands}

-- an even environment: what stands for variable 0 says it all
pub stands_even : (E N : List ℕ) (e n v : ℕ) → e % 2 ≡ 0 → v ≡ var_in E e 0 → v ≤ length N → Stands E e N n (2 * (length N - v))
stands_even E N e n v z q h M k _ j =
    let c : ℕ = 2 * (length N - v) in
    let d : c % 2 ≡ 0 = omega arith in
    let a = var_even M c j d in
    let b = var_even E e j z in
    let i = var_even E e 0 z in
    let w : c / 2 ≡ length N - v = omega arith in
    name_even M c j d ∙ omega (arith, a, b, i, q, k, w)

-- an odd one, whose table starts at f
pub stands_odd : (E N : List ℕ) (e f : ℕ) → ((j : ℕ) → name_at N f j ≡ var_in E e j) → Stands E e N (f + 65) (65537 + 2 * f)
stands_odd E N e f h M _ k j =
    let q : (65537 + 2 * f) / 2 - 32768 ≡ f = omega arith in
    name_listed M (65537 + 2 * f) j (λ z. omega arith) (omega arith) ∙ ap (λ z. name_at M z j) q ∙ names_kept N M f j k ∙ h j

-- a table, if it is written
pub if_written : (P : ℕ → Type 0) (b : Bool) {o : Option ℕ} {x : ℕ} → o ≡ then_some b x → (b ≡ true → P x) → IfSome o P
if_written P b {o} {x} e h = rw e (go b h)
  where
    go : (b : Bool) → (b ≡ true → P x) → IfSome (then_some b x) P
    go true h = h refl
    go false h = tt
