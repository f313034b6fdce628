-- A context read with one more hidden variable: every type that is held counts one further outward.
use Prim.Native.Nat.{ℕ, zero, suc, ◌+◌, ◌-◌, ◌≤◌}
use native.Mathlib.Omega.{arith}
use mathlib.Core.Path.{◌≡◌, refl, ap, ap₂, ◌∙◌}
use mathlib.Core.Bool.{Bool, true, false, cond}
use mathlib.Core.List.{List}
use lib.Dec.{ltb}
use borrow.Author.Tests.{le-ltb}
use Rattle.syntax.specs.Syntax.{stack}
use Rattle.types.specs.Types.{Ty, push, svar, gap, join, walk, variable, below, raising, raise}
use Rattle.tables.specs.Tables.{cell}
use Rattle.valid.specs.Rules.{raised}
use Rattle.valid_context.specs.Context.{Reading, first_var, on_link, regs_from, on_item, sp_of, context_of, EnvsIn}

-- U reads each row and each variable of an environment up to b one further outward than T does
pub record OneMore (b : ℕ) (T U : Reading) : Type 0 where
  pub types : (e t : ℕ) → e ≤ b → U.type e t ≡ raise 1 (T.type e t)
  pub variables : (e k : ℕ) → e ≤ b → U.variable e k ≡ suc (T.variable e k)

module _ {b : ℕ} {T U : Reading} (m : OneMore b T U) where
  link_raised : (e x : ℕ) (a c : Ty stack) → e ≤ b → c ≡ raise 1 a → on_link U e x c ≡ raise 1 (on_link T e x a)
  unfolding raise walk
  link_raised e zero a c h q = ap gap q
  link_raised e (suc t) a c h q = ap₂ push (m.types e t h) q

  regs_raised : (regs : List ℕ) (i n k : ℕ) → i + n ≤ k → EnvsIn b regs k → regs_from U regs i n ≡ raise 1 (regs_from T regs i n)
  unfolding regs_from
  regs_raised regs i zero k h g = unfold raise walk in refl
  regs_raised regs i (suc n) k h g =
      link_raised (cell 2 regs i 1) (cell 2 regs i 0) (regs_from T regs (suc i) n) (regs_from U regs (suc i) n) (g.low i (omega arith))
      (regs_raised regs (suc i) n k (omega arith) g)

  item_raised : (e x : ℕ) (a c : Ty stack) → e ≤ b → c ≡ raise 1 a → on_item U e x c ≡ raise 1 (on_item T e x a)
  unfolding raise walk raising variable below join
  item_raised e x a c h q = go (ltb x first_var)
    where
      go : (v : Bool) → cond v (push (U.type e x) c) (svar (U.variable e (x - first_var)) c) ≡ raise 1 (cond v (push (T.type e x) a) (svar (T.variable e (x - first_var)) a))
      go true = ap₂ push (m.types e x h) q
      go false =
          let k : ℕ = T.variable e (x - first_var) in
          let z : suc k ≡ (k - 0) + (1 + 0) = omega arith in
          rw (le-ltb k 0 (omega arith)) (ap₂ svar (m.variables e (x - first_var) h ∙ z) q)

  sp_raised : (sp : List ℕ) (d : ℕ) → EnvsIn b sp d → sp_of U sp d ≡ raise 1 (sp_of T sp d)
  unfolding sp_of
  sp_raised sp zero g = unfold raise walk in refl
  sp_raised sp (suc d) g =
      item_raised (cell 2 sp d 1) (cell 2 sp d 0) (sp_of T sp d) (sp_of U sp d) (g.low d (omega arith)) (sp_raised sp d (record { low = λ i h. g.low i (omega arith) }))

  -- what is known, with one more hidden variable in force
  pub context_raised : (regs sp : List ℕ) (d : ℕ) → EnvsIn b regs 8 → EnvsIn b sp d → context_of U regs sp d ≡ raised (context_of T regs sp d)
  context_raised regs sp d g h = ap₂ (λ (s r : Ty stack). record { sp = s; regs = r }) (sp_raised sp d h) (regs_raised regs 0 8 8 (omega arith) g)
