-- What the arrays of the checker stand for: the types of the registers and of sp. Each entry is two numbers, the second of them the
-- environment that the first was read in.
use Rattle.std.specs.Prelude.{ℕ, zero, suc, ◌+◌, ◌-◌, ◌*◌, ◌<◌, ◌≤◌, Bool, true, false, ◌&&◌, cond, List, ltb, length, set}
use Rattle.std.proofs.Math.Option.{Option, none, some}
use Rattle.syntax.specs.Syntax.{value, stack}
use Rattle.types.specs.Types.{Ty, nil, push, svar, gap}
use Rattle.tables.specs.Tables.{cell}
use Rattle.valid.specs.Rules.{Context}

-- what held numbers stand for now, by environment: the type of a row, and which variable a variable is
pub record Reading : Type 0 where
  pub type : ℕ → ℕ → Ty value
  pub variable : ℕ → ℕ → ℕ

-- ---- registers
-- a link in environment e: 0 for none, else one more than the row of the type
unfoldable pub linked : Reading → ℕ → ℕ → Option (Ty value)
linked T e zero = none
linked T e (suc t) = some (T.type e t)

-- registers with a link's type before them
abbrev pub on_link : Reading → ℕ → ℕ → Ty stack → Ty stack
on_link T e zero a = gap a
on_link T e (suc t) a = push (T.type e t) a

-- the n registers from register i on
unfoldable pub regs_from : Reading → List ℕ → ℕ → ℕ → Ty stack
regs_from T regs i zero = nil
regs_from T regs i (suc n) = on_link T (cell 2 regs i 1) (cell 2 regs i 0) (regs_from T regs (suc i) n)

-- the eight registers
abbrev pub regs_of : Reading → List ℕ → Ty stack
regs_of T regs = regs_from T regs 0 8

-- ---- sp
-- an entry from this number on is a stack variable, one below it the row of a value type
abbrev pub first_var : ℕ
first_var = 1024

-- a stack with the item of entry x in environment e on top
abbrev pub on_item : Reading → ℕ → ℕ → Ty stack → Ty stack
on_item T e x a = cond (ltb x first_var) (push (T.type e x) a) (svar (T.variable e (x - first_var)) a)

-- the d lowest entries, the last of them on top
unfoldable pub sp_of : Reading → List ℕ → ℕ → Ty stack
sp_of T sp zero = nil
sp_of T sp (suc d) = on_item T (cell 2 sp d 1) (cell 2 sp d 0) (sp_of T sp d)

-- the k items above the d lowest
unfoldable pub sp_above : Reading → List ℕ → ℕ → ℕ → Ty stack
sp_above T sp d zero = nil
sp_above T sp d (suc k) = on_item T (cell 2 sp (d + k) 1) (cell 2 sp (d + k) 0) (sp_above T sp d k)

-- the k entries on top of the d lowest are there, and are value types
unfoldable pub are_values : List ℕ → ℕ → ℕ → Bool
are_values sp d zero = true
are_values sp zero (suc k) = false
are_values sp (suc d) (suc k) = ltb (cell 2 sp d 0) first_var && are_values sp d k

-- Γ: the d lowest entries of sp, and the registers
abbrev pub context_of : Reading → List ℕ → List ℕ → ℕ → Context
context_of T regs sp d = record { sp = sp_of T sp d; regs = regs_of T regs }

-- entry d with the numbers x and e
abbrev pub with_entry : List ℕ → ℕ → ℕ → ℕ → List ℕ
with_entry l d x e = set (set l (2 * d) x) (2 * d + 1) e

-- ---- environments
-- the environments of the first n entries are at most b
pub record EnvsIn (b : ℕ) (l : List ℕ) (n : ℕ) : Type 0 where
  pub low : (i : ℕ) → i < n → cell 2 l i 1 ≤ b

-- the environments of the registers and of the d items of sp exist, E being those of the packages opened so far
pub record HeldIn (E regs sp : List ℕ) (d : ℕ) : Type 0 where
  pub regs_in : EnvsIn (2 * length E) regs 8
  pub sp_in : EnvsIn (2 * length E) sp d
