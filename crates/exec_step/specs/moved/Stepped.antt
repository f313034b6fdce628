-- What an answer of the code says of a step, and what a row, the words and the handles in registers must say for it to be made.
use Rattle.std.specs.Prelude.{ℕ, ◌+◌, ◌*◌, ◌<◌, ◌≤◌, ◌≡◌, Bool, true, false, cond, List, length, get_or}
use Rattle.exec.specs.Machine.{Memory, State, Result, tuple_kind, heap_limit, at, component_at, go, stop}
use Rattle.tables.specs.Tables.{cell, OperandTable}
use Rattle.exec_words.specs.memory.Lent.{Long}
use Rattle.exec_machine.specs.declared.Stop.{Stop as Reason}
use Rattle.exec_machine.specs.Step.{Tables, stop_is, result_of, step_at, Next}
use Rattle.exec_step.specs.declared.moved.Moved.{Moved}
use Rattle.exec_step.specs.declared.moved.Moved.TheVariants.{To, Paused, Ended}

-- words, with a depth and heap use, at position j
abbrev pub held : Memory → Memory → Memory → ℕ → ℕ → ℕ → State
held R S H h u j = record { registers = R; stack = S; heap = H; depth = h; used = u; position = j }

-- the answer of an instruction that does not stop, by whether the budget has a step left
abbrev pub toward : Bool → ℕ → ℕ → ℕ → Moved
toward more to h u = cond more (To to h u) Paused

-- ---- an answer, against the result x that a step from σ has; R, S and H are the words left, m is the position behind the last
-- a step made: `to` is the place of the next row, h the depth, u the heap words in use
pub record Reached (m : ℕ) (x : Result State) (more : Bool) (to h u : ℕ) (R S H : Memory) : Type 0 where
  pub budget : more ≡ true
  pub position : ℕ
  pub place : to ≡ 8 * position
  pub within : position ≤ m
  pub depth : h ≤ 256
  pub used : u ≤ 2048
  pub result : x ≡ go (held R S H h u position)

-- no word changed
pub record Still (σ : State) (R S H : Memory) : Type 0 where
  pub registers : R ≡ σ.registers
  pub stack : S ≡ σ.stack
  pub heap : H ≡ σ.heap

-- a step that there is no budget for
pub record Waits (x : Result State) (more : Bool) (σ : State) (R S H : Memory) : Type 0 where
  pub budget : more ≡ false
  pub still : Still σ R S H
  pub next : State
  pub result : x ≡ go next

-- a stop comes first, whatever the budget
pub record Stops (x : Result State) (y : Result State) (σ : State) (R S H : Memory) : Type 0 where
  pub still : Still σ R S H
  pub result : x ≡ y

-- what an answer says: a step made, one that waits for budget, or a stop
pub record Turned (m : ℕ) (x : Result State) (more : Bool) (σ : State) (r : Moved) (R S H : Memory) : Type 0 where
  pub reached : (to h u : ℕ) → r ≡ To to h u → Reached m x more to h u R S H
  pub waits : r ≡ Paused → Waits x more σ R S H
  pub stops : (s : Reason) → r ≡ Ended s → Stops x (stop (stop_is s)) σ R S H

-- "one step" by the tables, from σ
abbrev pub Stepped : Tables → Bool → State → Moved → Memory → Memory → Memory → Type 0
Stepped T more σ r R S H = Turned T.count (step_at T σ) more σ r R S H

-- ---- what a row's function promises
-- the row at `at` does n of the position after it, with budget or none
abbrev pub Does : OperandTable → ℕ → ℕ → ℕ → Bool → Memory → Memory → Memory → (ℕ → Next) → Moved → Memory → Memory → Memory → Type 0
Does ω at h u more R S H n r R' S' H' = (p m j : ℕ) → at + 8 ≡ 8 * p → p ≤ m → Turned m (result_of ω (held R S H h u j) (n p)) more (held R S H h u j) r R' S' H'

-- where labels lead
abbrev pub Starts : List ℕ → ℕ → ℕ → Type 0
Starts β labels m = (l : ℕ) → l < labels → cell 2 β l 1 ≤ m

-- where a branch leads, by the column of the sign
pub record Leads (φ : List ℕ) (at m : ℕ) (g : ℕ → ℕ) : Type 0 where
  pub place : (i : ℕ) → i < 3 → get_or φ (at + (5 + i)) 0 ≡ 8 * g i
  pub within : (i : ℕ) → g i ≤ m

-- the row at `at` names registers in columns 1 and 2
pub record Low (φ : List ℕ) (at : ℕ) : Type 0 where
  pub first : get_or φ (at + 1) 0 < 8
  pub second : get_or φ (at + 2) 0 < 8

-- ---- what is asked of a row and of the words
-- the row at `at` stands in the table, and the depth and the heap words in use are within their limits
pub record RowAt (φ : List ℕ) (at h u : ℕ) : Type 0 where
  pub whole : at + 8 ≤ length φ
  pub depth : h ≤ 256
  pub used : u ≤ 2048

-- the same, of a row that names registers
pub record LowRow (φ : List ℕ) (at h u : ℕ) : Type 0 where
  pub whole : at + 8 ≤ length φ
  pub low : Low φ at
  pub depth : h ≤ 256
  pub used : u ≤ 2048

-- registers, stack and heap as long as the limits
pub record Words (rk rn sk sn hk hn : List ℕ) : Type 0 where
  pub registers : Long 8 rk rn
  pub stack : Long 256 sk sn
  pub heap : Long 2048 hk hn

-- ---- what is asked of handles
-- each handle in a register is at a tuple's start: its length word and its components stand within the heap's limit
pub record Inside (R H : Memory) : Type 0 where
  pub start : (r : ℕ) → r < 8 → (at R r).kind ≡ tuple_kind → (at R r).number < heap_limit
  pub component : (r i : ℕ) → r < 8 → (at R r).kind ≡ tuple_kind → i < (at H (at R r).number).number → component_at (at R r).number i < heap_limit
