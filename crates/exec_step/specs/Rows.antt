-- What a row must say for the step by it to be made, and what is promised of the step.
use Rattle.std.specs.Prelude.{ℕ, ◌+◌, ◌*◌, ◌<◌, ◌≤◌, ◌≡◌, Bool, true, List, get_or}
use Rattle.exec.specs.Machine.{Memory}
use Rattle.tables.specs.Tables.{OperandTable}
use Rattle.exec_words.specs.memory.Lent.{Sourced}
use Rattle.exec_machine.specs.Step.{result_of}
use Rattle.exec_plan.specs.Plan.{reads_operand, form_in, planned}
use Rattle.exec_step.specs.declared.moved.Moved.{Moved}
use Rattle.exec_step.specs.moved.Stepped.{held, Turned, Starts, Leads, Low}

-- the form of the row at `at`
abbrev pub form_of : List ℕ → ℕ → ℕ
form_of φ at = form_in (get_or φ at 0) (get_or φ (at + 5) 0)

-- where a row's label leads, and its branch
pub record Goals (φ : List ℕ) (at m s : ℕ) (g : ℕ → ℕ) : Type 0 where
  pub label : form_of φ at ≡ 7 → get_or φ (at + 3) 0 ≡ 8 * s
  pub reached : form_of φ at ≡ 7 → s ≤ m
  pub branch : form_of φ at ≡ 4 → Leads φ at m g

-- the row at `at` has a class, and a form where that is the last; it names registers where it must, and operands that stand in the tables
pub record FitRow (φ os bs : List ℕ) (at : ℕ) : Type 0 where
  pub class : get_or φ at 0 < 16
  pub other : get_or φ at 0 ≡ 15 → 15 ≤ get_or φ (at + 5) 0
  pub columns : Low φ at
  pub operand : reads_operand (form_of φ at) ≡ true → get_or φ (at + 4) 0 < 8
  pub tuple : form_of φ at ≡ 2 → Sourced os bs (get_or φ (at + 3) 0) (get_or φ (at + 4) 0)

-- the answer r and the words left are those of the row at `at`, which is `planned`
pub record Done (ω : OperandTable) (β : List ℕ) (l : ℕ) (φ : List ℕ) (at h u : ℕ) (more : Bool) (R S H : Memory) (r : Moved) (R' S' H' : Memory) : Type 0 where
  pub turned : (m s j p : ℕ) (g : ℕ → ℕ) → Starts β l m → Goals φ at m s g → at + 8 ≡ 8 * p → (form_of φ at < 24 → p ≤ m)
      → Turned m (result_of ω (held R S H h u j) (planned β l s g (form_of φ at) (get_or φ (at + 1) 0) (get_or φ (at + 2) 0) (get_or φ (at + 3) 0) (get_or φ (at + 4) 0) p R S H h u)) more (held R S H h u j) r R' S' H'
