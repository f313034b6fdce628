-- What the code answers for a run, as a run of crate exec, and what is asked of the run.
use Rattle.std.specs.Prelude.{ℕ, ◌+◌, ◌*◌, ◌≤◌, List, length, Option, Some, None}
use Rattle.exec.specs.Machine.{State, Bodies}
use Rattle.exec.specs.Run.{End, Ran, paused, stopped, run}
use Rattle.exec_machine.specs.declared.Place.{Place}
use Rattle.exec_machine.specs.declared.Stop.{Stop}
use Rattle.exec_machine.specs.Step.{Tables, stop_is, state_of}
use Rattle.exec_machine.specs.Represents.{Represents, Fit}
use Rattle.exec_plan.specs.Plan.{Plan}
use Rattle.exec_step.specs.moved.Stepped.{Inside}
use Rattle.exec_run.specs.declared.Ran.{Ran as Made}

-- how a run ends: a pause, or the reason for which it stops
abbrev pub end_is : Option Stop → End
end_is None = paused
end_is (Some s) = stopped (stop_is s)

-- the answer, with the words that it left
abbrev pub ran_is : Made → List ℕ → List ℕ → List ℕ → List ℕ → List ℕ → List ℕ → Ran State
ran_is r rk rn sk sn hk hn = record { end = end_is r.stop; steps = r.steps; state = state_of rk rn sk sn hk hn r.place }

-- k steps were made before
abbrev pub later : ℕ → Ran State → Ran State
later k r = record { end = r.end; steps = k + r.steps; state = r.state }

-- the tables are those of a program whose run from σ only comes to states with each handle in a register at a tuple's start
pub record Safe (T : Tables) (σ : State) : Type 0 where
  pub args : List ℕ
  pub program : Bodies
  pub represents : Represents T args program
  pub inside : (n : ℕ) → Inside (run program n σ).state.registers (run program n σ).state.heap

-- tables that decoding has seen to, and room for their rows
pub record Roomy (T : Tables) (φ : List ℕ) : Type 0 where
  pub fit : Fit T
  pub room : 8 * T.count + 8 ≤ length φ

-- the same, with the rows made
pub record Planned (T : Tables) (φ : List ℕ) : Type 0 where
  pub plan : Plan T φ
  pub fit : Fit T
  pub room : 8 * T.count + 8 ≤ length φ

-- a place within the limits, at one of that many instructions or behind the last
pub record PlaceIn (p : Place) (count : ℕ) : Type 0 where
  pub depth : p.depth ≤ 256
  pub used : p.used ≤ 2048
  pub position : p.position ≤ count
