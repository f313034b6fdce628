-- What is asked of the tables that a run is made from.
use Rattle.std.specs.Prelude.{ℕ, ◌+◌, ◌*◌, ◌≤◌, ◌≡◌, List, length}
use Rattle.std.proofs.Math.Option.{none}
use Rattle.valid.specs.Program.{program_of}
use Rattle.exec.specs.Run.{bodies, barred}
use Rattle.exec_machine.specs.Step.{Tables}
use Rattle.exec_machine.specs.Represents.{Represents, Fit}

-- the tables are those of a text that nothing bars from starting
pub record Unbarred (T : Tables) : Type 0 where
  pub text : List ℕ
  pub args : List ℕ
  pub free : barred text ≡ none
  pub represents : Represents T args (bodies (program_of text))

-- tables of such a text that fit the machine, and room for their rows
pub record Launchable (T : Tables) (φ : List ℕ) : Type 0 where
  pub fit : Fit T
  pub room : 8 * T.count + 8 ≤ length φ
  pub unbarred : Unbarred T
