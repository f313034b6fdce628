-- What bars a program from starting, and what the tables say of one that may start.
use Rattle.std.specs.Prelude.{ℕ, ◌*◌, ◌≤◌, ◌≡◌, List, length, Result, Ok}
use Rattle.valid.specs.Program.{Program, program_of}
use Rattle.exec.specs.Run.{bodies, wanted, barred}
use Rattle.exec_machine.specs.Step.{tables}
use Rattle.exec_machine.specs.Represents.{Represents, Fit}
use Rattle.text_decode.specs.Decoded.{refusal_of}
use Rattle.text_decode.specs.declared.state.Unread.{Unread}
use Rattle.text_decode.specs.store.Store.{stored}
use Rattle.exec_ready.specs.declared.Ready.{Ready}

-- the machine's tables are those of P, with some type arguments, the samples are counted, and the tables fit the machine
pub record Startable (P : Program) (instrs operands numbers blocks : List ℕ) (r : Ready) : Type 0 where
  pub args : List ℕ
  pub represents : Represents (tables instrs operands numbers blocks r.instrs r.blocks) args (bodies P)
  pub samples : r.samples ≡ wanted P.blocks
  pub few : r.samples ≤ 16
  pub fit : Fit (tables instrs operands numbers blocks r.instrs r.blocks)
  pub room : 8 * r.instrs ≤ length instrs

-- r names what bars the text from starting; where nothing does, the tables are those of its program
pub record ReadyIs (text instrs operands numbers blocks : List ℕ) (r : Result Ready Unread) : Type 0 where
  pub fault : refusal_of r ≡ barred text
  pub startable : (s : Ready) → r ≡ Ok s → Startable (program_of text) instrs operands numbers blocks s

-- the same of the tables in an image
abbrev pub ReadyIn : List ℕ → List ℕ → List ℕ → Result Ready Unread → Type 0
ReadyIn text image numbers r =
    ReadyIs text (stored image numbers).instrs (stored image numbers).operands numbers (stored image numbers).blocks r
