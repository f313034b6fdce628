-- The code's answer to writing a line, as crate print has it.
use Rattle.std.specs.Prelude.{ℕ, List, Option, Some, None}
use Rattle.std.proofs.Math.Option.{none, some}
use Rattle.print.specs.Written as print
use Rattle.print.specs.Written.{holding}

-- the code's answer, and what the memory holds then
abbrev pub written_is : Option ℕ → List ℕ → print.Written
written_is (Some n) m = holding (some n) m
written_is None m = holding none m
