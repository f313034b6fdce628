-- How the answers for a list of operands are stated.
use Rattle.std.specs.Prelude.{ℕ, zero, suc, List}
use Rattle.syntax.specs.Syntax.{Kind, stack, Operand}
use Rattle.types.specs.Types.{Ty, nil, push}
use Rattle.tables.specs.Tables.{cell}
use Rattle.valid.specs.Program.{Program}
use Rattle.valid.specs.PassThree.{Judged, operands}
use Rattle.valid_context.specs.Context.{Reading}

-- the premise on a list of operands
abbrev pub components : Program → List Kind → Ty stack → List Operand → Judged (Ty stack)
components P Δ g vs = operands P Δ g vs

-- the types of the c entries of a list from entry i on: each is a row, and the environment that it was read in
unfoldable pub types_from : Reading → List ℕ → ℕ → ℕ → Ty stack
types_from T l i zero = nil
types_from T l i (suc c) = push (T.type (cell 2 l i 1) (cell 2 l i 0)) (types_from T l (suc i) c)
