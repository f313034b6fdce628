-- What a stop counts as in a day's report.
use Rattle.std.specs.Prelude.{ℕ, cond, eqb, Option, Some, None}
use Rattle.std.proofs.Math.Option as math
use Rattle.std.proofs.Math.Option.{none, some}
use Rattle.syntax.specs.Bits.{signed}
use Rattle.exec.specs.Machine.{int_kind, code_kind, tuple_kind, height_kind, junk_kind}
use Rattle.exec.specs.Run.{Answer, refused, halted_after, paused_after, stack_full_after, heap_full_after, stuck_after}
use Rattle.report_stop.specs.declared.Stop.{Stop}
use Rattle.report_stop.specs.declared.Stop.TheVariants.{Integer, Other}
use Rattle.report_stop.specs.declared.Kind.{Kind}
use Rattle.report_stop.specs.declared.Kind.TheVariants.{Int, Code, Tuple, Height, Junk}

-- an integer halted with, or another stop
unfoldable pub counted : Answer → Stop
counted (refused n line) = Other
counted (halted_after steps kind number) = cond (eqb kind int_kind) (Integer (signed number)) Other
counted (paused_after steps) = Other
counted (stack_full_after steps) = Other
counted (heap_full_after steps) = Other
counted (stuck_after steps) = Other

-- the stop that is told, or none
unfoldable pub told : math.Option Answer → Option Stop
told none = None
told (some a) = Some (counted a)

-- a kind's number
abbrev pub kind_number : Kind → ℕ
kind_number Int = int_kind
kind_number Code = code_kind
kind_number Tuple = tuple_kind
kind_number Height = height_kind
kind_number Junk = junk_kind

-- the number of a kind, or none
abbrev pub kind_in : Option Kind → math.Option ℕ
kind_in (Some k) = some (kind_number k)
kind_in None = none
