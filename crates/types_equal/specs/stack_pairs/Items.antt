-- What is left to compare of two next items.
use Rattle.std.specs.Prelude.{cond, eqb, Option, Some, None}
use Rattle.types_equal.specs.declared.pending.Source.TheVariants.{Own}
use Rattle.types_equal.specs.declared.pending.Next.{Next}
use Rattle.types_equal.specs.declared.pending.Next.TheVariants.{End, Row, Var}
use Rattle.types_equal.specs.declared.stack_pairs.Duo.{Duo}
use Rattle.types_equal.specs.declared.stack_pairs.Duo.TheVariants.{Over, Onward, Rows}

-- what is left to compare of two next items, the left one first; none if they differ
abbrev pub duo_of : Next → Next → Option Duo
duo_of End End = Some Over
duo_of (Row s t n) (Row Own u o) = Some (Rows s t n u o)
duo_of (Var k n) (Var i o) = cond (eqb k i) (Some (Onward n o)) None
duo_of a b = None
