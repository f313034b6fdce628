use mathlib.Core.Path.{◌≡◌}
use lib.ListN.{length}
use Rattle.types_rows.specs.Read.{tab, mean_s}
use Rattle.valid_typing.proofs.Stacks.{Written, EnvsDone}
use Rattle.valid_typing.proofs.flatten.Given as goal

abbrev pub invariant-loop-i : goal.invariant-loop-i
invariant-loop-i l =
    (length l.sp ≡ length l.initial.sp) × Written l.rows l.parts l.n l.m l.h l.e (mean_s (tab l.rows l.parts) l.h) l.sp l.i × EnvsDone l.m l.e l.sp l.i
