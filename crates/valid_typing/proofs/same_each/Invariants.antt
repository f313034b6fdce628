use mathlib.Core.Path.{◌≡◌}
use lib.ListN.{length}
use Rattle.types_rows.specs.Read.{tab, mean_s}
use Rattle.types_rows.specs.Environments.{read_in}
use Rattle.valid_typing.proofs.Stacks.{RestSame}
use Rattle.valid_typing.proofs.same_each.Given as goal

abbrev pub invariant-loop-i : goal.invariant-loop-i
invariant-loop-i l =
    RestSame l.rows l.parts l.n l.envs l.e l.sp l.m l.h (read_in l.envs l.e (mean_s (tab l.rows l.parts) l.h)) l.i × (length l.pending ≡ length l.initial.pending)
