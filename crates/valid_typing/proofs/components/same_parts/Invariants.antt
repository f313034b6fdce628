use mathlib.Core.Path.{◌≡◌}
use lib.ListN.{length}
use Rattle.types_rows.specs.Read.{tab, mean_v}
use Rattle.valid_typing.specs.Typing.{held_in}
use Rattle.valid_typing.proofs.components.Lists.{RestSame}
use Rattle.valid_typing.proofs.components.same_parts.Given as goal

abbrev pub invariant-loop-i : goal.invariant-loop-i
invariant-loop-i l =
    RestSame (mean_v (tab l.rows l.parts)) l.parts l.h l.p l.c (held_in l.rows l.parts l.n l.envs) l.found l.i × (length l.pending ≡ length l.initial.pending)
