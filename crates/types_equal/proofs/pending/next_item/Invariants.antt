use mathlib.Core.List.{List}
use mathlib.Core.Path.{◌≡◌}
use Prim.Native.Nat.{ℕ}
use lib.ListN.{length}
use Rattle.types_rows.specs.Read.{tab, args_of}
use Rattle.types_rows.specs.Environments.{shifted}
use Rattle.types_equal.specs.pending.Pending.{other, list_of, mass}
use Rattle.types_equal.proofs.pending.Lists.{Kept, Means}
use Rattle.types_equal.proofs.pending.next_item.Given as goal

abbrev pub invariant-loop-n : goal.invariant-loop-n
invariant-loop-n l =
    Kept l.c.m (list_of l.side l.initial.pending) l.top (list_of l.side l.pending) l.n × ((ps : List ℕ) → Means (tab l.rows ps) (args_of (tab l.rows ps) l.args l.c.m) (shifted l.envs l.c.env l.c.by) l.c.d (list_of l.side l.initial.pending) l.top (list_of l.side l.pending) l.n)
    × (list_of (other l.side) l.pending ≡ list_of (other l.side) l.initial.pending) × (length l.pending ≡ length l.initial.pending)

abbrev pub decreases-loop-n : goal.decreases-loop-n
decreases-loop-n l = mass (list_of l.side l.pending) l.n
