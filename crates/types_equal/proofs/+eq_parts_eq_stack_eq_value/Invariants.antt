use Rattle.std.proofs.Common.{◌+◌, ◌*◌}
use mathlib.Core.Path.{◌≡◌}
use lib.ListN.{length}
use Rattle.types_rows.specs.Read.{tab, args_of}
use Rattle.types_rows.specs.Environments.{shifted}
use Rattle.types_equal.proofs.Values.{PartsLeft}
use Rattle.types_equal.specs.Bounds.{big}
use Rattle.types_equal.specs.declared.pending.Side.TheVariants.{Left, Right}
use Rattle.types_equal.specs.pending.Pending.{list_of, mass}
use Rattle.types_equal.proofs.Stacks.{Matching}
use Rattle.types_equal.proofs.+eq_parts_eq_stack_eq_value.Given as goal

abbrev pub invariant-eq_parts-loop-i : goal.invariant-eq_parts-loop-i
invariant-eq_parts-loop-i l =
    PartsLeft (tab l.rows l.parts) (args_of (tab l.rows l.parts) l.args l.k.m) (shifted l.envs l.k.env l.k.by) l.k.d l.file l.l (shifted l.envs l.k.env2 0) l.k.d2 l.r l.p l.q l.n l.i × (length l.pending ≡ length l.initial.pending)

abbrev pub invariant-eq_stack-loop-duo : goal.invariant-eq_stack-loop-duo
invariant-eq_stack-loop-duo l =
    Matching (tab l.rows l.parts) (args_of (tab l.rows l.parts) l.args l.k.m) l.k.m (shifted l.envs l.k.env l.k.by) l.k.d l.l (shifted l.envs l.k.env2 0) l.k.d2 l.r (list_of Left l.pending) l.i (list_of Right l.pending) l.j × (length l.pending ≡ length l.initial.pending)

abbrev pub decreases-eq_stack-loop-duo : goal.decreases-eq_stack-loop-duo
decreases-eq_stack-loop-duo l = mass (list_of Left l.pending) l.i

abbrev pub decreases-eq_parts : goal.decreases-eq_parts
decreases-eq_parts l = big l.k.m + 131072 * l.l + 1

abbrev pub decreases-eq_stack : goal.decreases-eq_stack
decreases-eq_stack l = big l.k.m + 131072 * l.l + 70001

abbrev pub decreases-eq_value : goal.decreases-eq_value
decreases-eq_value l = big l.k.m + 131072 * l.l + 70000
