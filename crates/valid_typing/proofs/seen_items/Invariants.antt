use Prim.Native.Nat.{ℕ, ◌+◌, ◌≤◌}
use mathlib.Core.Path.{◌≡◌}
use mathlib.Core.Bool.{true}
use mathlib.Core.List.{List}
use Rattle.types.specs.Equal.{same}
use Rattle.types_rows.specs.Read.{tab, mean_s}
use Rattle.types_rows.specs.Environments.{read_in}
use Rattle.valid_context.specs.Context.{sp_of}
use Rattle.valid_typing.specs.Typing.{held_in}
use Rattle.valid_typing.proofs.seen_items.Given as goal

abbrev pub invariant-loop-k : goal.invariant-loop-k
invariant-loop-k l =
    (l.y ≤ l.n + 2) × (l.i ≤ l.m) × ((E : List ℕ) → true ≡ same (read_in E l.e (mean_s (tab l.rows l.parts) l.y)) (sp_of (held_in l.rows l.parts l.n E) l.sp l.i) → true ≡ same (read_in E l.e (mean_s (tab l.rows l.parts) l.initial.y)) (sp_of (held_in l.rows l.parts l.n E) l.sp l.m))

abbrev pub decreases-loop-k : goal.decreases-loop-k
decreases-loop-k l = l.y
