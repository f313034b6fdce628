use native.Mathlib.Omega.{arith}
use mathlib.Core.Path.{◌∙◌}
use Rattle.types_rows.specs.Read.{lift, place_s}
use Rattle.types_rows.proofs.Laws.{stack_placed, stack_variable, lower_low, stack_join}
use Rattle.types_rows.proofs.read_stack.Goals as goal

pub returns-then-kind-eq8 : goal.returns-then-kind-eq8
returns-then-kind-eq8 c =
    let z = c.if-h-eq0.false in
    let p = stack_placed c.args.m c.args.h c.args.by c.args.d c.entry-a.result c.placed.ensures.bound c.placed.ensures.filled c.placed.ensures.free in
    (p.0 ∙ stack_variable c.args.rows.now (place_s c.args.m (lift c.args.by) c.args.d) c.args.h c.entry-kind.result c.entry-a.result (omega arith) c.entry-kind.ensures.0 c.if-kind-eq8.true c.entry-a.ensures.0, p.1)

pub returns-else-kind-eq9 : goal.returns-else-kind-eq9
returns-else-kind-eq9 c =
    let z = c.if-h-eq0.false in (
      stack_join c.args.rows.now _ c.args.h c.entry-kind.result _ _ _ _ (omega arith) (omega arith) c.entry-kind.ensures.0 c.entry-a.ensures.0 c.entry-b.ensures.0 c.link-else-kind-eq9.ensures c.link-else-kind-eq9-2.ensures,
      (rw c.link-else-kind-eq9.ensures (lower_low _ _ (omega arith)), rw c.link-else-kind-eq9-2.ensures (lower_low _ _ (omega arith))),
    )
