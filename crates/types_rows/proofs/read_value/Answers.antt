use native.Mathlib.Omega.{arith}
use mathlib.Core.Path.{◌∙◌}
use Rattle.types_rows.specs.Read.{lift, place_v}
use Rattle.types_rows.proofs.Laws.{value_placed, value_variable}
use Rattle.types_rows.proofs.read_value.Goals as goal

pub returns-then-kind-eq2 : goal.returns-then-kind-eq2
returns-then-kind-eq2 c =
    let z = c.if-h-eq0.false in
    let p = value_placed c.args.m c.args.h c.args.by c.args.d c.entry-a.result c.placed.ensures.bound c.placed.ensures.filled c.placed.ensures.free in
    (p.0 ∙ value_variable c.args.rows.now (place_v c.args.m (lift c.args.by) c.args.d) c.args.h c.entry-kind.result c.entry-a.result (omega arith) c.entry-kind.ensures.0 c.if-kind-eq2.true c.entry-a.ensures.0, p.1)
