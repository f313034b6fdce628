use mathlib.Core.Path.{refl, ◌∙◌}
use Rattle.types_pass_two.proofs.Laws.{rows_start, rows_next, rows_found, rows_end}
use Rattle.types_pass_two.proofs.refs.Lines.{number_is}
use Rattle.types_pass_two.proofs.rows_fault.Goals as goal

pub loop-r-init : goal.loop-r-init
loop-r-init c = (rows_start _ _, search)

pub returns-in-Some : goal.returns-in-Some
returns-in-Some c = rows_found _ _ _ _ _ c.loop-r-test.true c.in-Some.ensures.0 (number_is c.in-Some.fault) refl ∙ c.loop-r.invariant.0

pub loop-r-preserved : goal.loop-r-preserved
loop-r-preserved c = (rows_next _ _ _ _ c.loop-r-test.true c.in_default.ensures.0 refl ∙ c.loop-r.invariant.0, search)

pub returns : goal.returns
returns c = rows_end _ _ _ c.loop-r-test.false ∙ c.loop-r.invariant.0
