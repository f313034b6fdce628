use Rattle.std.proofs.Common.{arith, ap, ◌∙◌, sym}
use Rattle.report.specs.Day.{figures}
use Rattle.report_day.proofs.Tallies.{finished_none, finished_some}
use Rattle.report_day.proofs.Days.{walk_starts, walk_on, not_ended, too_many, no_stop, at_end}
use Rattle.report_day.proofs.report.Goals as goal
use Rattle.report_day.proofs.report.Goals.{then-text-end-via-then-text-end, then-text-end-via-else-text-end+then-lines-gt500}

pub loop-at-init : goal.loop-at-init
loop-at-init c = walk_starts _

pub returns-then-text-end : goal.returns-then-text-end
returns-then-text-end c =
    elim c.then-text-end.branch [
      | then-text-end-via-then-text-end w ↦ not_ended _ _ _ _ c.loop-at.invariant.left _ c.loop-at-test.true c.line_end-end.ensures w.if-text-end.true
      | then-text-end-via-else-text-end+then-lines-gt500 w ↦ let h = w.if-lines-gt500.true in too_many _ _ _ _ c.loop-at.invariant.left _ c.loop-at-test.true c.line_end-end.ensures w.if-text-end.false (omega arith)
    ]

pub returns-in_default : goal.returns-in_default
returns-in_default c =
    no_stop _ _ _ _ c.loop-at.invariant.left _ c.loop-at-test.true c.line_end-end.ensures c.if-text-end.false (sym c.in_default.is ∙ c.read_stop.ensures)

pub loop-at-preserved : goal.loop-at-preserved
loop-at-preserved c =
    let h = c.if-lines-gt500.false in
    rw c.with-tally.ensures.0
    (walk_on _ _ _ _ c.loop-at.invariant _ c.loop-at-test.true c.line_end-end.ensures c.if-text-end.false (omega arith) _ (sym c.in-Some.is ∙ c.read_stop.ensures) (rw c.with-tally.ensures.0 at c.with-tally.ensures.1))

pub returns-then-tally-eq0 : goal.returns-then-tally-eq0
returns-then-tally-eq0 c = finished_none _ _ c.if-tally-eq0.true ∙ at_end _ _ _ _ c.loop-at.invariant.left c.loop-at-test.false

pub returns : goal.returns
returns c =
    ap figures c.figures.ensures ∙ finished_some _ _ c.if-tally-eq0.false ∙ at_end _ _ _ _ c.loop-at.invariant.left c.loop-at-test.false
