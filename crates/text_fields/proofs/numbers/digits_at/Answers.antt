use Rattle.std.proofs.Common.{sym, ◌∙◌, arith}
use Rattle.text_lines.proofs.InLine.{field_stop, no_stop}
use Rattle.text_fields.proofs.numbers.Laws.{digit_from}
use Rattle.text_fields.proofs.numbers.Scans.{scan_stop, scan_bad, scan_on}
use Rattle.text_fields.proofs.numbers.digits_at.Goals as goal

pub returns-then-is_stop : goal.returns-then-is_stop
returns-then-is_stop c =
    scan_stop _ _ _ _ _ c.loop-m.invariant (field_stop _ _ c.loop-m.invariant.place (sym c.is_stop.ensures ∙ c.if-is_stop.true))

pub returns-else-is_stop : goal.returns-else-is_stop
returns-else-is_stop c =
    let n = no_stop _ (sym c.is_stop.ensures ∙ c.if-is_stop.false) in
    scan_bad _ _ _ _ _ c.loop-m.invariant n.0 n.1 c.in_default.ensures

pub loop-m-preserved : goal.loop-m-preserved
loop-m-preserved c =
    let d = digit_from _ _ _ _ c.in-Some.ensures in
    scan_on _ _ _ _ _ c.loop-m.invariant (λ e. omega arith) (λ e. omega arith) _ c.in-Some.ensures
