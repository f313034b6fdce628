use Rattle.std.proofs.Common.{length, ap, sym, ◌∙◌, arith}
use Rattle.text_lines.proofs.InLine.{next_place, field_longer, field_stop, no_stop}
use Rattle.text_lines.proofs.field_end.Goals as goal

pub returns-then-is_stop : goal.returns-then-is_stop
returns-then-is_stop c =
    let e = field_stop _ _ c.loop-i.invariant.0 (sym c.is_stop.ensures ∙ c.if-is_stop.true) in
    omega (arith, ap length e)

pub loop-i-preserved : goal.loop-i-preserved
loop-i-preserved c =
    let n = no_stop _ (sym c.is_stop.ensures ∙ c.if-is_stop.false) in
    (next_place _ _ (search) n.0 n.1, sym (field_longer _ _ (search) n.0 n.1) ∙ c.loop-i.invariant.1)
