use Rattle.std.proofs.Common.{sym, ◌∙◌}
use Rattle.text_lines.proofs.InLine.{place_read, field_stop, no_stop}
use Rattle.text_decode.proofs.line.StopLaws.{behind_dash, dash_is, dash_bad}
use Rattle.text_decode.proofs.line.dash_at.Goals as goal

pub bounds-rest-next : goal.bounds-rest-next
bounds-rest-next c = place_read _ _ (behind_dash _ _ c.requires.0 (search))

pub returns-then-is_stop : goal.returns-then-is_stop
returns-then-is_stop c =
    dash_is _ _ (search) (search) (field_stop _ _ (behind_dash _ _ c.requires.0 (search)) (sym c.is_stop.ensures ∙ c.if-is_stop.true))

pub returns : goal.returns
returns c =
    let n = no_stop _ (sym c.is_stop.ensures ∙ c.if-is_stop.false) in
    dash_bad _ _ c.requires.0 c.requires.1 n.0 n.1
