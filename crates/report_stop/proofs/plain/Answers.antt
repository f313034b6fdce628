use Rattle.std.proofs.Common.{◌∙◌, sym}
use Rattle.report_stop.proofs.Laws.{two_fields, no_steps}
use Rattle.report_stop.proofs.plain.Goals as goal
use Rattle.report_stop.proofs.plain.Goals.{else-is_steps-via-then-is_steps+else-is_plain, else-is_steps-via-else-is_steps}

pub returns-then-is_plain : goal.returns-then-is_plain
returns-then-is_plain c =
    sym (two_fields _ _ (sym c.if-is_steps.true ∙ c.is_steps.ensures) (sym c.if-is_plain.true ∙ c.is_plain.ensures))

pub returns-else-is_steps : goal.returns-else-is_steps
returns-else-is_steps c =
    elim c.else-is_steps.branch [
      | else-is_steps-via-then-is_steps+else-is_plain w ↦ sym (two_fields _ _ (sym w.if-is_steps.true ∙ c.is_steps.ensures) (sym w.if-is_plain.false ∙ w.is_plain.ensures))
      | else-is_steps-via-else-is_steps w ↦ no_steps _ _ (sym w.if-is_steps.false ∙ c.is_steps.ensures)
    ]
