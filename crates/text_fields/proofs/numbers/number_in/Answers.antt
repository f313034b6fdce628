use Rattle.std.proofs.Common.{sym, ap, ◌∙◌, eqb-true}
use Rattle.std.proofs.lemmas.Bool.{eqb-false}
use Rattle.text_fields.specs.numbers.Numbers.{number_of}
use Rattle.text_fields.proofs.numbers.Laws.{number_none, number_led, number_bad, number_here, number_low}
use Rattle.text_fields.proofs.numbers.number_in.Goals as goal
use Rattle.text_fields.proofs.numbers.number_in.Goals.{then-is_empty-via-then-is_empty, then-is_empty-via-else-is_empty+then-zero_led}

pub returns-then-is_empty : goal.returns-then-is_empty
returns-then-is_empty c =
    elim c.then-is_empty.branch [
      | then-is_empty-via-then-is_empty w ↦ number_none _ _ _ (eqb-true _ 0 (sym c.is_empty.ensures ∙ w.if-is_empty.true))
      | then-is_empty-via-else-is_empty+then-zero_led w ↦ number_led _ _ _ (sym w.zero_led.ensures ∙ w.if-zero_led.true)
    ]

pub returns-in_err-n : goal.returns-in_err-n
returns-in_err-n c = ap number_of c.from_residual.ensures ∙ sym (number_bad _ _ _ (sym c.in_err-n.ensures))

pub returns-then-low-n : goal.returns-then-low-n
returns-then-low-n c =
    sym (number_here _ _ _ _ (sym c.in_ok-n.ensures) (eqb-false _ 0 (sym c.is_empty.ensures ∙ c.if-is_empty.false)) (sym c.zero_led.ensures ∙ c.if-zero_led.false) c.if-low-n.true)

pub returns-else-low-n : goal.returns-else-low-n
returns-else-low-n c =
    sym (number_low _ _ _ _ (sym c.in_ok-n.ensures) (eqb-false _ 0 (sym c.is_empty.ensures ∙ c.if-is_empty.false)) (sym c.zero_led.ensures ∙ c.if-zero_led.false) c.if-low-n.false)
