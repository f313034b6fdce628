use Rattle.text_fields.proofs.numbers.Laws.{number_bad}
use Rattle.text_fields.proofs.numbers.Scans.{at_empty, at_led, at_low, at_number}
use Rattle.text_fields.proofs.numbers.number_at.Goals as goal
use Rattle.text_fields.proofs.numbers.number_at.Goals.{then-x-at-via-then-x-at, then-x-at-via-else-x-at+then-led, then-x-at-via-else-x-at+else-led+then-x-low}

pub returns-in_err-x : goal.returns-in_err-x
returns-in_err-x c = rw c.from_residual.ensures (number_bad _ _ _ c.in_err-x.ensures)

pub returns-then-x-at : goal.returns-then-x-at
returns-then-x-at c =
    let g = c.in_ok-x.ensures in
    elim c.then-x-at.branch [
      | then-x-at-via-then-x-at w ↦ at_empty _ _ _ _ c.requires _ g w.if-x-at.true
      | then-x-at-via-else-x-at+then-led w ↦ at_led _ _ _ _ c.requires _ g w.if-x-at.false _ w.led.ensures w.if-led.true
      | then-x-at-via-else-x-at+else-led+then-x-low w ↦ at_low _ _ _ _ c.requires _ g w.if-x-at.false _ w.led.ensures w.if-led.false w.if-x-low.true
    ]

pub returns : goal.returns
returns c =
    at_number _ _ _ _ c.requires _ c.in_ok-x.ensures c.if-x-at.false _ c.led.ensures c.if-led.false c.if-x-low.false
