use Rattle.std.proofs.Common.{◌∙◌, le-ltb}
use Rattle.text_fields.proofs.numbers.Laws.{led_short, led_first}
use Rattle.text_fields.proofs.numbers.zero_led.Goals as goal

pub returns-then-s-gt1 : goal.returns-then-s-gt1
returns-then-s-gt1 c = led_first _ (search)

pub returns-else-s-gt1 : goal.returns-else-s-gt1
returns-else-s-gt1 c = le-ltb 1 _ c.if-s-gt1.false ∙ led_short _ (search)
