use Rattle.text_reader.proofs.Reading.{past_more, past_end}
use Rattle.text_reader.proofs.past.Goals as goal

pub returns-then-e-text : goal.returns-then-e-text
returns-then-e-text c = past_more c.args.text.now c.args.e c.if-e-text.true

pub returns-else-e-text : goal.returns-else-e-text
returns-else-e-text c = past_end c.args.text.now c.args.e c.if-e-text.false
