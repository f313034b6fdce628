use Rattle.text.specs.Grammar.{index}
use Rattle.text_fields.proofs.numbers.index.Goals as goal

pub returns : goal.returns
unfolding index
returns c = c.number_in.ensures
