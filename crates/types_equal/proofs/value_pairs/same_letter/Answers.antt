use Rattle.types_equal.proofs.value_pairs.Letters.{letter_same}
use Rattle.types_equal.proofs.value_pairs.same_letter.Goals as goal

pub returns : goal.returns
returns c = letter_same _ _
