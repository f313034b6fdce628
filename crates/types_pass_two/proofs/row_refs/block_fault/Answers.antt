use Rattle.types_pass_two.proofs.row_refs.References.{block_least}
use Rattle.types_pass_two.proofs.row_refs.block_fault.Goals as goal

pub returns : goal.returns
returns c = λ ps. block_least _ ps _ _ _ (search)
