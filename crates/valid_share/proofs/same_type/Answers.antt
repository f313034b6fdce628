use Rattle.valid_share.proofs.Laws.{like_stacks, like_values}
use Rattle.valid_share.proofs.same_type.Goals as goal

pub returns-in-true-true : goal.returns-in-true-true
returns-in-true-true c =
    like_stacks _ _ _ _ (search) (search) c.in-true-true.ensures c.in-true-true.ensures' c.equal_stacks.ensures

pub returns-in-false-false : goal.returns-in-false-false
returns-in-false-false c =
    like_values _ _ _ _ (search) (search) c.in-false-false.ensures c.in-false-false.ensures' c.equal_values.ensures
