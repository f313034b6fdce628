use Rattle.types_equal.proofs.filling.Itself.{stack_kept}
use Rattle.types_equal.proofs.filling.is_kept.Goals as goal

pub returns-then-x-y : goal.returns-then-x-y
returns-then-x-y c =
    λ t ρ b. stack_kept _ _ ρ _ _ _ _ b _ (search) (search) (c.requires.formed c.if-x-y.true.0) c.if-x-y.true.1 (c.all_themselves.ensures t)
