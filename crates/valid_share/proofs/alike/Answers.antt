use mathlib.Core.Path.{◌∙◌}
use Rattle.valid_share.proofs.Renaming.{alike_types}
use Rattle.valid_share.proofs.alike.Goals as goal

pub returns-then-k-cell : goal.returns-then-k-cell
returns-then-k-cell c =
    λ z. alike_types _ _ _ _ _ (search) (search) (search) (search) _ _ _ _ _ (search) (c.if-k-cell.true ∙ c.cell.ensures.0) (search) (search) (search) (search) (c.alike_forms.ensures z)
