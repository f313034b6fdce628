use mathlib.Core.Path.{◌∙◌}
use Rattle.valid_typing.proofs.Forms.{same_self}
use Rattle.valid_typing.proofs.same_rows.Goals as goal

pub returns-then-same_at_sight : goal.returns-then-same_at_sight
returns-then-same_at_sight c = c.if-same_at_sight.true ∙ same_self _ _ (c.same_at_sight.ensures (search) _)
