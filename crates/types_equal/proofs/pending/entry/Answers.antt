use mathlib.Core.Path.{sym, ◌∙◌}
use Rattle.types_equal.proofs.pending.Sides.{side_at}
use Rattle.types_equal.proofs.pending.entry.Goals as goal

pub returns : goal.returns
returns c = c.half_of.ensures ∙ sym (side_at _ _ _)
