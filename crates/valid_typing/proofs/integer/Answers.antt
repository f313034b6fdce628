use Rattle.valid_context.specs.Told.{answer}
use Rattle.valid_context.proofs.Results.{number_told}
use mathlib.Core.Path.{◌∙◌}
use Rattle.valid_typing.proofs.Forms.{int_unknown, int_is}
use Rattle.valid_typing.specs.Typing.{held_in}
use Rattle.valid_typing.proofs.integer.Goals as goal

pub returns-then-u-eq0 : goal.returns-then-u-eq0
unfolding answer
returns-then-u-eq0 c = λ E P Δ. int_unknown P Δ _ _ _ _ _ (c.register-u.ensures.0 (held_in _ _ _ E)) (search)

pub returns : goal.returns
returns c =
    λ E P Δ. int_is P Δ _ _ _ _ _ (c.register-u.ensures.0 (held_in _ _ _ E)) c.is_int.result (search) (c.is_int.ensures E _) ∙ number_told tt c.holds_or.result c.holds_or.ensures
