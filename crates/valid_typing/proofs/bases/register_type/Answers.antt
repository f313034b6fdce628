use Rattle.valid_context.specs.Told.{answer}
use Rattle.types.specs.Types.{junk}
use Rattle.valid_context.specs.Context.{regs_of}
use Rattle.valid_typing.specs.Typing.{held_in}
use mathlib.Core.Path.{ap}
use Rattle.types_rows.specs.Environments.{read_in}
use Rattle.valid_typing.proofs.bases.Bases.{reg_none, reg_some}
use Rattle.valid_typing.proofs.bases.register_type.Goals as goal

pub returns-then-u-eq0 : goal.returns-then-u-eq0
unfolding answer
returns-then-u-eq0 c =
    (λ rows parts E P Δ r. reg_none P Δ (regs_of (held_in rows parts _ E) _) (held_in rows parts _ E) _ _ _ junk (c.register-u.ensures.0 (held_in rows parts _ E)) (search), λ E. tt)

pub returns : goal.returns
unfolding answer
returns c = (
  λ rows parts E P Δ r. reg_some P Δ (regs_of (held_in rows parts _ E) _) (held_in rows parts _ E) _ _ _ _ (c.register-u.ensures.0 (held_in rows parts _ E)) (search) (ap (read_in E _) (c.row_within.ensures.0 rows parts r)),
  λ E. record { row_in = c.row_within.ensures.1; small = c.register-u.ensures.2; exists = λ g. c.register-u.ensures.3 _ g },
)
