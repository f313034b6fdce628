use native.Mathlib.Omega.{arith}
use Rattle.valid_typing.proofs.target.Items.{ninety_nine, has_fault}
use Rattle.image.specs.Sections.{part}
use Rattle.valid_typing.proofs.target.target.Goals as goal

pub aimed-requires : goal.aimed-requires
unfolding part
aimed-requires c = (
  record { ready = c.requires.0.ready; few = c.requires.2.few; room = omega (arith, c.requires.0.room, c.operand.auto.pending) },
  c.in-Ok.ensures.1.row_in,
  c.in-Ok.ensures.1.small,
  c.requires.2.depth,
)

pub returns-in-Ok : goal.returns-in-Ok
unfolding part
returns-in-Ok c = λ P h. c.aimed.ensures P _ _ (c.in-Ok.ensures.0 P _ h ninety_nine)

pub returns-in-Err : goal.returns-in-Err
returns-in-Err c = λ P h. has_fault P _ _ _ c.in-Err.f _ c.of_operand.ensures (c.in-Err.ensures.0 P _ h ninety_nine)
