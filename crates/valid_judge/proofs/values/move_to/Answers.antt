use native.Mathlib.Omega.{arith}
use mathlib.Core.Path.{◌≡◌, refl, sym, ◌∙◌}
use Rattle.std.specs.Prelude.{Err}
use Rattle.types.specs.Types.{junk}
use Rattle.faults.specs.Numbers.{number}
use Rattle.valid_context.specs.Told.{answer}
use Rattle.valid_context.proofs.Results.{answer_fault, some_fault, told_number}
use Rattle.valid_typing.proofs.Judging.{mov_stops, mov_goes}
use Rattle.valid_typing.proofs.operands.Filling.{ten}
use Rattle.valid_judge.specs.heap.Forms.{held}
use Rattle.valid_judge.proofs.values.move_to.Goals as goal

pub operand-requires : goal.operand-requires
operand-requires c = (c.requires.0, c.requires.1, c.requires.2, c.requires.3.few)

pub returns-in_err-t : goal.returns-in_err-t
returns-in_err-t c =
    let e : c.from_residual.result ≡ Err c.in_err-t.field-0.0 = grind arith in
    let f = c.in_err-t.field-0.0 in
    rw e (λ P b h. mov_stops P _ (held b _) _ _ (number f) junk (held b b) (c.in_err-t.ensures.0 P _ h ten ∙ sym (answer_fault f junk)) (some_fault f) ∙ answer_fault f _, λ k. k)

pub set_register-requires : goal.set_register-requires
set_register-requires c =
    let f = c.in_ok-t.ensures.1 in
    let k = c.requires.0.ready.few in
    (c.requires.3.registers, omega (arith, f.row_in), f.small)

pub returns : goal.returns
unfolding answer
returns c = (
  λ P b h. mov_goes P _ (held b _) _ _ 0 _ _ _ (c.in_ok-t.ensures.0 P _ h ten) refl (c.set_register.ensures.0 _ P _ b ∙ told_number _ c.set_register.result) ∙ sym (told_number _ c.set_register.result),
  λ k. c.set_register.ensures.1 _ (c.in_ok-t.ensures.1.exists k) k,
)
