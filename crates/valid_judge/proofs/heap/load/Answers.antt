use native.Mathlib.Omega.{arith}
use mathlib.Core.Path.{◌≡◌, refl, sym, ◌∙◌}
use Rattle.std.specs.Prelude.{Err}
use Rattle.types.specs.Types.{junk}
use Rattle.faults.specs.Numbers.{number}
use Rattle.valid_context.specs.Told.{answer}
use Rattle.valid_context.proofs.Results.{answer_fault, some_fault, told_number}
use Rattle.valid_typing.proofs.Judging.{ld_stops, ld_goes}
use Rattle.valid_judge.specs.heap.Forms.{held}
use Rattle.valid_judge.proofs.heap.load.Goals as goal

pub returns-in_err-c : goal.returns-in_err-c
returns-in_err-c c =
    let e : c.from_residual.result ≡ Err c.in_err-c.field-0.0 = grind arith in
    let f = c.in_err-c.field-0.0 in
    rw e (λ Δ P s q. ld_stops P Δ (held s _) _ _ _ (number f) junk (held s s) (c.in_err-c.ensures.0 _ P Δ ∙ sym (answer_fault f junk)) (some_fault f) ∙ answer_fault f _, λ k. k)

pub set_register-requires : goal.set_register-requires
set_register-requires c =
    let f = c.in_ok-c.ensures.1 c.args.envs.now in
    let w = c.requires.0.few in
    (search, omega (arith, f.row_in), f.small)

pub returns : goal.returns
unfolding answer
returns c = (
  λ Δ P s e. ld_goes P Δ (held s _) _ _ _ 0 _ _ _ (c.in_ok-c.ensures.0 _ P Δ) refl (c.set_register.ensures.0 _ P Δ s ∙ told_number _ c.set_register.result) ∙ sym (told_number _ c.set_register.result),
  λ k. c.set_register.ensures.1 _ ((c.in_ok-c.ensures.1 c.args.envs.now).exists k) k,
)
