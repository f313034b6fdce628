use native.Mathlib.Omega.{arith}
use mathlib.Core.Path.{◌≡◌, refl, sym, ◌∙◌}
use Rattle.std.specs.Prelude.{Err}
use Rattle.faults.specs.Numbers.{number, refusal_number}
use Rattle.types.specs.Types.{nil}
use Rattle.valid_context.specs.Context.{context_of}
use Rattle.valid_context.specs.Told.{answer}
use Rattle.valid_context.proofs.Results.{answer_fault, some_fault, told_number}
use Rattle.valid_typing.specs.Typing.{held_in}
use Rattle.valid_typing.proofs.Judging.{slp_stops}
use Rattle.valid_judge.proofs.Results.{is_zero, not_zero, stopped, link_number}
use Rattle.valid_judge.proofs.stack.Laws.{tail_read}
use Rattle.valid_judge.proofs.through.Laws.{read_none, read, both_there}
use Rattle.valid_judge.proofs.through.load_through.Goals as goal

pub returns-in_err-x : goal.returns-in_err-x
returns-in_err-x c =
    let a = c.args in
    let f = c.in_err-x.field-0.0 in
    let e : c.from_residual.result ≡ Err f = grind arith in
    let Γ = context_of (held_in a.rows.now a.parts.now a.n a.envs.now) a.regs.now a.sp.now a.depth in
    rw e (λ Δ P q. slp_stops P Δ Γ a.d a.s a.i (number f) nil Γ (c.in_err-x.ensures.0 a.envs.now P Δ ∙ sym (answer_fault f nil)) (some_fault f) ∙ answer_fault f Γ, λ k. k)

pub returns-in_err-both : goal.returns-in_err-both
unfolding answer
returns-in_err-both c =
    let a = c.args in
    let T = held_in a.rows.now a.parts.now a.n a.envs.now in
    let e : c.from_residual-in_err-both.result ≡ Err c.in_err-both.field-0.0 = grind arith in
    let Γ = context_of T a.regs.now a.sp.now a.depth in
    let w = tail_read a.envs.now _ _ T a.sp.now a.depth c.is_tail-tail.result c.is_tail-tail.ensures in
    rw e (
      λ Δ P q. read_none P Δ T a.regs.now a.sp.now a.depth a.d a.s a.i 0 _ c.is_tail-tail.result _ c.row_item-u.result _ _ _ (c.in_ok-x.ensures.0 a.envs.now P Δ) refl w
          (c.row_item-u.ensures.0 _ _) c.holds_or.ensures (c.holds_or-2.ensures ∙ link_number 10 c.row_item-u.result) c.both.ensures Γ (not_zero c.in_err-both.was) ∙ stopped Γ c.in_err-both.was,
      λ k. k,
    )

pub overflow_sub-u : goal.overflow_sub-u
overflow_sub-u c =
    omega (arith, both_there c.row_item-u.result 10 _ _ _ (c.holds_or-2.ensures ∙ link_number 10 c.row_item-u.result) c.both.ensures (is_zero c.in_ok-both.was))

pub returns : goal.returns
unfolding answer
returns c =
    let a = c.args in
    let T = held_in a.rows.now a.parts.now a.n a.envs.now in
    let w = tail_read a.envs.now _ _ T a.sp.now a.depth c.is_tail-tail.result c.is_tail-tail.ensures in (
      λ Δ P q. read P Δ T a.regs.now a.sp.now a.depth a.d a.s a.i 0 _ c.is_tail-tail.result _ c.row_item-u.result _ _ _ (c.in_ok-x.ensures.0 a.envs.now P Δ) refl w
          (c.row_item-u.ensures.0 _ _) c.holds_or.ensures (c.holds_or-2.ensures ∙ link_number 10 c.row_item-u.result) c.both.ensures (refusal_number c.set_register.result) _ (is_zero c.in_ok-both.was)
          (c.set_register.ensures.0 _ P Δ _ ∙ told_number _ c.set_register.result) ∙ sym (told_number _ c.set_register.result),
      λ k. c.set_register.ensures.1 _ ((c.in_ok-x.ensures.1 a.envs.now).exists k) k,
    )
