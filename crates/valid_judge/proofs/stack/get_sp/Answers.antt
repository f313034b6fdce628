use native.Mathlib.Omega.{arith}
use mathlib.Core.Path.{◌≡◌, sym, ◌∙◌}
use Rattle.std.specs.Prelude.{Err}
use Rattle.faults.specs.Numbers.{refusal_number}
use Rattle.valid_context.specs.Context.{context_of}
use Rattle.valid_context.proofs.Results.{told_number}
use Rattle.valid_judge.proofs.Results.{is_zero, not_zero, stopped}
use Rattle.valid_judge.proofs.heap.Laws.{given_same}
use Rattle.valid_judge.proofs.stack.Laws.{got_none, got}
use Rattle.valid_typing.specs.Image.{read_at}
use Rattle.image.specs.Sections.{part}
use Rattle.valid_judge.proofs.stack.get_sp.Goals as goal

pub points-same-requires : goal.points-same-requires
unfolding part
points-same-requires c =
    let k = c.requires.0.ready.few in
    let w = c.requires.1 in
    (record { ready = c.requires.0.ready; few = w.few; room = c.requires.0.room }, omega (arith, w.depth), omega (arith, c.given_row-r.ensures.1), omega (arith, w.few))

pub returns-in_err-both : goal.returns-in_err-both
unfolding part
returns-in_err-both c =
    let a = c.args in
    let e : c.from_residual.result ≡ Err c.in_err-both.field-0.0 = grind arith in
    let Γ = context_of (read_at a.p a.image.now a.n a.envs.now) a.regs.now a.sp.now a.depth in
    rw e (
      λ P q. got_none P _ _ _ _ _ _ _ _ _ _ _ (c.formed_row.ensures P q ∙ told_number tt c.formed_row.result) c.points-same.ensures
          (given_same _ _ _ _ P _ c.given_row-r.ensures.0 q c.requires.0.ready) c.holds_or.ensures
          c.both.ensures _ Γ (not_zero c.in_err-both.was) ∙ stopped Γ c.in_err-both.was,
      λ k. k,
    )

pub set_register-requires : goal.set_register-requires
set_register-requires c =
    let k = c.requires.0.ready.few in
    (c.requires.1.registers, omega (arith, c.given_row-r.ensures.1), omega (arith, c.requires.1.few))

pub returns : goal.returns
unfolding part
returns c = (
  λ P q. got P _ _ _ _ _ _ _ _ _ _ _ (c.formed_row.ensures P q ∙ told_number tt c.formed_row.result) c.points-same.ensures
      (given_same _ _ _ _ P _ c.given_row-r.ensures.0 q c.requires.0.ready) c.holds_or.ensures c.both.ensures
      _ (refusal_number c.set_register.result) _ (is_zero c.in_ok-both.was) (c.set_register.ensures.0 _ P _ _ ∙ told_number _ c.set_register.result) ∙ sym (told_number _ c.set_register.result),
  λ k. c.set_register.ensures.1 _ (omega arith) k,
)
