use native.Mathlib.Omega.{arith}
use mathlib.Core.Path.{◌≡◌, refl, sym, ◌∙◌}
use Rattle.std.specs.Prelude.{Err}
use Rattle.syntax.specs.Syntax.{value}
use Rattle.faults.specs.Numbers.{number}
use Rattle.types.specs.Rows.{type_at}
use Rattle.types_rows.proofs.Environments.{read_now}
use Rattle.valid_context.specs.Told.{answer}
use Rattle.valid_context.proofs.Results.{answer_fault, some_fault, told_number}
use Rattle.valid_judge.specs.heap.Forms.{held}
use Rattle.valid_judge.proofs.heap.Laws.{given_type, now_told}
use Rattle.valid_judge.proofs.values.Laws.{sees_none, sees}
use Rattle.valid_judge.proofs.values.make_tuple.Goals as goal

pub plain_tuple-requires : goal.plain_tuple-requires
plain_tuple-requires c =
    let k = c.requires.0.ready.few in
    (record { ordered = c.requires.0.ordered; ready = c.requires.0.ready; few = c.requires.2.few }, c.requires.1.last, omega (arith, c.given_row-r.ensures.1))

pub returns-in_err-formed_row : goal.returns-in_err-formed_row
returns-in_err-formed_row c =
    let e : c.from_residual.result ≡ Err c.in_err-formed_row.field-0.0 = grind arith in
    let f = c.in_err-formed_row.field-0.0 in
    rw e (λ P b h. sees_none P _ (held b _) _ _ _ (number f) (type_at value _ c.given_row-r.result) (c.in_err-formed_row.ensures P h.types ∙ sym (answer_fault f tt)) (c.plain_tuple.ensures c.if-not-plain_tuple.false P _ _ h) (held b b) (some_fault f) ∙ answer_fault f _, λ k. k)

pub set_register-requires : goal.set_register-requires
set_register-requires c =
    let k = c.requires.0.ready.few in
    (c.requires.2.registers, omega (arith, c.given_row-r.ensures.1), omega (arith, c.requires.2.few))

pub returns : goal.returns
unfolding answer
returns c = (
  λ P b h. sees P _ (held b _) _ _ _ 0 (type_at value _ c.given_row-r.result) (c.in_ok-formed_row.ensures P
      h.types) (c.plain_tuple.ensures c.if-not-plain_tuple.false P _ _ h) _ _ refl (given_type _ _ _ P _
      c.given_row-r.ensures.0 h.types c.requires.0.ready) (now_told P _ _ _ (read_now _ _) (c.set_register.ensures.0 _ P _ b) ∙ told_number _ c.set_register.result) ∙ sym (told_number _ c.set_register.result),
  λ k. c.set_register.ensures.1 _ (omega arith) k,
)
