use native.Mathlib.Omega.{arith}
use mathlib.Core.Path.{◌≡◌, refl, sym, ◌∙◌}
use Rattle.std.specs.Prelude.{Err}
use Rattle.syntax.specs.Syntax.{value}
use Rattle.faults.specs.Numbers.{number}
use Rattle.types_rows.proofs.Environments.{read_now}
use Rattle.types.specs.Rows.{type_at}
use Rattle.valid_context.specs.Told.{answer}
use Rattle.valid_context.proofs.Results.{answer_fault, some_fault, told_number}
use Rattle.valid_judge.specs.heap.Forms.{held}
use Rattle.valid_judge.proofs.heap.Laws.{given_type, now_told}
use Rattle.valid_judge.proofs.values.Laws.{makes_none, makes_other, makes}
use Rattle.image.specs.Sections.{part}
use Rattle.valid_judge.proofs.values.make_listed.Goals as goal

pub operand_list-g-requires : goal.operand_list-g-requires
operand_list-g-requires c =
    let o = c.requires.1 in
    (c.requires.0, o.short, record { last = o.last; few = omega (arith, o.few); room = omega (arith, o.few) }, c.requires.2.few)

pub returns-in_err-both : goal.returns-in_err-both
returns-in_err-both c =
    let e : c.from_residual.result ≡ Err c.in_err-both.field-0.0 = grind arith in
    let f = c.in_err-both.field-0.0 in
    rw e (λ P b h. makes_none P _ (held b _) _ _ _ _ _ (number f) _ (c.formed_row.ensures P h.types ∙ told_number tt _) (c.operand_list-g.ensures P h ∙ told_number _ _) c.in_err-both.ensures (held b b) (some_fault f) ∙ answer_fault f _, λ k. k)

pub same_tuple-requires : goal.same_tuple-requires
unfolding part
same_tuple-requires c =
    let k = c.requires.0.ready.few in
    (record { ready = c.requires.0.ready; few = c.requires.2.few; room = omega (arith, c.requires.0.room) }, omega (arith, c.given_row-r.ensures.1))

pub set_register-requires : goal.set_register-requires
set_register-requires c =
    (search, omega (arith, c.given_row-r.ensures.1, c.requires.0.ready.few), omega (arith, c.requires.2.few))

pub returns-then-not-same_tuple : goal.returns-then-not-same_tuple
unfolding part answer
returns-then-not-same_tuple c = (
  λ P b h. makes_other P _ (held b _) _ _ _ _ _ 0 _ (c.formed_row.ensures P h.types ∙ told_number tt _)
      (c.operand_list-g.ensures P h ∙ told_number _ _) c.in_ok-both.ensures (type_at value _ c.given_row-r.result) _
      refl (given_type _ _ _ P _ c.given_row-r.ensures.0 h.types c.requires.0.ready)
      c.same_tuple.ensures (held b b) c.if-not-same_tuple.true,
  λ k. k,
)

pub returns : goal.returns
unfolding part
returns c = (
  λ P b h. makes P _ (held b _) _ _ _ _ _ 0 _ (c.formed_row.ensures P h.types ∙ told_number tt _) (c.operand_list-g.ensures P
      h ∙ told_number _ _) c.in_ok-both.ensures (type_at value _ c.given_row-r.result) _ refl (given_type _ _ _ P _
      c.given_row-r.ensures.0 h.types c.requires.0.ready) c.same_tuple.ensures _ _ c.if-not-same_tuple.false
      (now_told P _ _ _ (read_now _ _) (c.set_register.ensures.0 _ P _ b) ∙ told_number _ c.set_register.result) ∙ sym (told_number _ c.set_register.result),
  λ k. c.set_register.ensures.1 _ (omega arith) k,
)
