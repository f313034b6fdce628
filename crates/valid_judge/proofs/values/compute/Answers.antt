use native.Mathlib.Omega.{arith}
use mathlib.Core.Path.{◌≡◌, refl, sym, ◌∙◌}
use Rattle.std.specs.Prelude.{Err}
use Rattle.faults.specs.Numbers.{number}
use Rattle.valid.specs.PassThree.{operand}
use Rattle.valid_context.proofs.Results.{some_fault, told_number}
use Rattle.valid_typing.proofs.operands.Filling.{ten}
use Rattle.valid_judge.specs.heap.Forms.{held}
use Rattle.valid_judge.proofs.heap.Laws.{renumber}
use Rattle.valid_judge.proofs.values.Laws.{computes_none, computes, int_type, row_small}
use Rattle.image.specs.Sections.{part}
use Rattle.valid_judge.proofs.values.compute.Goals as goal

pub operand-t-requires : goal.operand-t-requires
operand-t-requires c = (c.requires.0, c.requires.1, c.requires.2, c.requires.3.few)

pub integral-g-requires : goal.integral-g-requires
unfolding part
integral-g-requires c = (c.requires.0.ready, row_small c.requires.0.ready.few _ _ c.operand-t.result c.operand-t.ensures.1)

pub integer-requires : goal.integer-requires
unfolding part
integer-requires c = c.requires.0.ready

pub returns-in_err-both : goal.returns-in_err-both
unfolding part
returns-in_err-both c =
    let e : c.from_residual.result ≡ Err c.in_err-both.field-0.0 = grind arith in
    let f = c.in_err-both.field-0.0 in
    rw e (
      λ o P z h. computes_none P _ (held z _) o _ _ _ _ _ (number f) (c.integer.ensures _ P _ ∙ told_number tt _) (c.integral-g.ensures _ (operand P _ _ _ _) (c.operand-t.ensures.0 P _ h ten) ∙ told_number tt _)
          c.in_err-both.ensures (held z z) (some_fault f) ∙ renumber f _ refl,
      λ k. k,
    )

pub set_register-requires : goal.set_register-requires
set_register-requires c =
    let k = c.requires.0.ready.few in
    let e = c.requires.3.few in
    (c.requires.3.registers, omega arith, omega arith)

pub returns : goal.returns
unfolding part
returns c = (
  λ o P z h. computes P _ (held z _) o _ _ _ _ _ 0 (c.integer.ensures _ P _ ∙ told_number tt _) (c.integral-g.ensures _
      (operand P _ _ _ _) (c.operand-t.ensures.0 P _ h ten) ∙ told_number tt _) c.in_ok-both.ensures _ _ _ refl
      (int_type _ _ _ _ c.requires.0.ready) (c.set_register.ensures.0 _ P _ z ∙ told_number _ c.set_register.result) ∙ sym (told_number _ c.set_register.result),
  λ k. c.set_register.ensures.1 _ (omega arith) k,
)
