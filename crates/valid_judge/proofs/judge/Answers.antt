use native.Mathlib.Omega.{arith}
use Rattle.valid_typing.proofs.target.Items.{answered_ok}
use Rattle.valid_judge.proofs.Small.{flat}
use Rattle.valid_judge.proofs.Laws.{plain, goes_on, goes_open}
use Rattle.image.specs.Sections.{part}
use Rattle.valid_judge.specs.Image.{after}
use Rattle.std.specs.Prelude.{Some, None}
use Rattle.valid_judge.proofs.judge.Goals as goal

pub open_form-o-requires : goal.open_form-o-requires
unfolding part
open_form-o-requires c =
    let g = c.requires.3 in
    (c.requires.0, c.requires.2, record { few = g.room.few; registers = g.room.registers; hidden = g.hidden }, record { code = c.cell-k.ensures.0; is = search })

pub operand_form-requires : goal.operand_form-requires
unfolding part
operand_form-requires c =
    (c.requires.0, c.requires.2, c.requires.3.room, record { code = search; which = c.has_operands.ensures.has (search) })

pub plain_form-requires : goal.plain_form-requires
unfolding part
plain_form-requires c =
    let h = c.has_operands.ensures.lacks (search) in
    let w = c.requires.1 in
    (c.requires.0, record { flat = flat _ _ _ c.requires.0.ready w.small w.few; room = w.room }, c.requires.3.room, record { code = search; from = h.0; no_malloc = h.1; no_jump = h.2; no_unpack = c.if-k-eq23.false })

pub returns-in-Ok : goal.returns-in-Ok
unfolding part
returns-in-Ok c =
    let g = c.requires.3 in (
      λ P h. answered_ok _ _ (record { depth = c.args.y.depth; opened = Some c.in-Ok.e }) (c.in-Ok.ensures.told P _ _ h g.known g.held),
      g.room.depth,
      goes_open _ _ _ _ _ _ _ c.cell-k.ensures.0 _ _ _ c.if-k-eq23.true g.hidden g.held.sp_in (c.in-Ok.ensures.goes g.known g.held.regs_in),
    )

pub returns-in-Err : goal.returns-in-Err
unfolding part
returns-in-Err c =
    let g = c.requires.3 in
    (λ P h. plain P _ _ _ _ _ c.in-Err.fault _ _ c.cell-k.ensures.0 (λ x. omega (arith, c.if-k-eq23.true)) (λ x. omega (arith, c.if-k-eq23.true)) (c.in-Err.ensures.told P _ _ h g.known g.held), tt, tt)

pub returns-then-has_operands : goal.returns-then-has_operands
unfolding part after
returns-then-has_operands c =
    let g = c.requires.3 in (
      λ P h. answered_ok _ _ (record { depth = c.args.y.depth; opened = None }) (c.in_ok-operand_form.ensures.0 P h).told,
      g.room.depth,
      goes_on _ _ _ _ _ _ _ c.cell-k.ensures.0 _ _ _ c.if-k-eq23.false g.hidden g.known g.room.few
          (record { regs_in = c.operand_form.ensures.1 g.held.regs_in; sp_in = g.held.sp_in }),
    )

pub returns-in-Ok-plain_form : goal.returns-in-Ok-plain_form
unfolding part after
returns-in-Ok-plain_form c =
    let g = c.requires.3 in (
      λ P h. answered_ok _ _ (record { depth = c.in-Ok-plain_form.depth; opened = None }) (c.in-Ok-plain_form.ensures.0 P _ h.types),
      c.in-Ok-plain_form.ensures.1,
      goes_on _ _ _ _ _ _ _ c.cell-k.ensures.0 _ _ _ c.if-k-eq23.false g.hidden g.known g.room.few (c.in-Ok-plain_form.ensures.2 g.held),
    )

pub returns-in-Err-plain_form : goal.returns-in-Err-plain_form
unfolding part
returns-in-Err-plain_form c =
    (λ P h. plain P _ _ _ _ _ c.in-Err-plain_form.fault _ _ c.cell-k.ensures.0 (λ x. let l = (c.has_operands.ensures.lacks (search)).0 in omega arith) (c.has_operands.ensures.lacks (search)).2 (c.in-Err-plain_form.ensures.0 P _ h.types), tt, tt)
