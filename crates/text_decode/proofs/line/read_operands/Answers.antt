use Rattle.std.proofs.Common.{◌+◌, ◌<◌, refl, arith}
use Rattle.image.specs.Sections.{part}
use Rattle.image.proofs.Laws.{nothing}
use Rattle.text_lines.specs.Parts.{InLine}
use Rattle.text_lines.proofs.InLine.{place_read, stop_on, stop_last, stop_behind}
use Rattle.text_decode.proofs.line.OperandLaws.{carried_by, operands_start, operands_end, operands_many, operand_few}
use Rattle.text_decode.proofs.line.OperandImage.{ordered_as, kinds_same, bad_in, bad_outside, on_in, on_outside}
use Rattle.text_decode.proofs.line.StopLaws.{operand_here, line_over}
use Rattle.text_decode.proofs.line.read_operands.Goals as goal

pub loop-i-init : goal.loop-i-init
loop-i-init c = (operands_start _ _ _ _ _ _, search, nothing _ _ _)

pub operand_at-requires : goal.operand_at-requires
operand_at-requires c = stop_on _ _ (search) (search)

pub returns-then-n-most : goal.returns-then-n-most
returns-then-n-most c =
    (operands_many _ _ _ _ _ _ _ _ _ _ c.loop-i.invariant.0 (stop_on _ _ (search) (search)).within (search), tt, search)

pub returns-in_err-x : goal.returns-in_err-x
unfolding part
returns-in_err-x c =
    let here = rw c.from.ensures at (operand_here _ _ _ refl _ _ _ _ c.in_err-x.ensures.read) in
    let o = ordered_as _ c.args.image.now c.loop-i.image c.loop-i.invariant.2.size c.requires.0 in
    let w = (stop_on _ _ c.loop-i.invariant.1 c.loop-i-test.true).within in
    rw c.from_residual.ensures (
      bad_in _ _ _ _ _ _ _ _ _ _ o _ _ _ c.loop-i.invariant.0 w _ refl _ c.operand_at.auto.out here,
      tt,
      bad_outside _ _ _ _ _ _ _ _ _ _ o _ _ _ c.loop-i.invariant.0 w _ refl _ c.operand_at.auto.out c.loop-i.invariant.2,
    )

pub put_operand-requires : goal.put_operand-requires
unfolding part
put_operand-requires c =
    let o = ordered_as c.args.p c.args.image.now c.loop-i.image c.loop-i.invariant.2.size c.requires.0 in
    let e = kinds_same c.args.p c.loop-i.image o c.operand_at.new.out c.operand_at.auto.out in
    (omega (arith, e, c.loop-i.invariant.0.few, c.loop-i.invariant.0.long_kinds, c.requires.1.kinds), omega (arith, c.loop-i.invariant.0.few, c.loop-i.invariant.0.long_numbers, c.requires.1.bases))

pub overflow_add-m : goal.overflow_add-m
unfolding part
overflow_add-m c =
    let stop_here : InLine c.args.rest.now (c.loop-i.i + 1) = stop_on c.args.rest.now c.loop-i.i c.loop-i.invariant.1 (search) in
    let e = c.in_ok-x.ensures.ends _ refl in
    let here = rw c.from.ensures at (operand_here _ _ _ e _ _ _ _ c.in_ok-x.ensures.read) in
    let f = operand_few _ _ _ _ _ _ _ _ _ _ c.loop-i.invariant.0 stop_here.within _ e _ _ here in
    omega arith

pub loop-i-smaller : goal.loop-i-smaller
loop-i-smaller c =
    let stop_here : InLine c.args.rest.now (c.loop-i.i + 1) = stop_on c.args.rest.now c.loop-i.i c.loop-i.invariant.1 (search) in
    let e = c.in_ok-x.ensures.ends _ refl in
    let w = stop_behind _ _ _ stop_here e in
    let h = place_read _ _ w.place in
    omega arith

pub loop-i-preserved : goal.loop-i-preserved
unfolding part
loop-i-preserved c =
    let stop_here : InLine c.args.rest.now (c.loop-i.i + 1) = stop_on c.args.rest.now c.loop-i.i c.loop-i.invariant.1 (search) in
    let one_more_lem : c.loop-i.n < c.args.most = omega (arith, c.loop-i.invariant.0.few) in
    let e = c.in_ok-x.ensures.ends _ refl in
    let here = rw c.from.ensures at (operand_here _ _ _ e _ _ _ _ c.in_ok-x.ensures.read) in
    let o = ordered_as _ c.args.image.now c.loop-i.image c.loop-i.invariant.2.size c.requires.0 in
    let w = stop_here in (
      on_in _ _ _ _ _ _ _ _ _ _ o _ _ _ c.loop-i.invariant.0 w.within _ e _ c.operand_at.auto.out _ here _
          c.put_operand.auto.operands one_more_lem c.requires.1 (rw (c.from.ensures, c.from-in-loop-i.ensures) at c.put_operand.ensures.0) _ (rw c.from-in-loop-i.ensures at c.put_operand.ensures.1),
      stop_behind _ _ _ w e,
      on_outside _ _ _ _ _ _ _ _ _ _ o _ _ _ c.loop-i.invariant.0 w.within _ e _ c.operand_at.auto.out _
          here c.put_operand.new.operands c.put_operand.auto.operands c.loop-i.invariant.2,
    )

pub returns : goal.returns
returns c = (
  operands_end _ _ _ _ _ _ _ _ _ _ c.loop-i.invariant.0 (line_over _ _ (search) (search)) _,
  (stop_last _ _ (search) (search), carried_by _ _ c.loop-i.invariant.0 (let e = stop_last _ _ c.loop-i.invariant.1 (search) in omega arith) (search)),
  search,
)

pub shape_of-image-then-n-most : goal.shape_of-image-then-n-most
shape_of-image-then-n-most c = c.loop-i.invariant.2.size

pub shape_of-numbers-then-n-most : goal.shape_of-numbers-then-n-most
shape_of-numbers-then-n-most c = c.loop-i.invariant.0.long_numbers

pub shape_of-image : goal.shape_of-image
shape_of-image c = c.loop-i.invariant.2.size

pub shape_of-numbers : goal.shape_of-numbers
shape_of-numbers c = c.loop-i.invariant.0.long_numbers
