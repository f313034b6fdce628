use Rattle.std.proofs.Common.{refl, ap, ◌∙◌, arith, zero-le}
use Rattle.text_lines.proofs.InLine.{place_read, stop_on, stop_last, stop_behind}
use Rattle.text_decode.specs.line.Fields.{part_number}
use Rattle.text_decode.proofs.line.FieldLaws.{part_small}
use Rattle.text_decode.proofs.line.PartLaws.{parts_start, parts_end, parts_bad, parts_on, parts_many}
use Rattle.text_decode.proofs.line.StopLaws.{field_here, line_over}
use Rattle.text_decode.proofs.line.read_parts.Goals as goal

pub loop-i-init : goal.loop-i-init
loop-i-init c = (parts_start _ _ c.args.known _ _ _, search)

pub part_at-requires : goal.part_at-requires
part_at-requires c = stop_on _ _ (search) (search)

pub returns-then-n-most : goal.returns-then-n-most
returns-then-n-most c =
    (parts_many _ _ c.args.known _ _ _ _ _ _ c.loop-i.invariant.0 (stop_on _ _ (search) (search)).within (search), tt)

pub returns-in_err-x : goal.returns-in_err-x
returns-in_err-x c =
    rw c.from_residual.ensures (
      parts_bad _ _ c.args.known _ _ _ _ _ _ c.loop-i.invariant.0 (stop_on _ _ c.loop-i.invariant.1 c.loop-i-test.true).within _ refl
          (ap (part_number c.args.known) (field_here _ _ _ refl) ∙ c.in_err-x.ensures),
      tt,
    )

pub overflow_cast-parts : goal.overflow_cast-parts
overflow_cast-parts c = omega (arith, part_small c.args.known _ _ c.in_ok-x.ensures.says)

pub loop-i-smaller : goal.loop-i-smaller
loop-i-smaller c =
    let e = c.in_ok-x.ensures.ends in
    let w = stop_behind _ _ _ (stop_on _ _ (search) (search)) e in
    let h = place_read _ _ w.place in
    omega arith

pub loop-i-preserved : goal.loop-i-preserved
loop-i-preserved c =
    let e = c.in_ok-x.ensures.ends in
    let v = c.in_ok-x.ensures.says in
    let here = stop_on _ _ c.loop-i.invariant.1 c.loop-i-test.true in (
      rw c.from.ensures (parts_on _ _ c.args.known _ _ _ _ _ _ c.loop-i.invariant.0 here.within _ e
          _ (ap (part_number c.args.known) (field_here _ _ _ e) ∙ v) (let q = c.if-n-most.false in omega (arith, c.loop-i.invariant.0.few))
          (let q = c.if-n-most.false in omega (arith, c.loop-i.invariant.0.few, c.loop-i.invariant.0.as_long))),
      stop_behind _ _ _ here e,
    )

pub returns : goal.returns
returns c = (
  parts_end _ _ c.args.known _ _ _ _ _ _ c.loop-i.invariant.0 (line_over _ _ (search) (search)) _,
  (stop_last _ _ (search) (search), (zero-le, zero-le)),
)
