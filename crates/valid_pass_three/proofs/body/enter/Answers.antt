use Prim.Native.Nat.{ℕ, ◌+◌}
use mathlib.Core.Path.{refl, sym, subst, ◌∙◌}
use mathlib.Core.List.{List}
use native.Mathlib.Omega.{arith}
use Rattle.valid_pass_three.proofs.body.Registers.{Right, right_none, right_next, right_all, slot_below}
use Rattle.valid_pass_three.proofs.body.enter.Goals as goal

pub loop-i-init : goal.loop-i-init
loop-i-init c = (refl, right_none c.args.rows.now c.args.parts.now c.args.n c.args.h c.args.p c.args.regs.now)

pub link_of-requires : goal.link_of-requires
link_of-requires c =
    let l = c.requires.1.row in
    (c.requires.0.few, slot_below c.args.h (c.args.n + 3) c.part-s.result c.part-s.ensures.1 (omega arith))

pub put-requires : goal.put-requires
put-requires c =
    let l = c.loop-i.invariant.0 in
    let k = c.requires.2 in
    let i = c.loop-i-test.true in
    (omega arith, omega arith)

pub loop-i-preserved : goal.loop-i-preserved
loop-i-preserved c =
    let l = c.loop-i.invariant.0 in
    let k = c.requires.2 in
    let i = c.loop-i-test.true in (
      c.put.auto.s ∙ l,
      subst (λ (r : List ℕ). Right c.args.rows.now c.args.parts.now c.args.n c.args.h c.args.p r (c.loop-i.i + 1)) (sym c.put.ensures)
          (right_next c.args.rows.now c.args.parts.now c.args.n c.args.h c.args.p c.loop-i.regs c.loop-i.i c.link_of.result c.part-s.result (omega arith) c.loop-i.invariant.1
          c.part-s.ensures.0 (λ a. c.link_of.ensures.0 c.args.rows.now c.args.parts.now a c.requires.0)),
    )

pub returns : goal.returns
returns c = right_all _ _ _ _ _ _ _ c.loop-i-test.false (search)
