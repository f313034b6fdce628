use Prim.Native.Nat.{◌<◌}
use mathlib.Core.Path.{refl, ◌∙◌}
use native.Mathlib.Omega.{arith}
use Rattle.exec_run.proofs.Laws.{at_first, from_start, budget_left, goes, waits, stops, row_fit, row_inside, row_at}
use Rattle.exec_run.proofs.run_rows.Goals as goal

pub loop-to-init : goal.loop-to-init
loop-to-init c = (search, search, search, at_first (search) (search))

pub step-requires : goal.step-requires
step-requires c =
    (row_at c.requires.0 c.loop-to.invariant.3, row_fit c.requires.0 c.loop-to.invariant.3, omega (arith, c.requires.1, c.loop-to.invariant.0, c.loop-to.invariant.1, c.loop-to.invariant.2), row_inside c.loop-to.invariant.3)

pub overflow_sub-left : goal.overflow_sub-left
overflow_sub-left c =
    let left_over : 0 < c.loop-to.left = let g = c.loop-to.invariant.3 in
    budget_left g c.any_left.ensures (c.step.ensures _ _ c.requires.0.plan c.requires.0.fit g.place g.within refl refl refl refl)
    c.in-To.is in
    omega (arith, left_over)

pub loop-to-smaller : goal.loop-to-smaller
loop-to-smaller c =
    let left_over : 0 < c.loop-to.left = let g = c.loop-to.invariant.3 in
    budget_left g c.any_left.ensures (c.step.ensures _ _ c.requires.0.plan c.requires.0.fit g.place g.within refl refl refl refl)
    c.in-To.is in
    omega (arith, left_over)

pub loop-to-preserved : goal.loop-to-preserved
loop-to-preserved c =
    let g = c.loop-to.invariant.3 in
    (omega (arith, c.step.auto, c.loop-to.invariant.0), omega (arith, c.step.auto, c.loop-to.invariant.1), omega (arith, c.step.auto, c.loop-to.invariant.2), goes g c.any_left.ensures (c.step.ensures _ _ c.requires.0.plan c.requires.0.fit g.place g.within refl refl refl refl) c.in-To.is)

pub returns-in-Paused : goal.returns-in-Paused
returns-in-Paused c =
    let g = c.loop-to.invariant.3 in
    λ args P rep. waits g c.any_left.ensures (c.step.ensures _ _ c.requires.0.plan c.requires.0.fit g.place g.within refl refl refl refl) rep c.made.ensures c.place.ensures c.in-Paused.is ∙ from_start P _ _ _ _ _ _ _ _

pub returns-in-Ended : goal.returns-in-Ended
returns-in-Ended c =
    let g = c.loop-to.invariant.3 in
    λ args P rep. stops g c.any_left.ensures (c.step.ensures _ _ c.requires.0.plan c.requires.0.fit g.place g.within refl refl refl refl) rep c.made-in-Ended.ensures c.place-in-Ended.ensures c.in-Ended.is ∙ from_start P _ _ _ _ _ _ _ _
