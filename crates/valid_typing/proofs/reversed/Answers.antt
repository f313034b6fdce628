use Prim.Native.Nat.{◌≤◌}
use native.Mathlib.Omega.{arith}
use mathlib.Core.Path.{refl, ap, ◌∙◌}
use lib.ListN.{length, length-set}
use Rattle.valid_typing.specs.Typing.{given_row}
use Rattle.valid_typing.proofs.Args.{back_none, back_next, back_all}
use Rattle.valid_typing.proofs.reversed.Goals as goal

pub loop-i-init : goal.loop-i-init
loop-i-init c = (refl, back_none _ _ _ _ _ c.requires.1)

pub loop-i-preserved : goal.loop-i-preserved
loop-i-preserved c =
    let h : c.args.c ≤ length c.loop-i.back = omega (arith, c.loop-i.invariant.0, c.requires.1) in
    (simp length-set c.loop-i.invariant.0, back_next _ _ _ _ _ _ c.given_row.result c.loop-i-test.true h (c.given_row.ensures.0 ∙ ap (given_row _) c.at.ensures.0) c.loop-i.invariant.1)

pub returns : goal.returns
returns c = back_all _ _ _ _ _ _ c.loop-i.auto.i-end (search) (search)
