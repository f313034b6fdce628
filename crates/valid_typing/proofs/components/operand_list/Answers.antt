use native.Mathlib.Omega.{arith}
use Prim.Native.Nat.{◌*◌, ◌≤◌}
use mathlib.Core.Path.{refl, ◌∙◌}
use lib.ListN.{length, length-set}
use borrow.Author.Rules.{rules}
use Rattle.valid_typing.proofs.components.Lists.{short_before, list_none, list_all, next_ok, next_err}
use Rattle.valid_typing.proofs.operands.Filling.{ten}
use Rattle.valid_typing.proofs.components.operand_list.Goals as goal

pub loop-i-init : goal.loop-i-init
loop-i-init c = (omega arith, refl, refl, λ P h. list_none _ P _ _ _ _ _ _)

pub operand-requires : goal.operand-requires
operand-requires c = (search rules, short_before _ _ _ _ c.requires.1 (search) (search), omega arith, c.requires.3)

pub put-requires : goal.put-requires
put-requires c =
    let f = c.requires.2.few in
    let r = c.requires.2.room in
    (omega arith, omega arith)

pub loop-i-preserved-in-Ok : goal.loop-i-preserved-in-Ok
loop-i-preserved-in-Ok c =
    let l = c.loop-i in
    let q = c.put.ensures in
    let z : 2 * l.i ≤ length l.found = omega (arith, l.invariant.0, l.invariant.2, c.requires.2.room) in (
      omega (arith, l.invariant.0),
      c.operand.auto.pending ∙ l.invariant.1,
      rw q (simp length-set (search)),
      λ P h. rw q (next_ok _ P _ _ _ _ _ _ _ _ (search) (search) z (l.invariant.3 P h) _ _ (c.in-Ok.ensures.0 P _ h ten)),
    )

pub loop-i-preserved : goal.loop-i-preserved
loop-i-preserved c =
    let l = c.loop-i in
    let z : 2 * l.i ≤ length l.found = omega (arith, l.invariant.0, l.invariant.2, c.requires.2.room) in (
      omega (arith, l.invariant.0),
      c.operand.auto.pending ∙ l.invariant.1,
      l.invariant.2,
      λ P h. next_err _ P _ _ _ _ _ _ _ _ (search) (search) z (l.invariant.3 P h) c.in-Err.f _ c.both-all.ensures (c.in-Err.ensures.0 P _ h ten),
    )

pub returns : goal.returns
returns c =
    let l = c.loop-i in
    λ P h. list_all _ P _ _ _ _ _ _ _ _ (search) (l.invariant.3 P h)
