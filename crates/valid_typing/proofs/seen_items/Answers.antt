use native.Mathlib.Omega.{arith}
use borrow.Author.Tests.{eqb-true}
use Rattle.types_rows.proofs.Laws.{ok_form}
use Rattle.valid_typing.specs.Typing.{held_in}
use Rattle.valid_typing.proofs.Seen.{seen_nil, seen_variable, seen_push}
use Rattle.valid_typing.proofs.seen_items.Goals as goal

pub returns-in-Nil : goal.returns-in-Nil
returns-in-Nil c =
    λ z E. c.loop-k.invariant.2 E (seen_nil _ _ _ E _ _ _ _ c.read_stack.ensures.0 (search) (eqb-true _ 0 z))

pub returns-in-StkVar : goal.returns-in-StkVar
returns-in-StkVar c =
    λ z E. c.loop-k.invariant.2 E (seen_variable _ _ _ E _ _ _ _ c.read_stack.ensures.0 c.in-StkVar.k c.in-StkVar.is (c.lone_variable.ensures z (held_in _ _ _ E)))

pub loop-k-smaller : goal.loop-k-smaller
loop-k-smaller c =
    let k = ok_form 0 _ c.read_stack.ensures.1 c.in-Push.is in
    k.1

pub loop-k-preserved : goal.loop-k-preserved
loop-k-preserved c =
    let k = ok_form 0 _ c.read_stack.ensures.1 c.in-Push.is in
    let k1 = k.1 in
    let o = c.seen_item.ensures c.if-not-seen_item.false in (
      omega (arith, c.loop-k.invariant.0),
      omega (arith, c.loop-k.invariant.1),
      λ E z. c.loop-k.invariant.2 E (seen_push _ _ _ E _ _ _ _ c.read_stack.ensures.0 c.in-Push.t c.in-Push.z _ _
          c.in-Push.is (omega (arith, c.if-i-eq0.false)) c.cell-u.ensures.0 c.cell.ensures.0 o.0 (o.1 E) z),
    )
