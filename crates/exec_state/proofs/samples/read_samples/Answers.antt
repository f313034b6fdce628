use borrow.Author.Rules.{rules}
use mathlib.Core.Path.{refl}
use Prim.Native.Nat.{◌≤◌}
use native.Mathlib.Omega.{arith}
use lib.ListN.{length}
use Rattle.exec_state.proofs.samples.Laws.{at_first, all_read, not_ended, too_many, malformed, one_read}
use Rattle.exec_state.proofs.samples.read_samples.Goals as goal

pub loop-at-init : goal.loop-at-init
loop-at-init c = (search rules, search rules, refl, at_first _ c.args.out.now)

pub returns-then-text-e : goal.returns-then-text-e
returns-then-text-e c =
    let w : c.args.want ≤ length c.loop-at.out = omega (arith, c.requires, c.loop-at.invariant.2) in
    not_ended _ _ _ _ _ c.loop-at.invariant.3 c.loop-at.invariant.1 w _ c.loop-at-test.true c.line_end-e.ensures (search)

pub returns-then-want-n : goal.returns-then-want-n
returns-then-want-n c =
    let w : c.args.want ≤ length c.loop-at.out = omega (arith, c.requires, c.loop-at.invariant.2) in
    too_many _ _ _ _ _ c.loop-at.invariant.3 c.loop-at.invariant.1 w _ c.loop-at-test.true c.line_end-e.ensures (search) (search)

pub loop-at-preserved : goal.loop-at-preserved
loop-at-preserved c =
    let w : c.args.want ≤ length c.loop-at.out = omega (arith, c.requires, c.loop-at.invariant.2) in
    (search rules, search rules, search rules, one_read _ _ _ _ _ c.loop-at.invariant.3 c.loop-at.invariant.1 w _ c.loop-at-test.true c.line_end-e.ensures c.if-text-e.false c.in-Some.v c.in-Some.ensures c.if-want-n.false)

pub returns-in_default : goal.returns-in_default
returns-in_default c =
    let w : c.args.want ≤ length c.loop-at.out = omega (arith, c.requires, c.loop-at.invariant.2) in
    malformed _ _ _ _ _ c.loop-at.invariant.3 c.loop-at.invariant.1 w _ c.loop-at-test.true c.line_end-e.ensures (search) c.in_default.ensures

pub returns : goal.returns
returns c =
    let w : c.args.want ≤ length c.loop-at.out = omega (arith, c.requires, c.loop-at.invariant.2) in
    all_read _ _ _ _ _ c.loop-at.invariant.3 c.loop-at.invariant.1 w c.loop-at-test.false
