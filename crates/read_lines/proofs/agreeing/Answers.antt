use native.Mathlib.Omega.{arith}
use Rattle.read_lines.proofs.Walk.{agrees, goes_on, farther, ends}
use Rattle.read_lines.proofs.agreeing.Goals as goal

pub loop-at-smaller : goal.loop-at-smaller
loop-at-smaller c =
    let l = c.loop-at in
    let f = farther c.args.text.now l.at l.n l.agree l.invariant c.read-line.new.at c.loop-at-test.true c.read-line.ensures.1 in
    omega (arith, f.0, f.1)

pub loop-at-preserved : goal.loop-at-preserved
loop-at-preserved c =
    let l = c.loop-at in
    let k =
    agrees c.args.text.now l.at l.n l.agree l.invariant c.agreement-agree.result c.read-line.result.now c.line.result.now c.read-line.ensures.0 c.line.ensures
    c.agreement-agree.ensures
    in
    goes_on c.args.text.now l.at l.n l.agree l.invariant c.agreement-agree.result c.read-line.new.at c.loop-at-test.true k c.read-line.ensures.1

pub returns : goal.returns
returns c =
    let l = c.loop-at in
    ends c.args.text.now l.at l.n l.agree l.invariant c.loop-at-test.false
