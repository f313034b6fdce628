use Rattle.std.proofs.Common.{◌≡◌, ◌≤◌, length, drop, ap, arith}
use Rattle.text_lines.specs.Parts.{first_part}
use Rattle.text_lines.proofs.Parts.{first_end, first_here, first_on}
use Rattle.text_lines.proofs.part_end.Goals as goal

pub returns-then-s-i : goal.returns-then-s-i
returns-then-s-i c =
    omega (arith, ap length (first_here c.args.c c.args.s.now c.loop-i.i c.loop-i-test.true c.if-s-i.true))

pub loop-i-preserved : goal.loop-i-preserved
loop-i-preserved c =
    omega (arith, first_on c.args.c c.args.s.now c.loop-i.i c.loop-i-test.true c.if-s-i.false)

pub returns : goal.returns
returns c =
    let s = c.args.s.now in
    let past : length s ≤ c.args.at → length (first_part c.args.c (drop c.args.at s)) ≡ 0 = λ h. ap length (first_end c.args.c s c.args.at h) in
    grind (arith, past, ap length (first_end c.args.c s c.loop-i.i c.loop-i-test.false))
