use Rattle.std.proofs.Common.{length, ap, arith}
use native.Mathlib.Nat.{le_refl}
use Rattle.text_lines.proofs.Parts.{first_end}
use Rattle.text_lines.proofs.InLine.{last_back}
use Rattle.text_lines.proofs.last_end.Goals as goal

pub loop-i-init : goal.loop-i-init
loop-i-init c =
    let q = ap length (first_end 10 c.args.text.now (length c.args.text.now) (le_refl (length c.args.text.now))) in
    omega arith

pub loop-i-preserved : goal.loop-i-preserved
loop-i-preserved c = last_back _ _ c.loop-i-test.true c.loop-i.auto.i c.if-text-i-eq10.false c.loop-i.invariant
