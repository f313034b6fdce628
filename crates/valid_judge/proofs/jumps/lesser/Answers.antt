use Rattle.std.proofs.Common.{arith, sym, refl}
use Rattle.faults.proofs.Numbers.{number_above, least_above, least_right}
use Rattle.faults.specs.Numbers.{number}
use Rattle.valid_judge.proofs.jumps.lesser.Goals as goal

pub returns-in-Ok : goal.returns-in-Ok
returns-in-Ok c = rw c.in-Ok.is (sym (least_right (number c.args.f) (number_above c.args.f)), refl)

pub returns-then-number : goal.returns-then-number
returns-then-number c =
    let g = c.in-Err.m.fault in
    (rw (c.in-Err.is, least_above (number c.args.f) (number g) (number_above c.args.f) (number_above g)) (omega (arith, c.number.ensures, c.number-in-Err.ensures, c.if-number.true)), refl)

pub returns-else-number : goal.returns-else-number
returns-else-number c =
    let g = c.in-Err.m.fault in
    (rw (c.in-Err.is, least_above (number c.args.f) (number g) (number_above c.args.f) (number_above g)) (omega (arith, c.number.ensures, c.number-in-Err.ensures, c.if-number.false)), refl)
