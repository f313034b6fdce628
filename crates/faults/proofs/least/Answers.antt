use Rattle.std.proofs.Common.{arith, ◌∙◌, ap, sym}
use Rattle.faults.proofs.Numbers.{number_above, least_above, least_right, least_left}
use Rattle.faults.specs.Numbers.{number}
use Rattle.faults.proofs.least.Goals as goal

pub returns-then-number : goal.returns-then-number
returns-then-number c =
    let p = c.in-Some-Some in
    rw (p.is-0, p.is-1, least_above (number p.f) (number p.g) (number_above p.f) (number_above p.g)) (omega (arith, c.number.ensures, c.number-in-Some-Some.ensures, c.if-number.true))

pub returns-else-number : goal.returns-else-number
returns-else-number c =
    let p = c.in-Some-Some in
    rw (p.is-0, p.is-1, least_above (number p.f) (number p.g) (number_above p.f) (number_above p.g)) (omega (arith, c.number.ensures, c.number-in-Some-Some.ensures, c.if-number.false))

pub returns-in-Some-None : goal.returns-in-Some-None
returns-in-Some-None c =
    let p = c.in-Some-None in
    rw (p.is-0, p.is-1) (sym (least_right (number p.f) (number_above p.f)))

pub returns-in-None-default : goal.returns-in-None-default
returns-in-None-default c = rw c.in-None-default.is-0 (sym (least_left _))
