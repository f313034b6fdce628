use Rattle.std.proofs.Common.{ℕ, arith, sym, refl, ◌≡◌, Result, Ok, Err, IfOk}
use Rattle.faults.proofs.Numbers.{number_above, least_above, least_right, least_left}
use Rattle.faults.specs.declared.Fault.{Fault}
use Rattle.faults.specs.Numbers.{number}
use Rattle.types_rows.specs.declared.Held.{Held}
use Rattle.valid_judge.proofs.through.and_give.Goals as goal

given : (b r : Result Held Fault) → r ≡ b → IfOk r (λ h. (◌≡◌ {A = ℕ} 0 0) × (b ≡ Ok h))
given b (Ok h) e = (refl, sym e)
given b (Err f) e = tt

pub returns-then-number : goal.returns-then-number
returns-then-number c =
    let p = c.in-Err-Err in
    (rw (p.is-0, p.is-1, least_above (number p.f) (number p.g) (number_above p.f) (number_above p.g)) (omega (arith, c.number.ensures, c.number-in-Err-Err.ensures, c.if-number.true)), tt)

pub returns-else-number : goal.returns-else-number
returns-else-number c =
    let p = c.in-Err-Err in
    (rw (p.is-0, p.is-1, least_above (number p.f) (number p.g) (number_above p.f) (number_above p.g)) (omega (arith, c.number.ensures, c.number-in-Err-Err.ensures, c.if-number.false)), tt)

pub returns-in-Err-Ok : goal.returns-in-Err-Ok
returns-in-Err-Ok c =
    let p = c.in-Err-Ok in
    (rw (p.is-0, p.is-1) (sym (least_right (number p.f) (number_above p.f))), tt)

pub returns-in-Ok-default : goal.returns-in-Ok-default
returns-in-Ok-default c = rw c.in-Ok-default.is-0 (sym (least_left _), given c.args.b c.args.b refl)
