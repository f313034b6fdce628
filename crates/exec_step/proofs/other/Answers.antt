use Prim.Native.Nat.{ℕ, ◌+◌, ◌≤◌}
use native.Mathlib.Omega.{arith}
use mathlib.Core.Path.{◌≡◌, refl, ap}
use lib.ListN.{get_or}
use Rattle.exec.specs.Machine.{Word}
use Rattle.exec_machine.specs.Step.{pair, Register}
use Rattle.exec_plan.specs.Plan.{reads_operand, planned}
use Rattle.exec_step.specs.Rows.{form_of}
use Rattle.exec_step.proofs.Forms.{reads, none_of_lem, other_form, by_turn, by_does, by_assign, by_end, by_past}
use Rattle.exec_step.proofs.other.Goals as goal

pub register-requires : goal.register-requires
unfolding reads_operand
register-requires c =
    let form_is : (k : ℕ) → c.read-f.result ≡ k → form_of c.args.plan.now c.args.turn.at ≡ k = λ k q. other_form c.requires.1 c.requires.3 c.read-f.ensures q in
    (search, search, c.requires.1.operand (reads 20 refl (form_is _ c.in-20.is)))

pub branch_register-requires : goal.branch_register-requires
unfolding reads_operand
branch_register-requires c =
    let form_is : (k : ℕ) → c.read-f.result ≡ k → form_of c.args.plan.now c.args.turn.at ≡ k = λ k q. other_form c.requires.1 c.requires.3 c.read-f.ensures q in
    (search, search, c.requires.1.operand (reads 21 refl (form_is _ c.in-21.is)))

pub returns-in-15 : goal.returns-in-15
unfolding planned
returns-in-15 c =
    let form_is : (k : ℕ) → c.read-f.result ≡ k → form_of c.args.plan.now c.args.turn.at ≡ k = λ k q. other_form c.requires.1 c.requires.3 c.read-f.ensures q in
    by_does (form_is _ c.in-15.is) (omega arith) (λ s g. c.reckon.ensures _ _ _ _ (c.literal.ensures _))

pub returns-in-16 : goal.returns-in-16
unfolding planned
returns-in-16 c =
    let form_is : (k : ℕ) → c.read-f.result ≡ k → form_of c.args.plan.now c.args.turn.at ≡ k = λ k q. other_form c.requires.1 c.requires.3 c.read-f.ensures q in
    by_assign (form_is _ c.in-16.is) (omega arith) c.requires.0.depth c.requires.0.used
    (λ s p g. ap (λ (v : Word). Register (get_or c.args.plan.now (c.args.turn.at + 1) 0) (pair v) p) c.height.ensures)
    c.assign.ensures.0 c.assign.ensures.1

pub returns-in-17 : goal.returns-in-17
unfolding planned
returns-in-17 c =
    let form_is : (k : ℕ) → c.read-f.result ≡ k → form_of c.args.plan.now c.args.turn.at ≡ k = λ k q. other_form c.requires.1 c.requires.3 c.read-f.ensures q in
    by_does (form_is _ c.in-17.is) (omega arith) (λ s g. c.cut.ensures _ _ _)

pub returns-in-18 : goal.returns-in-18
unfolding planned
returns-in-18 c =
    let form_is : (k : ℕ) → c.read-f.result ≡ k → form_of c.args.plan.now c.args.turn.at ≡ k = λ k q. other_form c.requires.1 c.requires.3 c.read-f.ensures q in
    by_does (form_is _ c.in-18.is) (omega arith) (λ s g. c.push.ensures _ _ _)

pub returns-in-19 : goal.returns-in-19
unfolding planned
returns-in-19 c =
    let form_is : (k : ℕ) → c.read-f.result ≡ k → form_of c.args.plan.now c.args.turn.at ≡ k = λ k q. other_form c.requires.1 c.requires.3 c.read-f.ensures q in
    by_does (form_is _ c.in-19.is) (omega arith) (λ s g. c.pop.ensures _ _ _ _)

pub returns-in-20 : goal.returns-in-20
unfolding planned
returns-in-20 c =
    let form_is : (k : ℕ) → c.read-f.result ≡ k → form_of c.args.plan.now c.args.turn.at ≡ k = λ k q. other_form c.requires.1 c.requires.3 c.read-f.ensures q in
    by_does (form_is _ c.in-20.is) (omega arith) (λ s g. c.reckon-in-20.ensures _ _ _ _ c.register.ensures)

pub returns-in-21 : goal.returns-in-21
unfolding planned
returns-in-21 c =
    let form_is : (k : ℕ) → c.read-f.result ≡ k → form_of c.args.plan.now c.args.turn.at ≡ k = λ k q. other_form c.requires.1 c.requires.3 c.read-f.ensures q in
    by_turn (form_is _ c.in-21.is) (λ m s j p g starts goals et lp. c.branch_register.ensures _ _ _ m j p starts et
    (lp (omega arith)))

pub returns-in-22 : goal.returns-in-22
unfolding planned
returns-in-22 c =
    let form_is : (k : ℕ) → c.read-f.result ≡ k → form_of c.args.plan.now c.args.turn.at ≡ k = λ k q. other_form c.requires.1 c.requires.3 c.read-f.ensures q in
    by_does (form_is _ c.in-22.is) (omega arith) (λ s g. c.branch_nowhere.ensures _ _ _)

pub returns-in-23 : goal.returns-in-23
unfolding planned
returns-in-23 c =
    let form_is : (k : ℕ) → c.read-f.result ≡ k → form_of c.args.plan.now c.args.turn.at ≡ k = λ k q. other_form c.requires.1 c.requires.3 c.read-f.ensures q in
    by_end (form_is _ c.in-23.is) refl (λ s p g. refl)

pub returns-in_default : goal.returns-in_default
returns-in_default c =
    let form_is : (k : ℕ) → c.read-f.result ≡ k → form_of c.args.plan.now c.args.turn.at ≡ k = λ k q. other_form c.requires.1 c.requires.3 c.read-f.ensures q in
    let f : ℕ = c.read-f.result in
    let lf : 15 ≤ f = omega (arith, c.read-f.ensures, c.requires.1.other (search)) in
    by_past (form_is _ refl) c.stuck.ensures (none_of_lem _ 9 lf c.in_default.in_default-own.rest)
