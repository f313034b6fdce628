use Prim.Native.Nat.{ℕ, ◌+◌, ◌%◌, ◌<◌}
use native.Mathlib.Omega.{arith}
use mathlib.Core.Path.{◌≡◌, refl, ap, ◌∙◌}
use lib.ListN.{get_or}
use Rattle.exec.specs.Machine.{Word}
use Rattle.exec_words.specs.declared.memory.Word.{Word as Pair}
use Rattle.exec_machine.specs.Step.{pair, Register}
use Rattle.exec_plan.specs.Plan.{reads_operand, planned}
use Rattle.exec_step.proofs.moved.Laws.{to_position}
use Rattle.exec_step.specs.Rows.{form_of}
use Rattle.exec_step.proofs.Forms.{reads, class_form, class_last, by_turn, by_does, by_assign, by_jump}
use Rattle.exec_step.proofs.row.Goals as goal

pub register-requires : goal.register-requires
unfolding reads_operand
register-requires c =
    let form_is : (k : ℕ) → c.read-class.result % 16 ≡ k → k < 15 → form_of c.args.plan.now c.args.turn.at ≡ k = λ k q h. class_form c.requires.1 c.read-class.ensures q h in
    (search, search, c.requires.1.operand (reads 0 refl (form_is _ c.in-0.is (omega arith))))

pub tuple-requires : goal.tuple-requires
tuple-requires c =
    let form_is : (k : ℕ) → c.read-class.result % 16 ≡ k → k < 15 → form_of c.args.plan.now c.args.turn.at ≡ k = λ k q h. class_form c.requires.1 c.read-class.ensures q h in
    (search, search, search, c.requires.1.tuple (form_is _ c.in-2.is (omega arith)))

pub register-requires-in-3 : goal.register-requires-in-3
unfolding reads_operand
register-requires-in-3 c =
    let form_is : (k : ℕ) → c.read-class.result % 16 ≡ k → k < 15 → form_of c.args.plan.now c.args.turn.at ≡ k = λ k q h. class_form c.requires.1 c.read-class.ensures q h in
    (search, search, c.requires.1.operand (reads 3 refl (form_is _ c.in-3.is (omega arith))))

pub register-requires-in-5 : goal.register-requires-in-5
unfolding reads_operand
register-requires-in-5 c =
    let form_is : (k : ℕ) → c.read-class.result % 16 ≡ k → k < 15 → form_of c.args.plan.now c.args.turn.at ≡ k = λ k q h. class_form c.requires.1 c.read-class.ensures q h in
    (search, search, c.requires.1.operand (reads 5 refl (form_is _ c.in-5.is (omega arith))))

pub register-requires-in-8 : goal.register-requires-in-8
unfolding reads_operand
register-requires-in-8 c =
    let form_is : (k : ℕ) → c.read-class.result % 16 ≡ k → k < 15 → form_of c.args.plan.now c.args.turn.at ≡ k = λ k q h. class_form c.requires.1 c.read-class.ensures q h in
    (search, search, c.requires.1.operand (reads 8 refl (form_is _ c.in-8.is (omega arith))))

pub other-requires : goal.other-requires
other-requires c =
    (search, search, search, class_last c.requires.1 c.read-class.ensures c.in_default.in_default-own.rest)

pub returns-in-0 : goal.returns-in-0
unfolding planned
returns-in-0 c =
    let form_is : (k : ℕ) → c.read-class.result % 16 ≡ k → k < 15 → form_of c.args.plan.now c.args.turn.at ≡ k = λ k q h. class_form c.requires.1 c.read-class.ensures q h in
    by_does (form_is _ c.in-0.is (omega arith)) (omega arith) (λ s g. c.reckon.ensures _ _ _ _ c.register.ensures)

pub returns-in-1 : goal.returns-in-1
unfolding planned
returns-in-1 c =
    let form_is : (k : ℕ) → c.read-class.result % 16 ≡ k → k < 15 → form_of c.args.plan.now c.args.turn.at ≡ k = λ k q h. class_form c.requires.1 c.read-class.ensures q h in
    by_does (form_is _ c.in-1.is (omega arith)) (omega arith) (λ s g. c.reckon-in-1.ensures _ _ _ _ (c.literal.ensures _))

pub returns-in-2 : goal.returns-in-2
unfolding planned
returns-in-2 c =
    let form_is : (k : ℕ) → c.read-class.result % 16 ≡ k → k < 15 → form_of c.args.plan.now c.args.turn.at ≡ k = λ k q h. class_form c.requires.1 c.read-class.ensures q h in
    by_does (form_is _ c.in-2.is (omega arith)) (omega arith) (λ s g. c.tuple.ensures _)

pub returns-in-3 : goal.returns-in-3
unfolding planned
returns-in-3 c =
    let form_is : (k : ℕ) → c.read-class.result % 16 ≡ k → k < 15 → form_of c.args.plan.now c.args.turn.at ≡ k = λ k q h. class_form c.requires.1 c.read-class.ensures q h in
    by_does (form_is _ c.in-3.is (omega arith)) (omega arith) (λ s g. c.reckon-in-3.ensures _ _ _ _ c.register-in-3.ensures)

pub returns-in-4 : goal.returns-in-4
unfolding planned
returns-in-4 c =
    let form_is : (k : ℕ) → c.read-class.result % 16 ≡ k → k < 15 → form_of c.args.plan.now c.args.turn.at ≡ k = λ k q h. class_form c.requires.1 c.read-class.ensures q h in
    let ef = form_is _ c.in-4.is (omega arith) in
    by_turn ef (λ m s j p g starts goals et lp. c.branch-plan.ensures _ _ _ m j g (goals.branch ef))

pub returns-in-5 : goal.returns-in-5
unfolding planned
returns-in-5 c =
    let form_is : (k : ℕ) → c.read-class.result % 16 ≡ k → k < 15 → form_of c.args.plan.now c.args.turn.at ≡ k = λ k q h. class_form c.requires.1 c.read-class.ensures q h in
    by_assign (form_is _ c.in-5.is (omega arith)) (omega arith) c.requires.0.depth c.requires.0.used
    (λ s p g. ap (λ (v : Word). Register (get_or c.args.plan.now (c.args.turn.at + 1) 0) (pair v) p) c.register-in-5.ensures)
    c.assign.ensures.0 c.assign.ensures.1

pub returns-in-6 : goal.returns-in-6
unfolding planned
returns-in-6 c =
    let form_is : (k : ℕ) → c.read-class.result % 16 ≡ k → k < 15 → form_of c.args.plan.now c.args.turn.at ≡ k = λ k q h. class_form c.requires.1 c.read-class.ensures q h in
    by_assign (form_is _ c.in-6.is (omega arith)) (omega arith) c.requires.0.depth c.requires.0.used
    (λ s p g. ap (λ (v : Pair). Register (get_or c.args.plan.now (c.args.turn.at + 1) 0) v p) c.constant.ensures)
    c.assign-in-6.ensures.0 c.assign-in-6.ensures.1

pub returns-in-7 : goal.returns-in-7
unfolding planned
returns-in-7 c =
    let form_is : (k : ℕ) → c.read-class.result % 16 ≡ k → k < 15 → form_of c.args.plan.now c.args.turn.at ≡ k = λ k q h. class_form c.requires.1 c.read-class.ensures q h in
    let ef = form_is _ c.in-7.is (omega arith) in
    by_turn ef (λ m s j p g starts goals et lp. to_position _ (c.index.ensures.0 ∙ goals.label ef) (goals.reached ef)
    c.requires.0.depth c.requires.0.used refl c.goes.ensures)

pub returns-in-8 : goal.returns-in-8
returns-in-8 c =
    let form_is : (k : ℕ) → c.read-class.result % 16 ≡ k → k < 15 → form_of c.args.plan.now c.args.turn.at ≡ k = λ k q h. class_form c.requires.1 c.read-class.ensures q h in
    by_jump (form_is _ c.in-8.is (omega arith)) c.register-in-8.ensures (c.jump.ensures _ _ _ _)

pub returns-in-9 : goal.returns-in-9
unfolding planned
returns-in-9 c =
    let form_is : (k : ℕ) → c.read-class.result % 16 ≡ k → k < 15 → form_of c.args.plan.now c.args.turn.at ≡ k = λ k q h. class_form c.requires.1 c.read-class.ensures q h in
    by_does (form_is _ c.in-9.is (omega arith)) (omega arith) (λ s g. c.load.ensures _ _)

pub returns-in-10 : goal.returns-in-10
unfolding planned
returns-in-10 c =
    let form_is : (k : ℕ) → c.read-class.result % 16 ≡ k → k < 15 → form_of c.args.plan.now c.args.turn.at ≡ k = λ k q h. class_form c.requires.1 c.read-class.ensures q h in
    by_does (form_is _ c.in-10.is (omega arith)) (omega arith) (λ s g. c.store.ensures _ _)

pub returns-in-11 : goal.returns-in-11
unfolding planned
returns-in-11 c =
    let form_is : (k : ℕ) → c.read-class.result % 16 ≡ k → k < 15 → form_of c.args.plan.now c.args.turn.at ≡ k = λ k q h. class_form c.requires.1 c.read-class.ensures q h in
    by_does (form_is _ c.in-11.is (omega arith)) (omega arith) (λ s g. c.peek.ensures _ _)

pub returns-in-12 : goal.returns-in-12
unfolding planned
returns-in-12 c =
    let form_is : (k : ℕ) → c.read-class.result % 16 ≡ k → k < 15 → form_of c.args.plan.now c.args.turn.at ≡ k = λ k q h. class_form c.requires.1 c.read-class.ensures q h in
    by_does (form_is _ c.in-12.is (omega arith)) (omega arith) (λ s g. c.poke.ensures _ _)

pub returns-in-13 : goal.returns-in-13
unfolding planned
returns-in-13 c =
    let form_is : (k : ℕ) → c.read-class.result % 16 ≡ k → k < 15 → form_of c.args.plan.now c.args.turn.at ≡ k = λ k q h. class_form c.requires.1 c.read-class.ensures q h in
    by_does (form_is _ c.in-13.is (omega arith)) (omega arith) (λ s g. c.peek_through.ensures _ _)

pub returns-in-14 : goal.returns-in-14
unfolding planned
returns-in-14 c =
    let form_is : (k : ℕ) → c.read-class.result % 16 ≡ k → k < 15 → form_of c.args.plan.now c.args.turn.at ≡ k = λ k q h. class_form c.requires.1 c.read-class.ensures q h in
    by_does (form_is _ c.in-14.is (omega arith)) (omega arith) (λ s g. c.poke_through.ensures _ _)

pub load-requires : goal.load-requires
load-requires c = (search, search, search, search)
