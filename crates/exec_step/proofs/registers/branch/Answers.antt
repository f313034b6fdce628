use Rattle.exec_machine.specs.Step.{Go}
use Prim.Native.Nat.{ℕ, ◌*◌}
use native.Mathlib.Omega.{arith}
use mathlib.Core.Path.{refl, ap, sym, ◌∙◌}
use Rattle.exec.specs.Machine.{sign_of}
use Rattle.exec_words.specs.arith.Codes.{column}
use Rattle.exec_step.proofs.moved.Laws.{named, ended, to_position, moves, waits, spent, left}
use Rattle.exec_step.proofs.registers.Laws.{given_not, given_is, sign_zero, sign_positive, sign_negative}
use Rattle.exec_step.proofs.registers.branch.Goals as goal

pub returns-then-w-ne-INT : goal.returns-then-w-ne-INT
returns-then-w-ne-INT c =
    λ ω S H m j g go. ended ω c.stuck.ensures (given_not 0 _ _ (λ v. Go (g (column (sign_of v)))) _
    (named _ c.get-w.ensures (search)) (search))

pub returns-then-not-turn : goal.returns-then-not-turn
returns-then-not-turn c =
    λ ω S H m j g go. to_position ω refl (go.within _) (search) (search)
    (given_is 0 _ _ (λ v. Go (g (column (sign_of v)))) _ (named _ c.get-w.ensures (search)) (search))
    (waits c.args.turn.more (8 * g (column _)) c.args.turn.depth c.args.turn.used (spent _ c.if-not-turn.true))

pub returns-then-w-eq0 : goal.returns-then-w-eq0
returns-then-w-eq0 c =
    λ ω S H m j g go. to_position ω (c.index-then-w-eq0.ensures.0 ∙ go.place 1 (omega arith)) (go.within 1) (search) (search)
    (ap (λ (i : ℕ). Go (g i)) (sym (sign_zero _ c.if-w-eq0.true)) ∙ given_is 0 _ _ (λ v. Go (g (column (sign_of v)))) _
    (named _ c.get-w.ensures (search)) (search)) (moves c.args.turn.more _ _ _ (left _ c.if-not-turn.false))

pub returns-then-w-lt2147483648 : goal.returns-then-w-lt2147483648
returns-then-w-lt2147483648 c =
    λ ω S H m j g go. to_position ω (c.index-then-w-lt2147483648.ensures.0 ∙ go.place 2 (omega arith)) (go.within 2) (search) (search)
    (ap (λ (i : ℕ). Go (g i)) (sym (sign_positive _ c.if-w-eq0.false (search))) ∙ given_is 0 _ _ (λ v. Go (g (column (sign_of v)))) _
    (named _ c.get-w.ensures (search)) (search)) (moves c.args.turn.more _ _ _ (left _ c.if-not-turn.false))

pub returns : goal.returns
returns c =
    λ ω S H m j g go. to_position ω (c.index-2.ensures.0 ∙ go.place 0 (omega arith)) (go.within 0) (search) (search)
    (ap (λ (i : ℕ). Go (g i)) (sym (sign_negative _ c.if-w-eq0.false (search))) ∙ given_is 0 _ _ (λ v. Go (g (column (sign_of v)))) _
    (named _ c.get-w.ensures (search)) (search)) (moves c.args.turn.more _ _ _ (left _ c.if-not-turn.false))
