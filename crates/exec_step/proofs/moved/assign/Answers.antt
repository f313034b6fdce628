use Prim.Native.Nat.{ℕ, ◌+◌}
use mathlib.Core.Path.{ap, ◌∙◌}
use Rattle.exec.specs.Machine.{put}
use Rattle.exec_words.specs.memory.Lent.{word_is, lent}
use Rattle.exec_step.proofs.moved.Laws.{moves, waits, written, as_before}
use Rattle.exec_step.proofs.moved.assign.Goals as goal

pub returns-then-turn : goal.returns-then-turn
returns-then-turn c =
    let e = c.if-turn.true in
    (moves _ _ _ _ e, written _ _ (lent c.args.rk.now c.args.rn.now) e (c.set.ensures ∙ ap (λ (i : ℕ). put (lent c.args.rk.now c.args.rn.now) i (word_is c.args.w)) c.index.ensures.0))

pub returns-else-turn : goal.returns-else-turn
returns-else-turn c =
    let e = c.if-turn.false in
    (waits _ (c.args.turn.at + 8) c.args.turn.depth c.args.turn.used e, as_before _ (put _ _ _) _ e)
