use Rattle.exec.specs.Machine.{put}
use Rattle.exec_words.specs.memory.Lent.{lent}
use Rattle.exec_step.proofs.moved.Laws.{moves, waits, written, as_before}
use Rattle.exec_step.proofs.moved.write.Goals as goal

pub returns-then-turn : goal.returns-then-turn
returns-then-turn c =
    let e = c.if-turn.true in
    (moves _ _ _ _ e, written _ _ (lent _ _) e c.set.ensures)

pub returns-else-turn : goal.returns-else-turn
returns-else-turn c =
    let e = c.if-turn.false in
    (waits _ c.args.to c.args.turn.depth c.args.turn.used e, as_before _ (put _ _ _) _ e)
