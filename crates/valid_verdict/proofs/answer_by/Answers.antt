use Prim.Native.Nat.{ℕ}
use Rattle.valid_context.proofs.Told.{said_none, said_some}
use Rattle.valid_verdict.proofs.finding.Laws.{says_none, says_some}
use Rattle.valid_verdict.proofs.Laws.{answers_none, answers_third, answers_unfit}
use Rattle.valid_verdict.proofs.answer_by.Goals as goal

pub returns-then-f-eq0 : goal.returns-then-f-eq0
returns-then-f-eq0 c = λ text e r k. answers_none text e r (says_none _ c.if-f-eq0.true) (k c.if-f-eq0.true).0 (k c.if-f-eq0.true).1

pub returns-then-f-eq100 : goal.returns-then-f-eq100
returns-then-f-eq100 c = λ text e r k. answers_third text e r (says_some _ _ c.if-f-eq0.false (said_none _ c.if-f-eq100.true))

pub returns : goal.returns
returns c = λ text e r k. answers_unfit text e r (says_some _ _ c.if-f-eq0.false (said_some _ c.if-f-eq100.false))
