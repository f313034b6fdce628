use Rattle.exec_step.proofs.moved.Laws.{moves, waits, spent, left}
use Rattle.exec_step.proofs.moved.Turn.goes.Goals as goal

pub returns-then-not-self : goal.returns-then-not-self
returns-then-not-self c = waits c.args.self.more c.args.to c.args.depth c.args.self.used (spent _ c.if-not-self.true)

pub returns : goal.returns
returns c = moves c.args.self.more _ _ _ (left _ c.if-not-self.false)
