use Rattle.exec_machine.specs.Step.{tables}
use Rattle.exec_plan.proofs.Laws.{PlanTo}
use Rattle.exec_plan.proofs.predecode.Given as goal

abbrev pub invariant-loop-j : goal.invariant-loop-j
invariant-loop-j l = PlanTo (tables l.instrs l.operands l.bases l.blocks l.count l.labels) l.plan l.j
