use mathlib.Core.Path.{ap, sym, ◌∙◌}
use Rattle.exec_words.specs.memory.Lent.{lent}
use mathlib.Core.Bool.{cond}
use Rattle.exec.specs.Machine.{sign_of, taken}
use Rattle.exec_machine.specs.Step.{result_of, next_jump, Go}
use Rattle.exec_step.specs.moved.Stepped.{held}
use Rattle.exec_step.proofs.moved.Laws.{named, ended, to_position, as_turned}
use Rattle.exec_step.proofs.registers.Laws.{given_not, branch_on, branch_off}
use Rattle.exec_step.proofs.registers.branch_register.Goals as goal

pub returns-then-w-ne-INT : goal.returns-then-w-ne-INT
returns-then-w-ne-INT c =
    λ ω S H m j p starts et lp. ended ω c.stuck.ensures (given_not 0 _ _ (λ x. cond (taken _ (sign_of x)) _ (Go p)) _
    (named _ c.get-w.ensures (search)) (search))

pub returns-then-branches : goal.returns-then-branches
returns-then-branches c =
    λ ω S H m j p starts et lp. as_turned (ap (result_of ω (held (lent _ _) S H c.args.turn.depth c.args.turn.used j))
    (sym (branch_on _ _ _ _ p _ (named _ c.get-w.ensures c.index.ensures.0) (search) _ _ c.branches.ensures
    c.index-2.ensures.0 (search)) ∙ ap (next_jump c.args.blocks.now c.args.labels) (sym c.register-v.ensures)))
    (c.jump.ensures ω (lent _ _) S H m j starts)

pub returns : goal.returns
returns c =
    λ ω S H m j p starts et lp. to_position ω et lp c.requires.0.depth c.requires.0.used
    (branch_off _ _ _ _ p _ (named _ c.get-w.ensures c.index.ensures.0) c.if-w-ne-INT.false _ _ c.branches.ensures
    c.index-2.ensures.0 c.if-branches.false) c.goes.ensures
