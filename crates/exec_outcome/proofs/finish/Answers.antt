use Rattle.std.proofs.Common.{◌≡◌, ap, ◌∙◌}
use Rattle.exec.specs.Machine.{at}
use Rattle.exec.specs.Run.{Answer, answer_of, outcome}
use Rattle.exec_words.specs.memory.Lent.{lent}
use Rattle.exec_machine.specs.Step.{state_of}
use Rattle.exec_run.specs.Runs.{end_is}
use Rattle.exec_outcome.specs.Answers.{answer_is}
use Rattle.exec_outcome.proofs.Laws.{at_pause, at_end}
use Rattle.exec_outcome.proofs.finish.Goals.{in-None, in-Some}
use Rattle.exec_outcome.proofs.finish.Goals as goal

pub returns : goal.returns
unfolding outcome
returns c =
    let ran = c.args.ran in
    let e : answer_is c.match-ran.answer ≡ answer_of (end_is ran.stop) ran.steps (at (lent c.args.rk.now c.args.rn.now) 0) = elim c.match-ran.branch [
      | in-None w ↦ ap answer_is w.answer-is ∙ at_pause _ _ w.in-None.is
      | in-Some w ↦ ap answer_is w.answer-is ∙ at_end _ _ w.in-Some.is w.answer_at-answer.ensures
    ] in
    λ sk sn hk hn. ap (λ (a : Answer). record { answer = a; state = state_of c.args.rk.now c.args.rn.now sk sn hk hn ran.place }) e
