use mathlib.Core.Path.{ap, sym, ◌∙◌}
use Rattle.exec.specs.Run.{bodies}
use Rattle.exec_machine.specs.Step.{state_of}
use Rattle.exec_outcome.specs.declared.Outcome.{Outcome}
use Rattle.exec_outcome.specs.Answers.{outcome_is}
use Rattle.exec_launch.proofs.Limits.{resumes_enough, resumes_place, resumes_safe}
use Rattle.exec_launch.proofs.Laws.{resumes_16, resumes_run}
use Rattle.exec_launch.proofs.resume_ready.Goals as goal

pub returns-then-not-good_form : goal.returns-then-not-good_form
returns-then-not-good_form c =
    λ args P rep. ap (λ (o : Outcome). outcome_is o c.args.rk.now c.args.rn.now c.args.sk.now c.args.sn.now c.args.hk.now c.args.hn.now) c.refuse_for.ensures ∙ sym (resumes_16 _ args P rep _ _ c.good_form.result c.good_form.ensures (search))

pub run_from-requires : goal.run_from-requires
run_from-requires c =
    let u = c.requires.unbarred in (
      search,
      resumes_enough _ _ _ _ _ _ _ _ u c.good_form.result c.good_form.ensures (search),
      resumes_place _ _ _ _ _ _ _ _ u c.good_form.result c.good_form.ensures (search),
      resumes_safe _ _ _ _ _ _ _ _ u c.good_form.result c.good_form.ensures (search),
    )

pub returns : goal.returns
returns c =
    λ args P rep. resumes_run _ args P rep c.args.m (state_of c.args.rk.now c.args.rn.now c.args.sk.now c.args.sn.now c.args.hk.now c.args.hn.now c.args.place)
    c.good_form.result c.good_form.ensures c.if-not-good_form.false _ (c.run_from.ensures args (bodies P) rep)
