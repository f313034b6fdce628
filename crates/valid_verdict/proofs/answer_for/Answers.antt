use Prim.Native.Nat.{ℕ}
use mathlib.Core.Path.{ap, ◌∙◌}
use Rattle.valid_verdict.specs.declared.Answer.TheVariants.{Refused}
use Rattle.valid_verdict.specs.Answers.{verdict_is}
use Rattle.std.specs.Prelude.{Some, None}
use Rattle.valid_verdict.specs.finding.Found.{refusal_said}
use Rattle.valid_verdict.proofs.finding.Laws.{finding_said}
use Rattle.valid_verdict.proofs.Laws.{answers_none, answers_third, answers_unfit}
use Rattle.valid_verdict.proofs.answer_for.Goals as goal

pub returns-in-Ok : goal.returns-in-Ok
returns-in-Ok c =
    λ text e r k. let z = ap refusal_said c.in-Ok.is in answers_none text e r z (k z).0 (k z).1

pub returns-in-Some : goal.returns-in-Some
returns-in-Some c = λ text e r k. answers_unfit text e r (finding_said _ c.in-Err.f (Some c.in-Some.item) c.in-Err.is c.in-Some.is)

pub returns-in-None : goal.returns-in-None
returns-in-None c = λ text e r k. ap (λ (n : ℕ). verdict_is (Refused n c.in-Err.f.line)) c.number.ensures ∙ answers_third text e r (finding_said _ c.in-Err.f None c.in-Err.is c.in-None.is)
