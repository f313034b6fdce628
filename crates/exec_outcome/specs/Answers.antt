-- The code's answers and outcomes, as crate exec has them.
use Rattle.std.specs.Prelude.{ℕ, List}
use Rattle.exec.specs.Run.{refused, halted_after, paused_after, stack_full_after, heap_full_after, stuck_after}
use Rattle.exec.specs.Run as exec
use Rattle.exec_machine.specs.declared.Place.{Place}
use Rattle.exec_machine.specs.Step.{state_of}
use Rattle.exec_outcome.specs.declared.Answer.{Answer}
use Rattle.exec_outcome.specs.declared.Answer.TheVariants.{Refused, Halted, Paused, StackFull, HeapFull, Stuck}
use Rattle.exec_outcome.specs.declared.Outcome.{Outcome}

-- the code's answer, as crate exec's
abbrev pub answer_is : Answer → exec.Answer
answer_is (Refused n line) = refused n line
answer_is (Halted steps k n) = halted_after steps k n
answer_is (Paused steps) = paused_after steps
answer_is (StackFull steps) = stack_full_after steps
answer_is (HeapFull steps) = heap_full_after steps
answer_is (Stuck steps) = stuck_after steps

-- with the words that are left
abbrev pub outcome_is : Outcome → List ℕ → List ℕ → List ℕ → List ℕ → List ℕ → List ℕ → exec.Outcome
outcome_is r rk rn sk sn hk hn = record { answer = answer_is r.answer; state = state_of rk rn sk sn hk hn r.place }

-- a refusal with fault n on that line, at the place p, which is kept
abbrev pub refused_at : ℕ → ℕ → Place → Outcome
refused_at n line p = record { answer = Refused n line; place = p }
