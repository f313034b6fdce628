-- The way back: what a caller reads off the library's numbers. That it is the answer is proved (proofs/Back.antt), so that no two answers
-- have the same numbers: a fault's number is 1 to 16, so neither 0 nor 17 to 20, and an item's 0 to 8 or 99, so not 100.
use Rattle.std.specs.Prelude.{cond, eqb}
use Rattle.std.proofs.Math.Option.{none}
use Rattle.valid.specs.Verdict as valid
use Rattle.valid.specs.Verdict.{accepted}
use Rattle.valid_context.specs.premises.Answers.{item_said}
use Rattle.exec.specs.Run.{Answer, refused, halted_after, paused_after, stack_full_after, heap_full_after, stuck_after}
use Rattle.stal_numbers.specs.declared.Verdict.{Verdict}
use Rattle.stal_numbers.specs.declared.Reply.{Reply}

-- check's answer: accepted if the code is 0, else refused by it, with an item if it is 10 and the last number is not 100
unfoldable pub verdict_back : Verdict → valid.Verdict
verdict_back v =
    cond (eqb v.code 0) (accepted v.first v.second)
    (valid.refused (record { number = v.code; line = v.first; item = cond (eqb v.code 10) (item_said v.second) none }))

-- a call's answer: halted if the code is 0, stopped by 17 to 20, else refused by it
unfoldable pub answer_back : Reply → Answer
answer_back r =
    cond (eqb r.code 0) (halted_after r.first r.kind r.number)
    (cond (eqb r.code 17) (paused_after r.first)
    (cond (eqb r.code 18) (stack_full_after r.first)
    (cond (eqb r.code 19) (heap_full_after r.first)
    (cond (eqb r.code 20) (stuck_after r.first) (refused r.code r.first)))))
