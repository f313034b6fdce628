-- What the code answers of a premise: that it holds, with what it gives, or its least fault.
use Rattle.std.specs.Prelude.{ℕ, zero, suc, Result, Ok, Err}
use Rattle.syntax.specs.Fault.{number_of, lowest}
use Rattle.faults.specs.declared.Fault.{Fault}
use Rattle.faults.specs.Numbers.{number}
use Rattle.valid.specs.PassThree.{Judged, holds, fails}

-- what a premise gives, or the lowest number of the faults that stand against it
pub data Told (A : Type 0) : Type 0 where
  gives : A → Told A
  lacks : ℕ → Told A

-- what is told of a premise
unfoldable pub told_of : {A : Type 0} → Judged A → Told A
told_of (holds x) = gives x
told_of (fails f fs) = lacks (lowest (number_of f) fs)

-- the code's answer, where g says what its result stands for
abbrev pub told : {A B : Type 0} → (A → B) → Result A Fault → Told B
told g (Ok x) = gives (g x)
told g (Err f) = lacks (number f)

-- an answer by a number, and what the premise gives if that is 0
unfoldable pub answer : {A : Type 0} → ℕ → A → Told A
answer zero x = gives x
answer (suc n) x = lacks (suc n)
