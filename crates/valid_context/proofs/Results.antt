-- The code's answers as numbers, each with what the premise gives if that is 0.
use Rattle.std.proofs.Common.{◌≡◌, ℕ, zero, suc, ◌<◌, Bool, true, false, Result, Ok, Err, refl, ap, sym, ◌∙◌, arith}
use Rattle.syntax.proofs.Least.{least}
use Rattle.faults.specs.declared.Fault.{Fault}
use Rattle.faults.specs.Numbers.{number, refusal_number}
use Rattle.faults.proofs.Numbers.{number_above}
use Rattle.std.proofs.Math.Option.{Option, none, some}
use Rattle.syntax.specs.Fault.{fault, number_of, lowest}
use Rattle.valid.specs.PassThree.{Judged, holds, fails, ◌▹◌, or_fault, need}
use Rattle.valid_context.specs.Told.{gives, lacks, told_of, told, answer}

pub answer_above : {A : Type 0} (n : ℕ) (x : A) → 0 < n → answer n x ≡ lacks n
unfolding answer
answer_above zero x h = absurd (omega arith)
answer_above (suc n) x h = refl

pub answer_fault : {A : Type 0} (f : Fault) (x : A) → answer (number f) x ≡ lacks (number f)
answer_fault f x = answer_above (number f) x (number_above f)

pub answer_any : {A : Type 0} (n : ℕ) (x y : A) → 0 < n → answer n x ≡ answer n y
answer_any n x y h = answer_above n x h ∙ sym (answer_above n y h)

-- the lesser of two numbers, of which the first is a fault's
pub least_above : (a b : ℕ) → 0 < a → 0 < least a b
unfolding least
least_above zero b h = absurd (omega arith)
least_above (suc a) zero h = omega arith
least_above (suc a) (suc b) h = omega arith

-- a fault has no number 0
pub some_fault : (f : Fault) → number f ≡ 0 → ⊥
some_fault f e = let h = number_above f in omega arith

module _ {A B : Type 0} (g : A → B) {r : Result A Fault} where
  pub told_ok : {x : A} → r ≡ Ok x → told g r ≡ answer 0 (g x)
  unfolding answer
  told_ok e = ap (told g) e

  pub told_err : {f : Fault} → r ≡ Err f → (y : B) → told g r ≡ answer (number f) y
  told_err {f} e y = ap (told g) e ∙ sym (answer_fault f y)

-- a premise that gives nothing
pub told_number : {B : Type 0} (y : B) (r : Result (Unit {0}) Fault) → told (λ u. y) r ≡ answer (refusal_number r) y
unfolding answer
told_number y (Ok u) = refl
told_number y (Err f) = sym (answer_fault f y)

pub number_told : {B : Type 0} (y : B) (r : Result (Unit {0}) Fault) {n : ℕ} → refusal_number r ≡ n → answer n y ≡ told (λ u. y) r
number_told y r e = ap (λ (k : ℕ). answer k y) (sym e) ∙ sym (told_number y r)

-- ---- a premise that waits for another, by what is told of the first
pub lacks_then : {A B : Type 0} (m : Judged A) (j : A → Judged B) {k : ℕ} → told_of m ≡ lacks k → told_of (m ▹ j) ≡ lacks k
unfolding told_of ◌▹◌
lacks_then (holds x) j e = let z : ◌≡◌ {A = ℕ} 0 1 = cc in absurd (omega arith)
lacks_then (fails f fs) j {k} e = let p : lowest (number_of f) fs ≡ k = cc in ap lacks p

pub gives_then : {A B : Type 0} (m : Judged A) (j : A → Judged B) {x : A} → told_of m ≡ gives x → told_of (m ▹ j) ≡ told_of (j x)
unfolding told_of ◌▹◌
gives_then (holds y) j {x} e = let p : y ≡ x = cc in rw p
gives_then (fails f fs) j e = let z : ◌≡◌ {A = ℕ} 0 1 = cc in absurd (omega arith)

-- what a premise of one fault lacks
pub or_lacks : {A : Type 0} (n : ℕ) (o : Option A) {k : ℕ} → told_of (or_fault n o) ≡ lacks k → k ≡ n
unfolding or_fault told_of lowest number_of
or_lacks n none e = cc
or_lacks n (some x) e = let z : ◌≡◌ {A = ℕ} 0 1 = cc in absurd (omega arith)

pub need_lacks : (n : ℕ) (b : Bool) {k : ℕ} → told_of (need (fault n) b) ≡ lacks k → k ≡ n
unfolding need told_of lowest number_of
need_lacks n true e = let z : ◌≡◌ {A = ℕ} 0 1 = cc in absurd (omega arith)
need_lacks n false e = cc
