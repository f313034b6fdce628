-- What is told of a premise by a result of the code, in numbers.
use Rattle.std.specs.Prelude.{Result, Ok, Err, IfOk}
use Prim.Native.Nat.{ℕ, zero, suc}
use mathlib.Core.Path.{◌≡◌, refl, ap, sym, subst, ◌∙◌}
use mathlib.Core.Bool.{Bool, true, false, not, cond}
use native.Mathlib.Omega.{arith}
use lib.Dec.{eqb}
use borrow.Author.Tests.{ne_eqb}
use Rattle.faults.specs.declared.Fault.{Fault}
use Rattle.faults.specs.Numbers.{number, refusal_number}
use Rattle.valid_context.specs.Told.{lacks, told, answer}
use Rattle.valid_context.proofs.Results.{answer_fault, some_fault}
use Rattle.valid_typing.proofs.Judging.{if_none}

module _ {A : Type 0} {r : Result A Fault} where
  pub is_zero : {x : A} → r ≡ Ok x → refusal_number r ≡ 0
  is_zero e = ap refusal_number e

  pub not_zero : {f : Fault} → r ≡ Err f → refusal_number r ≡ 0 → ⊥
  not_zero {f} e z = some_fault f (sym (ap refusal_number e) ∙ z)

  -- a premise that is refused
  pub stopped : {B : Type 0} {f : Fault} (y : B) → r ≡ Err f → answer (refusal_number r) y ≡ lacks (number f)
  stopped {f = f} y e = ap (λ (k : ℕ). answer k y) (ap refusal_number e) ∙ answer_fault f y

-- what is given, or else d
abbrev pub pick : {A B : Type 0} → (A → B) → B → Result A Fault → B
pick g d (Ok x) = g x
pick g d (Err f) = d

pub told_pick : {A B : Type 0} (g : A → B) (d : B) (r : Result A Fault) → told g r ≡ answer (refusal_number r) (pick g d r)
unfolding answer
told_pick g d (Ok x) = refl
told_pick g d (Err f) = sym (answer_fault f d)

-- a link that has to be there
pub link_number : (k u : ℕ) → cond (not (eqb u 0)) 0 (suc k) ≡ if_none (suc k) u
unfolding if_none
link_number k zero = refl
link_number k (suc u) = ap (λ (b : Bool). cond (not b) 0 (suc k)) (ne_eqb (suc u) 0 (λ e. omega arith))

-- what holds of a result that is there
pub at_ok : {A : Type 0} {r : Result A Fault} {x : A} (Q : A → Type 0) → r ≡ Ok x → IfOk r Q → Q x
at_ok Q e h = subst (λ r. IfOk r Q) e h

pub if_zero : {A : Type 0} (r : Result A Fault) (Q : Type 0) → refusal_number r ≡ 0 → IfOk r (λ x. Q) → Q
if_zero (Ok x) Q e h = h
if_zero (Err f) Q e h = absurd (some_fault f e)

-- a test that is passed
pub if_held : (Q : Type 0) (b : Bool) (f : Fault) (r : Result (Unit {0}) Fault) → refusal_number r ≡ cond b 0 (number f) → (b ≡ true → Q) → IfOk r (λ u. Q)
if_held Q true f (Ok u) e h = h refl
if_held Q false f (Ok u) e h = absurd (some_fault f (sym e))
if_held Q b f (Err g) e h = tt

-- more than is needed of what a result gives
pub if_ok_then : {A : Type 0} (r : Result A Fault) (Q R : A → Type 0) → ((x : A) → Q x → R x) → IfOk r Q → IfOk r R
if_ok_then (Ok x) Q R h q = h x q
if_ok_then (Err f) Q R h q = tt

pub if_ok_both : {A : Type 0} (r : Result A Fault) (Q R S : A → Type 0) → ((x : A) → Q x → R x → S x) → IfOk r Q → IfOk r R → IfOk r S
if_ok_both (Ok x) Q R S h q t = h x q t
if_ok_both (Err f) Q R S h q t = tt
