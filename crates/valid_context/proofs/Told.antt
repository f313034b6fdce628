-- The least fault of premises side by side, and of one that waits for another.
use Prim.Native.Nat.{ℕ, zero, suc, min, ◌<◌}
use native.Mathlib.Omega.{arith}
use mathlib.Core.Path.{◌≡◌, refl, ap, sym, ◌∙◌}
use mathlib.Core.Bool.{Bool, true, false, cond}
use mathlib.Core.Option.{none, some}
use mathlib.Core.List.{List, [], ◌∷◌, ◌++◌}
use borrow.Author.Tests.{eq-eqb, ne_eqb}
use Rattle.syntax.specs.Fault.{Fault, number_of, lowest}
use Rattle.valid.specs.PassThree.{Judged, holds, fails, ◌▹◌, ◌&◌, or_fault, need}
use Rattle.syntax.proofs.Least.{least}
use Rattle.valid_context.specs.Told.{gives, lacks, told_of, answer}
use Rattle.valid_context.specs.premises.Answers.{item_said}

absurd_told : {A B : Type 0} {x : A} {n : ℕ} → gives x ≡ lacks n → B
absurd_told e = let z : ◌≡◌ {A = ℕ} 0 1 = cc in absurd (omega arith)

-- ---- lists of faults
lowest_more : (n : ℕ) (fs gs : List Fault) → lowest n (fs ++ gs) ≡ lowest (lowest n fs) gs
unfolding lowest
lowest_more n [] gs = refl
lowest_more n (f ∷ fs) gs = lowest_more (min n (number_of f)) fs gs

lowest_min : (m n : ℕ) (fs : List Fault) → lowest (min m n) fs ≡ min m (lowest n fs)
unfolding lowest
lowest_min m n [] = refl
lowest_min m n (f ∷ fs) = let e : min (min m n) (number_of f) ≡ min m (min n (number_of f)) = omega arith in rw e (lowest_min m (min n (number_of f)) fs)

pub lowest_both : (n : ℕ) (fs : List Fault) (g : Fault) (gs : List Fault) → lowest n (fs ++ g ∷ gs) ≡ min (lowest n fs) (lowest (number_of g) gs)
lowest_both n fs g gs = lowest_more n fs (g ∷ gs) ∙ unfold lowest in lowest_min (lowest n fs) (number_of g) gs

-- ---- what the code answers
-- without a fault the premise holds
pub told_holds : {A : Type 0} (m : Judged A) (n : ℕ) (x : A) → told_of m ≡ answer n x → n ≡ 0 → m ≡ holds x
unfolding told_of answer
told_holds (holds y) zero x e h = cc
told_holds (holds y) (suc n) x e h = absurd_told e
told_holds (fails f fs) zero x e h = absurd_told (sym e)
told_holds (fails f fs) (suc n) x e h = absurd (omega arith)

-- premises side by side
pub told_and : {A B : Type 0} (a : Judged A) (b : Judged B) (m n : ℕ) (x : A) (y : B) → told_of a ≡ answer m x → told_of b ≡ answer n y → told_of (a & b) ≡ answer (least m n) (x, y)
unfolding told_of answer ◌&◌ least
told_and (holds u) (holds v) zero zero x y e h = let p : u ≡ x = cc in let q : v ≡ y = cc in rw (p, q)
told_and (holds u) (holds v) zero (suc n) x y e h = absurd_told h
told_and (holds u) b (suc m) n x y e h = absurd_told e
told_and (holds u) (fails g gs) zero zero x y e h = absurd_told (sym h)
told_and (holds u) (fails g gs) zero (suc n) x y e h = cc
told_and (fails f fs) b zero n x y e h = absurd_told (sym e)
told_and (fails f fs) (holds v) (suc m) zero x y e h = cc
told_and (fails f fs) (holds v) (suc m) (suc n) x y e h = absurd_told h
told_and (fails f fs) (fails g gs) (suc m) zero x y e h = absurd_told (sym h)
told_and (fails f fs) (fails g gs) (suc m) (suc n) x y e h =
    let p : lowest (number_of f) fs ≡ suc m = cc in
    let q : lowest (number_of g) gs ≡ suc n = cc in
    let k : lowest (number_of f) (fs ++ g ∷ gs) ≡ suc (min m n) = lowest_both (number_of f) fs g gs ∙ omega arith in
    ap lacks k

-- one that waits for another
pub told_then : {A B : Type 0} (a : Judged A) (k : A → Judged B) (x : A) → told_of a ≡ answer 0 x → told_of (a ▹ k) ≡ told_of (k x)
unfolding told_of answer ◌▹◌
told_then (holds u) k x e = let p : u ≡ x = cc in rw p
told_then (fails f fs) k x e = absurd_told (sym e)

pub told_stop : {A B : Type 0} (a : Judged A) (k : A → Judged B) (n : ℕ) (x : A) (y : B) → told_of a ≡ answer n x → 0 < n → told_of (a ▹ k) ≡ answer n y
unfolding told_of answer ◌▹◌
told_stop a k zero x y e h = absurd (omega arith)
told_stop (holds u) k (suc n) x y e h = absurd_told e
told_stop (fails f fs) k (suc n) x y e h = cc

-- single premises
pub told_some : {A : Type 0} (n : ℕ) (x : A) → told_of (or_fault n (some x)) ≡ answer 0 x
unfolding told_of answer or_fault
told_some n x = refl

pub told_none : {A : Type 0} (n : ℕ) (x : A) → told_of (or_fault (suc n) none) ≡ answer (suc n) x
unfolding told_of answer or_fault lowest number_of
told_none n x = refl

pub told_need : (f : Fault) (b : Bool) (n : ℕ) → number_of f ≡ suc n → told_of (need f b) ≡ answer (cond b 0 (suc n)) tt
unfolding told_of answer need lowest
told_need f true n e = refl
told_need f false n e = ap lacks e

-- ---- items
-- the number 100 says none, any other the item
pub said_none : (i : ℕ) → i ≡ 100 → item_said i ≡ none
unfolding item_said
said_none i e = rw (eq-eqb i 100 e)

pub said_some : (i : ℕ) → (i ≡ 100 → ⊥) → item_said i ≡ some i
unfolding item_said
said_some i h = rw (ne_eqb i 100 h)
