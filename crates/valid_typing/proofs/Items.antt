-- The first item among a premise's faults, and that of an operand with arguments.
use Prim.Native.Nat.{ℕ, zero, suc}
use native.Mathlib.Omega.{arith, min_cases}
use mathlib.Core.Path.{◌≡◌, refl, ap, ap₂, sym, ◌∙◌}
use mathlib.Core.Bool.{Bool, true, false}
use mathlib.Core.Option.{Option, none, some}
use mathlib.Core.List.{List, ◌∷◌, ◌++◌}
use Rattle.syntax.specs.Syntax.{Kind, stack, Base, reg, lit, lab, Operand, plain, inst, pack}
use Rattle.syntax.specs.Fault.{fault, unfit, number_of, earlier, first_item, lowest}
use Rattle.syntax.proofs.Least.{first_of, item_append}
use Rattle.types.specs.Types.{Ty, Arg}
use Rattle.valid.specs.Program.{Program}
use Rattle.valid.specs.PassThree.{Judged, holds, fails, faults_of, ◌▹◌, ◌&◌, or_fault, need, formed, known, base, applied, packed, operand}
use Rattle.valid.proofs.Bare.{Bare, no_held, no_or, no_need}
use Rattle.valid_context.specs.Told.{lacks, told_of, answer}
use Rattle.valid_context.proofs.Told.{lowest_both, told_holds}

-- the first item among a premise's faults
abbrev pub item_in : {A : Type 0} → Judged A → Option ℕ
item_in m = first_item (faults_of m)

-- ---- one that waits for another
pub item_stop : {A B : Type 0} (m : Judged A) (k : A → Judged B) (n : ℕ) (x : A) → told_of m ≡ answer n x → (n ≡ 0 → ⊥) → item_in (m ▹ k) ≡ item_in m
unfolding ◌▹◌ faults_of told_of answer
item_stop m k zero x e h = absurd (h refl)
item_stop (holds y) k (suc n) x e h = let z : ◌≡◌ {A = ℕ} 0 1 = cc in absurd (omega arith)
item_stop (fails f fs) k (suc n) x e h = refl

pub item_after : {A B : Type 0} (m : Judged A) (k : A → Judged B) (n : ℕ) (x : A) → told_of m ≡ answer n x → n ≡ 0 → item_in (m ▹ k) ≡ item_in (k x)
unfolding ◌▹◌
item_after m k n x e z = rw (told_holds m n x e z)

pub item_map : {A B : Type 0} (m : Judged A) (y : B) → item_in (m ▹ λ z. holds y) ≡ item_in m
unfolding ◌▹◌ faults_of
item_map (holds x) y = refl
item_map (fails f fs) y = refl

-- ---- premises side by side
first_alone : (o : Option ℕ) → o ≡ first_of o none
unfolding first_of earlier
first_alone none = refl
first_alone (some i) = refl

pub item_beside : {A B : Type 0} (a : Judged A) (b : Judged B) → item_in (a & b) ≡ first_of (item_in a) (item_in b)
unfolding ◌&◌ faults_of first_item
item_beside (holds x) (holds y) = unfold first_of in refl
item_beside (holds x) (fails g gs) = unfold first_of in refl
item_beside (fails f fs) (holds y) = first_alone (first_item (f ∷ fs))
item_beside (fails f fs) (fails g gs) = item_append (f ∷ fs) (g ∷ gs)

-- ---- premises whose one item is i, and that have it where the least fault is 10
data Shows (i : ℕ) {A : Type 0} (m : Judged A) : Type 0 where
  bare : Bare m → (told_of m ≡ lacks 10 → ⊥) → Shows i m
  shown : item_in m ≡ some i → Shows i m

module _ (i : ℕ) where
  shows_then : {A B : Type 0} (m : Judged A) (k : A → Judged B) → Shows i m → ((x : A) → Shows i (k x)) → Shows i (m ▹ k)
  unfolding ◌▹◌ faults_of
  shows_then (holds x) k h g = g x
  shows_then (fails f fs) k (bare b n) g = bare b (λ e. n (unfold told_of in cc))
  shows_then (fails f fs) k (shown e) g = shown e

  least_ten : {A B : Type 0} (a : Judged A) (b : Judged B) → (told_of a ≡ lacks 10 → ⊥) → (told_of b ≡ lacks 10 → ⊥) → told_of (a & b) ≡ lacks 10 → ⊥
  unfolding ◌&◌ told_of
  least_ten (holds x) (holds y) h k e = let z : ◌≡◌ {A = ℕ} 0 1 = cc in omega arith
  least_ten (holds x) (fails g gs) h k e = k (cc)
  least_ten (fails f fs) (holds y) h k e = h (cc)
  least_ten (fails f fs) (fails g gs) h k e =
      let p : lowest (number_of f) (fs ++ g ∷ gs) ≡ 10 = cc in
      let q = lowest_both (number_of f) fs g gs in
      min_cases (lowest (number_of f) fs) (lowest (number_of g) gs) ⊥ (λ l r. h (ap lacks (sym r ∙ sym q ∙ p))) (λ l r. k (ap lacks (sym r ∙ sym q ∙ p)))

  shows_beside : {A B : Type 0} (a : Judged A) (b : Judged B) → Shows i a → Shows i b → Shows i (a & b)
  unfolding first_of earlier
  shows_beside a b (bare p h) (bare q k) = bare (item_beside a b ∙ ap₂ first_of p q) (least_ten a b h k)
  shows_beside a b (bare p h) (shown q) = shown (item_beside a b ∙ ap₂ first_of p q)
  shows_beside a b (shown p) (bare q k) = shown (item_beside a b ∙ ap₂ first_of p q)
  shows_beside a b (shown p) (shown q) = shown (item_beside a b ∙ ap₂ first_of p q ∙ ap some (omega arith))

  -- a premise with another fault
  or_other : {A : Type 0} (n : ℕ) (o : Option A) → (n ≡ 10 → ⊥) → told_of (or_fault n o) ≡ lacks 10 → ⊥
  unfolding or_fault told_of lowest number_of
  or_other n none h e = let p : n ≡ 10 = cc in h p
  or_other n (some x) h e = let z : ◌≡◌ {A = ℕ} 0 1 = cc in omega arith

  shows_or : {A : Type 0} (n : ℕ) (o : Option A) → (n ≡ 10 → ⊥) → Shows i (or_fault n o)
  shows_or n o h = bare (no_or n o).bare (or_other n o h)

  need_other : (n : ℕ) (b : Bool) → (n ≡ 10 → ⊥) → told_of (need (fault n) b) ≡ lacks 10 → ⊥
  unfolding need told_of lowest number_of
  need_other n true h e = let z : ◌≡◌ {A = ℕ} 0 1 = cc in omega arith
  need_other n false h e = let p : n ≡ 10 = cc in h p

  shows_need : (n : ℕ) (b : Bool) → (n ≡ 10 → ⊥) → Shows i (need (fault n) b)
  shows_need n b h = bare (no_need n b).bare (need_other n b h)

  shows_held : {A : Type 0} (x : A) → Shows i (holds x)
  unfolding told_of
  shows_held x = bare no_held.bare (λ e. let z : ◌≡◌ {A = ℕ} 0 1 = cc in omega arith)

  shows_item : (b : Bool) → Shows i (need (unfit i) b)
  unfolding need
  shows_item true = shows_held tt
  shows_item false = shown (unfold faults_of first_item earlier in refl)

  module _ (P : Program) (Δ : List Kind) (g : Ty stack) where
    shows_base : (b : Base) → Shows i (base P Δ g b)
    unfolding base known
    shows_base (reg r) = shows_or 9 _ (λ e. omega arith)
    shows_base (lit n) = shows_held _
    shows_base (lab l) = shows_or 9 _ (λ e. omega arith)

    shows_applied : (b : Base) (A : List Arg) (t : ℕ) → Shows i (applied P Δ (unfit i) g b A t)
    unfolding applied
    shows_applied b A t = shows_then _ _ (shows_base b) (λ u. shows_then _ _ (shows_or 9 _ (λ e. omega arith)) (λ c. shows_then _ _ (shows_or 14 _ (λ e. omega arith)) (λ q. shows_item _)))

    shows_packed : (b : Base) (a : Arg) (h : ℕ) → Shows i (packed P Δ (unfit i) g b a h)
    unfolding packed
    shows_packed b a h =
        shows_then _ _ (shows_beside _ _ (shows_base b) (shows_beside _ _ (shows_or 14 _ (λ e. omega arith)) (shows_or 9 _ (λ e. omega arith)))) (λ z. shows_item _)

    shows_typed : (v : Operand) → Shows i (operand P Δ (unfit i) g v)
    unfolding operand formed
    shows_typed (plain b) = shows_base b
    shows_typed (inst b ts t) =
        shows_then _ _ (shows_beside _ _ (shows_need 7 _ (λ e. omega arith)) (shows_beside _ _ (shows_need 7 _ (λ e. omega arith)) (shows_applied b _ t))) (λ z. shows_held _)
    shows_typed (pack a b h) =
        shows_then _ _ (shows_beside _ _ (shows_need 7 _ (λ e. omega arith)) (shows_beside _ _ (shows_need 7 _ (λ e. omega arith)) (shows_packed b _ h))) (λ z. shows_held _)

    pub shows_operand : (v : Operand) → told_of (operand P Δ (unfit i) g v) ≡ lacks 10 → item_in (operand P Δ (unfit i) g v) ≡ some i
    shows_operand v e = go (shows_typed v)
      where
        go : Shows i (operand P Δ (unfit i) g v) → item_in (operand P Δ (unfit i) g v) ≡ some i
        go (bare b n) = absurd (n e)
        go (shown s) = s
