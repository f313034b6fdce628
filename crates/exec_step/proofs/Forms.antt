-- What a row does, by its class and its form.
use mathlib.Core.Path.{◌≡◌, ap, sym, ◌∙◌}
use mathlib.Core.Bool.{Bool, true, false, cond}
use mathlib.Core.List.{List}
use Prim.Native.Nat.{ℕ, zero, suc, ◌+◌, ◌*◌, ◌%◌, ◌<◌, ◌≤◌}
use native.Mathlib.Omega.{arith}
use lib.Dec.{eqb, ltb}
use lib.ListN.{get_or}
use borrow.Author.Tests.{lt-ltb, ne_eqb}
use Rattle.syntax.specs.Syntax.{reg, plain}
use Rattle.exec.specs.Machine.{Memory, Word, put, word_of}
use Rattle.tables.specs.Tables.{OperandTable}
use Rattle.exec_words.specs.declared.memory.Word.{Word as Pair}
use Rattle.exec_words.specs.memory.Lent.{word_is}
use Rattle.exec_machine.specs.declared.Stop.{Stop as Reason}
use Rattle.exec_machine.specs.declared.Stop.TheVariants.{Stuck}
use Rattle.exec_machine.specs.Step.{result_of, next_jump, Next, Register, End}
use Rattle.exec_plan.specs.Plan.{reads_operand, form_in, planned}
use Rattle.exec_step.specs.declared.moved.Moved.{Moved}
use Rattle.exec_step.specs.declared.moved.Moved.TheVariants.{Ended}
use Rattle.exec_step.specs.moved.Stepped.{held, toward, Turned, Does, Starts}
use Rattle.exec_step.proofs.moved.Laws.{as_turned, to_register, ended}
use Rattle.exec_step.specs.Rows.{form_of, Goals, FitRow, Done}

-- ---- the form, from tests
-- x is none of the n numbers from a on
abbrev pub Apart : Type 0 → ℕ → ℕ → ℕ → Type 0
Apart X x a zero = X
Apart X x a (suc n) = Apart X x a n × (x ≡ a + n → ⊥)

pub none_of_lem : (X : Type 0) {x a : ℕ} (n : ℕ) → a ≤ x → Apart X x a n → a + n ≤ x
none_of_lem X zero l h = omega arith
none_of_lem X (suc n) l h = let k = none_of_lem X n l h.0 in omega (arith, h.1)

pub reads : (k : ℕ) {f : ℕ} → reads_operand k ≡ true → f ≡ k → reads_operand f ≡ true
reads k q e = ap reads_operand e ∙ q

module _ {φ os bs : List ℕ} {at : ℕ} (fit : FitRow φ os bs at) {r : ℕ} (e : r ≡ get_or φ (at + 0) 0) where
  class_is : (k : ℕ) → r % 16 ≡ k → get_or φ at 0 ≡ k
  class_is k q =
      let z : at + 0 ≡ at = omega arith in
      let w : r ≡ get_or φ at 0 = e ∙ ap (λ (i : ℕ). get_or φ i 0) z in
      omega (arith, fit.class, w, q)

  -- a class below 15 is the form
  pub class_form : {k : ℕ} → r % 16 ≡ k → k < 15 → form_of φ at ≡ k
  unfolding form_in
  class_form {k} q h = ap (λ (c : ℕ). cond (ltb c 15) c (get_or φ (at + 5) 0)) (class_is k q) ∙ simp (lt-ltb k 15 h)

  pub class_last : {X : Type 0} → Apart X (r % 16) 0 15 → get_or φ at 0 ≡ 15
  class_last {X} h = class_is 15 (omega (arith, none_of_lem X {x = r % 16} {a = 0} 15 (omega arith) h))

-- in class 15 column 5 is
pub other_form : {φ os bs : List ℕ} {at r k : ℕ} → FitRow φ os bs at → get_or φ at 0 ≡ 15 → r ≡ get_or φ (at + 5) 0 → r ≡ k → form_of φ at ≡ k
unfolding form_in
other_form {φ = φ} {at = at} fit e q h = ap (λ (c : ℕ). cond (ltb c 15) c (get_or φ (at + 5) 0)) e ∙ sym q ∙ h

apart : (f k : ℕ) → k < 24 → 24 ≤ f → eqb f k ≡ false
apart f k l h = ne_eqb f k (λ e. omega (arith, e, l, h))

-- ---- from what the function of form k promises to what the row does
abbrev does : List ℕ → ℕ → List ℕ → ℕ → ℕ → ℕ → Memory → Memory → Memory → ℕ → ℕ → (ℕ → ℕ) → ℕ → Next
does β l φ at h u R S H k s g p = planned β l s g k (get_or φ (at + 1) 0) (get_or φ (at + 2) 0) (get_or φ (at + 3) 0) (get_or φ (at + 4) 0) p R S H h u

past : (β : List ℕ) (l : ℕ) (φ : List ℕ) (at h u : ℕ) (R S H : Memory) (k s p : ℕ) (g : ℕ → ℕ) → 24 ≤ k → End Stuck ≡ does β l φ at h u R S H k s g p
unfolding planned
past β l φ at h u R S H k s p g e =
    sym (simp (
      apart k 0 (omega arith) e,
      apart k 1 (omega arith) e,
      apart k 2 (omega arith) e,
      apart k 3 (omega arith) e,
      apart k 4
          (omega arith) e,
      apart k 5 (omega arith) e,
      apart k 6 (omega arith) e,
      apart k 7 (omega arith) e,
      apart k 8 (omega arith) e,
      apart k 9
          (omega arith) e,
      apart k 10 (omega arith) e,
      apart k 11 (omega arith) e,
      apart k 12 (omega arith) e,
      apart k 13 (omega arith) e,
      apart
          k 14 (omega arith) e,
      apart k 15 (omega arith) e,
      apart k 16 (omega arith) e,
      apart k 17 (omega arith) e,
      apart k 18 (omega arith) e,
      apart k 19 (omega arith) e,
      apart k 20 (omega arith) e,
      apart k 21 (omega arith) e,
      apart k 22 (omega arith) e,
      apart k 23
          (omega arith) e,
    ))

module _ {ω : OperandTable} {β : List ℕ} {l : ℕ} {φ : List ℕ} {at h u : ℕ} {more : Bool} {R S H : Memory} {r : Moved} where
  module _ {k : ℕ} (e : form_of φ at ≡ k) where
    pub by_turn : {R' S' H' : Memory} → ((m s j p : ℕ) (g : ℕ → ℕ) → Starts β l m → Goals φ at m s g → at + 8 ≡ 8 * p → (k < 24 → p ≤ m) → Turned m (result_of ω (held R S H h u j) (does β l φ at h u R S H k s g p)) more (held R S H h u j) r R' S' H') → Done ω β l φ at h u more R S H r R' S' H'
    by_turn t = record { turned = λ m s j p g starts goals et lp. as_turned (ap (λ (f : ℕ). result_of ω (held R S H h u j) (does β l φ at h u R S H f s g p)) e) (t m s j p g starts goals et (λ q. lp (omega (arith, e, q)))) }

    pub by_does : {R' S' H' : Memory} → k < 24 → ((s : ℕ) (g : ℕ → ℕ) → Does ω at h u more R S H (does β l φ at h u R S H k s g) r R' S' H') → Done ω β l φ at h u more R S H r R' S' H'
    by_does lk d = by_turn (λ m s j p g starts goals et lp. d s g p m j et (lp lk))

    -- the word w to register x
    pub by_assign : {w : Pair} {R' : Memory} → k < 24 → h ≤ 256 → u ≤ 2048 → ((s p : ℕ) (g : ℕ → ℕ) → Register (get_or φ (at + 1) 0) w p ≡ does β l φ at h u R S H k s g p) → r ≡ toward more (at + 8) h u → R' ≡ cond more (put R (get_or φ (at + 1) 0) (word_is w)) R → Done ω β l φ at h u more R S H r R' S H
    by_assign lk lh lu q er e_r = by_turn (λ m s j p g starts goals et lp. to_register ω et (lp lk) lh lu (q s p g) er e_r)

    pub by_end : {x : Reason} → r ≡ Ended x → ((s p : ℕ) (g : ℕ → ℕ) → End x ≡ does β l φ at h u R S H k s g p) → Done ω β l φ at h u more R S H r R S H
    by_end er q = by_turn (λ m s j p g starts goals et lp. ended ω er (q s p g))

    pub by_past : r ≡ Ended Stuck → 24 ≤ k → Done ω β l φ at h u more R S H r R S H
    by_past er h = by_end er (λ s p g. past β l φ at _ u R S H k s p g h)

  -- a jump through the register that the operand is
  pub by_jump : form_of φ at ≡ 8 → {w : Word} → w ≡ word_of R (plain (reg (get_or φ (at + 4) 0))) → ((m j : ℕ) → Starts β l m → Turned m (result_of ω (held R S H h u j) (next_jump β l w)) more (held R S H h u j) r R S H) → Done ω β l φ at h u more R S H r R S H
  unfolding planned
  by_jump e q t = by_turn e (λ m s j p g starts goals et lp. as_turned (ap (λ (v : Word). result_of ω (held R S H h u j) (next_jump β l v)) (sym q)) (t m j starts))
