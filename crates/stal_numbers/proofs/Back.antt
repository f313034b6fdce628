-- The library's numbers tell the answer.
use Prim.Native.Nat.{ℕ, ◌≤◌}
use native.Mathlib.Omega.{arith}
use mathlib.Core.Path.{◌≡◌, refl, ap}
use mathlib.Core.Bool.{Bool, true, false, cond}
use mathlib.Core.Option.{Option, none, some}
use mathlib.Core.Logic.{inl, inr}
use mathlib.Core.List.{List}
use lib.Dec.{eqb, eqb→eq}
use Rattle.valid.specs.Verdict as valid
use Rattle.valid.specs.Verdict.{accepted, check}
use Rattle.valid.proofs.Verdicts.{refused_number}
use Rattle.valid.proofs.Item.{refused_item}
use Rattle.valid.specs.FirstItem.{IsItem}
use Rattle.valid_context.specs.premises.Answers.{item_said}
use Rattle.valid_context.proofs.Told.{said_some}
use Rattle.exec.specs.Machine.{State}
use Rattle.exec.specs.Run.{Answer, refused, halted_after, paused_after, stack_full_after, heap_full_after, stuck_after, starting, continuing}
use Rattle.exec.proofs.Numbers.{starting_numbers, continuing_numbers}
use Rattle.stal_numbers.specs.Numbers.{item_number, verdict_of, reply_of}
use Rattle.stal_numbers.specs.Back.{verdict_back, answer_back}

differ : (m n : ℕ) → (m ≡ n → ⊥) → eqb m n ≡ false
differ m n f = by (eqb m n) refl
  where
    by : (b : Bool) → eqb m n ≡ b → b ≡ false
    by true e = absurd (f (eqb→eq m n (rw e tt)))
    by false e = refl

-- ---- calls
answer_back_lem : (a : Answer) → ((n line : ℕ) → a ≡ refused n line → (1 ≤ n) × (n ≤ 16)) → answer_back (reply_of a) ≡ a
unfolding answer_back reply_of
answer_back_lem (refused n line) h =
    let l = (h n line refl).0 in
    let k = (h n line refl).1 in
    rw (differ n 0 (λ e. omega arith), differ n 17 (λ e. omega arith), differ n 18 (λ e. omega arith), differ n 19 (λ e. omega arith), differ n 20 (λ e. omega arith))
answer_back_lem (halted_after n kind number) h = refl
answer_back_lem (paused_after n) h = refl
answer_back_lem (stack_full_after n) h = refl
answer_back_lem (heap_full_after n) h = refl
answer_back_lem (stuck_after n) h = refl

pub start_back : (text samples : List ℕ) (m : ℕ) (σ : State) → answer_back (reply_of (starting text samples m σ).answer) ≡ (starting text samples m σ).answer
start_back text samples m σ = answer_back_lem (starting text samples m σ).answer (starting_numbers text samples m σ)

pub continue_back : (text : List ℕ) (m : ℕ) (σ : State) → answer_back (reply_of (continuing text m σ).answer) ≡ (continuing text m σ).answer
continue_back text m σ = answer_back_lem (continuing text m σ).answer (continuing_numbers text m σ)

-- ---- check
below : {i : ℕ} → IsItem i → i ≡ 100 → ⊥
below (inl l) e = omega arith
below (inr q) e = omega arith

item_back : (n : ℕ) (o : Option ℕ) → ((i : ℕ) → o ≡ some i → (n ≡ 10) × (i ≡ 100 → ⊥)) → cond (eqb n 10) (item_said (item_number o)) none ≡ o
unfolding item_number
item_back n none h = either (eqb n 10)
  where
    either : (b : Bool) → cond b (item_said 100) none ≡ none
    either true = unfold item_said in refl
    either false = refl
item_back n (some i) h = let k = h i refl in rw k.0 (said_some i k.1)

pub check_back : (text : List ℕ) → verdict_back (verdict_of (check text)) ≡ check text
check_back text = by (check text) refl
  where
    by : (w : valid.Verdict) → check text ≡ w → verdict_back (verdict_of w) ≡ w
    by (accepted b i) e = unfold verdict_back verdict_of in refl
    by (valid.refused r) e =
        let k = (refused_number text r e).0 in
        let q = item_back r.number r.item (λ i h. let c = refused_item text r i e h in (c.0, below c.1)) in
        unfold verdict_back verdict_of in rw (differ r.number 0 (λ z. omega arith)) (ap (λ (o : Option ℕ). valid.refused (record { number = r.number; line = r.line; item = o })) q)
