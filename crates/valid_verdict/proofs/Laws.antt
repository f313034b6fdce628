-- The three passes, put together.
use Prim.Native.Nat.{ℕ}
use mathlib.Core.Path.{◌≡◌, refl, ap, ap₂, sym, ◌∙◌}
use mathlib.Core.Bool.{Bool, cond}
use mathlib.Core.Option.{Option, none, some}
use mathlib.Core.List.{List}
use lib.Dec.{eqb}
use lib.ListN.{length}
use borrow.Author.Tests.{ne_eqb}
use Rattle.syntax.specs.Fault.{Refusal, lowest_line, or_else, earliest}
use Rattle.syntax.proofs.Least.{item_ten}
use Rattle.text.specs.PassOne.{pass_one}
use Rattle.valid.specs.Program.{program_of}
use Rattle.valid.specs.PassThree.{pass_three}
use Rattle.valid.specs.Verdict.{accepted, refused, instr_count, answer, pass_two_of, passes, check}
use Rattle.valid_verdict.specs.declared.Answer.TheVariants.{Accepted, Refused, Unfit}
use Rattle.valid_verdict.specs.Answers.{verdict_is, low, third}

module _ (text : List ℕ) where
  by_passes : (a b c : Option Refusal) → or_else a (or_else b (or_else c none)) ≡ or_else (or_else a b) c
  by_passes none none none = refl
  by_passes none none (some r) = refl
  by_passes none (some r) c = refl
  by_passes (some r) b c = refl

  verdict : answer (program_of text) (or_else (low text) (third text)) ≡ check text
  unfolding check passes earliest
  verdict = ap (answer (program_of text)) (sym (by_passes (lowest_line 0 (pass_one text)) (lowest_line 0 (pass_two_of text)) (lowest_line 0 (pass_three (program_of text)))))

  -- a fault of passes one and two
  pub answers_low : (k line : ℕ) → (k ≡ 0 → ⊥) → cond (eqb k 0) none (some (record { number = k; line = line; item = none })) ≡ low text → verdict_is (Refused k line) ≡ check text
  unfolding verdict_is
  answers_low k line z e =
      let r : Refusal = record { number = k; line = line; item = none } in
      let g : some r ≡ low text = ap (λ (b : Bool). cond b none (some r)) (sym (ne_eqb k 0 z)) ∙ e in
      ap (λ (o : Option Refusal). answer (program_of text) (or_else o (third text))) g ∙ verdict

  -- none of passes one and two
  module _ (e : none ≡ low text) where
    third_only : (o : Option Refusal) → o ≡ third text → answer (program_of text) o ≡ check text
    third_only o t = ap₂ (λ (x y : Option Refusal). answer (program_of text) (or_else x y)) e t ∙ verdict

    module _ {o : Option Refusal} (t : o ≡ third text) where
      pub answers_none : {b i : ℕ} → o ≡ none → b ≡ length (program_of text).blocks → i ≡ instr_count (program_of text).blocks → verdict_is (Accepted b i) ≡ check text
      unfolding verdict_is
      answers_none z p q = ap₂ accepted p q ∙ third_only none (sym z ∙ t)

      pub answers_third : {k l : ℕ} → o ≡ some (record { number = k; line = l; item = none }) → verdict_is (Refused k l) ≡ check text
      unfolding verdict_is
      answers_third z = third_only _ (sym z ∙ t)

      pub answers_unfit : {k l i : ℕ} → o ≡ some (record { number = k; line = l; item = some i }) → verdict_is (Unfit l i) ≡ check text
      unfolding verdict_is
      answers_unfit {k} {l} {i} z =
          let n : k ≡ 10 = item_ten 0 (pass_three (program_of text)) (sym t ∙ z) refl in
          ap (λ (m : ℕ). refused (record { number = m; line = l; item = some i })) (sym n) ∙ third_only _ (sym z ∙ t)
