-- The lowest line of a block's instructions, one after the other.
use Prim.Native.Nat.{ℕ, zero, suc, ◌+◌, ◌-◌, ◌≤◌, ◌<◌}
use native.Mathlib.Omega.{arith}
use mathlib.Core.Path.{◌≡◌, refl, ap, ap₂, sym, ◌∙◌}
use mathlib.Core.Option.{Option, none, some}
use mathlib.Core.List.{List, [], ◌∷◌}
use lib.ListN.{length}
use Rattle.syntax.specs.Syntax.{Kind, Instr}
use Rattle.syntax.specs.Fault.{Refusal, refuse, lowest_line, number_of, lowest}
use Rattle.syntax.proofs.Least.{least_of, line_here}
use Rattle.tables.specs.Tables.{OperandTable, instr_at, instrs_from}
use Rattle.tables.proofs.Steps.{instrs_step}
use Rattle.valid.specs.Program.{Program}
use Rattle.valid.specs.Rules.{Context, letters_after}
use Rattle.valid.specs.PassThree.{Judged, holds, fails, faults_of, judge, body_faults}
use Rattle.valid_context.specs.Told.{gives, lacks, told_of}
use Rattle.std.specs.Prelude.{Option as Maybe, Some, None, Err}
use Rattle.valid_verdict.specs.finding.Found.{item_named}
use Rattle.faults.specs.Numbers.{number}
use Rattle.valid_context.proofs.Results.{some_fault}
use Rattle.valid_typing.specs.declared.target.Misfit.{Misfit}
use Rattle.valid_typing.specs.target.Fits.{item_of, AnsweredBy}

-- the item that a misfit names
pub same_item : (o : Maybe ℕ) → item_named o ≡ item_of o
same_item None = refl
same_item (Some i) = refl

-- ---- one instruction
-- it holds, and gives x
told_holds : {A : Type 0} (J : Judged A) (x : A) → told_of J ≡ gives x → J ≡ holds x
unfolding told_of
told_holds (holds y) x e = let q : y ≡ x = cc in ap holds q
told_holds (fails f fs) x e = let z : ◌≡◌ {A = ℕ} 0 1 = cc in absurd (omega arith)

-- it fails, with that least number
told_fails : {A : Type 0} (J : Judged A) (k : ℕ) → told_of J ≡ lacks k → k ≡ least_of (faults_of J)
unfolding told_of faults_of least_of
told_fails (holds y) k e = let z : ◌≡◌ {A = ℕ} 0 1 = cc in absurd (omega arith)
told_fails (fails f fs) k e = let q : lowest (number_of f) fs ≡ k = cc in sym q

module _ (P : Program) (Δ : List Kind) where
  pub body_next : (n : ℕ) (Γ Γ' : Context) (x : Instr) (xs : List Instr) → told_of (judge P Δ Γ x) ≡ gives Γ' → lowest_line n (body_faults P Δ (holds Γ) (x ∷ xs)) ≡ lowest_line (suc n) (body_faults P (letters_after x Δ) (holds Γ') xs)
  unfolding body_faults
  body_next n Γ Γ' x xs a =
      let e : judge P Δ Γ x ≡ holds Γ' = told_holds (judge P Δ Γ x) Γ' a in
      ap (λ J. lowest_line n (faults_of J ∷ body_faults P (letters_after x Δ) J xs)) e ∙ (unfold faults_of lowest_line in refl)

  pub body_found : {B : Type 0} (n : ℕ) (Γ : Context) (g : B → Context) (x : Instr) (xs : List Instr) (m : Misfit) → AnsweredBy (judge P Δ Γ x) g (Err m)
      → some (record { number = number m.fault; line = n; item = item_of m.item }) ≡ lowest_line n (body_faults P Δ (holds Γ) (x ∷ xs))
  unfolding body_faults
  body_found n Γ g x xs m a =
      let J : Judged Context = judge P Δ Γ x in
      let q : number m.fault ≡ least_of (faults_of J) = told_fails J (number m.fault) a.told in
      ap (λ (i : Option ℕ). some (record { number = number m.fault; line = n; item = i })) a.named
      ∙ ap (λ (k : ℕ). some (refuse k n (faults_of J))) q
      ∙ sym (line_here n (faults_of J) (body_faults P (letters_after x Δ) J xs) (λ w. some_fault m.fault (q ∙ w)))

  pub body_end : (n : ℕ) (J : Judged Context) → none ≡ lowest_line n (body_faults P Δ J [])
  unfolding body_faults lowest_line
  body_end n J = refl

pub length_body : (P : Program) (Δ : List Kind) (J : Judged Context) (xs : List Instr) → length (body_faults P Δ J xs) ≡ length xs
unfolding body_faults
length_body P Δ J [] = refl
length_body P Δ (holds Γ) (x ∷ xs) = ap suc (length_body P (letters_after x Δ) (judge P Δ Γ x) xs)
length_body P Δ (fails f fs) (x ∷ xs) = ap suc (length_body P Δ (fails f fs) xs)

-- ---- a block's instructions from i on, in the tables, under the letters Δ that are then in force
module _ (P : Program) (ι : List ℕ) (ω : OperandTable) (e base : ℕ) where
  unfoldable pub lines_left : List Kind → ℕ → Context → Option Refusal
  lines_left Δ i Γ = lowest_line (base + i) (body_faults P Δ (holds Γ) (instrs_from ι ω i (e - i)))

  more : (Δ : List Kind) (i : ℕ) (Γ : Context) → i < e → lines_left Δ i Γ ≡ lowest_line (base + i) (body_faults P Δ (holds Γ) (instr_at ι ω i ∷ instrs_from ι ω (i + 1) (e - (i + 1))))
  unfolding lines_left
  more Δ i Γ h = ap (λ (xs : List Instr). lowest_line (base + i) (body_faults P Δ (holds Γ) xs)) (instrs_step ι ω i e h)

  pub instr_next : (Δ Δ' : List Kind) (i : ℕ) (Γ Γ' : Context) → i < e → told_of (judge P Δ Γ (instr_at ι ω i)) ≡ gives Γ' → letters_after (instr_at ι ω i) Δ ≡ Δ' → lines_left Δ' (i + 1) Γ' ≡ lines_left Δ i Γ
  unfolding lines_left
  instr_next Δ Δ' i Γ Γ' h a l =
      let q : suc (base + i) ≡ base + (i + 1) = omega arith in
      sym (more Δ i Γ h ∙ body_next P Δ (base + i) Γ Γ' (instr_at ι ω i) (instrs_from ι ω (i + 1) (e - (i + 1))) a
      ∙ ap₂ (λ (n : ℕ) (D : List Kind). lowest_line n (body_faults P D (holds Γ') (instrs_from ι ω (i + 1) (e - (i + 1))))) q l)

  pub instr_found : {B : Type 0} (Δ : List Kind) (i : ℕ) (Γ : Context) (g : B → Context) (m : Misfit) → i < e → AnsweredBy (judge P Δ Γ (instr_at ι ω i)) g (Err m) → some (record { number = number m.fault; line = base + i; item = item_of m.item }) ≡ lines_left Δ i Γ
  instr_found Δ i Γ g m h a = body_found P Δ (base + i) Γ g (instr_at ι ω i) (instrs_from ι ω (i + 1) (e - (i + 1))) m a ∙ sym (more Δ i Γ h)

  pub instrs_end : (Δ : List Kind) (i : ℕ) (Γ : Context) → e ≤ i → none ≡ lines_left Δ i Γ
  unfolding lines_left instrs_from
  instrs_end Δ i Γ h = let q : e - i ≡ 0 = omega arith in rw q (body_end P Δ (base + i) (holds Γ))
