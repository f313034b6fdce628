-- A target's answer is that of the jump or branch to it.
use Prim.Native.Nat.{ℕ, zero, suc}
use native.Mathlib.Omega.{arith}
use mathlib.Core.Path.{◌≡◌, refl, ap, sym, ◌∙◌}
use mathlib.Core.Bool.{Bool, cond}
use mathlib.Core.Option.{Option, none, some}
use mathlib.Core.List.{List}
use lib.Dec.{eqb}
use borrow.Author.Tests.{ne_eqb}
use Rattle.syntax.specs.Syntax.{Kind, value, stack, Operand, Branch, jmp, bop}
use Rattle.syntax.specs.Fault.{number_of, lowest}
use Rattle.syntax.proofs.Least.{least, first_of}
use Rattle.types.specs.Types.{Ty}
use Rattle.valid.specs.Program.{Program}
use Rattle.valid.specs.Rules.{Context}
use Rattle.valid.specs.Tests.{item_at, as_int}
use Rattle.valid.specs.PassThree.{◌▹◌, ◌&◌, or_fault, known, integer_at, target_of, judge}
use Rattle.valid_context.specs.Told.{Told, gives, lacks, told_of, answer}
use Rattle.std.specs.Prelude.{None, Result, Ok, Err}
use Rattle.faults.specs.declared.Fault.{Fault}
use Rattle.faults.specs.Numbers.{number}
use Rattle.valid_context.proofs.Results.{answer_fault, some_fault}
use Rattle.valid_typing.specs.declared.target.Misfit.{Misfit}
use Rattle.valid_typing.specs.target.Fits.{item_of, misfit_number, told_misfit, AnsweredBy}
use Rattle.valid_typing.proofs.Judging.{jmp_told, bop_told}
use Rattle.valid.proofs.Bare.{no_int}
use Rattle.valid_typing.proofs.Items.{item_in, item_map, item_beside}

-- an integer's premise has the fault 9, or none; no item
said_nine : (f : ℕ) → ◌≡◌ {A = Told (Unit {0})} (lacks 9) (answer f tt) → f ≡ 9
unfolding answer
said_nine zero e = let z : ◌≡◌ {A = ℕ} 0 1 = cc in absurd (omega arith)
said_nine (suc f) e = cc

said_none : (f : ℕ) → ◌≡◌ {A = Told (Unit {0})} (gives tt) (answer f tt) → f ≡ 0
unfolding answer
said_none zero e = refl
said_none (suc f) e = let z : ◌≡◌ {A = ℕ} 0 1 = cc in absurd (omega arith)

int_nine : (P : Program) (Δ : List Kind) (g : Ty stack) (r f : ℕ) → told_of (integer_at P Δ g r) ≡ answer f tt → (f ≡ 0 → ⊥) → f ≡ 9
unfolding integer_at known or_fault ◌▹◌ told_of lowest number_of
int_nine P Δ g r f e n = go (item_at g r) e
  where
    last : (o : Option (Unit {0})) → told_of (or_fault 9 o) ≡ answer f tt → f ≡ 9
    last none q = said_nine f q
    last (some tt) q = absurd (n (said_none f q))

    go : (o : Option (Ty value)) → told_of (or_fault 9 o ▹ λ t. or_fault 9 (as_int t)) ≡ answer f tt → f ≡ 9
    go none q = said_nine f q
    go (some t) q = last (as_int t) q

nine_low : (k : ℕ) → least 9 k ≡ 10 → ⊥
unfolding least
nine_low zero e = omega arith
nine_low (suc k) e = omega arith

-- what a target answers, by its number
pub misfit_told : {A B : Type 0} (x : A) (r : Result B Misfit) → told_misfit (λ u. x) r ≡ answer (misfit_number r) x
unfolding answer
misfit_told x (Ok u) = refl
misfit_told x (Err m) = sym (answer_fault m.fault x)

module _ (P : Program) (Δ : List Kind) (Γ : Context) (v : Operand) (r : Result (Unit {0}) Misfit) (a : AnsweredBy (target_of P Δ Γ v) (λ u. u) r) where
  jump_item : item_in (judge P Δ Γ (jmp v)) ≡ item_in (target_of P Δ Γ v)
  unfolding judge
  jump_item = item_map (target_of P Δ Γ v) Γ

  target_told : told_of (target_of P Δ Γ v) ≡ answer (misfit_number r) tt
  target_told = a.told ∙ misfit_told tt r

  pub jumps : AnsweredBy (judge P Δ Γ (jmp v)) (λ (u : Unit {0}). Γ) r
  jumps = record { told = jmp_told P Δ Γ v (misfit_number r) target_told ∙ sym (misfit_told Γ r); named = a.named ∙ ap (λ (o : Option ℕ). cond (eqb (misfit_number r) 10) o none) (sym jump_item) }

  module _ (o : Branch) (s : ℕ) where
    branch_item : item_in (judge P Δ Γ (bop o s v)) ≡ item_in (target_of P Δ Γ v)
    unfolding judge first_of
    branch_item = item_map (integer_at P Δ Γ.regs s & target_of P Δ Γ v) Γ ∙ item_beside (integer_at P Δ Γ.regs s) (target_of P Δ Γ v) ∙ ap (λ (n : Option ℕ). first_of n (item_in (target_of P Δ Γ v))) (no_int P Δ Γ.regs s).bare

    pub branches : told_of (integer_at P Δ Γ.regs s) ≡ gives tt → AnsweredBy (judge P Δ Γ (bop o s v)) (λ (u : Unit {0}). Γ) r
    unfolding least answer
    branches e =
        record {
          told = bop_told P Δ Γ o s v 0 (misfit_number r) e target_told ∙ sym (misfit_told Γ r);
          named = a.named ∙ ap (λ (o : Option ℕ). cond (eqb (misfit_number r) 10) o none) (sym branch_item);
        }

    pub branches_none : (f : Fault) (m : Misfit) → told_of (integer_at P Δ Γ.regs s) ≡ lacks (number f) → number m.fault ≡ least (number f) (misfit_number r) → m.item ≡ None → AnsweredBy {B = Unit {0}} (judge P Δ Γ (bop o s v)) (λ u. Γ) (Err m)
    branches_none f m e q i =
        let p : told_of (integer_at P Δ Γ.regs s) ≡ answer (number f) tt = e ∙ sym (answer_fault f tt) in
        let j : number m.fault ≡ least 9 (misfit_number r) = q ∙ ap (λ (x : ℕ). least x (misfit_number r)) (int_nine P Δ Γ.regs s (number f) p (some_fault f)) in
        record {
          told = bop_told P Δ Γ o s v (number f) (misfit_number r) p target_told ∙ ap (λ (x : ℕ). answer x Γ) (sym q) ∙ answer_fault m.fault Γ;
          named = ap item_of i ∙ ap (λ (b : Bool). cond b (item_in (judge P Δ Γ (bop o s v))) none) (sym (ne_eqb (number m.fault) 10 (λ z. nine_low (misfit_number r) (sym j ∙ z))));
        }
