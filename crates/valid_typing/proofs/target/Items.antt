-- Laws of the answer of a target.
use Prim.Native.Nat.{ℕ}
use native.Mathlib.Omega.{arith}
use mathlib.Core.Path.{◌≡◌, refl, ap, ap₂, sym, ◌∙◌}
use mathlib.Core.Bool.{Bool, true, false, cond}
use mathlib.Core.Option.{none, some}
use mathlib.Core.List.{List, []}
use lib.Dec.{eqb}
use borrow.Author.Tests.{ne_eqb, eqb-true, eqb-false}
use Rattle.syntax.specs.Syntax.{Kind, value, Operand}
use Rattle.syntax.specs.Fault.{unfit, number_of, first_item}
use Rattle.types.specs.Types.{Ty, junk}
use Rattle.types.specs.Equal.{same, same_letters}
use Rattle.valid.specs.Program.{Program, CodeType, as_code}
use Rattle.valid.specs.Rules.{Context}
use Rattle.valid.specs.PassThree.{Judged, operand, unfits, target_of}
use Rattle.valid.specs.Tests.{none_left}
use Rattle.std.specs.Prelude.{Some, None, Ok, Err}
use Rattle.faults.specs.declared.Fault.{Fault}
use Rattle.faults.specs.declared.Fault.TheVariants.{Malformed, Misplaced, TooMany, Missing, WrongSort, TooLarge, Unbound, NoEntry, WrongType, Unequal, NoItem, NoTail, TooDeep, WrongLetter, BadSamples, BadState}
use Rattle.faults.specs.Numbers.{number}
use Rattle.valid_context.specs.Told.{gives, lacks, told_of, answer}
use Rattle.valid_context.proofs.Results.{answer_fault, some_fault}
use Rattle.valid_typing.specs.declared.target.Misfit.{Misfit}
use Rattle.valid_typing.specs.target.Fits.{operand_misfit, AnsweredBy}
use Rattle.valid.proofs.Clear.{some_none}
use Rattle.valid_typing.proofs.Items.{item_in}
use Rattle.valid_typing.proofs.Targets.{target_stops, target_unequal, target_plain, target_open, target_fits, target_sp, target_reg, target_sp_item, target_reg_item}

-- ---- items
-- the one fault of an item
pub ten_is : (f : Fault) → number f ≡ 10 → f ≡ Unequal
ten_is Malformed e = absurd (omega arith)
ten_is Misplaced e = absurd (omega arith)
ten_is TooMany e = absurd (omega arith)
ten_is Missing e = absurd (omega arith)
ten_is WrongSort e = absurd (omega arith)
ten_is TooLarge e = absurd (omega arith)
ten_is Unbound e = absurd (omega arith)
ten_is NoEntry e = absurd (omega arith)
ten_is WrongType e = absurd (omega arith)
ten_is Unequal e = refl
ten_is NoItem e = absurd (omega arith)
ten_is NoTail e = absurd (omega arith)
ten_is TooDeep e = absurd (omega arith)
ten_is WrongLetter e = absurd (omega arith)
ten_is BadSamples e = absurd (omega arith)
ten_is BadState e = absurd (omega arith)

module _ {A B : Type 0} (J : Judged A) (g : B → A) where
  -- the premise holds, or lacks an item, or has another fault
  pub answered_ok : (u : B) → told_of J ≡ gives (g u) → AnsweredBy J g (Ok u)
  answered_ok u t = record { told = t; named = refl }

  pub answered_item : (i : ℕ) (m : Misfit) → m ≡ record { fault = Unequal; item = Some i } → told_of J ≡ lacks 10 → item_in J ≡ some i → AnsweredBy J g (Err m)
  answered_item i m e t n = rw e (record { told = t; named = sym n })

  pub answered_none : (f : Fault) (m : Misfit) → m ≡ record { fault = f; item = None } → told_of J ≡ lacks (number f) → (number f ≡ 10 → ⊥) → AnsweredBy J g (Err m)
  answered_none f m e t z = rw e (record { told = t; named = rw (ne_eqb (number f) 10 z) refl })

pub ninety_nine : number_of (unfit 99) ≡ 10
unfolding number_of
ninety_nine = refl

-- ---- targets
module _ (P : Program) (Δ : List Kind) (Γ : Context) (v : Operand) where
  -- the operand has a fault
  pub has_fault : (f : Fault) (m : Misfit) → m ≡ operand_misfit f → told_of (operand P Δ (unfit 99) Γ.regs v) ≡ lacks (number f) → AnsweredBy {B = Unit {0}} (target_of P Δ Γ v) (λ u. u) (Err m)
  unfolding answer
  has_fault f m e p = go (eqb (number f) 10) refl
    where
      go : (t : Bool) → eqb (number f) 10 ≡ t → AnsweredBy {B = Unit {0}} (target_of P Δ Γ v) (λ u. u) (Err m)
      go true h =
          let n : number f ≡ 10 = eqb-true (number f) 10 h in
          let q : m ≡ record { fault = Unequal; item = Some 99 } = e ∙ ap₂ (λ (x : Fault) (b : Bool). record { fault = x; item = cond b (Some 99) None }) (ten_is f n) h in
          let l : told_of (operand P Δ (unfit 99) Γ.regs v) ≡ lacks 10 = p ∙ ap lacks n in
          answered_item (target_of P Δ Γ v) (λ u. u) 99 m q (target_stops P Δ Γ v 10 junk l (λ z. absurd (omega arith))) (target_unequal P Δ Γ v 10 junk l refl)
      go false h =
          answered_none (target_of P Δ Γ v) (λ u. u) f m (e ∙ ap (λ (b : Bool). record { fault = f; item = cond b (Some 99) None }) h)
          (target_stops P Δ Γ v (number f) junk (p ∙ sym (answer_fault f junk)) (some_fault f) ∙ answer_fault f tt) (eqb-false (number f) 10 h)

  module _ (u : Ty value) (p : told_of (operand P Δ (unfit 99) Γ.regs v) ≡ gives u) where
    pub no_code : (m : Misfit) → m ≡ record { fault = WrongType; item = None } → as_code u ≡ none → AnsweredBy {B = Unit {0}} (target_of P Δ Γ v) (λ u. u) (Err m)
    unfolding answer
    no_code m i e = answered_none (target_of P Δ Γ v) (λ u. u) WrongType m i (target_plain P Δ Γ v 0 u p refl e) (λ q. absurd (omega arith))

    module _ (c : CodeType) (e : as_code u ≡ some c) where
      pub still_open : (m : Misfit) → m ≡ record { fault = WrongType; item = None } → same_letters c.letters [] ≡ false → AnsweredBy {B = Unit {0}} (target_of P Δ Γ v) (λ u. u) (Err m)
      unfolding answer none_left
      still_open m i o = answered_none (target_of P Δ Γ v) (λ u. u) WrongType m i (target_open P Δ Γ v 0 u p refl c e o) (λ q. absurd (omega arith))

      module _ (o : same_letters c.letters [] ≡ true) where
        abbrev closed : none_left c ≡ true
        closed = unfold none_left in o

        pub sp_differs : (m : Misfit) → m ≡ record { fault = Unequal; item = Some 0 } → {b : Bool} → b ≡ same c.sp Γ.sp → b ≡ false → AnsweredBy {B = Unit {0}} (target_of P Δ Γ v) (λ u. u) (Err m)
        unfolding answer
        sp_differs m i s f = answered_item (target_of P Δ Γ v) (λ u. u) 0 m i (target_sp P Δ Γ v 0 u p refl c e closed (sym s ∙ f)) (target_sp_item P Δ Γ v 0 u p refl c e closed (sym s ∙ f))

        module _ {b : Bool} (s : b ≡ same c.sp Γ.sp) (t : b ≡ true) where
          pub register_differs : (i : ℕ) (m : Misfit) → m ≡ record { fault = Unequal; item = Some i } → some i ≡ first_item (unfits P Δ 1 c.regs Γ.regs) → AnsweredBy {B = Unit {0}} (target_of P Δ Γ v) (λ u. u) (Err m)
          unfolding answer
          register_differs i m q n =
              answered_item (target_of P Δ Γ v) (λ u. u) i m q (target_reg P Δ Γ v 0 u p refl c e closed (sym s ∙ t) (λ z. some_none (n ∙ z))) (target_reg_item P Δ Γ v 0 u p refl c e closed (sym s ∙ t) ∙ sym n)

          pub all_fit : none ≡ first_item (unfits P Δ 1 c.regs Γ.regs) → AnsweredBy {B = Unit {0}} (target_of P Δ Γ v) (λ u. u) (Ok tt)
          unfolding answer
          all_fit n = answered_ok (target_of P Δ Γ v) (λ u. u) tt (target_fits P Δ Γ v 0 u p refl c e closed (sym s ∙ t) (sym n))
