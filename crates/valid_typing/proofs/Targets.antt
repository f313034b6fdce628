-- The least fault of a target, by what its premises answer, and the first item that does not fit.
use Prim.Native.Nat.{ℕ, suc}
use native.Mathlib.Omega.{arith}
use mathlib.Core.Path.{◌≡◌, refl, ap, sym, ◌∙◌}
use mathlib.Core.Bool.{Bool, true, false, cond}
use mathlib.Core.Option.{Option, none, some}
use mathlib.Core.List.{List, [], ◌∷◌, ◌++◌}
use Rattle.syntax.specs.Syntax.{Kind, value, stack, Operand}
use Rattle.syntax.specs.Fault.{Fault, fault, unfit, number_of, earlier, first_item, lowest}
use Rattle.types.specs.Types.{Ty, nil, push, svar, gap}
use Rattle.types.specs.Equal.{same}
use Rattle.valid.specs.Program.{Program, CodeType, as_code}
use Rattle.valid.specs.Rules.{Context}
use Rattle.valid.specs.PassThree.{Judged, holds, faults_of, ◌▹◌, ◌&◌, or_fault, need, none_of, operand, unfits, target_of}
use Rattle.valid.specs.Tests.{none_left}
use Rattle.syntax.proofs.Least.{least, first_of}
use Rattle.valid_context.specs.Told.{lacks, told_of, answer}
use Rattle.valid_context.proofs.Told.{told_and, told_stop, told_some, told_none, told_need}
use Rattle.valid_typing.proofs.Judging.{told_map, told_next, needs, stops}
use Rattle.valid_typing.proofs.Items.{item_in, item_stop, item_after, item_map, item_beside, shows_operand}

-- ---- registers that do not fit
-- every fault is one of an item
abbrev Unfit : List Fault → Type 0
Unfit [] = Unit
Unfit (f ∷ fs) = ((i : ℕ) × (f ≡ unfit i)) × Unfit fs

differs_unfit : (n : ℕ) (b : Bool) (fs : List Fault) → Unfit fs → Unfit (cond b [] (unfit n ∷ []) ++ fs)
differs_unfit n true fs h = h
differs_unfit n false fs h = ((n, refl), h)

lowest_unfit : (fs : List Fault) → Unfit fs → lowest 10 fs ≡ 10
unfolding lowest
lowest_unfit [] h = refl
lowest_unfit (f ∷ fs) h = let p : number_of f ≡ 10 = rw h.0.1 (unfold number_of in refl) in rw p (lowest_unfit fs h.1)

earlier_some : (i : ℕ) (o : Option ℕ) → earlier i o ≡ none → ⊥
unfolding earlier
earlier_some i none e = let z : ◌≡◌ {A = ℕ} 0 1 = cc in omega arith
earlier_some i (some j) e = let z : ◌≡◌ {A = ℕ} 0 1 = cc in omega arith

first_none : (fs : List Fault) → Unfit fs → first_item fs ≡ none → fs ≡ []
unfolding first_item
first_none [] h e = refl
first_none (fault n ∷ fs) h e = let q = h.0.1 in let z : ◌≡◌ {A = ℕ} 0 1 = cc in absurd (omega arith)
first_none (unfit i ∷ fs) h e = absurd (earlier_some i (first_item fs) e)

-- sp is before every other item
earlier_sp : (o : Option ℕ) → earlier 0 o ≡ some 0
unfolding earlier
earlier_sp none = refl
earlier_sp (some j) = ap some (omega arith)

none_faults : (fs : List Fault) → faults_of (none_of fs) ≡ fs
unfolding none_of faults_of
none_faults [] = refl
none_faults (f ∷ fs) = refl

nothing_told : told_of (none_of []) ≡ answer 0 tt
unfolding none_of told_of answer
nothing_told = refl

cons_none : {f : Fault} {fs : List Fault} → f ∷ fs ≡ [] → ⊥
cons_none e = let z : ◌≡◌ {A = ℕ} 0 1 = cc in omega arith

none_told : (fs : List Fault) → Unfit fs → first_item fs ≡ none → told_of (none_of fs) ≡ answer 0 tt
none_told fs h e = rw (first_none fs h e) (unfold none_of told_of answer in refl)

some_told : (fs : List Fault) → Unfit fs → (first_item fs ≡ none → ⊥) → told_of (none_of fs) ≡ answer 10 tt
unfolding none_of told_of answer
some_told [] h n = absurd (n (unfold first_item in refl))
some_told (f ∷ fs) h n = let p : number_of f ≡ 10 = rw h.0.1 (unfold number_of in refl) in rw p (ap lacks (lowest_unfit fs h.1))

module _ (P : Program) (Δ : List Kind) where
  unfits_unfit : (n : ℕ) (r g : Ty stack) → Unfit (unfits P Δ n r g)
  unfolding unfits
  unfits_unfit n nil nil = tt
  unfits_unfit n nil (push u g) = ((n, refl), tt)
  unfits_unfit n nil (svar k g) = ((n, refl), tt)
  unfits_unfit n nil (gap g) = ((n, refl), tt)
  unfits_unfit n (push t r) nil = ((n, refl), tt)
  unfits_unfit n (push t r) (push u g) = differs_unfit n (same t u) _ (unfits_unfit (suc n) r g)
  unfits_unfit n (push t r) (svar k g) = ((n, refl), tt)
  unfits_unfit n (push t r) (gap g) = ((n, refl), unfits_unfit (suc n) r g)
  unfits_unfit n (svar k r) g = ((n, refl), tt)
  unfits_unfit n (gap r) nil = ((n, refl), tt)
  unfits_unfit n (gap r) (push u g) = unfits_unfit (suc n) r g
  unfits_unfit n (gap r) (svar k g) = ((n, refl), tt)
  unfits_unfit n (gap r) (gap g) = unfits_unfit (suc n) r g

  module _ (Γ : Context) (v : Operand) where
    matching : CodeType → Judged (Unit {0})
    matching c = (need (unfit 0) (same c.sp Γ.sp) & none_of (unfits P Δ 1 c.regs Γ.regs)) ▹ λ y. holds tt

    closing : CodeType → Judged (Unit {0})
    closing c = need (fault 9) (none_left c) ▹ λ z. matching c

    aiming : Ty value → Judged (Unit {0})
    aiming u = or_fault 9 (as_code u) ▹ closing

    -- the operand has no type
    pub target_stops : (f : ℕ) (u : Ty value) → told_of (operand P Δ (unfit 99) Γ.regs v) ≡ answer f u → (f ≡ 0 → ⊥) → told_of (target_of P Δ Γ v) ≡ answer f tt
    unfolding target_of aiming closing matching
    target_stops f u p h = stops _ aiming f u tt p h

    pub target_unequal : (f : ℕ) (u : Ty value) → told_of (operand P Δ (unfit 99) Γ.regs v) ≡ answer f u → f ≡ 10 → item_in (target_of P Δ Γ v) ≡ some 99
    unfolding target_of aiming closing matching
    target_unequal f u p e = item_stop _ aiming f u p (λ z. absurd (omega arith)) ∙ shows_operand 99 P Δ Γ.regs v (p ∙ rw e (unfold answer in refl))

    module _ (f : ℕ) (u : Ty value) (p : told_of (operand P Δ (unfit 99) Γ.regs v) ≡ answer f u) (z : f ≡ 0) where
      -- it is no code
      pub target_plain : as_code u ≡ none → told_of (target_of P Δ Γ v) ≡ answer 9 tt
      unfolding target_of aiming closing matching
      target_plain e = told_next _ aiming f 9 u tt p z (rw e (told_stop {A = CodeType} (or_fault 9 none) closing 9 (record { letters = []; sp = nil; regs = nil }) tt (told_none 8 _) (omega arith)))

      module _ (c : CodeType) (e : as_code u ≡ some c) where
        to_code : (n : ℕ) → told_of (closing c) ≡ answer n tt → told_of (target_of P Δ Γ v) ≡ answer n tt
        unfolding target_of aiming closing matching
        to_code n h = told_next _ aiming f n u tt p z (rw e (told_next (or_fault 9 (some c)) closing 0 n c tt (told_some 9 c) refl h))

        -- variables are left
        pub target_open : none_left c ≡ false → told_of (target_of P Δ Γ v) ≡ answer 9 tt
        target_open o = to_code 9 (unfold closing in told_stop (need (fault 9) (none_left c)) (λ z. matching c) 9 tt tt (needs 8 _ false (sym o)) (omega arith))

        module _ (o : none_left c ≡ true) where
          to_match : (n : ℕ) → told_of (matching c) ≡ answer n tt → told_of (target_of P Δ Γ v) ≡ answer n tt
          to_match n h = to_code n (unfold closing in told_next (need (fault 9) (none_left c)) (λ z. matching c) 0 n tt tt (needs 8 _ true (sym o)) refl h)

          sp_told : (b : Bool) → b ≡ same c.sp Γ.sp → told_of (need (unfit 0) (same c.sp Γ.sp)) ≡ answer (cond b 0 10) tt
          sp_told b s = rw s (told_need (unfit 0) (same c.sp Γ.sp) 9 (unfold number_of in refl))

          pub target_fits : same c.sp Γ.sp ≡ true → first_item (unfits P Δ 1 c.regs Γ.regs) ≡ none → told_of (target_of P Δ Γ v) ≡ answer 0 tt
          target_fits s n = to_match 0 (unfold matching least in told_map _ 0 (tt, tt) tt (told_and _ _ 0 0 tt tt (sp_told true (sym s)) (none_told _ (unfits_unfit 1 c.regs Γ.regs) n)))

          -- sp differs
          pub target_sp : same c.sp Γ.sp ≡ false → told_of (target_of P Δ Γ v) ≡ answer 10 tt
          target_sp s = to_match 10 (go (unfits P Δ 1 c.regs Γ.regs) refl)
            where
              go : (fs : List Fault) → unfits P Δ 1 c.regs Γ.regs ≡ fs → told_of (matching c) ≡ answer 10 tt
              go [] q = unfold matching least in told_map _ 10 (tt, tt) tt (told_and _ _ 10 0 tt tt (sp_told false (sym s)) (ap (λ l. told_of (none_of l)) q ∙ nothing_told))
              go (f ∷ fs) q = unfold matching least in told_map _ 10 (tt, tt) tt (told_and _ _ 10 10 tt tt (sp_told false (sym s)) (some_told _ (unfits_unfit 1 c.regs Γ.regs) (λ n. cons_none (sym q ∙ first_none _ (unfits_unfit 1 c.regs Γ.regs) n))))

          -- a register differs
          pub target_reg : same c.sp Γ.sp ≡ true → (first_item (unfits P Δ 1 c.regs Γ.regs) ≡ none → ⊥) → told_of (target_of P Δ Γ v) ≡ answer 10 tt
          target_reg s n = to_match 10 (unfold matching least in told_map _ 10 (tt, tt) tt (told_and _ _ 0 10 tt tt (sp_told true (sym s)) (some_told _ (unfits_unfit 1 c.regs Γ.regs) n)))

          to_item : item_in (target_of P Δ Γ v) ≡ first_of (item_in (need (unfit 0) (same c.sp Γ.sp))) (first_item (unfits P Δ 1 c.regs Γ.regs))
          unfolding target_of aiming closing matching
          to_item =
              item_after _ aiming f u p z ∙ rw e (item_after (or_fault 9 (some c)) closing 0 c (told_some 9 c) refl)
              ∙ item_after (need (fault 9) (none_left c)) (λ z. matching c) 0 tt (needs 8 _ true (sym o)) refl ∙ item_map _ tt ∙ item_beside _ _
              ∙ ap (λ l. first_of (item_in (need (unfit 0) (same c.sp Γ.sp))) (first_item l)) (none_faults (unfits P Δ 1 c.regs Γ.regs))

          pub target_sp_item : same c.sp Γ.sp ≡ false → item_in (target_of P Δ Γ v) ≡ some 0
          target_sp_item s = to_item ∙ rw s (unfold need faults_of first_item first_of earlier in earlier_sp (first_item (unfits P Δ 1 c.regs Γ.regs)))

          pub target_reg_item : same c.sp Γ.sp ≡ true → item_in (target_of P Δ Γ v) ≡ first_item (unfits P Δ 1 c.regs Γ.regs)
          target_reg_item s = to_item ∙ rw s (unfold need faults_of first_item first_of in refl)
