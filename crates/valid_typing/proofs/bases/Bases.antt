-- Laws of bases: registers, literals, labels.
use Prim.Native.Nat.{ℕ, zero, suc, ◌+◌, ◌-◌, ◌*◌, ◌≤◌, ◌<◌}
use native.Mathlib.Omega.{arith}
use mathlib.Core.Path.{◌≡◌, refl, ap, sym, ◌∙◌}
use mathlib.Core.Bool.{true, false}
use mathlib.Core.Option.{some}
use mathlib.Core.List.{List}
use lib.ListN.{length, get_elem?}
use borrow.Author.Tests.{lt-ltb, le-ltb}
use Rattle.syntax.specs.Syntax.{Kind, value, stack, Base, reg, lit, lab}
use Rattle.types.specs.Types.{Ty, int}
use Rattle.types.specs.Rows.{type_at}
use Rattle.tables.specs.Tables.{cell, base_of}
use Rattle.valid.specs.Program.{Program}
use Rattle.valid.specs.Tests.{item_at, label_type}
use Rattle.valid.specs.PassThree.{base}
use Rattle.types_rows.specs.Read.{tab, lower, lift, mean_v, value_at, value_with, place_v}
use Rattle.types_rows.specs.declared.Val.TheVariants.{Int}
use Rattle.types_rows.proofs.Laws.{link_in}
use Rattle.types_rows.proofs.Bridge.{type_at_lem}
use Rattle.types_rows.proofs.Environments.{read_now}
use Rattle.valid_context.specs.Context.{Reading, linked}
use Rattle.valid_context.specs.Told.{Told, gives, told_of, answer}
use Rattle.valid_context.specs.premises.Answers.{Holds}
use Rattle.valid_typing.specs.Typing.{types_in, held_in, Ready, given_row}
use Rattle.valid_typing.proofs.Judging.{if_none, told_guarded}
use Rattle.valid_typing.proofs.OperandFaults.{base_reg, base_lit}
use Rattle.valid_typing.proofs.Forms.{read_is}
use Rattle.valid_typing.proofs.Args.{given_is, given_typed}

-- ---- rows
pub within : (rows parts : List ℕ) (n t h out : ℕ) → h ≡ lower (n + 3) t → type_at value (types_in rows parts n) out ≡ mean_v (tab rows parts) h → type_at value (types_in rows parts n) out ≡ type_at value (types_in rows parts n) t
within rows parts n t h out e g =
    let q : n + 3 ≡ suc (n + 2) = omega arith in
    g ∙ ap (mean_v (tab rows parts)) (e ∙ ap (λ (z : ℕ). lower z t) q) ∙ sym (type_at_lem (tab rows parts) value (n + 2) t)

pub int_type : (rows parts : List ℕ) (n : ℕ) → Ready rows parts n → type_at value (types_in rows parts n) n ≡ int
int_type rows parts n r =
    let l : n + 1 < n + 3 = omega arith in
    let q : suc n ≡ n + 1 = omega arith in
    read_is rows parts n n (suc n) (q ∙ link_in (n + 3) n l) (sym int_form)
  where
    int_form : value_at rows (place_v 0 (lift 0) 0) (suc n) ≡ Int
    int_form = rw r.int_row (unfold value_with in refl)

-- ---- a base by its kind
pub kind_reg : (k m : ℕ) → k ≡ 0 → base_of k m ≡ reg m
unfolding base_of
kind_reg zero m e = refl
kind_reg (suc k) m e = absurd (omega arith)

pub kind_lit : (k m : ℕ) → k ≡ 1 → base_of k m ≡ lit m
unfolding base_of
kind_lit zero m e = absurd (omega arith)
kind_lit (suc zero) m e = refl
kind_lit (suc (suc k)) m e = absurd (omega arith)

pub kind_lab : (k m : ℕ) → (k ≡ 0 → ⊥) → (k ≡ 1 → ⊥) → base_of k m ≡ lab m
unfolding base_of
kind_lab zero m f g = absurd (f refl)
kind_lab (suc zero) m f g = absurd (g refl)
kind_lab (suc (suc k)) m f g = refl

module _ (P : Program) (Δ : List Kind) (g : Ty stack) where
  pub of_kind_lem : (k m : ℕ) (b : Base) {w : Told (Ty value)} → base_of k m ≡ b → told_of (base P Δ g b) ≡ w → told_of (base P Δ g (base_of k m)) ≡ w
  of_kind_lem k m b e h = ap (λ (z : Base). told_of (base P Δ g z)) e ∙ h

  -- ---- registers
  pub reg_none : (T : Reading) (r x u : ℕ) (y : Ty value) → item_at g r ≡ linked T x u → u ≡ 0 → told_of (base P Δ g (reg r)) ≡ answer 9 y
  unfolding answer if_none
  reg_none T r x zero y e z = base_reg P Δ g T r x 0 e
  reg_none T r x (suc u) y e z = absurd (omega arith)

  pub reg_some : (T : Reading) (r x u w : ℕ) → item_at g r ≡ linked T x u → (u ≡ 0 → ⊥) → T.type x w ≡ T.type x (u - 1) → told_of (base P Δ g (reg r)) ≡ answer 0 (T.type x w)
  unfolding answer if_none
  reg_some T r x zero w e z h = absurd (z refl)
  reg_some T r x (suc u) w e z h = base_reg P Δ g T r x (suc u) e ∙ ap gives (sym h)

  module _ (rows parts : List ℕ) (n : ℕ) (E : List ℕ) where
    -- what is read now has its row's type
    abbrev here : ℕ → Ty value
    here w = (held_in rows parts n E).type (2 * length E) w

    here_is : (w : ℕ) → type_at value (types_in rows parts n) w ≡ here w
    here_is w = sym (read_now E (type_at value (types_in rows parts n) w))

    -- ---- literals
    pub lit_told : (m : ℕ) → Ready rows parts n → told_of (base P Δ g (lit m)) ≡ answer 0 (here n)
    unfolding answer
    lit_told m r = base_lit P Δ g m ∙ ap gives (sym (int_type rows parts n r) ∙ here_is n)

    -- ---- labels
    module _ (β : List ℕ) (nb : ℕ) (h : Holds (tab rows parts) n β nb P) (l : ℕ) where
      pub lab_none : (y : Ty value) → nb ≤ l → told_of (base P Δ g (lab l)) ≡ answer 9 y
      unfolding base
      lab_none y k = told_guarded 8 (label_type (get_elem? P.blocks l)) false y (h.labels l ∙ rw (le-ltb l nb k) refl)

      pub lab_some : (c w : ℕ) → Ready rows parts n → l < nb → c ≡ cell 2 β l 0 → w ≡ given_row n c → told_of (base P Δ g (lab l)) ≡ answer 0 (here w)
      unfolding base
      lab_some c w r k e f =
          let t : type_at value P.types (cell 2 β l 0) ≡ here w
          = ap (type_at value P.types) (sym e) ∙ given_typed rows parts n P Δ c h.types (given_row n c) (given_is rows parts n c r) ∙ ap (type_at value (types_in rows parts n)) (sym f) ∙ here_is w in
          told_guarded 8 (label_type (get_elem? P.blocks l)) true (here w) (h.labels l ∙ rw (lt-ltb l nb k) (ap some t))
