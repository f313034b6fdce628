-- Laws of stack rows side by side.
use mathlib.Core.Path.{◌≡◌, refl, ap, ap₂, sym, ◌∙◌, subst}
use mathlib.Core.Bool.{Bool, true, false, cond, ◌&&◌}
use mathlib.Core.List.{List, []}
use Prim.Native.Nat.{ℕ, suc, ◌+◌, ◌<◌}
use native.Mathlib.Omega.{arith}
use native.Mathlib.Nat.{not-suc-le-zero}
use lib.Dec.{eqb}
use lib.ListN.{get_or}
use Rattle.syntax.specs.Syntax.{stack}
use Rattle.types.specs.Types.{Ty, raise, Arg, of_kind, meets}
use Rattle.types.specs.Equal.{same}
use Rattle.types.proofs.Equal.{same_refl}
use Rattle.types_rows.specs.Environments.{shifted}
use Rattle.types_rows.proofs.Environments.{shifted_now}
use Rattle.types_equal.specs.declared.stack_pairs.Context.{Context}
use Rattle.types_equal.specs.Bounds.{given_of}
use Rattle.types_equal.specs.stack_pairs.Fit.{AtSame, fit_values, fit_rows, same_stacks, fit_pending, DuoIs}
use Rattle.tables.specs.Tables.{RowTable}
use Rattle.types_rows.specs.declared.Stk.{Stk}
use Rattle.types_rows.specs.declared.Stk.TheVariants.{StkFill}
use Rattle.types_rows.specs.Read.{stack_at, is_stack_at, mean_v, mean_s, lift, value_under, stack_under, args_of, place_s, OkS}
use Rattle.types_rows.proofs.Laws.{no_arg, ok_form, stack_read}
use Rattle.types_equal.specs.declared.pending.Next.{Next}
use Rattle.types_equal.specs.declared.pending.Next.TheVariants.{End, Row, Var as VarNext}
use Rattle.types_equal.specs.declared.pending.Source.{Source}
use Rattle.types_equal.specs.declared.pending.Source.TheVariants.{Own, Given}
use Rattle.std.specs.Prelude.{Option, Some, None}
use Rattle.types_equal.specs.pending.Pending.{pending_type, pending_meets, Pends, row_type, row_meets, NextIs}
use Rattle.types_equal.proofs.pending.Meets.{and_false, and_swap, raised, no_args, meets_none, length_args, arg_type, fits_stack, stack_meets}
use Rattle.types_equal.specs.declared.stack_pairs.Duo.{Duo}
use Rattle.types_equal.specs.declared.stack_pairs.Duo.TheVariants.{Onward}
use Rattle.types_equal.specs.stack_pairs.Items.{duo_of}

-- ---- the same place
-- ---- the same row in the same context, E being the environments
pub s_place : (τ : RowTable) (args E : List ℕ) (k : Context) (l r : ℕ) {b : Bool} → (b ≡ true → AtSame k l r) → b ≡ true → true ≡ same_stacks τ (args_of τ args k.m) (shifted E k.env k.by) k.d l (shifted E k.env2 0) k.d2 r
unfolding same_stacks
s_place τ args E k l r f t =
    let s = f t in
    rw (no_args τ args k.m s.no_args, s.row, s.place, s.raised, s.depth, meets_none k.d2 (mean_s τ r), same_refl (stack_under τ [] (shifted E k.env2 0) k.d2 r)) refl

-- a variable that argument j fills, against the argument's own row, which is read now
pub s_given : (τ : RowTable) (args : List ℕ) (m : ℕ) (ρ : ℕ → ℕ) (d l : ℕ) (ρ₂ : ℕ → ℕ) (d₂ r j a : ℕ) {n : Stk} {b : Bool} → n ≡ stack_at τ.rows (place_s m ρ d) l → OkS m l n → n ≡ StkFill j → a ≡ get_or args j 0 → b ≡ is_stack_at τ.rows a → b ≡ true
    → suc a ≡ r → lift d ≡ ρ₂ → 0 ≡ d₂ → true ≡ same_stacks τ (args_of τ args m) ρ d l ρ₂ d₂ r
unfolding same_stacks stack_under
s_given τ args m ρ d l ρ₂ d₂ r j a e k g i p q z x c =
    let h : j < m = ok_form m l k g in
    let v : stack_under τ (args_of τ args m) ρ d l ≡ raise d (of_kind stack (get_or (args_of τ args m) j no_arg)) = stack_read τ (args_of τ args m) ρ d m l (length_args τ args m) e g in
    let w : meets (args_of τ args m) d (mean_s τ l) ≡ true = stack_meets τ (args_of τ args m) ρ d m l (length_args τ args m) e g ∙ fits_stack τ args m j a h i p ∙ q in
    let y : raise d (of_kind stack (get_or (args_of τ args m) j no_arg)) ≡ stack_under τ [] ρ₂ d₂ r = ap (raise d) (arg_type τ args m j a h i stack) ∙ sym (raised d (mean_s τ (suc a))) ∙ rw (x, c, z) refl in
    sym (ap₂ ◌&&◌ (ap (λ u. same u (stack_under τ [] ρ₂ d₂ r)) (v ∙ y) ∙ same_refl (stack_under τ [] ρ₂ d₂ r)) w)

-- the same, from the code's answer
pub s_filled : (τ : RowTable) (args E : List ℕ) (k g : Context) (l r j a : ℕ) {n : Stk} {b o : Bool} → n ≡ stack_at τ.rows (place_s k.m (shifted E k.env k.by) k.d) l → OkS k.m l n → n ≡ StkFill j → a ≡ get_or args j 0 → b ≡ is_stack_at τ.rows a → b ≡ true
    → g ≡ given_of E k → (o ≡ true → AtSame g (a + 1) r) → o ≡ true → true ≡ same_stacks τ (args_of τ args k.m) (shifted E k.env k.by) k.d l (shifted E k.env2 0) k.d2 r
s_filled τ args E k g l r j a e ok q i p t w f u =
    let s : AtSame (given_of E k) (a + 1) r = rw w at (f u) in
    let z : suc a ≡ r = let v = s.row in omega arith in
    let x : lift k.d ≡ shifted E k.env2 0 = sym (shifted_now E k.d) ∙ ap₂ (shifted E) s.place s.raised in
    s_given τ args k.m (shifted E k.env k.by) k.d l (shifted E k.env2 0) k.d2 r j a e ok q i p t z x s.depth

-- ---- the next items
-- an argument of the wrong kind
pub misfit : (τ : RowTable) (A : List Arg) (ρ : ℕ → ℕ) (d : ℕ) (ρ₂ : ℕ → ℕ) (d₂ : ℕ) (ls : List ℕ) (i : ℕ) (rs : List ℕ) (j : ℕ) → pending_meets τ A d ls i ≡ false → fit_pending τ A ρ d ρ₂ d₂ ls i rs j ≡ false
unfolding fit_pending
misfit τ A ρ d ρ₂ d₂ ls i rs j e = ap (λ z. same (pending_type τ A ρ d ls i) (pending_type τ [] ρ₂ d₂ rs j) && z) e ∙ and_false (same (pending_type τ A ρ d ls i) (pending_type τ [] ρ₂ d₂ rs j))

module _ (τ : RowTable) (A : List Arg) (m : ℕ) (ρ : ℕ → ℕ) (d : ℕ) (ρ₂ : ℕ → ℕ) (d₂ : ℕ) (ls : List ℕ) (i : ℕ) (rs : List ℕ) (j : ℕ) (ls₂ rs₂ : List ℕ) where
  abbrev LeftIs : Next → Type 0
  LeftIs a = NextIs τ A ρ d m ls i ls₂ (Some a)

  abbrev RightIs : Next → Type 0
  RightIs b = NextIs τ [] ρ₂ d₂ 0 rs j rs₂ (Some b)

  abbrev W : Bool
  W = fit_pending τ A ρ d ρ₂ d₂ ls i rs j

  by_types : {a b : Ty stack} {c : Bool} → pending_type τ A ρ d ls i ≡ a → pending_type τ [] ρ₂ d₂ rs j ≡ b → pending_meets τ A d ls i ≡ c → W ≡ same a b && c
  unfolding fit_pending
  by_types e f g = ap₂ ◌&&◌ (ap₂ same e f) g

  duo_var : (k n u o : ℕ) (b : Bool) → eqb k u ≡ b → LeftIs (VarNext k n) → RightIs (VarNext u o) → DuoIs τ A m ρ d ρ₂ d₂ ls i rs j ls₂ rs₂ (cond b (Some (Onward n o)) None)
  unfolding same fit_pending
  duo_var k n u o true e f g =
      (by_types f.0 g.0 f.1 ∙ ap (λ z. (z && same (pending_type τ A ρ d ls₂ n) (pending_type τ [] ρ₂ d₂ rs₂ o)) && pending_meets τ A d ls₂ n) e, f.2, g.2)
  duo_var k n u o false e f g = by_types f.0 g.0 f.1 ∙ ap (λ z. (z && same (pending_type τ A ρ d ls₂ n) (pending_type τ [] ρ₂ d₂ rs₂ o)) && pending_meets τ A d ls₂ n) e

  -- two value rows, the left one of a source
  rows_fit : (s : Source) (t u : ℕ) (x c : Bool) → (same (row_type τ A ρ d s t) (value_under τ [] ρ₂ d₂ u) && x) && (row_meets τ A ρ d s t && c) ≡ fit_rows τ A ρ d ρ₂ d₂ s t u && (x && c)
  unfolding fit_values
  rows_fit Own t u x c = and_swap (same (value_under τ A ρ d t) (value_under τ [] ρ₂ d₂ u)) x (meets A d (mean_v τ t)) c
  rows_fit Given t u x c =
      let v : Bool = same (value_under τ [] (lift d) 0 t) (value_under τ [] ρ₂ d₂ u) in
      and_swap v x true c ∙ ap (λ z. (v && z) && (x && c)) (sym (meets_none 0 (mean_v τ t)))

  -- no row of an argument is on the right
  none_given : {B : Type 0} {t n r : ℕ} → Pends 0 r rs j → RightIs (Row Given t n) → B
  none_given {B} {t} {n} {r} p g = absurd (not-suc-le-zero (g.3 r p).1.0)

  pub duo_is : (r : ℕ) → Pends 0 r rs j → (a b : Next) → LeftIs a → RightIs b → DuoIs τ A m ρ d ρ₂ d₂ ls i rs j ls₂ rs₂ (duo_of a b)
  unfolding same fit_pending
  duo_is r p End End f g = by_types f.0 g.0 f.1
  duo_is r p End (Row Own u o) f g = by_types f.0 g.0 f.1
  duo_is r p End (Row Given u o) f g = none_given p g
  duo_is r p End (VarNext k o) f g = by_types f.0 g.0 f.1
  duo_is r p (Row Own t n) End f g = by_types f.0 g.0 f.1
  duo_is r p (Row Given t n) End f g = by_types f.0 g.0 f.1
  duo_is r p (Row s t n) (Row Own u o) f g =
      (by_types f.0 g.0 f.1 ∙ rows_fit s t u (same (pending_type τ A ρ d ls₂ n) (pending_type τ [] ρ₂ d₂ rs₂ o)) (pending_meets τ A d ls₂ n), f.2, g.2, (λ l z. (f.3 l z).1), (λ l z. (g.3 l z).1))
  duo_is r p (Row s t n) (Row Given u o) f g = none_given p g
  duo_is r p (Row Own t n) (VarNext k o) f g = by_types f.0 g.0 f.1
  duo_is r p (Row Given t n) (VarNext k o) f g = by_types f.0 g.0 f.1
  duo_is r p (VarNext k n) End f g = by_types f.0 g.0 f.1
  duo_is r p (VarNext k n) (Row Own u o) f g = by_types f.0 g.0 f.1
  duo_is r p (VarNext k n) (Row Given u o) f g = none_given p g
  duo_is r p (VarNext k n) (VarNext u o) f g = duo_var k n u o (eqb k u) refl f g

pub duo_by : (τ : RowTable) (args : List ℕ) (m : ℕ) (ρ : ℕ → ℕ) (d : ℕ) (ρ₂ : ℕ → ℕ) (d₂ : ℕ) (ls : List ℕ) (i : ℕ) (rs : List ℕ) (j : ℕ) (ls₂ rs₂ : List ℕ) (r : ℕ) → Pends 0 r rs j → {x y : Option Next} (a b : Next) (o : Option Duo)
    → NextIs τ (args_of τ args m) ρ d m ls i ls₂ x → NextIs τ (args_of τ args 0) ρ₂ d₂ 0 rs j rs₂ y → x ≡ Some a → y ≡ Some b → o ≡ duo_of a b → DuoIs τ (args_of τ args m) m ρ d ρ₂ d₂ ls i rs j ls₂ rs₂ o
duo_by τ args m ρ d ρ₂ d₂ ls i rs j ls₂ rs₂ r p {x} {y} a b o f g q w e =
    let f₂ : NextIs τ (args_of τ args m) ρ d m ls i ls₂ (Some a) = subst (λ (z : Option Next). NextIs τ (args_of τ args m) ρ d m ls i ls₂ z) q f in
    let g₂ : NextIs τ (args_of τ args 0) ρ₂ d₂ 0 rs j rs₂ (Some b) = subst (λ (z : Option Next). NextIs τ (args_of τ args 0) ρ₂ d₂ 0 rs j rs₂ z) w g in
    subst (λ (z : Option Duo). DuoIs τ (args_of τ args m) m ρ d ρ₂ d₂ ls i rs j ls₂ rs₂ z) (sym e)
    (duo_is τ (args_of τ args m) m ρ d ρ₂ d₂ ls i rs j ls₂ rs₂ r p a b f₂ (subst (λ (z : List Arg). NextIs τ z ρ₂ d₂ 0 rs j rs₂ (Some b)) (no_args τ args 0 refl) g₂))
