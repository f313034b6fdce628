-- The grammar bounds the variables of a stack row, and so each can be written out.
use Prim.Native.Nat.{ℕ, zero, suc, ◌+◌, ◌≤◌, ◌<◌}
use native.Mathlib.Omega.{arith}
use mathlib.Core.Path.{◌≡◌, refl, ap, sym, ◌∙◌, subst}
use mathlib.Core.Bool.{Bool, true, false, cond}
use mathlib.Core.List.{List}
use lib.Dec.{eqb, ltb}
use borrow.Author.Tests.{eqb-true, eqb-false, ltb-true, ltb-false}
use Rattle.types.specs.Types.{Ty, nil, push, svar, gap, join, items}
use Rattle.syntax.specs.Syntax.{stack}
use Rattle.tables.specs.Tables.{cell, row_from, row_at}
use Rattle.types_rows.specs.Read.{tab, lower, stack_with, stack_at, build_s, mean_v, mean_s}
use Rattle.types_rows.specs.declared.Stk.{Stk}
use Rattle.types_rows.specs.declared.Stk.TheVariants.{Nil, StkVar, StkFill, Push, Join}
use Rattle.types_rows.proofs.Laws.{stack_is, low_s_at, LowS}
use Rattle.valid.specs.Bounds.{SmallRow}
use Rattle.valid_typing.specs.Typing.{Ready, SmallVars}
use Rattle.valid_judge.specs.through.Forms.{Flat}

small_join : (a b : Ty stack) → SmallVars a → SmallVars b → SmallVars (join a b)
unfolding join
small_join nil b s t = t
small_join (push x a) b s t = small_join a b s t
small_join (svar k a) b s t = (s.0, small_join a b s.1 t)
small_join (gap a) b s t = small_join a b s t

abbrev SmallForm : Stk → Type 0
SmallForm Nil = Unit
SmallForm (StkVar k) = k ≤ 60000
SmallForm (StkFill j) = Unit
SmallForm (Push t x) = Unit
SmallForm (Join x y) = Unit

module _ (rows parts : List ℕ) (n : ℕ) (y : Ready rows parts n) (s : (r : ℕ) → r < n → SmallRow (row_at (tab rows parts) r)) where
  var_small : (r : ℕ) → cell 4 rows r 0 ≡ 8 → SmallRow (row_at (tab rows parts) r) → cell 4 rows r 1 < 64
  unfolding row_at row_from
  var_small r e h = rw e at h

  -- the two made rows are no variables
  var_low : (r : ℕ) → r < n + 2 → cell 4 rows r 0 ≡ 8 → r < n
  var_low r l e = go (ltb r n) (eqb r n) refl refl
    where
      go : (a b : Bool) → ltb r n ≡ a → eqb r n ≡ b → r < n
      go true b p q = ltb-true r n p
      go false true p q =
          let z : ◌≡◌ {A = ℕ} 0 8 = sym y.int_row ∙ ap (λ (x : ℕ). cell 4 rows x 0) (sym (eqb-true r n q)) ∙ e in
          absurd (omega arith)
      go false false p q =
          let g = ltb-false r n p in
          let h = eqb-false r n q in
          let i : n + 1 ≡ r = omega arith in
          let z : ◌≡◌ {A = ℕ} 1 8 = sym y.junk_row ∙ ap (λ (x : ℕ). cell 4 rows x 0) i ∙ e in
          absurd (omega arith)

  small_form : (h : ℕ) → h ≤ n + 2 → SmallForm (stack_at rows StkVar h)
  unfolding stack_with
  small_form zero l = tt
  small_form (suc r) l = go (ltb (cell 4 rows r 0) 8) (eqb (cell 4 rows r 0) 8) (eqb (cell 4 rows r 0) 9) refl
    where
      go : (a b c : Bool) → eqb (cell 4 rows r 0) 8 ≡ b → SmallForm (cond a Nil (cond b (StkVar (cell 4 rows r 1)) (cond c (Push (lower (suc r) (cell 4 rows r 1)) (lower (suc r) (cell 4 rows r 2))) (Join (lower (suc r) (cell 4 rows r 1)) (lower (suc r) (cell 4 rows r 2))))))
      go true b c e = tt
      go false true c e =
          let q = eqb-true (cell 4 rows r 0) 8 e in
          let h = var_small r q (s r (var_low r (omega arith) q)) in
          omega arith
      go false false true e = tt
      go false false false e = tt

  build_small : (h : ℕ) (f : Stk) → LowS h f → SmallForm f → ((x : ℕ) → x < h → SmallVars (mean_s (tab rows parts) x)) → SmallVars (build_s (mean_v (tab rows parts)) (mean_s (tab rows parts)) f)
  build_small h Nil l k g = tt
  build_small h (StkVar v) l k g = (k, tt)
  build_small h (StkFill v) l k g = tt
  build_small h (Push t x) l k g = g x l.1
  build_small h (Join x z) l k g = small_join (mean_s (tab rows parts) x) (mean_s (tab rows parts) z) (g x l.0) (g z l.1)

  small_to : (m h : ℕ) → h < m → h ≤ n + 2 → SmallVars (mean_s (tab rows parts) h)
  small_to zero h q l = absurd (omega arith)
  small_to (suc m) h q l =
      subst SmallVars (sym (stack_is (tab rows parts) h)) (build_small h (stack_at rows StkVar h) (low_s_at rows h) (small_form h l) (λ x i. small_to m x (omega arith) (omega arith)))

  -- the two made rows have no items
  made_none : (r : ℕ) → cell 4 rows r 0 < 8 → items (mean_s (tab rows parts) (suc r)) ≡ 0
  made_none r e = ap items (stack_is (tab rows parts) (suc r) ∙ ap (build_s (mean_v (tab rows parts)) (mean_s (tab rows parts))) (form (ltb (cell 4 rows r 0) 8) refl)) ∙ unfold items in refl
    where
      form : (b : Bool) → ltb (cell 4 rows r 0) 8 ≡ b → stack_at rows StkVar (suc r) ≡ Nil
      form true q = unfold stack_with in rw q
      form false q = let g = ltb-false (cell 4 rows r 0) 8 q in absurd (omega arith)

  few : ((x : ℕ) → x ≤ n → items (mean_s (tab rows parts) x) ≤ 4096) → (x : ℕ) → x ≤ n + 2 → items (mean_s (tab rows parts) x) ≤ 4096
  few f x l = go (ltb n x) (eqb x (n + 1)) refl refl
    where
      go : (a b : Bool) → ltb n x ≡ a → eqb x (n + 1) ≡ b → items (mean_s (tab rows parts) x) ≤ 4096
      go false b p q = f x (ltb-false n x p)
      go true true p q =
          let i : x ≡ suc n = eqb-true x (n + 1) q ∙ omega arith in
          let z : items (mean_s (tab rows parts) x) ≡ 0 = ap (λ (h : ℕ). items (mean_s (tab rows parts) h)) i ∙ made_none n (omega (arith, y.int_row)) in
          omega arith
      go true false p q =
          let g = ltb-true n x p in
          let h = eqb-false x (n + 1) q in
          let i : x ≡ suc (n + 1) = omega arith in
          let z : items (mean_s (tab rows parts) x) ≡ 0 = ap (λ (h : ℕ). items (mean_s (tab rows parts) h)) i ∙ made_none (n + 1) (omega (arith, y.junk_row)) in
          omega arith

  pub flat : ((x : ℕ) → x ≤ n → items (mean_s (tab rows parts) x) ≤ 4096) → Flat rows parts n
  flat f x l = (few f x l, small_to (suc x) x (omega arith) l)
