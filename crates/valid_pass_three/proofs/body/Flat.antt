-- A stack row of a text can be written out as items: its variables are below 64.
use Prim.Native.Nat.{ℕ, zero, suc, ◌+◌, ◌≤◌, ◌<◌}
use native.Mathlib.Nat.{not-suc-le-zero}
use native.Mathlib.Omega.{arith}
use mathlib.Core.Path.{◌≡◌, refl, ap, sym, subst, ◌∙◌}
use mathlib.Core.Bool.{Bool, true, false, cond}
use mathlib.Core.List.{List}
use lib.Dec.{eqb, ltb}
use borrow.Author.Tests.{eqb-true, eqb-false, ltb-true, ltb-false}
use Rattle.syntax.specs.Syntax.{row_x, stack}
use Rattle.types.specs.Types.{Ty, nil, push, svar, gap, join}
use Rattle.tables.specs.Tables.{RowTable, cell, row_from, row_at}
use Rattle.types_rows.specs.Read.{tab, lower, stack_with, stack_at, build_s, mean_v, mean_s}
use Rattle.types_rows.specs.declared.Stk.TheVariants.{Nil, StkVar, Push, Join}
use Rattle.types_rows.proofs.Laws.{lower_low, stack_is}
use Rattle.types_rows.proofs.Bridge.{kind_value}
use Rattle.valid.specs.Bounds.{SmallRow}
use Rattle.valid_typing.specs.Typing.{SmallVars}

small_join : (a b : Ty stack) → SmallVars a → SmallVars b → SmallVars (join a b)
unfolding join
small_join nil b h k = k
small_join (push t a) b h k = small_join a b h k
small_join (svar i a) b h k = (h.0, small_join a b h.1 k)
small_join (gap a) b h k = small_join a b h k

module _ (rows parts : List ℕ) (n : ℕ) (int_row : cell 4 rows n 0 ≡ 0) (junk_row : cell 4 rows (n + 1) 0 ≡ 1) where
  abbrev τ : RowTable
  τ = tab rows parts

  -- a value row has no items
  value_nil : (r : ℕ) → cell 4 rows r 0 < 7 → mean_s τ (suc r) ≡ nil
  value_nil r h = stack_is τ (suc r) ∙ ap (build_s (mean_v τ) (mean_s τ)) (kind_value τ (cell 4 rows r 0) (cell 4 rows r 1) (cell 4 rows r 2) (suc r) h)

  pub made_nil : (x : ℕ) → n < x → x ≤ n + 2 → mean_s τ x ≡ nil
  made_nil x h l = go (eqb x (suc n)) refl
    where
      go : (b : Bool) → eqb x (suc n) ≡ b → mean_s τ x ≡ nil
      go true e = ap (mean_s τ) (eqb-true x (suc n) e) ∙ value_nil n (omega (arith, int_row))
      go false e = let q : x ≡ suc n → ⊥ = eqb-false x (suc n) e in let w : x ≡ suc (n + 1) = omega (arith, q) in ap (mean_s τ) w ∙ value_nil (n + 1) (omega (arith, junk_row))

  variable_row : (r : ℕ) → cell 4 rows r 0 ≡ 8 → row_at τ r ≡ row_x (cell 4 rows r 1)
  unfolding row_at row_from
  variable_row r k = rw k refl

  module _ (small : (r : ℕ) → r < n → SmallRow (row_at τ r)) where
    form_small : (r : ℕ) → r < n → ((x : ℕ) → x < suc r → SmallVars (mean_s τ x)) → SmallVars (build_s (mean_v τ) (mean_s τ) (stack_at rows StkVar (suc r)))
    unfolding stack_with
    form_small r l h = go (ltb (cell 4 rows r 0) 8) (eqb (cell 4 rows r 0) 8) refl (eqb (cell 4 rows r 0) 9)
      where
        var_small : eqb (cell 4 rows r 0) 8 ≡ true → cell 4 rows r 1 ≤ 60000
        var_small e =
            let k : cell 4 rows r 0 ≡ 8 = eqb-true (cell 4 rows r 0) 8 e in
            let s : cell 4 rows r 1 < 64 = subst SmallRow (variable_row r k) (small r l) in
            omega arith

        go : (b c : Bool) → eqb (cell 4 rows r 0) 8 ≡ c → (d : Bool) → SmallVars (build_s (mean_v τ) (mean_s τ)
            (cond b Nil (cond c (StkVar (cell 4 rows r 1)) (cond d (Push (lower (suc r) (cell 4 rows r 1))
            (lower (suc r) (cell 4 rows r 2))) (Join (lower (suc r) (cell 4 rows r 1)) (lower (suc r) (cell 4 rows r 2)))))))
        go true c e d = tt
        go false true e d = (var_small e, tt)
        go false false e true = h (lower (suc r) (cell 4 rows r 2)) (lower_low (suc r) (cell 4 rows r 2) (omega arith))
        go false false e false =
            small_join (mean_s τ (lower (suc r) (cell 4 rows r 1))) (mean_s τ (lower (suc r) (cell 4 rows r 2)))
            (h (lower (suc r) (cell 4 rows r 1)) (lower_low (suc r) (cell 4 rows r 1) (omega arith))) (h (lower (suc r) (cell 4 rows r 2))
            (lower_low (suc r) (cell 4 rows r 2) (omega arith)))

    small_to : (m x : ℕ) → x < m → x ≤ n → SmallVars (mean_s τ x)
    small_to zero x h l = absurd (not-suc-le-zero h)
    small_to (suc m) zero h l = subst SmallVars (sym (stack_is τ 0)) tt
    small_to (suc m) (suc r) h l = subst SmallVars (sym (stack_is τ (suc r))) (form_small r l (λ x k. small_to m x (omega arith) (omega arith)))

    pub small_vars : (x : ℕ) → x ≤ n + 2 → SmallVars (mean_s τ x)
    small_vars x h = go (ltb n x) refl
      where
        go : (b : Bool) → ltb n x ≡ b → SmallVars (mean_s τ x)
        go true e = subst SmallVars (sym (made_nil x (ltb-true n x e) h)) tt
        go false e = small_to (suc x) x (omega arith) (ltb-false n x e)
