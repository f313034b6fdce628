-- Past a bound of the variables of the rows before it no variable is free in a row but its own.
use Prim.Native.Nat.{ℕ, zero, suc, ◌+◌, ◌*◌, ◌≤◌, max}
use native.Mathlib.Nat.{zero-add, suc-add}
use native.Mathlib.Omega.{arith}
use mathlib.Core.Path.{◌≡◌, refl, ap, sym, ◌∙◌}
use mathlib.Core.Bool.{Bool, true, false, cond}
use mathlib.Core.List.{List}
use lib.Dec.{eqb, ltb}
use lib.ListN.{get_or}
use borrow.Author.Tests.{eq-eqb, eqb-false, ltb-true, ltb-false}
use Rattle.types.specs.Rows.{row_refs}
use Rattle.tables.specs.Tables.{RowTable, row_from, row_at}
use Rattle.valid_scope.specs.variables.Free.{top_of, free_in}
use Rattle.valid_scope.specs.variables.Uses.{use_at}
use Rattle.valid_scope.specs.Scoped.{row_type, Free, Within, Cleared, Checked}
use Rattle.valid_scope.proofs.variables.WellFormed.{below_suc}
use Rattle.valid_scope.proofs.Rows.{low, row_high, row_past, no_variable, top_le}
use Rattle.valid_scope.proofs.Laws.{type_use, top_past, Filled, free_more}

-- ---- a top that is found below a bound
top_same : (f : ℕ → ℕ) (k m : ℕ) → ((j : ℕ) → k ≤ j → f j ≡ 0) → top_of f k ≡ top_of f (m + k)
unfolding top_of
top_same f k zero h = ap (top_of f) (sym (zero-add k))
top_same f k (suc m) h = top_same f k m h ∙ sym (ap (top_of f) (suc-add m k) ∙ rw (eq-eqb (f (m + k)) 0 (h (m + k) (omega arith))) refl)

pub top_bound : (f : ℕ → ℕ) (k n m : ℕ) → m + k ≡ n → ((j : ℕ) → k ≤ j → f j ≡ 0) → top_of f k ≡ top_of f n
top_bound f k n m e h = top_same f k m h ∙ ap (top_of f) e

-- ---- row r
module _ (τ : RowTable) (r bound : ℕ) (uses : List ℕ) (z : Checked τ r) (free : Free τ r uses) (w : Within τ r bound) where
  -- no variable past 63 is free in it
  pub free_high : (k : ℕ) → 64 ≤ k → free_in k (row_type τ r) ≡ 0
  free_high k h = sym (type_use τ r uses k z free) ∙ row_high uses k h (row_at τ r) z.small

  -- and none from the bound on, unless it is a variable itself
  free_past : (c a b k : ℕ) → row_from τ.parts c a b ≡ row_at τ r → (c ≡ 2 → ⊥) → (c ≡ 8 → ⊥) → bound ≤ k → free_in k (row_type τ r) ≡ 0
  free_past c a b k e p q h = sym (type_use τ r uses k z free) ∙ row_past τ r bound uses (λ t j l m. free t j l ∙ w t j l m) k h (row_at τ r) (rw e at (no_variable τ.parts c a b p q)) (low τ r (row_refs (row_at τ r)) z.lower z.sorts)

  pub past_limit : (c a b limit : ℕ) → row_from τ.parts c a b ≡ row_at τ r → limit ≡ cond (eqb c 2) 64 (cond (eqb c 8) 64 bound) → (k : ℕ) → limit ≤ k → free_in k (row_type τ r) ≡ 0
  past_limit c a b limit e l k h = go (eqb c 2) refl l
    where
      last : (t : Bool) → eqb c 8 ≡ t → (c ≡ 2 → ⊥) → limit ≡ cond t 64 bound → free_in k (row_type τ r) ≡ 0
      last true g p m = free_high k (omega (arith, m))
      last false g p m = free_past c a b k e p (eqb-false c 8 g) (omega (arith, m))

      go : (t : Bool) → eqb c 2 ≡ t → limit ≡ cond t 64 (cond (eqb c 8) 64 bound) → free_in k (row_type τ r) ≡ 0
      go true g m = free_high k (omega (arith, m))
      go false g m = last (eqb c 8) refl (eqb-false c 2 g) m

  -- the bound behind row r
  pub within_more : (top out : ℕ) → top ≡ top_of (λ k. free_in k (row_type τ r)) 64 → out ≡ max bound top → Within τ (suc r) out
  within_more top out e g x k l h = each (omega (arith, g)) (omega (arith, g))
    where
      each : bound ≤ k → top ≤ k → free_in k (row_type τ x) ≡ 0
      each p q = below_suc (λ x. free_in k (row_type τ x) ≡ 0) r (λ x i. w x k i p) (own (ltb k 64) refl) x l
        where
          own : (b : Bool) → ltb k 64 ≡ b → free_in k (row_type τ r) ≡ 0
          own true i = top_past (λ k. free_in k (row_type τ r)) 64 k (omega (arith, e)) (ltb-true k 64 i)
          own false i = free_high k (ltb-false k 64 i)

  pub within_small : (top out : ℕ) → bound ≤ 64 → top ≡ top_of (λ k. free_in k (row_type τ r)) 64 → out ≡ max bound top → out ≤ 64
  within_small top out h e g = let t = top_le (λ k. free_in k (row_type τ r)) 64 in omega (arith, g, e)

-- the uses of row r are there: below the limit as they were found, the rest 0
module _ (τ : RowTable) (r limit : ℕ) (before after : List ℕ) (past : (k : ℕ) → limit ≤ k → free_in k (row_type τ r) ≡ 0) (c : Cleared before after (64 * r + limit) (64 * r + 64)) where
  free_cleared : Free τ r before → Free τ r after
  unfolding use_at
  free_cleared h x j l = go (ltb j 64) refl (h x j l)
    where
      go : (b : Bool) → ltb j 64 ≡ b → cond b (get_or before (64 * x + j) 0) 0 ≡ free_in j (row_type τ x) → cond b (get_or after (64 * x + j) 0) 0 ≡ free_in j (row_type τ x)
      go true e i = let s = ltb-true j 64 e in c.0 (64 * x + j) (omega arith) ∙ i
      go false e i = i

  filled_cleared : Filled τ r limit before → Filled τ r 64 after
  filled_cleared f j l = go (ltb j limit) refl
    where
      go : (b : Bool) → ltb j limit ≡ b → get_or after (64 * r + j) 0 ≡ free_in j (row_type τ r)
      go true e = let s = ltb-true j limit e in c.0 (64 * r + j) (omega arith) ∙ f j s
      go false e = let s = ltb-false j limit e in c.1 (64 * r + j) (omega arith) (omega arith) ∙ sym (past j s)

  pub free_filled : Checked τ r → Free τ r before → Filled τ r limit before → Free τ (suc r) after
  free_filled z h f = free_more τ r after z (free_cleared h) (filled_cleared f)
