-- The code's steps, over plain lists and numbers: one law for each way through a function.
use Prim.Native.Nat.{ℕ, zero, suc, ◌+◌, ◌*◌, ◌<◌, ◌≤◌}
use native.Mathlib.Nat.{not-suc-le-zero}
use native.Mathlib.Numerals.{add-one}
use native.Mathlib.Omega.{arith}
use mathlib.Core.Path.{◌≡◌, refl, ap, sym, ◌∙◌}
use mathlib.Core.Bool.{Bool, true, false, not, cond}
use mathlib.Core.List.{List}
use lib.Dec.{eqb, ltb}
use lib.ListN.{length, get_or, get_elem?, set}
use lib.Seq.{get_or-set_same, get_or-set_other}
use borrow.Author.Tests.{eq-eqb, ne_eqb, eqb-true, ltb-true, ltb-false}
use Rattle.syntax.specs.Syntax.{Kind, Row}
use Rattle.types.specs.Types.{Arg, arg, a_stack}
use Rattle.types.specs.Rows.{types_of, row_refs}
use Rattle.types.proofs.Equal.{none_true}
use Rattle.types.proofs.Meaning.{type_in}
use Rattle.valid.specs.Tests.{formed_arg}
use Rattle.tables.specs.Tables.{RowTable, cell, row_from, row_at, rows_in}
use Rattle.valid_scope.specs.variables.Free.{fits, fit_to, top_of, free_in, respected_in, proper_in}
use Rattle.types_rows.specs.Read.{tab}
use Rattle.valid_scope.specs.variables.Uses.{use_at, row_use, row_respected}
use Rattle.valid_scope.specs.Scoped.{row_type, top_in, Free, Scoped, Checked}
use Rattle.valid_scope.proofs.variables.WellFormed.{fits_unused, fit_each, below_suc, formed_free, formed_respected, formed_made}
use Rattle.valid_scope.proofs.Rows.{low, row_use_lem, row_respected_lem, row_high, row_type_lem, proper_type, top_respected}
use Rattle.valid_scope.proofs.variables.Laws.{use_past, use_in, fit_every}

-- a row's uses are those of its type
pub type_use : (τ : RowTable) (r : ℕ) (uses : List ℕ) (k : ℕ) → Checked τ r → Free τ r uses → row_use uses k (row_at τ r) ≡ free_in k (row_type τ r)
unfolding row_type
type_use τ r uses k c h = row_use_lem τ r uses h k (row_at τ r) (low τ r (row_refs (row_at τ r)) c.lower c.sorts)

-- row r, from its entries
module _ (rows ps : List ℕ) (r : ℕ) {c a b : ℕ} (p : c ≡ cell 4 rows r 0) (q : a ≡ cell 4 rows r 1) (e : b ≡ cell 4 rows r 2) where
  pub row_from_lem : row_from ps c a b ≡ row_at (tab rows ps) r
  unfolding row_at
  row_from_lem = rw (p, q, e)

  pub row_respects : (uses tops : List ℕ) {x : Bool} → x ≡ row_respected uses tops (row_from ps c a b) → x ≡ row_respected uses tops (row_at (tab rows ps) r)
  row_respects uses tops h = h ∙ ap (row_respected uses tops) row_from_lem

-- what is found of row r in the table
pub use_now : (τ : RowTable) (r : ℕ) (uses : List ℕ) (k : ℕ) {x : Row} {u : ℕ} → Checked τ r → Free τ r uses → x ≡ row_at τ r → u ≡ row_use uses k x → u ≡ free_in k (row_type τ r)
use_now τ r uses k z f e h = h ∙ ap (row_use uses k) e ∙ type_use τ r uses k z f

-- ---- the table of uses
-- the entries below k of row r
abbrev pub Filled : RowTable → ℕ → ℕ → List ℕ → Type 0
Filled τ r k uses = (j : ℕ) → j < k → get_or uses (64 * r + j) 0 ≡ free_in j (row_type τ r)

module _ (τ : RowTable) (r k v : ℕ) (uses : List ℕ) where
  -- what is written to row r leaves the rows before it as they are
  pub free_kept : Free τ r uses → Free τ r (set uses (64 * r + k) v)
  unfolding use_at
  free_kept h x j l = go (ltb j 64) refl (h x j l)
    where
      go : (b : Bool) → ltb j 64 ≡ b → cond b (get_or uses (64 * x + j) 0) 0 ≡ free_in j (row_type τ x) → cond b (get_or (set uses (64 * r + k) v) (64 * x + j) 0) 0 ≡ free_in j (row_type τ x)
      go true e i = let s = ltb-true j 64 e in get_or-set_other uses (64 * r + k) (64 * x + j) v 0 (λ e. omega arith) ∙ i
      go false e i = i

  pub filled_more : 64 * r + k < length uses → v ≡ free_in k (row_type τ r) → Filled τ r k uses → Filled τ r (k + 1) (set uses (64 * r + k) v)
  filled_more l e h = rw add-one (below_suc (λ j. get_or (set uses (64 * r + k) v) (64 * r + j) 0 ≡ free_in j (row_type τ r)) k (λ j i. get_or-set_other uses (64 * r + k) (64 * r + j) v 0 (λ e. omega arith) ∙ h j i) (get_or-set_same uses (64 * r + k) v 0 l ∙ e))

pub top_none : (f : ℕ → ℕ) → 0 ≡ top_of f 0
unfolding top_of
top_none f = refl

pub top_more : (f : ℕ → ℕ) (k : ℕ) {top v x : ℕ} → top ≡ top_of f k → v ≡ f k → x ≡ cond (eqb v 0) top (suc k) → x ≡ top_of f (k + 1)
unfolding top_of
top_more f k p q e = rw add-one (e ∙ rw (p, q))

-- row r is filled: no variable past 63 is free in it
pub free_more : (τ : RowTable) (r : ℕ) (uses : List ℕ) → Checked τ r → Free τ r uses → Filled τ r 64 uses → Free τ (suc r) uses
free_more τ r uses c h f = λ x k l. below_suc (λ x. (k : ℕ) → use_at uses k x ≡ free_in k (row_type τ x)) r (λ x i k. h x k i) (λ k. own k (ltb k 64) refl) x l k
  where
    own : (k : ℕ) (b : Bool) → ltb k 64 ≡ b → use_at uses k r ≡ free_in k (row_type τ r)
    own k true e = let i = ltb-true k 64 e in sym (use_in uses k r i) ∙ f k i
    own k false e = let i = ltb-false k 64 e in sym (use_past uses k r i) ∙ sym (row_high uses k i (row_at τ r) c.small) ∙ type_use τ r uses k c h

-- ---- both tables
-- one row more: its uses are there, found from the old ones, and its top is v
pub scoped_more : (τ : RowTable) (r v m : ℕ) (b : Bool) (old uses tops : List ℕ) → Checked τ r → Scoped τ r old tops → b ≡ row_respected
    old tops (row_at τ r) → m ≡ top_of (λ k. free_in k (row_type τ r)) 64 → v ≡ cond b m 255 → 64 * r + 64 ≤ length uses → r < length tops
    → Free τ (suc r) uses → Scoped τ (suc r) uses (set tops r v)
scoped_more τ r v m b old uses tops c s p q e l h f = record { room = omega arith; free = f; top = below_suc (λ x. get_or (set tops r v) x 0 ≡ top_in (row_type τ x)) r (λ x i. get_or-set_other tops r x v 0 (λ e. omega arith) ∙ s.top x i) own }
  where
    agree : b ≡ respected_in (row_type τ r)
    agree = unfold row_type in (p ∙ row_respected_lem τ r tops s.top old s.free (row_at τ r) (low τ r (row_refs (row_at τ r)) c.lower c.sorts))

    own : get_or (set tops r v) r 0 ≡ top_in (row_type τ r)
    own = unfold top_in in (get_or-set_same tops r v 0 h ∙ e ∙ rw (q, agree))

-- ---- the answer
arg_free : (Δ : List Kind) (a : Arg) → formed_arg Δ a ≡ true → (k : ℕ) → fits (free_in k a) (get_elem? Δ k) ≡ true
unfolding formed_arg free_in
arg_free Δ (arg κ t) e k = formed_free Δ a_stack t e k

arg_respected : (Δ : List Kind) (a : Arg) → formed_arg Δ a ≡ true → respected_in a ≡ true
unfolding formed_arg respected_in
arg_respected Δ (arg κ t) e = formed_respected Δ a_stack t e

arg_made : (Δ : List Kind) (a : Arg) → proper_in a ≡ true → respected_in a ≡ true → ((k : ℕ) → fits (free_in k a) (get_elem? Δ k) ≡ true) → formed_arg Δ a ≡ true
unfolding formed_arg proper_in respected_in free_in
arg_made Δ (arg κ t) p e f = formed_made Δ a_stack t p e f

pub top_past : (f : ℕ → ℕ) (n k : ℕ) → top_of f n ≤ k → k < n → f k ≡ 0
unfolding top_of
top_past f zero k h l = absurd (not-suc-le-zero l)
top_past f (suc n) k h l = go (eqb (f n) 0) refl h (top_past f n)
  where
    go : (b : Bool) → eqb (f n) 0 ≡ b → cond b (top_of f n) (suc n) ≤ k → ((k : ℕ) → top_of f n ≤ k → k < n → f k ≡ 0) → f k ≡ 0
    go false e h i = absurd (omega arith)
    go true e h i = below_suc (λ j. top_of f n ≤ j → f j ≡ 0) n (λ j m t. i j t m) (λ t. eqb-true (f n) 0 e) k l h

module _ (τ : RowTable) (n r : ℕ) (uses tops : List ℕ) (s : Scoped τ n uses tops) (h : r < n) (Δ : List Kind) where
  not_formed : (formed_arg Δ (row_type τ r) ≡ true → ⊥) → false ≡ formed_arg Δ (type_in (types_of (rows_in τ n)) r)
  not_formed f = rw (row_type_lem τ n r h) (go (formed_arg Δ (row_type τ r)) refl)
    where
      go : (b : Bool) → formed_arg Δ (row_type τ r) ≡ b → false ≡ b
      go true e = absurd (f e)
      go false e = refl

  respected_is : not (eqb (get_or tops r 0) 255) ≡ respected_in (row_type τ r)
  respected_is = rw (s.top r h) (top_respected (row_type τ r))

  pub formed_not : {x : ℕ} → x ≡ get_or tops r 0 → x ≡ 255 → false ≡ formed_arg Δ (type_in (types_of (rows_in τ n)) r)
  formed_not p q = not_formed (λ e. none_true (sym (ap not (eq-eqb (get_or tops r 0) 255 (sym p ∙ q))) ∙ respected_is ∙ arg_respected Δ (row_type τ r) e))

  formed_fit : (k : ℕ) {x : ℕ} → x ≡ get_or tops r 0 → (x ≡ 255 → ⊥) → k ≡ x → fit_to Δ (λ k. use_at uses k r) k ≡ true → true ≡ formed_arg Δ (type_in (types_of (rows_in τ n)) r)
  formed_fit m {x} p q z f = sym (rw (row_type_lem τ n r h) (arg_made Δ (row_type τ r) (proper_type τ r) kept (λ k. each k (ltb k m) refl)))
    where
      kept : respected_in (row_type τ r) ≡ true
      kept = sym respected_is ∙ ap not (ne_eqb (get_or tops r 0) 255 (λ e. q (p ∙ e)))

      top : m ≡ top_of (λ k. free_in k (row_type τ r)) 64
      top = z ∙ p ∙ s.top r h ∙ (unfold top_in in rw kept)

      past : (k : ℕ) → m ≤ k → (b : Bool) → ltb k 64 ≡ b → free_in k (row_type τ r) ≡ 0
      past k l true e = top_past (λ k. free_in k (row_type τ r)) 64 k (omega (arith, top)) (ltb-true k 64 e)
      past k l false e = sym (s.free r k h) ∙ sym (use_past uses k r (ltb-false k 64 e))

      each : (k : ℕ) (b : Bool) → ltb k m ≡ b → fits (free_in k (row_type τ r)) (get_elem? Δ k) ≡ true
      each k true e = rw (← (s.free r k h)) (fit_each Δ (λ k. use_at uses k r) m f k (ltb-true k m e))
      each k false e = rw (past k (ltb-false k m e) (ltb k 64) refl) (fits_unused (get_elem? Δ k))

  pub formed_by : {b : Bool} {x : ℕ} → x ≡ get_or tops r 0 → (x ≡ 255 → ⊥) → b ≡ fit_to Δ (λ k. use_at uses k r) x → b ≡ formed_arg Δ (type_in (types_of (rows_in τ n)) r)
  formed_by {b} {x} p q e = go b e
    where
      go : (b : Bool) → b ≡ fit_to Δ (λ k. use_at uses k r) x → b ≡ formed_arg Δ (type_in (types_of (rows_in τ n)) r)
      go true g = formed_fit x p q refl (sym g)
      go false g = not_formed (λ d. none_true (g ∙ fit_every Δ (λ k. use_at uses k r) x (λ k. ap (λ u. fits u (get_elem? Δ k)) (s.free r k h) ∙ arg_free Δ (row_type τ r) d k)))
