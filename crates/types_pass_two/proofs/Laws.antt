-- The lowest type line with a fault, row by row.
use Prim.Native.Nat.{ℕ, zero, suc, ◌+◌, ◌-◌, ◌≤◌, ◌<◌}
use native.Mathlib.Nat.{zero-add}
use native.Mathlib.Omega.{arith}
use mathlib.Core.Path.{◌≡◌, refl, ap, ap₂, sym, subst, ◌∙◌}
use mathlib.Core.Bool.{Bool, true, false, not, cond}
use mathlib.Core.Option.{Option, none, some}
use Rattle.std.specs.Prelude.{Option as CodeOption, Some, None}
use Rattle.std.specs.Option.{is_some}
use Rattle.faults.specs.declared.LineFault.{LineFault}
use Rattle.types_pass_two.specs.refs.Refs.{refusal_of}
use mathlib.Core.List.{List, [], ◌∷◌, ◌++◌, map, append-eq-nil_iff}
use lib.ListN.{length, length-replicate, get_or, replicate, get_or-replicate, get_or-eq_default}
use lib.Dec.{ltb, leb, eqb}
use borrow.Author.Tests.{eqb-true, eqb-false, leb-true, leb-false, ltb-false}
use Rattle.syntax.specs.Syntax.{Row}
use Rattle.syntax.specs.Fault.{Fault, Clear, given, number_of, lowest, Refusal, lowest_line, or_else}
use Rattle.syntax.proofs.Least.{least, least_of, given_none, refuse_plain, line_next, line_here}
use Rattle.text.specs.PassOne.{Listing}
use Rattle.text.specs.Entries.{entries_in}
use Rattle.types.specs.Rows.{in_turn, Ref, row_refs, all_below, all_of_sort, size_of, sizes_of, refs_faults, rows_faults, entries_faults, pass_two}
use Rattle.types.proofs.InTurn.{in_turn_snoc}
use Rattle.types.proofs.PassTwo.{row_faults_by, rows_faults_from, rows_from_lem}
use Rattle.tables.specs.Tables.{RowTable, row_at, rows_from, rows_in}
use Rattle.types_rows.proofs.Bridge.{rows_snoc}
use Rattle.types_rows.specs.Clear.{RowsClear}
use Rattle.types_rows.specs.size.Size.{Measured}
use Rattle.types_pass_two.specs.row_refs.Rows.{row_refs_faults}
use Rattle.types_pass_two.proofs.row_refs.References.{row_least, numbered_row, item_row}
use Rattle.types_pass_two.proofs.refs.Lines.{pass_two_lem}
use Rattle.types_pass_two.specs.PassTwo.{faults_at}

-- ---- one row
four_five : (b s : Bool) → least_of (given (not b) 4 ++ given (not s) 5) < 6
unfolding least_of given number_of lowest
four_five true true = omega arith
four_five true false = omega arith
four_five false true = omega arith
four_five false false = omega arith

least_first : (f s : ℕ) → (f ≡ 0 → ⊥) → f < 6 → (b : Bool) → f ≡ least f (cond b 6 0)
unfolding least
least_first zero s h l b = absurd (h refl)
least_first (suc f) s h l true = omega arith
least_first (suc f) s h l false = refl

module _ (τ : RowTable) (r f : ℕ) (e : f ≡ least_of (row_refs_faults τ r)) where
  by_size : least_of (faults_at τ r) ≡ least f (cond (ltb 4096 (size_of (sizes_of (rows_in τ r)) (row_at τ r))) 6 0)
  by_size = row_least τ (sizes_of (rows_in τ r)) r ∙ ap (λ (x : ℕ). least x (cond (ltb 4096 (size_of (sizes_of (rows_in τ r)) (row_at τ r))) 6 0)) (sym e)

  low : f < 6
  unfolding refs_faults
  low = let h = four_five (all_below (length (rows_in τ r)) (map (λ (x : Ref). x.row) (row_refs (row_at τ r)))) (all_of_sort (rows_in τ r) (row_refs (row_at τ r))) in rw e h

  pub row_refs_lem : (f ≡ 0 → ⊥) → f ≡ least_of (faults_at τ r)
  row_refs_lem h = least_first f 0 h low (ltb 4096 (size_of (sizes_of (rows_in τ r)) (row_at τ r))) ∙ sym by_size

  pub row_size : (b : Bool) → b ≡ ltb 4096 (size_of (sizes_of (rows_in τ r)) (row_at τ r)) → f ≡ 0 → cond b 6 0 ≡ least_of (faults_at τ r)
  unfolding least
  row_size b q z = ap (λ (x : Bool). least 0 (cond x 6 0)) q ∙ ap (λ (x : ℕ). least x (cond (ltb 4096 (size_of (sizes_of (rows_in τ r)) (row_at τ r))) 6 0)) (sym z) ∙ sym by_size

-- ---- no size is known yet
zero_at : (n h : ℕ) → ◌≡◌ {A = ℕ} (get_or (replicate n 0) h 0) 0
zero_at n h = go (leb n h) refl
  where
    go : (b : Bool) → leb n h ≡ b → ◌≡◌ {A = ℕ} (get_or (replicate n 0) h 0) 0
    go true e = get_or-eq_default (replicate n 0) 0 (let l = leb-true n h e in let k = length-replicate {A = ℕ} n 0 in omega arith)
    go false e = get_or-replicate n h 0 0 (let l = leb-false n h e in omega arith)

pub measured_none : (τ : RowTable) (n : ℕ) → Measured τ (replicate n 0)
measured_none τ n h z = absurd (z (zero_at n h))

-- ---- the type lines from row r on
module _ (τ : RowTable) (n : ℕ) where
  unfoldable pub rows_left : ℕ → Option Refusal
  rows_left r = lowest_line (suc r) (rows_faults_from (rows_in τ r) (sizes_of (rows_in τ r)) (rows_from τ r (n - r)))

  step : (r : ℕ) → r < n → rows_from τ r (n - r) ≡ row_at τ r ∷ rows_from τ (suc r) (n - suc r)
  unfolding rows_from
  step r h = let e : n - r ≡ suc (n - suc r) = omega arith in rw e refl

  snoc : (r : ℕ) → rows_in τ r ++ row_at τ r ∷ [] ≡ rows_in τ (suc r)
  snoc r = sym (rows_snoc τ 0 r ∙ ap (λ z. rows_from τ 0 r ++ row_at τ z ∷ []) (zero-add r))

  sizes_snoc : (r : ℕ) → sizes_of (rows_in τ r) ++ size_of (sizes_of (rows_in τ r)) (row_at τ r) ∷ [] ≡ sizes_of (rows_in τ (suc r))
  unfolding sizes_of
  sizes_snoc r = sym (in_turn_snoc size_of (rows_in τ r) (row_at τ r)) ∙ ap sizes_of (snoc r)

  here : (r : ℕ) → r < n → rows_left r ≡ lowest_line (suc r) (faults_at τ r ∷ rows_faults_from (rows_in τ (suc r)) (sizes_of (rows_in τ (suc r))) (rows_from τ (suc r) (n - suc r)))
  unfolding rows_left rows_faults_from
  here r h =
      ap (λ l. lowest_line (suc r) (rows_faults_from (rows_in τ r) (sizes_of (rows_in τ r)) l)) (step r h)
      ∙ ap₂ (λ (b : List Row) (s : List ℕ). lowest_line (suc r) (faults_at τ r ∷ rows_faults_from b s (rows_from τ (suc r) (n - suc r)))) (snoc r) (sizes_snoc r)

  pub rows_start : rows_left 0 ≡ lowest_line 1 (rows_faults (rows_in τ n) 0 (rows_in τ n))
  unfolding rows_left rows_from sizes_of in_turn
  rows_start = let e : n - 0 ≡ n = omega arith in rw (e, rows_from_lem (rows_in τ n)) refl

  pub rows_next : (r f : ℕ) → r < n → f ≡ least_of (faults_at τ r) → f ≡ 0 → rows_left (r + 1) ≡ rows_left r
  unfolding rows_left
  rows_next r f h e z =
      let q : r + 1 ≡ suc r = omega arith in
      ap (λ (x : ℕ). rows_left x) q ∙ sym (here r h ∙ line_next (suc r) (faults_at τ r) _ (numbered_row τ (sizes_of (rows_in τ r)) r (sym e ∙ z)))

  pub rows_found : (r f line : ℕ) → r < n → f ≡ least_of (faults_at τ r) → (f ≡ 0 → ⊥) → line ≡ r + 1 → some (record { number = f; line = line; item = none }) ≡ rows_left r
  rows_found r f line h e z q =
      let l : line ≡ suc r = omega arith in
      ap₂ (λ (x y : ℕ). some (record { number = x; line = y; item = none })) e l
      ∙ sym
      (here r h
      ∙ line_here (suc r) (faults_at τ r) _ (λ d. z (e ∙ d))
      ∙ ap some (refuse_plain (least_of (faults_at τ r)) (suc r) (faults_at τ r) (item_row τ (sizes_of (rows_in τ r)) r)))

  pub rows_end : (r : ℕ) → n ≤ r → none ≡ rows_left r
  unfolding rows_left rows_from rows_faults_from lowest_line
  rows_end r h = let e : n - r ≡ 0 = omega arith in rw e refl

  -- ---- no row of a clear pass is too large
  no_six : (b : Bool) (p q : List Fault) → p ++ q ++ given b 6 ≡ [] → b ≡ false
  no_six b p q e = given_none b 6 ((append-eq-nil_iff {p = p ++ q} {q = given b 6}).0 e).1

  seen_size : (r : ℕ) → faults_at τ r ≡ [] → size_of (sizes_of (rows_in τ r)) (row_at τ r) ≤ 4096
  unfolding row_faults_by refs_faults
  seen_size r e =
      ltb-false 4096 (size_of (sizes_of (rows_in τ r)) (row_at τ r)) (no_six (ltb 4096 (size_of (sizes_of (rows_in τ r)) (row_at τ r)))
      (given (not (all_below (length (rows_in τ r)) (map (λ (x : Ref). x.row) (row_refs (row_at τ r))))) 4)
      (given (not (all_of_sort (rows_in τ r) (row_refs (row_at τ r)))) 5) e)

  carry : {a b : List Row} {s t : List ℕ} (l : List Row) → a ≡ b → s ≡ t → Clear (rows_faults_from a s l) → Clear (rows_faults_from b t l)
  carry {a} {b} {s} {t} l e f c = subst (λ x. Clear (rows_faults_from x t l)) e (subst (λ x. Clear (rows_faults_from a x l)) f c)

  sizes_seen : (k r : ℕ) → Clear (rows_faults_from (rows_in τ r) (sizes_of (rows_in τ r)) (rows_from τ r k)) → (x : ℕ) → r ≤ x → x < r + k → size_of (sizes_of (rows_in τ x)) (row_at τ x) ≤ 4096
  unfolding rows_from rows_faults_from
  sizes_seen zero r c x h l = absurd (omega arith)
  sizes_seen (suc k) r c x h l = go (sizes_seen k (suc r) rest x) (eqb r x) refl
    where
      rest : Clear (rows_faults_from (rows_in τ (suc r)) (sizes_of (rows_in τ (suc r))) (rows_from τ (suc r) k))
      rest = carry (rows_from τ (suc r) k) (snoc r) (sizes_snoc r) c.1

      go : (suc r ≤ x → x < suc r + k → size_of (sizes_of (rows_in τ x)) (row_at τ x) ≤ 4096) → (b : Bool) → eqb r x ≡ b → size_of (sizes_of (rows_in τ x)) (row_at τ x) ≤ 4096
      go f true e = let q : r ≡ x = eqb-true r x e in rw (← q) (seen_size r c.0)
      go f false e = let q : r ≡ x → ⊥ = eqb-false r x e in f (omega (arith, q)) (omega arith)

  pub size_clear : RowsClear τ n → (x : ℕ) → x < n → size_of (sizes_of (rows_in τ x)) (row_at τ x) ≤ 4096
  unfolding rows_from sizes_of in_turn
  size_clear c x h = sizes_seen n 0 (rw (rows_from_lem (rows_in τ n)) at c) x (omega arith) (omega arith)

-- ---- the pass
module _ (τ : RowTable) (n nb : ℕ) (bs : List Listing) where
  pub at_row : (o : CodeOption LineFault) → refusal_of o ≡ lowest_line 1 (rows_faults (rows_in τ n) 0 (rows_in τ n)) → is_some o ≡ true → refusal_of o ≡ lowest_line 0 (pass_two (rows_in τ n) nb (entries_in (rows_in τ n) bs))
  at_row None e h = cc
  at_row (Some x) e h =
      sym (pass_two_lem τ n nb bs ∙ ap (λ y. or_else y (lowest_line (n + 1) (entries_faults (rows_in τ n) nb (entries_in [] bs)))) (sym e))

  pub behind_rows : (o q : CodeOption LineFault) → refusal_of o ≡ lowest_line 1 (rows_faults (rows_in τ n) 0 (rows_in τ n)) → is_some o ≡ false
      → refusal_of q ≡ lowest_line (n + 1) (entries_faults (rows_in τ n) nb (entries_in [] bs)) → refusal_of q ≡ lowest_line 0 (pass_two (rows_in τ n) nb (entries_in (rows_in τ n) bs))
  behind_rows (Some x) q e z h = cc
  behind_rows None q e z h =
      h ∙ sym (pass_two_lem τ n nb bs ∙ ap (λ y. or_else y (lowest_line (n + 1) (entries_faults (rows_in τ n) nb (entries_in [] bs)))) (sym e))
