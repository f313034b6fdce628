-- The least of the faults 4 and 5 of what a line names is found reference by reference, from the kinds of rows.
use Prim.Native.Nat.{ℕ, zero, suc, ◌+◌, ◌-◌, ◌≤◌, ◌<◌}
use native.Mathlib.Omega.{arith}
use mathlib.Core.Path.{◌≡◌, refl, sym, ap, ap₂, ◌∙◌}
use mathlib.Core.Bool.{Bool, true, false, ◌&&◌, not, cond}
use mathlib.Core.Option.{Option, none, some}
use mathlib.Core.List.{List, [], ◌∷◌, ◌++◌, map}
use lib.Dec.{eqb, ltb}
use lib.ListN.{length, get_or}
use borrow.Author.Tests.{le-ltb, ne_eqb}
use Rattle.syntax.specs.Syntax.{Row}
use Rattle.syntax.specs.Fault.{given, number_of, first_item, lowest}
use Rattle.syntax.proofs.Least.{least, least_of, least_none, least_assoc, least_turn, Numbered, least_given, least_append, numbered_given, numbered_append, item_given, no_item_append}
use Rattle.tables.specs.Tables.{cell, span, known_of, RowTable, code_row_at, row_from, row_at, rows_in}
use Rattle.tables.proofs.Cases.{◌&◌, row_last, row_cases}
use Rattle.tables.proofs.Steps.{length_rows, row_in, span_step}
use Rattle.types.specs.Rows.{Sort, value_row, stack_row, code_row, hidden_row, any_row, is_value, is_code, is_hidden, is_of, Ref, ref, rows_in as rowsNamed, known_refs, row_refs, is_sort, all_below, all_of_sort, size_of, refs_faults}
use Rattle.types.proofs.PassTwo.{row_faults_by}
use Rattle.types_rows.specs.Read.{tab}
use Rattle.types_pass_two.specs.row_refs.Rows.{row_refs_faults}
use Rattle.types_pass_two.specs.row_refs.Least.{kind_fits, ref_least, refs_least, part_refs, list_refs}
use Rattle.types_pass_two.specs.declared.row_refs.Part.{Part}
use Rattle.types_pass_two.specs.declared.row_refs.Part.TheVariants.{Component, Register, Argument}

-- ---- the sort of a row by its kind
value_kind : (ps : List ℕ) (k a b : ℕ) → is_value (row_from ps k a b) ≡ ltb k 7
unfolding row_from is_value code_row_at
value_kind ps k a b =
    row_cases (λ k r. is_value r ≡ ltb k 7) ps a b (tt & refl & refl & refl & refl & refl & refl & refl & refl & refl & refl) (λ k l. sym (le-ltb k 7 (omega arith))) k

code_kind_lem : (ps : List ℕ) (k a b : ℕ) → is_code (row_from ps k a b) ≡ eqb k 5
unfolding row_from is_code code_row_at
code_kind_lem ps k a b =
    row_cases (λ k r. is_code r ≡ eqb k 5) ps a b (tt & refl & refl & refl & refl & refl & refl & refl & refl & refl & refl) (λ k l. sym (ne_eqb k 5 (λ q. absurd (omega arith)))) k

hidden_kind : (ps : List ℕ) (k a b : ℕ) → is_hidden (row_from ps k a b) ≡ eqb k 6
unfolding row_from is_hidden code_row_at
hidden_kind ps k a b =
    row_cases (λ k r. is_hidden r ≡ eqb k 6) ps a b (tt & refl & refl & refl & refl & refl & refl & refl & refl & refl & refl) (λ k l. sym (ne_eqb k 6 (λ q. absurd (omega arith)))) k

sort_kind : (τ : RowTable) (s : Sort) (t : ℕ) → is_of s (row_at τ t) ≡ kind_fits s (cell 4 τ.rows t 0)
unfolding is_of row_at
sort_kind τ value_row t = value_kind τ.parts _ _ _
sort_kind τ stack_row t = ap not (value_kind τ.parts _ _ _)
sort_kind τ code_row t = code_kind_lem τ.parts _ _ _
sort_kind τ hidden_row t = hidden_kind τ.parts _ _ _
sort_kind τ any_row t = refl

-- ---- references
-- fault 4 unless b, fault 5 unless s
both : (b s : Bool) → least_of (given (not b) 4 ++ given (not s) 5) ≡ cond b (cond s 0 5) 4
unfolding least_of given number_of lowest
both true true = refl
both true false = refl
both false true = refl
both false false = refl

-- one reference before others: k says that its kind fits, b₁ and s₁ are of the others
more : (k b₁ s₁ : Bool) → cond b₁ (cond (k && s₁) 0 5) 4 ≡ least (cond k 0 5) (cond b₁ (cond s₁ 0 5) 4)
unfolding least
more true true true = refl
more true true false = refl
more true false s₁ = refl
more false true true = refl
more false true false = refl
more false false s₁ = refl

none_there : (b₁ s₁ : Bool) → 4 ≡ least 4 (cond b₁ (cond s₁ 0 5) 4)
unfolding least
none_there true true = refl
none_there true false = refl
none_there false s₁ = refl

one_more_lem : (τ : RowTable) (s : Sort) (t : ℕ) (b b₁ s₁ : Bool) → cond (b && b₁) (cond (is_sort s (cond b (some (row_at τ t)) none) && s₁) 0 5) 4 ≡ least (cond b (cond (kind_fits s (cell 4 τ.rows t 0)) 0 5) 4) (cond b₁ (cond s₁ 0 5) 4)
unfolding is_sort
one_more_lem τ s t true b₁ s₁ = ap (λ (k : Bool). cond b₁ (cond (k && s₁) 0 5) 4) (sort_kind τ s t) ∙ more (kind_fits s (cell 4 τ.rows t 0)) b₁ s₁
one_more_lem τ s t false b₁ s₁ = none_there b₁ s₁

refs_fold : (τ : RowTable) (n : ℕ) (refs : List Ref) → cond (all_below n (rowsNamed refs)) (cond (all_of_sort (rows_in τ n) refs) 0 5) 4 ≡ refs_least τ.rows n refs
unfolding all_below all_of_sort refs_least
refs_fold τ n [] = refl
refs_fold τ n (r ∷ refs) =
    ap (λ (o : Option Row). cond (ltb r.row n && all_below n (rowsNamed refs)) (cond (is_sort r.sort o && all_of_sort (rows_in τ n) refs) 0 5) 4) (row_in τ n r.row)
    ∙ (one_more_lem τ r.sort r.row (ltb r.row n) (all_below n (rowsNamed refs)) (all_of_sort (rows_in τ n) refs)
    ∙ ap (least (ref_least τ.rows n r.sort r.row)) (refs_fold τ n refs))

-- the least fault of what is named, reference by reference
pub refs_least_lem : (τ : RowTable) (n : ℕ) (refs : List Ref) → least_of (refs_faults (rows_in τ n) refs) ≡ refs_least τ.rows n refs
unfolding refs_faults
refs_least_lem τ n refs =
    both (all_below (length (rows_in τ n)) (rowsNamed refs)) (all_of_sort (rows_in τ n) refs)
    ∙ (ap (λ (m : ℕ). cond (all_below m (rowsNamed refs)) (cond (all_of_sort (rows_in τ n) refs) 0 5) 4) (length_rows τ n)
    ∙ refs_fold τ n refs)

pub numbered_refs : (rows : List Row) (refs : List Ref) → Numbered (refs_faults rows refs)
unfolding refs_faults
numbered_refs rows refs = numbered_append _ _ (numbered_given _ 3) (numbered_given _ 4)

pub item_refs : (rows : List Row) (refs : List Ref) → first_item (refs_faults rows refs) ≡ none
unfolding refs_faults
item_refs rows refs = no_item_append _ _ (item_given _ 4) (item_given _ 5)

module _ (rs : List ℕ) (n : ℕ) where
  pub one_ref : (s : Sort) (t : ℕ) → refs_least rs n (ref s t ∷ []) ≡ ref_least rs n s t
  unfolding refs_least
  one_ref s t = least_none (ref_least rs n s t)

  pub refs_append : (p q : List Ref) → refs_least rs n (p ++ q) ≡ least (refs_least rs n p) (refs_least rs n q)
  unfolding refs_least least
  refs_append [] q = refl
  refs_append (r ∷ p) q = ap (least (ref_least rs n r.sort r.row)) (refs_append p q) ∙ sym (least_assoc (ref_least rs n r.sort r.row) (refs_least rs n p) (refs_least rs n q))

-- ---- lists of rows
pub components : (xs : List ℕ) → list_refs Component xs ≡ map (ref value_row) xs
unfolding list_refs part_refs
components [] = refl
components (x ∷ xs) = ap (◌∷◌ (ref value_row x)) (components xs)

pub arguments : (xs : List ℕ) → list_refs Argument xs ≡ map (ref any_row) xs
unfolding list_refs part_refs
arguments [] = refl
arguments (x ∷ xs) = ap (◌∷◌ (ref any_row x)) (arguments xs)

pub registers : (xs : List ℕ) → list_refs Register xs ≡ known_refs (map known_of xs)
unfolding list_refs part_refs known_refs known_of
registers [] = refl
registers (zero ∷ xs) = registers xs
registers (suc t ∷ xs) = ap (◌∷◌ (ref value_row t)) (registers xs)

-- by what an entry is
module _ (rs : List ℕ) (n : ℕ) (part : Part) (x : ℕ) where
  pub part_component : {out : ℕ} → part ≡ Component → out ≡ ref_least rs n value_row x → out ≡ refs_least rs n (part_refs part x)
  unfolding part_refs
  part_component e o = rw e (o ∙ sym (one_ref rs n value_row x))

  pub part_gap : part ≡ Register → x ≡ 0 → 0 ≡ refs_least rs n (part_refs part x)
  unfolding part_refs refs_least
  part_gap e z = rw (e, z) refl

  pub part_register : {out : ℕ} → part ≡ Register → (x ≡ 0 → ⊥) → out ≡ ref_least rs n value_row (x - 1) → out ≡ refs_least rs n (part_refs part x)
  unfolding part_refs
  part_register {out} e z o =
      let q : x ≡ suc (x - 1) = omega arith in
      rw e (o ∙ (sym (one_ref rs n value_row (x - 1)) ∙ ap (λ (y : ℕ). refs_least rs n (part_refs Register y)) (sym q)))

  pub part_argument : {out : ℕ} → part ≡ Argument → out ≡ ref_least rs n any_row x → out ≡ refs_least rs n (part_refs part x)
  unfolding part_refs
  part_argument e o = rw e (o ∙ sym (one_ref rs n any_row x))

-- the loop over a list: f, and what is left from i on, make the whole
module _ (rs : List ℕ) (n : ℕ) (part : Part) (s : List ℕ) (p m : ℕ) where
  abbrev left : ℕ → ℕ
  left i = refs_least rs n (list_refs part (span s (p + i) (m - i)))

  abbrev all : ℕ
  all = refs_least rs n (list_refs part (span s p m))

  pub list_start : least 0 (left 0) ≡ all
  unfolding least
  list_start =
      let e : p + 0 ≡ p = omega arith in
      let d : m - 0 ≡ m = omega arith in
      rw (e, d) refl

  list_cons : (i : ℕ) → i < m → left i ≡ least (refs_least rs n (part_refs part (get_or s (p + i) 0))) (left (i + 1))
  unfolding list_refs
  list_cons i h =
      ap (λ (l : List ℕ). refs_least rs n (list_refs part l)) (span_step s p i m h)
      ∙ refs_append rs n (part_refs part (get_or s (p + i) 0)) (list_refs part (span s (p + (i + 1)) (m - (i + 1))))

  pub list_next : (f i x y g : ℕ) → i < m → x ≡ get_or s (p + i) 0 → y ≡ refs_least rs n (part_refs part x) → g ≡ least f y → least f (left i) ≡ all → least g (left (i + 1)) ≡ all
  list_next f i x y g h ex ey eg rest =
      let e : y ≡ refs_least rs n (part_refs part (get_or s (p + i) 0)) = ey ∙ ap (λ (z : ℕ). refs_least rs n (part_refs part z)) ex in
      least_turn f g y (left i) (left (i + 1)) all eg (list_cons i h ∙ ap (λ (z : ℕ). least z (left (i + 1))) (sym e)) rest

  pub list_end : (f i : ℕ) → m ≤ i → least f (left i) ≡ all → f ≡ all
  unfolding span list_refs refs_least
  list_end f i h rest =
      let d : m - i ≡ 0 = omega arith in
      sym (least_none f) ∙ (rw d at rest)

-- ---- rows
module _ (rs ps : List ℕ) (r : ℕ) where
  -- what row r has, by its kind and numbers
  pub row_by : (k a b out : ℕ) → k ≡ cell 4 rs r 0 → a ≡ cell 4 rs r 1 → b ≡ cell 4 rs r 2 → out ≡ refs_least rs r (row_refs (row_from ps k a b)) → out ≡ least_of (row_refs_faults (tab rs ps) r)
  unfolding row_at
  row_by k a b out ek ea eb o = o ∙ (rw (ek, ea, eb) (sym (refs_least_lem (tab rs ps) r (row_refs (row_at (tab rs ps) r)))))

  pub row_tuple : (k a b out : ℕ) → k ≡ 3 → out ≡ refs_least rs r (list_refs Component (span ps a b)) → out ≡ refs_least rs r (row_refs (row_from ps k a b))
  unfolding row_from row_refs
  row_tuple k a b out e o = rw e (o ∙ ap (refs_least rs r) (components (span ps a b)))

  pub row_pointer : (k a b out : ℕ) → k ≡ 4 → out ≡ ref_least rs r stack_row a → out ≡ refs_least rs r (row_refs (row_from ps k a b))
  unfolding row_from row_refs
  row_pointer k a b out e o = rw e (o ∙ sym (one_ref rs r stack_row a))

  pub row_hidden : (k a b out : ℕ) → k ≡ 6 → out ≡ ref_least rs r value_row a → out ≡ refs_least rs r (row_refs (row_from ps k a b))
  unfolding row_from row_refs
  row_hidden k a b out e o = rw e (o ∙ sym (one_ref rs r value_row a))

  pub row_code : (k a b x y out : ℕ) → k ≡ 5 → x ≡ ref_least rs r stack_row a → y ≡ refs_least rs r (list_refs Register (span ps b 8)) → out ≡ least x y → out ≡ refs_least rs r (row_refs (row_from ps k a b))
  unfolding row_from row_refs code_row_at refs_least
  row_code k a b x y out e ex ey o = rw e (o ∙ ap₂ least ex (ey ∙ ap (refs_least rs r) (registers (span ps b 8))))

  pub row_push : (k a b x y out : ℕ) → k ≡ 9 → x ≡ ref_least rs r value_row a → y ≡ ref_least rs r stack_row b → out ≡ least x y → out ≡ refs_least rs r (row_refs (row_from ps k a b))
  unfolding row_from row_refs refs_least
  row_push k a b x y out e ex ey o = rw e (o ∙ ap₂ least ex (ey ∙ sym (one_ref rs r stack_row b)))

  pub row_join : (k a b x y out : ℕ) → 9 < k → x ≡ ref_least rs r stack_row a → y ≡ ref_least rs r stack_row b → out ≡ least x y → out ≡ refs_least rs r (row_refs (row_from ps k a b))
  unfolding row_refs refs_least
  row_join k a b x y out l ex ey o = o ∙ (ap₂ least ex (ey ∙ sym (one_ref rs r stack_row b)) ∙ ap (λ (w : Row). refs_least rs r (row_refs w)) (sym (row_last ps k a b l)))

  pub row_leaf : (k a b : ℕ) → (k ≡ 3 → ⊥) → (k ≡ 4 → ⊥) → (k ≡ 5 → ⊥) → (k ≡ 6 → ⊥) → (k ≡ 9 → ⊥) → k ≤ 9 → 0 ≡ refs_least rs r (row_refs (row_from ps k a b))
  unfolding row_from row_refs refs_least
  row_leaf k a b =
      row_cases (λ k w. (k ≡ 3 → ⊥) → (k ≡ 4 → ⊥) → (k ≡ 5 → ⊥) → (k ≡ 6 → ⊥) → (k ≡ 9 → ⊥) → k ≤ 9 → 0 ≡ refs_least rs r (row_refs w)) ps a b
      (tt
      & (λ t u c h p l. refl)
      & (λ t u c h p l. refl)
      & (λ t u c h p l. refl)
      & (λ t u c h p l. absurd (t refl))
      & (λ t u c h p l. absurd (u refl))
      & (λ t u c h p l. absurd (c refl))
      & (λ t u c h p l. absurd (h refl))
      & (λ t u c h p l. refl)
      & (λ t u c h p l. refl)
      & (λ t u c h p l. absurd (p refl)))
      (λ k m t u c h p l. absurd (omega arith))
      k

-- all faults of row r: 4 and 5 from its references, and its size
module _ (τ : RowTable) (sizes : List ℕ) (r : ℕ) where
  pub row_least : least_of (row_faults_by (rows_in τ r) sizes (row_at τ r)) ≡ least (least_of (row_refs_faults τ r)) (cond (ltb 4096 (size_of sizes (row_at τ r))) 6 0)
  unfolding row_faults_by refs_faults
  row_least =
      let large : Bool = ltb 4096 (size_of sizes (row_at τ r)) in
      least_append (row_refs_faults τ r) (given large 6) (numbered_refs (rows_in τ r) (row_refs (row_at τ r))) (numbered_given large 5)
      ∙ ap (least (least_of (row_refs_faults τ r))) (least_given large 6)

  pub numbered_row : Numbered (row_faults_by (rows_in τ r) sizes (row_at τ r))
  unfolding row_faults_by refs_faults
  numbered_row = numbered_append (row_refs_faults τ r) (given _ 6) (numbered_refs (rows_in τ r) (row_refs (row_at τ r))) (numbered_given _ 5)

  pub item_row : first_item (row_faults_by (rows_in τ r) sizes (row_at τ r)) ≡ none
  unfolding row_faults_by refs_faults
  item_row = no_item_append (row_refs_faults τ r) (given _ 6) (item_refs (rows_in τ r) (row_refs (row_at τ r))) (item_given _ 6)

-- ---- blocks
pub block_least : (rs ps : List ℕ) (n c out : ℕ) → out ≡ ref_least rs n code_row c → out ≡ least_of (refs_faults (rows_in (tab rs ps) n) (ref code_row c ∷ []))
block_least rs ps n c out o = o ∙ (sym (one_ref rs n code_row c) ∙ sym (refs_least_lem (tab rs ps) n (ref code_row c ∷ [])))
