-- The entries of a row, found from those of the rows that it names, say which variables are free in its type, and whether each variable
-- that is bound inside it is of its letter. And the types of rows have lists of items as their use asks.
use Prim.Native.Nat.{ℕ, zero, suc, ◌+◌, ◌<◌, ◌≤◌}
use native.Mathlib.Nat.{zero-add, suc-add, add-zero, add-suc, not-suc-le-zero, le_of_suc-le-suc}
use native.Mathlib.Omega.{arith}
use mathlib.Core.Path.{◌≡◌, refl, ap, ap₂, sym, ◌∙◌, fun_ext}
use mathlib.Core.Bool.{Bool, true, false, ◌&&◌, not, cond}
use mathlib.Core.Option.{Option, none, some}
use mathlib.Core.List.{List, [], ◌∷◌, ◌++◌, map, reverse}
use lib.Dec.{eqb, ltb}
use lib.ListN.{length, get_or, get_elem?, take, length-reverse}
use borrow.Author.Tests.{not-true, eqb-true, eq-eqb, ne_eqb, ltb-true, lt-ltb, le-ltb}
use Rattle.syntax.specs.Syntax.{Kind, value, stack, Row, row_i, row_n, row_e, row_v, row_x, row_p, row_h, row_u, row_k, row_a, row_c}
use Rattle.types.specs.Types.{Ty, int, junk, var, tuple, pointer, hidden, code, nil, push, svar, gap, join, items, Arg, arg, of_kind, Use, a_stack, a_tuple, a_file}
use Rattle.types.specs.Rows.{in_turn, type_at, components, registers, meaning, types_of, is_value, is_of, is_sort, value_row, stack_row, Ref, known_refs, row_refs, all_below, all_of_sort}
use Rattle.types.proofs.Equal.{and_inv}
use Rattle.types.proofs.Meaning.{type_in, types_snoc, type_before, type_at_lem}
use Rattle.valid.specs.Tests.{is_stack, is_file}
use Rattle.tables.specs.Tables.{RowTable, cell, span, code_row_at, row_from, row_at, rows_from, rows_in}
use Rattle.tables.proofs.Steps.{length_rows, row_in}
use Rattle.types_rows.proofs.Bridge.{rows_snoc}
use Rattle.valid_scope.specs.variables.Free.{both, fits, fit_to, top_of, free_as, respected, proper, free_in, respected_in, proper_in}
use Rattle.valid_scope.specs.variables.Uses.{use_at, part_use, parts_use, code_use, row_use, respected_at, part_respected, parts_respected, row_respected}
use Rattle.valid_scope.specs.Scoped.{row_type, top_in, SmallVariable}

-- ---- uses
unused_both : (w : ℕ) → both 0 w ≡ w
unfolding both
unused_both w = refl

pub both_unused : (u : ℕ) → both u 0 ≡ u
unfolding both
both_unused u = go (eqb u 0) refl
  where
    go : (b : Bool) → eqb u 0 ≡ b → cond b 0 (cond true u (cond b u 3)) ≡ u
    go true e = sym (eqb-true u 0 e)
    go false e = refl

both_same : (u : ℕ) → both u u ≡ u
unfolding both
both_same u = go (eqb u 0)
  where
    go : (b : Bool) → cond b u (cond b u (cond (eqb u u) u 3)) ≡ u
    go true = refl
    go false = rw (eq-eqb u u refl)

both_other : (u w : ℕ) → eqb u 0 ≡ false → eqb w 0 ≡ false → eqb u w ≡ false → both u w ≡ 3
unfolding both
both_other u w p q r = rw (p, q, r)

three_both : (w : ℕ) → both 3 w ≡ 3
unfolding both
three_both w = go (eqb w 0) (eqb 3 w)
  where
    go : (b c : Bool) → ◌≡◌ {A = ℕ} (cond b 3 (cond c 3 3)) 3
    go true c = refl
    go false true = refl
    go false false = refl

both_three : (u : ℕ) → eqb u 0 ≡ false → both u 3 ≡ 3
unfolding both
both_three u p = rw p (go (eqb u 3) refl)
  where
    go : (c : Bool) → eqb u 3 ≡ c → cond c u 3 ≡ 3
    go true e = eqb-true u 3 e
    go false e = refl

pub both_assoc : (u v w : ℕ) → both u (both v w) ≡ both (both u v) w
both_assoc u v w = go (eqb u 0) (eqb v 0) (eqb w 0) (eqb u v) (eqb v w) refl refl refl refl refl
  where
    -- u and v the same, w another
    two : (c : Bool) → eqb u w ≡ c → eqb u 0 ≡ false → eqb w 0 ≡ false → both u (both u w) ≡ both u w
    two true e p q = rw (← (eqb-true u w e)) (ap (both u) (both_same u))
    two false e p q = rw (both_other u w p q e) (both_three u p)

    go : (a b c d e : Bool) → eqb u 0 ≡ a → eqb v 0 ≡ b → eqb w 0 ≡ c → eqb u v ≡ d → eqb v w ≡ e → both u (both v w) ≡ both (both u v) w
    go true b c d e p q r s t = rw (eqb-true u 0 p) (unfold both in refl)
    go false true c d e p q r s t = rw (eqb-true v 0 q, both_unused u) (unfold both in refl)
    go false false true d e p q r s t = rw (eqb-true w 0 r, both_unused v, both_unused (both u v))
    go false false false true e p q r s t = rw (← (eqb-true u v s), both_same u) (two (eqb u w) refl p r)
    go false false false false true p q r s t = rw (← (eqb-true v w t), both_same v, both_other u v p q s, three_both)
    go false false false false false p q r s t = rw (both_other v w q r t, both_other u v p q s, both_three u p, three_both)

-- ---- lists of items
free_join : (k : ℕ) (a b : Ty stack) → free_as k (join a b) ≡ both (free_as k a) (free_as k b)
unfolding free_as join
free_join k nil b = unfold both in refl
free_join k (push t a) b = ap (both (free_as k t)) (free_join k a b) ∙ both_assoc (free_as k t) (free_as k a) (free_as k b)
free_join k (svar j a) b = ap (both (cond (eqb j k) 2 0)) (free_join k a b) ∙ both_assoc (cond (eqb j k) 2 0) (free_as k a) (free_as k b)
free_join k (gap a) b = free_join k a b

and_assoc : (a b c : Bool) → a && (b && c) ≡ (a && b) && c
and_assoc true b c = refl
and_assoc false b c = refl

respected_join : (a b : Ty stack) → respected (join a b) ≡ respected a && respected b
unfolding respected join
respected_join nil b = refl
respected_join (push t a) b = ap (◌&&◌ (respected t)) (respected_join a b) ∙ and_assoc (respected t) (respected a) (respected b)
respected_join (svar j a) b = respected_join a b
respected_join (gap a) b = respected_join a b

-- ---- the rows of a table
rows_get_d : (τ : RowTable) (i n k : ℕ) (d : Row) → k < n → get_or (rows_from τ i n) k d ≡ row_at τ (i + k)
unfolding rows_from
rows_get_d τ i zero k d h = absurd (not-suc-le-zero h)
rows_get_d τ i (suc n) zero d h = ap (row_at τ) (sym (add-zero i))
rows_get_d τ i (suc n) (suc k) d h = rows_get_d τ (suc i) n k d (le_of_suc-le-suc h) ∙ ap (row_at τ) (suc-add i k ∙ sym (add-suc i k))

pub row_get_d : (τ : RowTable) (n r : ℕ) (d : Row) → r < n → get_or (rows_in τ n) r d ≡ row_at τ r
row_get_d τ n r d h = rows_get_d τ 0 n r d h ∙ ap (row_at τ) (zero-add r)

pub rows_take : (τ : RowTable) (i n k : ℕ) → k ≤ n → take k (rows_from τ i n) ≡ rows_from τ i k
unfolding rows_from
rows_take τ i n zero h = refl
rows_take τ i zero (suc k) h = absurd (not-suc-le-zero h)
rows_take τ i (suc n) (suc k) h = ap (◌∷◌ (row_at τ i)) (rows_take τ (suc i) n k (le_of_suc-le-suc h))

-- the type of row r, whatever rows are behind it
pub row_type_lem : (τ : RowTable) (n r : ℕ) → r < n → type_in (types_of (rows_in τ n)) r ≡ row_type τ r
unfolding row_type
row_type_lem τ n r h =
    let l = length_rows τ n in
    type_before (rows_in τ n) r row_i (omega arith)
    ∙ ap₂ (λ x y. meaning (types_of x) y) (rows_take τ 0 n r (omega arith)) (row_get_d τ n r row_i h)

-- ---- what a row names: a lower row of the sort needed, read at its own kind
value_at : (τ : RowTable) (r t : ℕ) → t < r → is_sort value_row (get_elem? (rows_in τ r) t) ≡ true → row_type τ t ≡ arg value (type_at value (types_of (rows_in τ r)) t)
unfolding is_sort is_of
value_at τ r t h e =
    let l = length_rows τ r in
    let v : is_value (row_at τ t) ≡ true = rw (row_in τ r t, lt-ltb t r h) at e in
    sym (row_type_lem τ r t h) ∙ type_at_lem value (rows_in τ r) t row_i (omega arith) (rw (row_get_d τ r t row_i h, v))

stack_at : (τ : RowTable) (r t : ℕ) → t < r → is_sort stack_row (get_elem? (rows_in τ r) t) ≡ true → row_type τ t ≡ arg stack (type_at stack (types_of (rows_in τ r)) t)
unfolding is_sort is_of
stack_at τ r t h e =
    let l = length_rows τ r in
    let v : not (is_value (row_at τ t)) ≡ true = rw (row_in τ r t, lt-ltb t r h) at e in
    sym (row_type_lem τ r t h) ∙ type_at_lem stack (rows_in τ r) t row_i (omega arith) (rw (row_get_d τ r t row_i h, not-true (is_value (row_at τ t)) v))

-- components are registers that are all known
components_known : (A : List Arg) (ts : List ℕ) → components A ts ≡ registers A (map some ts)
unfolding components registers
components_known A [] = refl
components_known A (t ∷ ts) = ap (push (type_at value A t)) (components_known A ts)

known_refs_lem : (ts : List ℕ) → row_refs (row_u ts) ≡ known_refs (map some ts)
unfolding row_refs known_refs
known_refs_lem [] = refl
known_refs_lem (t ∷ ts) = ap (◌∷◌ (record { sort = value_row; row = t })) (known_refs_lem ts)

-- the references of a list: each is to a lower row, and of its sort
abbrev pub Low : RowTable → ℕ → List Ref → Type 0
Low τ r [] = Unit
Low τ r (x ∷ xs) = (x.row < r) × (is_sort x.sort (get_elem? (rows_in τ r) x.row) ≡ true) × Low τ r xs

pub low : (τ : RowTable) (r : ℕ) (xs : List Ref) → all_below r (map (λ (x : Ref). x.row) xs) ≡ true → all_of_sort (rows_in τ r) xs ≡ true → Low τ r xs
unfolding all_below all_of_sort
low τ r [] p q = tt
low τ r (x ∷ xs) p q =
    let h = and_inv (ltb x.row r) (all_below r (map (λ (x : Ref). x.row) xs)) p in
    let k = and_inv (is_sort x.sort (get_elem? (rows_in τ r) x.row)) (all_of_sort (rows_in τ r) xs) q in
    (ltb-true x.row r h.0, k.0, low τ r xs h.1 k.1)

-- ---- free variables
module _ (τ : RowTable) (r : ℕ) (uses : List ℕ) (free : (x k : ℕ) → x < r → use_at uses k x ≡ free_in k (row_type τ x)) where
  value_use : (k t : ℕ) → t < r → is_sort value_row (get_elem? (rows_in τ r) t) ≡ true → use_at uses k t ≡ free_as k (type_at value (types_of (rows_in τ r)) t)
  unfolding free_in
  value_use k t h e = free t k h ∙ ap (free_in k) (value_at τ r t h e)

  stack_use : (k t : ℕ) → t < r → is_sort stack_row (get_elem? (rows_in τ r) t) ≡ true → use_at uses k t ≡ free_as k (type_at stack (types_of (rows_in τ r)) t)
  unfolding free_in
  stack_use k t h e = free t k h ∙ ap (free_in k) (stack_at τ r t h e)

  parts_use_lem : (k : ℕ) (rs : List (Option ℕ)) → Low τ r (known_refs rs) → parts_use uses k rs ≡ free_as k (registers (types_of (rows_in τ r)) rs)
  unfolding parts_use part_use known_refs registers free_as
  parts_use_lem k [] l = refl
  parts_use_lem k (none ∷ rs) l = unused_both (parts_use uses k rs) ∙ parts_use_lem k rs l
  parts_use_lem k (some t ∷ rs) l = ap₂ both (value_use k t l.0 l.1) (parts_use_lem k rs l.2)

  pub row_use_lem : (k : ℕ) (x : Row) → Low τ r (row_refs x) → row_use uses k x ≡ free_in k (meaning (types_of (rows_in τ r)) x)
  unfolding row_use code_use free_in meaning free_as row_refs
  row_use_lem k row_i l = refl
  row_use_lem k row_n l = refl
  row_use_lem k (row_v j) l = refl
  row_use_lem k (row_u ts) l = parts_use_lem k (map some ts) (rw (← (known_refs_lem ts)) l) ∙ ap (free_as k) (sym (components_known (types_of (rows_in τ r)) ts))
  row_use_lem k (row_p s) l = stack_use k s l.0 l.1
  row_use_lem k (row_c q s rs) l = rw (length-reverse q) (ap₂ both (stack_use (length q + k) s l.0 l.1) (parts_use_lem (length q + k) rs l.2))
  row_use_lem k (row_h t) l = value_use (suc k) t l.0 l.1
  row_use_lem k row_e l = refl
  row_use_lem k (row_x j) l = sym (both_unused (cond (eqb j k) 2 0))
  row_use_lem k (row_k t s) l = ap₂ both (value_use k t l.0 l.1) (stack_use k s l.2.0 l.2.1)
  row_use_lem k (row_a a b) l = ap₂ both (stack_use k a l.0 l.1) (stack_use k b l.2.0 l.2.1) ∙ sym (free_join k (type_at stack (types_of (rows_in τ r)) a) (type_at stack (types_of (rows_in τ r)) b))

-- ---- letters
pub top_le : (f : ℕ → ℕ) (n : ℕ) → top_of f n ≤ n
unfolding top_of
top_le f zero = omega arith
top_le f (suc n) = go (top_le f n) (eqb (f n) 0)
  where
    go : top_of f n ≤ n → (b : Bool) → cond b (top_of f n) (suc n) ≤ suc n
    go h true = omega arith
    go h false = omega arith

-- the mark of a type with a variable of the wrong letter is no top
pub top_respected : (a : Arg) → not (eqb (top_in a) 255) ≡ respected_in a
unfolding top_in
top_respected a = go (respected_in a)
  where
    go : (b : Bool) → not (eqb (cond b (top_of (λ k. free_in k a) 64) 255) 255) ≡ b
    go true = let h = top_le (λ k. free_in k a) 64 in rw (ne_eqb (top_of (λ k. free_in k a) 64) 255 (λ e. omega arith))
    go false = refl

module _ (τ : RowTable) (r : ℕ) (tops : List ℕ) (top : (x : ℕ) → x < r → get_or tops x 0 ≡ top_in (row_type τ x)) where
  respected_at_lem : (t : ℕ) → t < r → respected_at tops t ≡ respected_in (row_type τ t)
  unfolding respected_at
  respected_at_lem t h = rw (top t h) (top_respected (row_type τ t))

  value_respected : (t : ℕ) → t < r → is_sort value_row (get_elem? (rows_in τ r) t) ≡ true → respected_at tops t ≡ respected (type_at value (types_of (rows_in τ r)) t)
  unfolding respected_in
  value_respected t h e = respected_at_lem t h ∙ ap respected_in (value_at τ r t h e)

  stack_respected : (t : ℕ) → t < r → is_sort stack_row (get_elem? (rows_in τ r) t) ≡ true → respected_at tops t ≡ respected (type_at stack (types_of (rows_in τ r)) t)
  unfolding respected_in
  stack_respected t h e = respected_at_lem t h ∙ ap respected_in (stack_at τ r t h e)

  parts_respected_lem : (rs : List (Option ℕ)) → Low τ r (known_refs rs) → parts_respected tops rs ≡ respected (registers (types_of (rows_in τ r)) rs)
  unfolding parts_respected part_respected known_refs registers respected
  parts_respected_lem [] l = refl
  parts_respected_lem (none ∷ rs) l = parts_respected_lem rs l
  parts_respected_lem (some t ∷ rs) l = ap₂ ◌&&◌ (value_respected t l.0 l.1) (parts_respected_lem rs l.2)

  pub row_respected_lem : (uses : List ℕ) → ((x k : ℕ) → x < r → use_at uses k x ≡ free_in k (row_type τ x)) → (x : Row) → Low τ r (row_refs x) → row_respected uses tops x ≡ respected_in (meaning (types_of (rows_in τ r)) x)
  unfolding row_respected code_use respected_in meaning respected row_refs
  row_respected_lem uses free row_i l = refl
  row_respected_lem uses free row_n l = refl
  row_respected_lem uses free (row_v j) l = refl
  row_respected_lem uses free (row_u ts) l = parts_respected_lem (map some ts) (rw (← (known_refs_lem ts)) l) ∙ ap respected (sym (components_known (types_of (rows_in τ r)) ts))
  row_respected_lem uses free (row_p s) l = stack_respected s l.0 l.1
  row_respected_lem uses free (row_c q s rs) l =
      rw (length-reverse q)
      (ap₂ ◌&&◌
      (ap₂ ◌&&◌ (stack_respected s l.0 l.1) (parts_respected_lem rs l.2))
      (ap (λ f. fit_to (reverse q) f (length q)) (fun_ext λ k. ap₂ both (stack_use τ r uses free k s l.0 l.1) (parts_use_lem τ r uses free k rs l.2))))
  row_respected_lem uses free (row_h t) l = ap₂ ◌&&◌ (value_respected t l.0 l.1) (ap (λ u. fits u (some value)) (value_use τ r uses free 0 t l.0 l.1))
  row_respected_lem uses free row_e l = refl
  row_respected_lem uses free (row_x j) l = refl
  row_respected_lem uses free (row_k t s) l = ap₂ ◌&&◌ (value_respected t l.0 l.1) (stack_respected s l.2.0 l.2.1)
  row_respected_lem uses free (row_a a b) l = ap₂ ◌&&◌ (stack_respected a l.0 l.1) (stack_respected b l.2.0 l.2.1) ∙ sym (respected_join (type_at stack (types_of (rows_in τ r)) a) (type_at stack (types_of (rows_in τ r)) b))

-- ---- no variable past 63 is free
use_high : (uses : List ℕ) (k t : ℕ) → 64 ≤ k → use_at uses k t ≡ 0
unfolding use_at
use_high uses k t h = rw (le-ltb k 64 h)

parts_high : (uses : List ℕ) (k : ℕ) → 64 ≤ k → (rs : List (Option ℕ)) → parts_use uses k rs ≡ 0
unfolding parts_use part_use
parts_high uses k h [] = refl
parts_high uses k h (none ∷ rs) = unused_both (parts_use uses k rs) ∙ parts_high uses k h rs
parts_high uses k h (some t ∷ rs) = rw (use_high uses k t h, unused_both) (parts_high uses k h rs)

pub row_high : (uses : List ℕ) (k : ℕ) → 64 ≤ k → (x : Row) → SmallVariable x → row_use uses k x ≡ 0
unfolding row_use code_use
row_high uses k h row_i l = refl
row_high uses k h row_n l = refl
row_high uses k h (row_v j) l = rw (ne_eqb j k (λ e. omega arith))
row_high uses k h (row_u ts) l = parts_high uses k h (map some ts)
row_high uses k h (row_p s) l = use_high uses k s h
row_high uses k h (row_c q s rs) l = rw (use_high uses (length q + k) s (omega arith), unused_both) (parts_high uses (length q + k) (omega arith) rs)
row_high uses k h (row_h t) l = use_high uses (suc k) t (omega arith)
row_high uses k h row_e l = refl
row_high uses k h (row_x j) l = rw (ne_eqb j k (λ e. omega arith))
row_high uses k h (row_k t s) l = rw (use_high uses k t h, unused_both) (use_high uses k s h)
row_high uses k h (row_a a b) l = rw (use_high uses k a h, unused_both) (use_high uses k b h)

-- ---- no variable from `bound` on is free, where that holds of the rows named
-- a row that is not itself a variable
abbrev pub NoVariable : Row → Type 0
NoVariable row_i = Unit
NoVariable row_n = Unit
NoVariable (row_v j) = ⊥
NoVariable (row_u ts) = Unit
NoVariable (row_p s) = Unit
NoVariable (row_c q s rs) = Unit
NoVariable (row_h t) = Unit
NoVariable row_e = Unit
NoVariable (row_x j) = ⊥
NoVariable (row_k t s) = Unit
NoVariable (row_a a b) = Unit

module _ (τ : RowTable) (r bound : ℕ) (uses : List ℕ) (past : (t k : ℕ) → t < r → bound ≤ k → use_at uses k t ≡ 0) where
  parts_past : (k : ℕ) → bound ≤ k → (rs : List (Option ℕ)) → Low τ r (known_refs rs) → parts_use uses k rs ≡ 0
  unfolding parts_use part_use known_refs
  parts_past k h [] l = refl
  parts_past k h (none ∷ rs) l = unused_both (parts_use uses k rs) ∙ parts_past k h rs l
  parts_past k h (some t ∷ rs) l = rw (past t k l.0 h, unused_both) (parts_past k h rs l.2)

  pub row_past : (k : ℕ) → bound ≤ k → (x : Row) → NoVariable x → Low τ r (row_refs x) → row_use uses k x ≡ 0
  unfolding row_use code_use row_refs
  row_past k h row_i v l = refl
  row_past k h row_n v l = refl
  row_past k h (row_v j) v l = absurd v
  row_past k h (row_u ts) v l = parts_past k h (map some ts) (rw (← (known_refs_lem ts)) l)
  row_past k h (row_p s) v l = past s k l.0 h
  row_past k h (row_c q s rs) v l = rw (past s (length q + k) l.0 (omega arith), unused_both) (parts_past (length q + k) (omega arith) rs l.2)
  row_past k h (row_h t) v l = past t (suc k) l.0 (omega arith)
  row_past k h row_e v l = refl
  row_past k h (row_x j) v l = absurd v
  row_past k h (row_k t s) v l = rw (past t k l.0 h, unused_both) (past s k l.2.0 h)
  row_past k h (row_a a b) v l = rw (past a k l.0 h, unused_both) (past b k l.2.0 h)

-- ---- the types of rows have lists of items as their use asks
proper_use : (u w : Use) (t : Ty value) → proper u t ≡ true → proper w t ≡ true
unfolding proper
proper_use u w int e = e
proper_use u w junk e = e
proper_use u w (var j) e = e
proper_use u w (tuple a) e = e
proper_use u w (pointer a) e = e
proper_use u w (hidden t) e = e
proper_use u w (code q a r) e = e

proper_join : (u : Use) (a b : Ty stack) → proper u a ≡ true → proper u b ≡ true → proper u (join a b) ≡ true
unfolding proper join
proper_join u nil b p q = q
proper_join u (push t a) b p q = let h = and_inv (proper u t) (proper u a) p in rw h.0 (proper_join u a b h.1 q)
proper_join u (svar j a) b p q = let h = and_inv (is_stack u) (proper u a) p in rw h.0 (proper_join u a b h.1 q)
proper_join u (gap a) b p q = let h = and_inv (is_file u) (proper u a) p in rw h.0 (proper_join u a b h.1 q)

abbrev Proper : List Arg → Type 0
Proper A = (t : ℕ) → proper_in (type_in A t) ≡ true

-- a code row has eight registers
abbrev Eight : Row → Type 0
Eight row_i = Unit
Eight row_n = Unit
Eight (row_v j) = Unit
Eight (row_u ts) = Unit
Eight (row_p s) = Unit
Eight (row_c q s rs) = length rs ≡ 8
Eight (row_h t) = Unit
Eight row_e = Unit
Eight (row_x j) = Unit
Eight (row_k t s) = Unit
Eight (row_a a b) = Unit

module _ (A : List Arg) (h : Proper A) where
  proper_kind : (κ : Kind) (a : Arg) → proper_in a ≡ true → proper a_stack (of_kind κ a) ≡ true
  unfolding proper_in of_kind proper
  proper_kind value (arg value t) e = e
  proper_kind value (arg stack t) e = refl
  proper_kind stack (arg value t) e = refl
  proper_kind stack (arg stack t) e = e

  proper_at : (κ : Kind) (t : ℕ) → proper a_stack (type_at κ A t) ≡ true
  unfolding type_at
  proper_at κ t = proper_kind κ (type_in A t) (h t)

  proper_components : (ts : List ℕ) → proper a_tuple (components A ts) ≡ true
  unfolding components proper
  proper_components [] = refl
  proper_components (t ∷ ts) = rw (proper_use a_stack a_tuple (type_at value A t) (proper_at value t)) (proper_components ts)

  proper_registers : (rs : List (Option ℕ)) → proper a_file (registers A rs) ≡ true
  unfolding registers proper is_file
  proper_registers [] = refl
  proper_registers (none ∷ rs) = proper_registers rs
  proper_registers (some t ∷ rs) = rw (proper_use a_stack a_file (type_at value A t) (proper_at value t)) (proper_registers rs)

  items_registers : (rs : List (Option ℕ)) → items (registers A rs) ≡ length rs
  unfolding registers items
  items_registers [] = refl
  items_registers (none ∷ rs) = ap suc (items_registers rs)
  items_registers (some t ∷ rs) = ap suc (items_registers rs)

  proper_meaning : (x : Row) → Eight x → proper_in (meaning A x) ≡ true
  unfolding proper_in meaning proper is_stack
  proper_meaning row_i e = refl
  proper_meaning row_n e = refl
  proper_meaning (row_v j) e = refl
  proper_meaning (row_u ts) e = proper_components ts
  proper_meaning (row_p s) e = proper_at stack s
  proper_meaning (row_c q s rs) e = rw (proper_at stack s, proper_registers rs) (eq-eqb (items (registers A rs)) 8 (items_registers rs ∙ e))
  proper_meaning (row_h t) e = proper_at value t
  proper_meaning row_e e = refl
  proper_meaning (row_x j) e = refl
  proper_meaning (row_k t s) e = rw (proper_at value t) (proper_at stack s)
  proper_meaning (row_a a b) e = proper_join a_stack (type_at stack A a) (type_at stack A b) (proper_at stack a) (proper_at stack b)

proper_snoc : (A : List Arg) (a : Arg) → Proper A → proper_in a ≡ true → Proper (A ++ a ∷ [])
proper_snoc [] a h e zero = e
proper_snoc [] a h e (suc t) = h t
proper_snoc (x ∷ A) a h e zero = h zero
proper_snoc (x ∷ A) a h e (suc t) = proper_snoc A a (λ i. h (suc i)) e t

either : (P : Row → Type 0) (b : Bool) (x y : Row) → P x → P y → P (cond b x y)
either P true x y p q = p
either P false x y p q = q

eight_from : (ps : List ℕ) (k a b : ℕ) → Eight (row_from ps k a b)
unfolding row_from code_row_at span
eight_from ps k a b =
    either Eight (eqb k 0) row_i _ tt
    (either Eight (eqb k 1) row_n _ tt
    (either Eight (eqb k 2) (row_v a) _ tt
    (either Eight (eqb k 3) (row_u (span ps a b)) _ tt
    (either Eight (eqb k 4) (row_p a) _ tt
    (either Eight (eqb k 5) (code_row_at ps a b) _ refl
    (either Eight (eqb k 6) (row_h a) _ tt
    (either Eight (eqb k 7) row_e _ tt
    (either Eight (eqb k 8) (row_x a) _ tt
    (either Eight (eqb k 9) (row_k a b) (row_a a b) tt tt)))))))))

pub no_variable : (ps : List ℕ) (k a b : ℕ) → (k ≡ 2 → ⊥) → (k ≡ 8 → ⊥) → NoVariable (row_from ps k a b)
unfolding row_from code_row_at
no_variable ps k a b p q =
    rw (ne_eqb k 2 p, ne_eqb k 8 q)
    (either NoVariable (eqb k 0) row_i _ tt
    (either NoVariable (eqb k 1) row_n _ tt
    (either NoVariable (eqb k 3) (row_u (span ps a b)) _ tt
    (either NoVariable (eqb k 4) (row_p a) _ tt
    (either NoVariable (eqb k 5) (code_row_at ps a b) _ tt
    (either NoVariable (eqb k 6) (row_h a) _ tt
    (either NoVariable (eqb k 7) row_e _ tt
    (either NoVariable (eqb k 9) (row_k a b) (row_a a b) tt tt))))))))

eight_at : (τ : RowTable) (r : ℕ) → Eight (row_at τ r)
unfolding row_at
eight_at τ r = eight_from τ.parts (cell 4 τ.rows r 0) (cell 4 τ.rows r 1) (cell 4 τ.rows r 2)

proper_rows : (τ : RowTable) (n : ℕ) → Proper (types_of (rows_in τ n))
unfolding rows_from types_of in_turn proper_in proper
proper_rows τ zero = λ t. refl
proper_rows τ (suc n) =
    let A : List Arg = types_of (rows_in τ n) in
    let x : Row = row_at τ (0 + n) in
    let e : types_of (rows_in τ (suc n)) ≡ A ++ meaning A x ∷ [] = ap types_of (rows_snoc τ 0 n) ∙ types_snoc (rows_in τ n) x in
    let h : Proper (A ++ meaning A x ∷ []) = proper_snoc A (meaning A x) (proper_rows τ n) (proper_meaning A (proper_rows τ n) x (eight_at τ (0 + n))) in
    rw e h

pub proper_type : (τ : RowTable) (r : ℕ) → proper_in (row_type τ r) ≡ true
unfolding row_type
proper_type τ r = proper_meaning (types_of (rows_in τ r)) (proper_rows τ r) (row_at τ r) (eight_at τ r)
