-- The size of a row by its form is the size that crate types gives it.
use mathlib.Core.Path.{◌≡◌, refl, ap, ap₂, sym, ◌∙◌}
use mathlib.Core.Bool.{Bool, true, false, cond}
use mathlib.Core.List.{List, [], ◌∷◌, ◌++◌, map}
use Prim.Native.Nat.{ℕ, zero, suc, ◌+◌, ◌-◌, ◌<◌, ◌≤◌}
use native.Mathlib.Omega.{arith}
use native.Mathlib.Nat.{not-suc-le-zero, zero-add}
use lib.Dec.{eqb, leb, ltb}
use lib.ListN.{length, length-append, get_or, set, get_or-eq_default, get_or-append}
use lib.Seq.{get_or_at, get_or-set_same, get_or-set_other, set_out}
use borrow.Author.Tests.{eqb-true, eqb-false, eq-eqb, ne_eqb, leb-true, leb-false, ltb-true, ltb-false, le-leb}
use Rattle.types.specs.Rows.{in_turn, value_row, known_refs, row_refs, total, size_of, sizes_of}
use Rattle.types.proofs.InTurn.{in_turn_snoc}
use Rattle.tables.specs.Tables.{RowTable, cell, span, known_of, code_row_at, row_from, row_at, rows_from, rows_in}
use Rattle.types_rows.specs.declared.Val.TheVariants.{ValVar}
use Rattle.types_rows.specs.declared.Stk.TheVariants.{StkVar}
use Rattle.types_rows.specs.Read.{lower, value_with, stack_with, slot_at}
use Rattle.types_rows.proofs.Bridge.{row_ten, stack_ten, rows_snoc}
use Rattle.types_rows.specs.size.Size.{slot_size, parts_size, under_v, under_s, size_at, Measured}
use Rattle.types_rows.proofs.size.Laws.{size_none, size_is}

module _ (τ : RowTable) where
  abbrev sizes_in : ℕ → List ℕ
  sizes_in n = sizes_of (rows_in τ n)

  sizes_snoc : (n : ℕ) → sizes_in (suc n) ≡ sizes_in n ++ size_of (sizes_in n) (row_at τ n) ∷ []
  unfolding sizes_of
  sizes_snoc n = ap sizes_of (rows_snoc τ 0 n ∙ ap (λ z. rows_from τ 0 n ++ row_at τ z ∷ []) (zero-add n)) ∙ in_turn_snoc size_of (rows_from τ 0 n) (row_at τ n)

  length_sizes : (n : ℕ) → length (sizes_in n) ≡ n
  unfolding sizes_of in_turn rows_from
  length_sizes zero = refl
  length_sizes (suc n) =
      let h = length_sizes n in
      let g = length-append (sizes_in n) (size_of (sizes_in n) (row_at τ n) ∷ []) in
      ap length (sizes_snoc n) ∙ omega arith

-- a row of kind k with the numbers a and b, S being the sizes of the rows before it
module _ (τ : RowTable) (S : List ℕ) (n : ℕ) (ts : (x : ℕ) → get_or S x 0 ≡ size_at τ (lower (suc n) x)) where
  components_size : (a b : ℕ) → total S (map (λ x. record { sort = value_row; row = x }) (span τ.parts a b)) ≡ parts_size (size_at τ) τ.parts false (suc n) a b
  unfolding total span parts_size
  components_size a zero = refl
  components_size a (suc b) = ap₂ ◌+◌ (ts (get_or τ.parts a 0)) (components_size (suc a) b)

  registers_size : (a b : ℕ) → total S (known_refs (map known_of (span τ.parts a b))) ≡ parts_size (size_at τ) τ.parts true (suc n) a b
  unfolding total span parts_size known_refs known_of
  registers_size a zero = refl
  registers_size a (suc b) = go (get_or τ.parts a 0) (registers_size (suc a) b)
    where
      go : (x : ℕ) → total S (known_refs (map known_of (span τ.parts (suc a) b))) ≡ parts_size (size_at τ) τ.parts true (suc n) (suc a) b
          → total S (known_refs (known_of x ∷ map known_of (span τ.parts (suc a) b))) ≡ slot_size (size_at τ) (slot_at true (suc n) x) + parts_size (size_at τ) τ.parts true (suc n) (suc a) b
      go zero e = e ∙ omega arith
      go (suc t) e = ap₂ ◌+◌ (ts t) e

  abbrev formed : ℕ → ℕ → ℕ → ℕ
  formed k a b = cond (leb 7 k) (under_s (size_at τ) (stack_with StkVar (suc n) k a b)) (under_v (size_at τ) τ.parts (suc n) (value_with ValVar (suc n) k a b))

  two_size : (a b : ℕ) → get_or S a 0 + (get_or S b 0 + 0) ≡ size_at τ (lower (suc n) a) + size_at τ (lower (suc n) b)
  two_size a b = let p = ts a in let q = ts b in omega arith

  one_size : (a : ℕ) → get_or S a 0 + 0 ≡ size_at τ (lower (suc n) a)
  one_size a = let p = ts a in omega arith

  row_high : (k a b : ℕ) → 10 ≤ k → total S (row_refs (row_from τ.parts k a b)) ≡ formed k a b
  unfolding total row_refs
  row_high k a b h = rw (le-leb 7 k (omega arith), row_ten τ.parts k a b h, stack_ten (suc n) k a b h) (two_size a b)

  row_sized : (k a b : ℕ) → total S (row_refs (row_from τ.parts k a b)) ≡ formed k a b
  unfolding total row_refs row_from code_row_at value_with stack_with
  row_sized zero a b = refl
  row_sized (suc zero) a b = refl
  row_sized (suc (suc zero)) a b = refl
  row_sized (suc (suc (suc zero))) a b = components_size a b
  row_sized (suc (suc (suc (suc zero)))) a b = one_size a
  row_sized (suc (suc (suc (suc (suc zero))))) a b = ap₂ ◌+◌ (ts a) (registers_size b 8)
  row_sized (suc (suc (suc (suc (suc (suc zero)))))) a b = one_size a
  row_sized (suc (suc (suc (suc (suc (suc (suc zero))))))) a b = refl
  row_sized (suc (suc (suc (suc (suc (suc (suc (suc zero)))))))) a b = refl
  row_sized (suc (suc (suc (suc (suc (suc (suc (suc (suc zero))))))))) a b = two_size a b
  row_sized (suc (suc (suc (suc (suc (suc (suc (suc (suc (suc k)))))))))) a b = row_high (suc (suc (suc (suc (suc (suc (suc (suc (suc (suc k)))))))))) a b (omega arith)

module _ (τ : RowTable) where
  abbrev Sized : ℕ → Type 0
  Sized n = (x : ℕ) → x < n → get_or (sizes_in τ n) x 0 ≡ size_at τ (suc x)

  size_by : (n : ℕ) → Sized n → (x : ℕ) → get_or (sizes_in τ n) x 0 ≡ size_at τ (lower (suc n) x)
  size_by n h x = go (ltb (suc x) (suc n)) refl
    where
      go : (b : Bool) → ltb (suc x) (suc n) ≡ b → get_or (sizes_in τ n) x 0 ≡ size_at τ (cond b (suc x) 0)
      go true e = let l = ltb-true (suc x) (suc n) e in h x (omega arith)
      go false e =
          let l = ltb-false (suc x) (suc n) e in
          let g = length_sizes τ n in
          let q : length (sizes_in τ n) ≤ x = omega arith in
          get_or-eq_default (sizes_in τ n) 0 q ∙ sym (size_none τ)

  size_step : (n : ℕ) → Sized n → size_of (sizes_in τ n) (row_at τ n) ≡ size_at τ (suc n)
  unfolding size_of row_at
  size_step n h = ap suc (row_sized τ (sizes_in τ n) n (size_by n h) (cell 4 τ.rows n 0) (cell 4 τ.rows n 1) (cell 4 τ.rows n 2)) ∙ sym (size_is τ n)

  sizes_are : (n : ℕ) → Sized n
  sizes_are zero x l = absurd (not-suc-le-zero l)
  sizes_are (suc n) x l = rw (sizes_snoc τ n) (go (leb (suc x) n) refl (sizes_are n))
    where
      go : (b : Bool) → leb (suc x) n ≡ b → Sized n → get_or (sizes_in τ n ++ size_of (sizes_in τ n) (row_at τ n) ∷ []) x 0 ≡ size_at τ (suc x)
      go true e h =
          let k = leb-true (suc x) n e in
          let g = length_sizes τ n in
          get_or-append (sizes_in τ n) (size_of (sizes_in τ n) (row_at τ n) ∷ []) 0 x (omega arith) ∙ h x k
      go false e h =
          let k = leb-false (suc x) n e in
          let q : x ≡ n = omega arith in
          rw q (get_or_at (sizes_in τ n) (size_of (sizes_in τ n) (row_at τ n)) [] 0 n (length_sizes τ n) ∙ size_step n h)

  -- the bridge: the size of row n by the rows before it
  pub size_in : (n : ℕ) → size_of (sizes_of (rows_in τ n)) (row_at τ n) ≡ size_at τ (suc n)
  size_in n = size_step n (sizes_are n)

  pub over_limit : (r h o : ℕ) → h ≡ r + 1 → o ≡ 4097 - size_at τ h → eqb o 0 ≡ ltb 4096 (size_of (sizes_of (rows_in τ r)) (row_at τ r))
  over_limit r h o e f = go (ltb 4096 (size_at τ (suc r))) refl ∙ ap (ltb 4096) (sym (size_in r))
    where
      q : size_at τ h ≡ size_at τ (suc r)
      q = ap (size_at τ) (e ∙ omega arith)

      go : (b : Bool) → ltb 4096 (size_at τ (suc r)) ≡ b → eqb o 0 ≡ b
      go true g = let l = ltb-true 4096 (size_at τ (suc r)) g in eq-eqb o 0 (omega (arith, q))
      go false g = let l = ltb-false 4096 (size_at τ (suc r)) g in ne_eqb o 0 (λ z. omega (arith, q))

  -- what is left of 4,097 after row r tells its size
  pub is_over : (r rest : ℕ) → rest ≡ 4097 - size_at τ (r + 1) → rest ≡ 0 → true ≡ ltb 4096 (size_of (sizes_of (rows_in τ r)) (row_at τ r))
  is_over r rest e z = sym (eq-eqb rest 0 z) ∙ over_limit r (r + 1) rest refl e

  pub not_over : (r rest : ℕ) → rest ≡ 4097 - size_at τ (r + 1) → (rest ≡ 0 → ⊥) → false ≡ ltb 4096 (size_of (sizes_of (rows_in τ r)) (row_at τ r))
  not_over r rest e z = sym (ne_eqb rest 0 z) ∙ over_limit r (r + 1) rest refl e

  -- one size more in the table
  pub measured_set : (sizes : List ℕ) (h s : ℕ) → Measured τ sizes → s ≡ size_at τ h → Measured τ (set sizes h s)
  measured_set sizes h s m e x z = go (leb (length sizes) h) refl
    where
      go : (b : Bool) → leb (length sizes) h ≡ b → get_or (set sizes h s) x 0 ≡ size_at τ x
      go true g =
          let q : set sizes h s ≡ sizes = set_out sizes h s (leb-true (length sizes) h g) in
          ap (λ (l : List ℕ). get_or l x 0) q ∙ m x (λ w. z (ap (λ (l : List ℕ). get_or l x 0) q ∙ w))
      go false g = other (eqb x h) refl
        where
          other : (b : Bool) → eqb x h ≡ b → get_or (set sizes h s) x 0 ≡ size_at τ x
          other true k =
              let p : x ≡ h = eqb-true x h k in
              rw p (get_or-set_same sizes h s 0 (let l = leb-false (length sizes) h g in omega arith) ∙ e)
          other false k =
              let p = eqb-false x h k in
              let q : get_or (set sizes h s) x 0 ≡ get_or sizes x 0 = get_or-set_other sizes h x s 0 p in
              q ∙ m x (λ w. z (q ∙ w))

  pub measured_kept : (sizes : List ℕ) (r rest : ℕ) → Measured τ sizes → rest ≡ 4097 - size_at τ (r + 1) → (rest ≡ 0 → ⊥) → Measured τ (set sizes (r + 1) (4097 - rest))
  measured_kept sizes r rest m e z = measured_set sizes (r + 1) (4097 - rest) m (omega (arith, e, z))
