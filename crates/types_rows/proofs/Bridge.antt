-- What a row means here is the type that crate types gives it: with no condition on the tables.
use mathlib.Core.Path.{◌≡◌, refl, ap, ap₂, sym, ◌∙◌}
use mathlib.Core.Bool.{Bool, true, false, cond}
use mathlib.Core.List.{List, [], ◌∷◌, ◌++◌, map, reverse-reverse}
use Prim.Native.Nat.{ℕ, zero, suc, ◌+◌, ◌<◌, ◌≤◌}
use native.Mathlib.Omega.{arith}
use native.Mathlib.Nat.{not-suc-le-zero, add-zero, zero-add}
use lib.Dec.{leb, ltb}
use lib.ListN.{length, length-append, get_or, get_or-eq_default, get_or-append}
use lib.Seq.{get_or_at}
use borrow.Author.Tests.{ne_eqb, leb-true, leb-false, ltb-true, ltb-false, le-leb, lt-ltb, le-ltb}
use Rattle.syntax.specs.Syntax.{Kind, value, stack, row_a}
use Rattle.types.specs.Types.{tuple, pointer, hidden, push, gap, join, items, Arg, arg, of_kind}
use Rattle.types.specs.Rows.{in_turn, type_at, components, registers, meaning, types_of}
use Rattle.types.proofs.Meaning.{types_snoc as more-types}
use Rattle.tables.specs.Tables.{RowTable, cell, span, known_of, letters_at, code_row_at, row_from, row_at, rows_from, rows_in}
use Rattle.types_rows.specs.declared.Val.TheVariants.{Junk, ValVar}
use Rattle.types_rows.specs.declared.Stk.TheVariants.{Nil, StkVar, Join}
use Rattle.types_rows.specs.Read.{lower, value_with, stack_with, is_stack_at, slot_at, on_slot, parts_of, build_v, build_s, mean_v, mean_s, mean, arg_of, CountedTo, Counted}
use Rattle.types_rows.proofs.Laws.{no_arg, value_is, stack_is}

-- ---- the table of types grows by one row
pub rows_snoc : (τ : RowTable) (i n : ℕ) → rows_from τ i (suc n) ≡ rows_from τ i n ++ row_at τ (i + n) ∷ []
unfolding rows_from
rows_snoc τ i zero = rw (add-zero i) refl
rows_snoc τ i (suc n) =
    let q : suc i + n ≡ i + suc n = omega arith in
    ap (◌∷◌ (row_at τ i)) (rows_snoc τ (suc i) n ∙ ap (λ z. rows_from τ (suc i) n ++ row_at τ z ∷ []) q)

-- ---- a kind above 9 is read as a join
pub row_ten : (ps : List ℕ) (k a b : ℕ) → 10 ≤ k → row_from ps k a b ≡ row_a a b
unfolding row_from
row_ten ps k a b h =
    rw (
      ne_eqb k 0 (λ z. omega arith),
      ne_eqb k 1 (λ z. omega arith),
      ne_eqb k 2 (λ z. omega arith),
      ne_eqb k 3 (λ z. omega arith),
      ne_eqb k 4 (λ z. omega arith),
      ne_eqb k 5 (λ z. omega arith),
      ne_eqb k 6 (λ z. omega arith),
      ne_eqb k 7 (λ z. omega arith),
      ne_eqb k 8 (λ z. omega arith),
      ne_eqb k 9 (λ z. omega arith),
    )
    refl

pub stack_ten : (n k a b : ℕ) → 10 ≤ k → stack_with StkVar n k a b ≡ Join (lower n a) (lower n b)
unfolding stack_with
stack_ten n k a b h = rw (le-ltb k 8 (omega arith), ne_eqb k 8 (λ z. omega arith), ne_eqb k 9 (λ z. omega arith)) refl

module _ (τ : RowTable) where
  abbrev pub types_in : ℕ → List Arg
  types_in n = types_of (rows_in τ n)

  types_snoc : (n : ℕ) → types_in (suc n) ≡ types_in n ++ meaning (types_in n) (row_at τ n) ∷ []
  types_snoc n = ap types_of (rows_snoc τ 0 n ∙ ap (λ z. rows_from τ 0 n ++ row_at τ z ∷ []) (zero-add n)) ∙ more-types (rows_from τ 0 n) (row_at τ n)

  pub length_types : (n : ℕ) → length (types_in n) ≡ n
  unfolding types_of in_turn rows_from
  length_types zero = refl
  length_types (suc n) =
      let h = length_types n in
      let g = length-append (types_in n) (meaning (types_in n) (row_at τ n) ∷ []) in
      ap length (types_snoc n) ∙ omega arith

-- ---- a row of kind k with the numbers a and b, T being the types of the rows before it
module _ (τ : RowTable) (T : List Arg) (n : ℕ) (tv : (x : ℕ) → type_at value T x ≡ mean_v τ (lower (suc n) x)) (ts : (x : ℕ) → type_at stack T x ≡ mean_s τ (lower (suc n) x)) where
  components_are : (a b : ℕ) → components T (span τ.parts a b) ≡ parts_of (mean_v τ) τ.parts false (suc n) a b
  unfolding components span parts_of
  components_are a zero = refl
  components_are a (suc b) = ap₂ push (tv (get_or τ.parts a 0)) (components_are (suc a) b)

  registers_are : (a b : ℕ) → registers T (map known_of (span τ.parts a b)) ≡ parts_of (mean_v τ) τ.parts true (suc n) a b
  unfolding registers span parts_of known_of
  registers_are a zero = refl
  registers_are a (suc b) = go (get_or τ.parts a 0) (registers_are (suc a) b)
    where
      go : (x : ℕ) → registers T (map known_of (span τ.parts (suc a) b)) ≡ parts_of (mean_v τ) τ.parts true (suc n) (suc a) b
          → registers T (known_of x ∷ map known_of (span τ.parts (suc a) b)) ≡ on_slot (mean_v τ) (slot_at true (suc n) x) (parts_of (mean_v τ) τ.parts true (suc n) (suc a) b)
      go zero e = ap gap e
      go (suc t) e = ap₂ push (tv t) e

  abbrev formed : ℕ → ℕ → ℕ → Arg
  formed k a b = cond (leb 7 k) (arg stack (build_s (mean_v τ) (mean_s τ) (stack_with StkVar (suc n) k a b))) (arg value (build_v (mean_v τ) (mean_s τ) τ.parts (suc n) (value_with ValVar (suc n) k a b)))

  row_high : (k a b : ℕ) → 10 ≤ k → meaning T (row_from τ.parts k a b) ≡ formed k a b
  unfolding meaning
  row_high k a b h = rw (le-leb 7 k (omega arith), row_ten τ.parts k a b h, stack_ten (suc n) k a b h) (ap₂ (λ x y. arg stack (join x y)) (ts a) (ts b))

  row_means : (k a b : ℕ) → meaning T (row_from τ.parts k a b) ≡ formed k a b
  unfolding meaning row_from code_row_at value_with stack_with
  row_means zero a b = refl
  row_means (suc zero) a b = refl
  row_means (suc (suc zero)) a b = refl
  row_means (suc (suc (suc zero))) a b = ap (λ z. arg value (tuple z)) (components_are a b)
  row_means (suc (suc (suc (suc zero)))) a b = ap (λ z. arg value (pointer z)) (ts a)
  row_means (suc (suc (suc (suc (suc zero))))) a b = rw (reverse-reverse (letters_at τ.parts b), ts a, registers_are b 8) refl
  row_means (suc (suc (suc (suc (suc (suc zero)))))) a b = ap (λ z. arg value (hidden z)) (tv a)
  row_means (suc (suc (suc (suc (suc (suc (suc zero))))))) a b = refl
  row_means (suc (suc (suc (suc (suc (suc (suc (suc zero)))))))) a b = refl
  row_means (suc (suc (suc (suc (suc (suc (suc (suc (suc zero))))))))) a b = ap₂ (λ x y. arg stack (push x y)) (tv a) (ts b)
  row_means (suc (suc (suc (suc (suc (suc (suc (suc (suc (suc k)))))))))) a b = row_high (suc (suc (suc (suc (suc (suc (suc (suc (suc (suc k)))))))))) a b (omega arith)

-- ---- rows as arguments and as types
module _ (τ : RowTable) where
  kind_stack : (k a b h : ℕ) → 7 ≤ k → value_with ValVar h k a b ≡ Junk
  unfolding value_with
  kind_stack k a b h l = rw (ne_eqb k 0 (λ z. omega arith), ne_eqb k 2 (λ z. omega arith), ne_eqb k 3 (λ z. omega arith), ne_eqb k 4 (λ z. omega arith), ne_eqb k 5 (λ z. omega arith), ne_eqb k 6 (λ z. omega arith)) refl

  pub kind_value : (k a b h : ℕ) → k < 7 → stack_with StkVar h k a b ≡ Nil
  unfolding stack_with
  kind_value k a b h l = rw (lt-ltb k 8 (omega arith)) refl

  -- row x as an argument, at either kind
  pub arg_is : (κ : Kind) (x : ℕ) → of_kind κ (arg_of τ x) ≡ mean τ κ (suc x)
  unfolding arg_of of_kind
  arg_is κ x = go κ (is_stack_at τ.rows x) refl
    where
      go : (κ : Kind) (b : Bool) → is_stack_at τ.rows x ≡ b → of_kind κ (cond b (arg stack (mean_s τ (suc x))) (arg value (mean_v τ (suc x)))) ≡ mean τ κ (suc x)
      go value true e = sym (value_is τ (suc x) ∙ ap (build_v (mean_v τ) (mean_s τ) τ.parts (suc x)) (kind_stack (cell 4 τ.rows x 0) (cell 4 τ.rows x 1) (cell 4 τ.rows x 2) (suc x) (leb-true 7 (cell 4 τ.rows x 0) e)))
      go value false e = refl
      go stack true e = refl
      go stack false e = sym (stack_is τ (suc x) ∙ ap (build_s (mean_v τ) (mean_s τ)) (kind_value (cell 4 τ.rows x 0) (cell 4 τ.rows x 1) (cell 4 τ.rows x 2) (suc x) (leb-false 7 (cell 4 τ.rows x 0) e)))

  none_is : (κ : Kind) → of_kind κ no_arg ≡ mean τ κ 0
  unfolding of_kind
  none_is value = sym (value_is τ 0)
  none_is stack = sym (stack_is τ 0)

  abbrev Types : ℕ → Type 0
  Types n = (x : ℕ) → x < n → get_or (types_in τ n) x no_arg ≡ arg_of τ x

  type_by : (κ : Kind) (n : ℕ) → Types n → (x : ℕ) → type_at κ (types_in τ n) x ≡ mean τ κ (lower (suc n) x)
  unfolding type_at
  type_by κ n h x = go (ltb (suc x) (suc n)) refl
    where
      go : (b : Bool) → ltb (suc x) (suc n) ≡ b → of_kind κ (get_or (types_in τ n) x no_arg) ≡ mean τ κ (cond b (suc x) 0)
      go true e = let l = ltb-true (suc x) (suc n) e in ap (of_kind κ) (h x (omega arith)) ∙ arg_is κ x
      go false e =
          let l = ltb-false (suc x) (suc n) e in
          let g = length_types τ n in
          let q : length (types_in τ n) ≤ x = omega arith in
          ap (of_kind κ) (get_or-eq_default (types_in τ n) no_arg q) ∙ none_is κ

  arg_step : (n : ℕ) → Types n → meaning (types_in τ n) (row_at τ n) ≡ arg_of τ n
  unfolding row_at arg_of
  arg_step n h =
      row_means τ (types_in τ n) n (type_by value n h) (type_by stack n h) (cell 4 τ.rows n 0) (cell 4 τ.rows n 1) (cell 4 τ.rows n 2)
      ∙ ap₂ (λ x y. cond (is_stack_at τ.rows n) (arg stack x) (arg value y)) (sym (stack_is τ (suc n))) (sym (value_is τ (suc n)))

  types_are : (n : ℕ) → Types n
  types_are zero x l = absurd (not-suc-le-zero l)
  types_are (suc n) x l = rw (types_snoc τ n) (go (leb (suc x) n) refl (types_are n))
    where
      go : (b : Bool) → leb (suc x) n ≡ b → Types n → get_or (types_in τ n ++ meaning (types_in τ n) (row_at τ n) ∷ []) x no_arg ≡ arg_of τ x
      go true e h =
          let k = leb-true (suc x) n e in
          let g = length_types τ n in
          get_or-append (types_in τ n) (meaning (types_in τ n) (row_at τ n) ∷ []) no_arg x (omega arith) ∙ h x k
      go false e h =
          let k = leb-false (suc x) n e in
          let q : x ≡ n = omega arith in
          rw q (get_or_at (types_in τ n) (meaning (types_in τ n) (row_at τ n)) [] no_arg n (length_types τ n) ∙ arg_step n h)

  -- the bridge: row x of n rows, as an argument and as a type
  pub arg_at : (n x : ℕ) → x < n → get_or (types_in τ n) x no_arg ≡ arg_of τ x
  arg_at n x l = types_are n x l

  pub type_at_lem : (κ : Kind) (n x : ℕ) → type_at κ (types_in τ n) x ≡ mean τ κ (lower (suc n) x)
  type_at_lem κ n x = type_by κ n (types_are n) x

  pub type_in_lem : (κ : Kind) (n x : ℕ) → x < n → type_at κ (types_in τ n) x ≡ mean τ κ (suc x)
  type_in_lem κ n x l = type_at_lem κ n x ∙ ap (mean τ κ) (rw (lt-ltb (suc x) (suc n) (omega arith)) refl)

  -- counts, by links
  pub counted_to : (n : ℕ) → Counted τ n → CountedTo τ n
  unfolding items
  counted_to n c zero l = sym (ap items (stack_is τ 0))
  counted_to n c (suc x) l = c.counts x l ∙ ap items (type_in_lem stack n x l)

  pub counted_from : (n : ℕ) → n ≤ 65536 → CountedTo τ n → Counted τ n
  counted_from n s c = record { few = s; counts = λ x l. c (suc x) l ∙ ap items (sym (type_in_lem stack n x l)) }
