-- Where pass two is clear each block's row is a code row, so a label has that row's type.
use Prim.Native.Nat.{ℕ, zero, suc, ◌+◌, ◌<◌}
use native.Mathlib.Nat.{add-zero}
use native.Mathlib.Omega.{arith}
use mathlib.Core.Path.{◌≡◌, refl, ap, ap₂, sym, subst, ◌∙◌}
use mathlib.Core.Bool.{Bool, true, not, cond}
use mathlib.Core.Option.{none, some}
use mathlib.Core.List.{List, [], ◌∷◌, ◌++◌, map, append-eq-nil_iff}
use lib.Dec.{ltb, leb-suc-suc}
use lib.ListN.{length, get_elem?}
use borrow.Author.Tests.{lt-ltb, le-ltb, ltb-true}
use Rattle.syntax.specs.Partial.{guarded}
use Rattle.syntax.specs.Syntax.{value, Row, row_i, row_n, row_e, row_v, row_x, row_p, row_h, row_u, row_k, row_a, row_c, Instr, Entry, instr}
use Rattle.syntax.specs.Fault.{Clear, given}
use Rattle.syntax.proofs.Least.{given_none}
use Rattle.text.specs.PassOne.{Listing}
use Rattle.text.specs.Entries.{blocks_entries, entries_in}
use Rattle.types.specs.Types.{Arg, of_kind}
use Rattle.types.specs.Rows.{ref, code_row, type_at, meaning, types_of, is_code, is_of, is_sort, all_below, all_of_sort, refs_faults, entries_faults}
use Rattle.types.proofs.Equal.{and_inv, none_true, not_false}
use Rattle.types.proofs.Meaning.{type_in, type_is, rows_clear}
use Rattle.tables.specs.Tables.{RowTable, cell, row_at, rows_in, OperandTable, blocks_from}
use Rattle.types_rows.specs.Clear.{RowsClear}
use Rattle.tables.proofs.Steps.{length_rows, row_in}
use Rattle.valid_scope.proofs.Rows.{row_get_d}
use Rattle.valid.specs.Program.{Block, Program, as_code, block_of, blocks_of}
use Rattle.valid.specs.Tests.{label_type}
use Rattle.valid_context.specs.premises.Answers.{Holds}

-- ---- a block's row
abbrev pub CodeOk : RowTable → ℕ → ℕ → Type 0
CodeOk τ n c = (c < n) × (is_code (row_at τ c) ≡ true)

no_faults : (a b : Bool) → given (not a) 4 ++ given (not b) 5 ≡ [] → (a ≡ true) × (b ≡ true)
no_faults a b e =
    let k = (append-eq-nil_iff {p = given (not a) 4} {q = given (not b) 5}).0 e in
    (not_false a (given_none (not a) 4 k.0), not_false b (given_none (not b) 5 k.1))

code_ok : (τ : RowTable) (n c : ℕ) → refs_faults (rows_in τ n) (ref code_row c ∷ []) ≡ [] → CodeOk τ n c
unfolding refs_faults
code_ok τ n c e =
    let k = no_faults (all_below (length (rows_in τ n)) (c ∷ [])) (all_of_sort (rows_in τ n) (ref code_row c ∷ [])) e in
    low (below k.0) (sorted k.1)
  where
    below : all_below (length (rows_in τ n)) (c ∷ []) ≡ true → ltb c n ≡ true
    below h = unfold all_below in (ap (ltb c) (sym (length_rows τ n)) ∙ (and_inv (ltb c (length (rows_in τ n))) true h).0)

    sorted : all_of_sort (rows_in τ n) (ref code_row c ∷ []) ≡ true → is_sort code_row (get_elem? (rows_in τ n) c) ≡ true
    sorted h = unfold all_of_sort in (and_inv (is_sort code_row (get_elem? (rows_in τ n) c)) true h).0

    low : ltb c n ≡ true → is_sort code_row (get_elem? (rows_in τ n) c) ≡ true → CodeOk τ n c
    low h s = (ltb-true c n h, sym (is_sort_lem (row_at τ c)) ∙ ap (is_sort code_row) (sym (row_in τ n c ∙ ap (λ (b : Bool). cond b (some (row_at τ c)) none) h)) ∙ s)
      where
        is_sort_lem : (r : Row) → is_sort code_row (some r) ≡ is_code r
        is_sort_lem r = unfold is_sort is_of in refl

abbrev AllCodes : RowTable → ℕ → List Listing → Type 0
AllCodes τ n [] = Unit
AllCodes τ n (b ∷ bs) = CodeOk τ n b.code × AllCodes τ n bs

skip : (rows : List Row) (nb : ℕ) (xs : List Instr) (es : List Entry) → Clear (entries_faults rows nb (map instr xs ++ es)) → Clear (entries_faults rows nb es)
unfolding entries_faults
skip rows nb [] es c = c
skip rows nb (x ∷ xs) es c = skip rows nb xs es c.1

codes_clear : (τ : RowTable) (n nb : ℕ) (bs : List Listing) → Clear (entries_faults (rows_in τ n) nb (blocks_entries bs)) → AllCodes τ n bs
unfolding entries_faults blocks_entries
codes_clear τ n nb [] c = tt
codes_clear τ n nb (b ∷ bs) c = (code_ok τ n b.code c.0, codes_clear τ n nb bs (skip (rows_in τ n) nb b.body (blocks_entries bs) c.1))

-- ---- all blocks' rows, by their numbers
module _ (τ : RowTable) (n : ℕ) (β ι : List ℕ) (ω : OperandTable) (ni : ℕ) where
  codes_from : (b k : ℕ) → AllCodes τ n (blocks_from β ι ω ni b k) → (l : ℕ) → l < k → CodeOk τ n (cell 2 β (b + l) 0)
  unfolding blocks_from
  codes_from b zero a l h = absurd (omega arith)
  codes_from b (suc zero) a zero h = subst (λ (x : ℕ). CodeOk τ n (cell 2 β x 0)) (sym (add-zero b)) a.0
  codes_from b (suc zero) a (suc l) h = absurd (omega arith)
  codes_from b (suc (suc k)) a zero h = subst (λ (x : ℕ). CodeOk τ n (cell 2 β x 0)) (sym (add-zero b)) a.0
  codes_from b (suc (suc k)) a (suc l) h =
      let e : suc b + l ≡ b + suc l = omega arith in
      subst (λ (x : ℕ). CodeOk τ n (cell 2 β x 0)) e (codes_from (suc b) (suc k) a.1 l (omega arith))

  pub all_codes : (nb : ℕ) → Clear (entries_faults (rows_in τ n) nb (entries_in [] (blocks_from β ι ω ni 0 nb))) → (l : ℕ) → l < nb → CodeOk τ n (cell 2 β l 0)
  unfolding entries_in
  all_codes nb c l h = let e : 0 + l ≡ l = omega arith in subst (λ (x : ℕ). CodeOk τ n (cell 2 β x 0)) e (codes_from 0 nb (codes_clear τ n nb (blocks_from β ι ω ni 0 nb) c) l h)

-- ---- the type of a label
module _ (xs : List Instr) where
  -- a code row's type is a code type, which the label of its block has
  label_of : (A : List Arg) (x : Row) → is_code x ≡ true → label_type (some (block_of (of_kind value (meaning A x)) xs)) ≡ some (of_kind value (meaning A x))
  unfolding label_type block_of as_code meaning is_code of_kind
  label_of A row_i e = none_true e
  label_of A row_n e = none_true e
  label_of A (row_v k) e = none_true e
  label_of A (row_u ts) e = none_true e
  label_of A (row_p s) e = none_true e
  label_of A (row_c q s rs) e = refl
  label_of A (row_h t) e = none_true e
  label_of A row_e e = none_true e
  label_of A (row_x k) e = none_true e
  label_of A (row_k t s) e = none_true e
  label_of A (row_a s₁ s₂) e = none_true e

  label_type_lem : (τ : RowTable) (n c : ℕ) → RowsClear τ n → CodeOk τ n c → label_type (some (block_of (type_at value (types_of (rows_in τ n)) c) xs)) ≡ some (type_at value (types_of (rows_in τ n)) c)
  unfolding type_at
  label_type_lem τ n c cl k =
      let e = length_rows τ n in
      let h = k.0 in
      let l : c < length (rows_in τ n) = omega arith in
      let m : type_in (types_of (rows_in τ n)) c ≡ meaning (types_of (rows_in τ n)) (row_at τ c) = type_is (rows_in τ n) c row_i l (rows_clear (rows_in τ n) cl c row_i l).0 ∙ ap (meaning (types_of (rows_in τ n))) (row_get_d τ n c row_i h) in
      ap (λ (a : Arg). label_type (some (block_of (of_kind value a) xs))) m ∙ label_of (types_of (rows_in τ n)) (row_at τ c) k.1 ∙ ap (λ (a : Arg). some (of_kind value a)) (sym m)

-- ---- the program that the tables hold
module _ (τ : RowTable) (n : ℕ) (β ι : List ℕ) (ω : OperandTable) (ni : ℕ) (cl : RowsClear τ n) where
  abbrev types : List Arg
  types = types_of (rows_in τ n)

  labels_from : (b k : ℕ) → ((l : ℕ) → l < k → CodeOk τ n (cell 2 β (b + l) 0)) → (l : ℕ) → label_type (get_elem? (blocks_of types (blocks_from β ι ω ni b k)) l) ≡ guarded (ltb l k) (type_at value types (cell 2 β (b + l) 0))
  unfolding blocks_from blocks_of
  labels_from b zero a l = rw (le-ltb l 0 (omega arith)) (unfold label_type in refl)
  labels_from b (suc zero) a zero = rw (add-zero b) (label_type_lem _ τ n (cell 2 β b 0) cl (subst (λ (x : ℕ). CodeOk τ n (cell 2 β x 0)) (add-zero b) (a 0 (omega arith))))
  labels_from b (suc zero) a (suc l) = rw (le-ltb (suc l) 1 (omega arith)) (unfold label_type in refl)
  labels_from b (suc (suc k)) a zero = rw (lt-ltb 0 (suc (suc k)) (omega arith), add-zero b) (label_type_lem _ τ n (cell 2 β b 0) cl (subst (λ (x : ℕ). CodeOk τ n (cell 2 β x 0)) (add-zero b) (a 0 (omega arith))))
  labels_from b (suc (suc k)) a (suc l) =
      let e : suc b + l ≡ b + suc l = omega arith in
      let q = labels_from (suc b) (suc k) (λ j h. subst (λ (x : ℕ). CodeOk τ n (cell 2 β x 0)) (omega arith) (a (suc j) (omega arith))) l in
      rw (leb-suc-suc (suc l) (suc k), ← e) q

pub holds_is : (τ : RowTable) (n : ℕ) (β ι : List ℕ) (ω : OperandTable) (ni nb : ℕ) (P : Program) → RowsClear τ n
    → ((l : ℕ) → l < nb → CodeOk τ n (cell 2 β l 0)) → P.types ≡ types_of (rows_in τ n) → P.blocks ≡ blocks_of (types_of (rows_in τ n))
    (blocks_from β ι ω ni 0 nb) → Holds τ n β nb P
holds_is τ n β ι ω ni nb P cl a e f = record {
  types = e;
  labels = λ l.
      ap (λ (B : List Block). label_type (get_elem? B l)) f
      ∙ labels_from τ n β ι ω ni cl 0 nb (λ j h. subst (λ (x : ℕ). CodeOk τ n (cell 2 β x 0)) (omega arith) (a j h)) l
      ∙ ap₂ (λ (T : List Arg) (x : ℕ). guarded (ltb l nb) (type_at value T (cell 2 β x 0))) (sym e) (omega arith);
}
