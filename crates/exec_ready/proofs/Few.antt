-- An entry declares at most 16 samples: "tuple of 0 to 16 value rows".
use Prim.Native.Nat.{ℕ, zero, suc, ◌≤◌, ◌<◌}
use native.Mathlib.Omega.{arith}
use mathlib.Core.Path.{◌≡◌, refl, sym, subst, ◌∙◌}
use mathlib.Core.Bool.{Bool, true, false, cond}
use mathlib.Core.List.{List}
use lib.Dec.{ltb}
use lib.ListN.{get_or}
use borrow.Author.Tests.{ne_eqb, ltb-true}
use Rattle.syntax.specs.Syntax.{value, stack, Instr}
use Rattle.types.specs.Types.{Ty, push}
use Rattle.types.specs.Rows.{type_at, types_of}
use Rattle.tables.specs.Tables.{RowTable, cell, row_from, row_at, rows_in}
use Rattle.tables.proofs.Spans.{span_length}
use Rattle.types_rows.specs.Read.{lower, value_with, value_at, slot_at, on_slot, parts_of, build_v, mean_v, mean_s}
use Rattle.types_rows.specs.declared.Val.{Val}
use Rattle.types_rows.specs.declared.Val.TheVariants.{Int, Junk, ValVar, ValFill, Tuple, Pointer, Code, Hidden}
use Rattle.types_rows.proofs.Laws.{value_is}
use Rattle.types_rows.proofs.Bridge.{type_at_lem}
use Rattle.valid.specs.Program.{as_code, block_of}
use Rattle.valid.specs.Rules.{declared}
use Rattle.valid.specs.Bounds.{SmallRow}
use Rattle.valid_scope.proofs.entry.Laws.{items_parts}

module _ (v : ℕ → Ty value) (s : ℕ → Ty stack) (ps : List ℕ) (h : ℕ) (g : Ty stack) where
  abbrev samples_in : Val → ℕ
  samples_in x = declared (push (build_v v s ps h x) g)

  by_kind : (k a b : ℕ) → SmallRow (row_from ps k a b) → samples_in (value_with ValVar h k a b) ≤ 16
  unfolding row_from value_with declared
  by_kind zero a b m = omega arith
  by_kind (suc zero) a b m = omega arith
  by_kind (suc (suc zero)) a b m = omega arith
  by_kind (suc (suc (suc zero))) a b m =
      let e = span_length ps a b in
      let f = items_parts v ps h a b in
      omega arith
  by_kind (suc (suc (suc (suc zero)))) a b m = omega arith
  by_kind (suc (suc (suc (suc (suc zero))))) a b m = omega arith
  by_kind (suc (suc (suc (suc (suc (suc zero)))))) a b m = omega arith
  by_kind (suc (suc (suc (suc (suc (suc (suc k))))))) a b m = subst (λ (x : Val). samples_in x ≤ 16) (sym (stack_kind (suc (suc (suc (suc (suc (suc (suc k))))))) (omega arith))) (omega arith)
    where
      stack_kind : (n : ℕ) → 7 ≤ n → value_with ValVar h n a b ≡ Junk
      stack_kind n l = rw (ne_eqb n 0 (λ z. omega arith), ne_eqb n 2 (λ z. omega arith), ne_eqb n 3 (λ z. omega arith), ne_eqb n 4 (λ z. omega arith), ne_eqb n 5 (λ z. omega arith), ne_eqb n 6 (λ z. omega arith)) refl

module _ (τ : RowTable) (n : ℕ) (small : (x : ℕ) → x < n → SmallRow (row_at τ x)) where
  -- r1 of the row t
  of_row : (t : ℕ) → t ≤ n → (g : Ty stack) → declared (push (mean_v τ t) g) ≤ 16
  unfolding declared row_at
  of_row zero l g = subst (λ (x : Ty value). declared (push x g) ≤ 16) (sym (value_is τ 0)) (omega arith)
  of_row (suc r) l g = subst (λ (x : Ty value). declared (push x g) ≤ 16) (sym (value_is τ (suc r))) (by_kind (mean_v τ) (mean_s τ) τ.parts (suc r) g (cell 4 τ.rows r 0) (cell 4 τ.rows r 1) (cell 4 τ.rows r 2) (small r l))

  low : (h x : ℕ) → h ≤ n → lower h x ≤ n
  low h x l = go (ltb (suc x) h) refl
    where
      go : (b : Bool) → ltb (suc x) h ≡ b → cond b (suc x) 0 ≤ n
      go true e = let k = ltb-true (suc x) h e in omega arith
      go false e = omega arith

  of_registers : (h : ℕ) → h ≤ n → (x : ℕ) (g : Ty stack) → declared (on_slot (mean_v τ) (slot_at true h x) g) ≤ 16
  unfolding declared
  of_registers h l zero g = omega arith
  of_registers h l (suc t) g = of_row (lower h t) (low h t l) g

  of_value : (h : ℕ) → h ≤ n → (x : Val) (xs : List Instr) → declared (block_of (build_v (mean_v τ) (mean_s τ) τ.parts h x) xs).regs ≤ 16
  unfolding declared block_of as_code parts_of
  of_value h l Int xs = omega arith
  of_value h l Junk xs = omega arith
  of_value h l (ValVar k) xs = omega arith
  of_value h l (ValFill j) xs = omega arith
  of_value h l (Tuple p c) xs = omega arith
  of_value h l (Pointer s) xs = omega arith
  of_value h l (Hidden x) xs = omega arith
  of_value h l (Code s p) xs = of_registers h l (get_or τ.parts p 0) (parts_of (mean_v τ) τ.parts true h (suc p) 7)

  pub few_samples : (c : ℕ) (xs : List Instr) → declared (block_of (type_at value (types_of (rows_in τ n)) c) xs).regs ≤ 16
  few_samples c xs =
      let h = lower (suc n) c in
      let l : h ≤ n = go (ltb (suc c) (suc n)) refl in
      subst (λ (t : Ty value). declared (block_of t xs).regs ≤ 16) (sym (type_at_lem τ value n c ∙ value_is τ h)) (of_value h l (value_at τ.rows ValVar h) xs)
    where
      go : (b : Bool) → ltb (suc c) (suc n) ≡ b → cond b (suc c) 0 ≤ n
      go true e = let k = ltb-true (suc c) (suc n) e in omega arith
      go false e = omega arith
