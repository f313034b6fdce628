-- Laws of arguments and their kinds.
use Rattle.std.specs.Prelude.{Some, None}
use Rattle.std.specs.Bool.{then_some}
use mathlib.Core.Path.{◌≡◌, refl, ap, sym, ◌∙◌, fun_ext}
use mathlib.Core.Bool.{Bool, true, false, ◌&&◌, not, cond}
use mathlib.Core.List.{List, [], ◌∷◌, map}
use Prim.Native.Nat.{ℕ, zero, suc, ◌+◌, ◌-◌, ◌<◌, ◌≤◌}
use native.Mathlib.Omega.{arith}
use native.Mathlib.Nat.{not-suc-le-zero}
use lib.Dec.{eqb, ltb}
use lib.ListN.{length, get_or, length-map}
use borrow.Author.Tests.{lt-ltb, le-ltb, ltb-false}
use Rattle.syntax.specs.Syntax.{Kind, value, stack}
use Rattle.types.specs.Types.{walk, raising, raise, Ty, int, junk, var, tuple, pointer, hidden, code, nil, push, svar, gap, join, variable, below, Arg, arg, of_kind, fits_kind, meets}
use Rattle.types.proofs.Filling.{walk_ext, Side, lo, hi, side, below_lt, below_ge}
use Rattle.tables.specs.Tables.{RowTable, cell, span}
use Rattle.types_rows.specs.declared.Val.{Val}
use Rattle.types_rows.specs.declared.Val.TheVariants.{Int, Junk, ValVar, ValFill, Tuple, Pointer, Code, Hidden}
use Rattle.types_rows.specs.declared.Stk.{Stk}
use Rattle.types_rows.specs.declared.Stk.TheVariants.{Nil, StkVar, StkFill, Push, Join}
use Rattle.types_rows.specs.Read.{lift, lower, value_with, stack_with, value_at, stack_at, is_stack_at, parts_of, build_v, build_s, mean_v, mean_s, mean, code_of, arg_of, args_of, place_v, place_s, placed, acting}
use Rattle.types_rows.proofs.Laws.{no_arg, value_is, stack_is}
use Rattle.types_rows.proofs.Bridge.{arg_is}

-- ---- tests
-- a value, if a test holds
pub some_if : {A : Type 0} (b : Bool) (x : A) → then_some b x ≡ cond b (Some x) None
some_if true x = refl
some_if false x = refl

pub and_false : (b : Bool) → b && false ≡ false
and_false true = refl
and_false false = refl

pub and_true : (b : Bool) → b && true ≡ b
and_true true = refl
and_true false = refl

pub and_assoc : (a b c : Bool) → a && (b && c) ≡ (a && b) && c
and_assoc true b c = refl
and_assoc false b c = refl

pub and_swap : (a b c d : Bool) → (a && b) && (c && d) ≡ (a && c) && (b && d)
and_swap true true true d = refl
and_swap true false true d = refl
and_swap true true false d = refl
and_swap true false false d = refl
and_swap false b c d = refl

-- ---- no arguments
-- a walk with no arguments that lifts by d raises by d
pub raised : (d : ℕ) {κ : Kind} (t : Ty κ) → walk (acting [] (lift d)) 0 t ≡ raise d t
unfolding raise acting placed raising
raised d t = walk_ext (acting [] (lift d)) (raising d) (λ e κ k. ap (below e k (variable κ k)) (fun_ext (λ j. ap (variable κ) (omega arith)))) 0 t

pub no_args : (τ : RowTable) (args : List ℕ) (m : ℕ) → m ≡ 0 → args_of τ args m ≡ []
unfolding args_of span
no_args τ args m e = ap (args_of τ args) e

pub meets_none : (d : ℕ) {κ : Kind} (t : Ty κ) → meets [] d t ≡ true
unfolding meets fits_kind
meets_none d int = refl
meets_none d junk = refl
meets_none d (var k) = go (side d k)
  where
    go : Side d k → below d k true (λ j. true) ≡ true
    go (lo h) = below_lt d k true (λ j. true) h
    go (hi j e) = rw e (below_ge d j true (λ j. true))
meets_none d (tuple a) = meets_none d a
meets_none d (pointer a) = meets_none d a
meets_none d (hidden t) = meets_none (suc d) t
meets_none d (code q a r) = rw (meets_none (length q + d) a) (meets_none (length q + d) r)
meets_none d nil = refl
meets_none d (push t a) = rw (meets_none d t) (meets_none d a)
meets_none d (svar k a) = rw (go (side d k)) (meets_none d a)
  where
    go : Side d k → below d k true (λ j. true) ≡ true
    go (lo h) = below_lt d k true (λ j. true) h
    go (hi j e) = rw e (below_ge d j true (λ j. true))
meets_none d (gap a) = meets_none d a

pub meets_join : (A : List Arg) (d : ℕ) (a b : Ty stack) → meets A d (join a b) ≡ meets A d a && meets A d b
unfolding meets join
meets_join A d nil b = refl
meets_join A d (push t a) b = ap (λ z. meets A d t && z) (meets_join A d a b) ∙ and_assoc (meets A d t) (meets A d a) (meets A d b)
meets_join A d (svar k a) b = ap (λ z. below d k true (fits_kind stack A) && z) (meets_join A d a b) ∙ and_assoc (below d k true (fits_kind stack A)) (meets A d a) (meets A d b)
meets_join A d (gap a) b = meets_join A d a b

-- ---- one argument
pub fits_past : (κ : Kind) (A : List Arg) (j : ℕ) → length A ≤ j → fits_kind κ A j ≡ true
unfolding fits_kind
fits_past κ [] j l = refl
fits_past κ (a ∷ A) zero l = absurd (not-suc-le-zero l)
fits_past value (arg value t ∷ A) (suc j) l = fits_past value A j (omega arith)
fits_past value (arg stack t ∷ A) (suc j) l = fits_past value A j (omega arith)
fits_past stack (arg value t ∷ A) (suc j) l = fits_past stack A j (omega arith)
fits_past stack (arg stack t ∷ A) (suc j) l = fits_past stack A j (omega arith)

abbrev is_of : Kind → Arg → Bool
is_of value (arg value t) = true
is_of value (arg stack t) = false
is_of stack (arg value t) = false
is_of stack (arg stack t) = true

fits_arg : (κ : Kind) (A : List Arg) (j : ℕ) → j < length A → fits_kind κ A j ≡ is_of κ (get_or A j no_arg)
unfolding fits_kind
fits_arg κ [] j l = absurd (not-suc-le-zero l)
fits_arg value (arg value t ∷ A) zero l = refl
fits_arg value (arg stack t ∷ A) zero l = refl
fits_arg stack (arg value t ∷ A) zero l = refl
fits_arg stack (arg stack t ∷ A) zero l = refl
fits_arg value (arg value t ∷ A) (suc j) l = fits_arg value A j (omega arith)
fits_arg value (arg stack t ∷ A) (suc j) l = fits_arg value A j (omega arith)
fits_arg stack (arg value t ∷ A) (suc j) l = fits_arg stack A j (omega arith)
fits_arg stack (arg stack t ∷ A) (suc j) l = fits_arg stack A j (omega arith)

-- ---- the rows args as arguments
length_span : (l : List ℕ) (i n : ℕ) → length (span l i n) ≡ n
unfolding span
length_span l i zero = refl
length_span l i (suc n) = ap suc (length_span l (suc i) n)

pub length_args : (τ : RowTable) (args : List ℕ) (m : ℕ) → length (args_of τ args m) ≡ m
unfolding args_of
length_args τ args m = length-map (span args 0 m) (arg_of τ) ∙ length_span args 0 m

span_at : (τ : RowTable) (l : List ℕ) (i n j : ℕ) → j < n → get_or (map (arg_of τ) (span l i n)) j no_arg ≡ arg_of τ (get_or l (i + j) 0)
unfolding span
span_at τ l i zero j h = absurd (not-suc-le-zero h)
span_at τ l i (suc n) zero h = ap (λ z. arg_of τ (get_or l z 0)) (omega arith)
span_at τ l i (suc n) (suc j) h = span_at τ l (suc i) n j (omega arith) ∙ ap (λ z. arg_of τ (get_or l z 0)) (omega arith)

pub args_at : (τ : RowTable) (args : List ℕ) (m j : ℕ) → j < m → get_or (args_of τ args m) j no_arg ≡ arg_of τ (get_or args j 0)
unfolding args_of
args_at τ args m j h = span_at τ args 0 m j h ∙ ap (λ z. arg_of τ (get_or args z 0)) (omega arith)

module _ (τ : RowTable) (args : List ℕ) (m j a : ℕ) (h : j < m) (e : a ≡ get_or args j 0) where
  -- what argument j is, at the kind κ
  pub arg_type : (κ : Kind) → of_kind κ (get_or (args_of τ args m) j no_arg) ≡ mean τ κ (suc a)
  arg_type κ = ap (of_kind κ) (args_at τ args m j h ∙ ap (arg_of τ) (sym e)) ∙ arg_is τ κ a

  fits_row : (κ : Kind) → fits_kind κ (args_of τ args m) j ≡ is_of κ (arg_of τ a)
  fits_row κ = let l = length_args τ args m in fits_arg κ (args_of τ args m) j (omega arith) ∙ ap (is_of κ) (args_at τ args m j h ∙ ap (arg_of τ) (sym e))

  pub fits_stack : {b : Bool} → b ≡ is_stack_at τ.rows a → fits_kind stack (args_of τ args m) j ≡ b
  unfolding arg_of
  fits_stack {b} f = fits_row stack ∙ go (is_stack_at τ.rows a) ∙ sym f
    where
      go : (x : Bool) → is_of stack (cond x (arg stack (mean_s τ (suc a))) (arg value (mean_v τ (suc a)))) ≡ x
      go true = refl
      go false = refl

  pub fits_value : {b : Bool} → b ≡ is_stack_at τ.rows a → fits_kind value (args_of τ args m) j ≡ not b
  unfolding arg_of
  fits_value {b} f = fits_row value ∙ go (is_stack_at τ.rows a) ∙ ap not (sym f)
    where
      go : (x : Bool) → is_of value (cond x (arg stack (mean_s τ (suc a))) (arg value (mean_v τ (suc a)))) ≡ not x
      go true = refl
      go false = refl

-- ---- the kinds in a row, by its form with the variable placed
module _ (τ : RowTable) (A : List Arg) (ρ : ℕ → ℕ) (d : ℕ) where
  abbrev pub meets_v : ℕ → Val → Bool
  meets_v h Int = true
  meets_v h Junk = true
  meets_v h (ValVar k) = true
  meets_v h (ValFill j) = fits_kind value A j
  meets_v h (Tuple p n) = meets A d (parts_of (mean_v τ) τ.parts false h p n)
  meets_v h (Pointer x) = meets A d (mean_s τ x)
  meets_v h (Code x p) = meets A d (code_of τ h x p)
  meets_v h (Hidden x) = meets A (suc d) (mean_v τ x)

  abbrev pub meets_s : Stk → Bool
  meets_s Nil = true
  meets_s (StkVar k) = true
  meets_s (StkFill j) = fits_kind stack A j
  meets_s (Push t x) = meets A d (mean_v τ t) && meets A d (mean_s τ x)
  meets_s (Join x y) = meets A d (mean_s τ x) && meets A d (mean_s τ y)

  meets_var : (κ : Kind) (k : ℕ) → below d k true (fits_kind κ A) ≡ cond (ltb k d) true (cond (ltb (k - d) (length A)) (fits_kind κ A (k - d)) true)
  meets_var κ k = go (side d k)
    where
      past : (j : ℕ) (b : Bool) → ltb j (length A) ≡ b → fits_kind κ A j ≡ cond b (fits_kind κ A j) true
      past j true e = refl
      past j false e = fits_past κ A j (ltb-false j (length A) e)

      go : Side d k → below d k true (fits_kind κ A) ≡ cond (ltb k d) true (cond (ltb (k - d) (length A)) (fits_kind κ A (k - d)) true)
      go (lo h) = below_lt d k true (fits_kind κ A) h ∙ rw (lt-ltb k d h)
      go (hi j e) =
          let q : k - d ≡ j = omega arith in
          rw (le-ltb k d (omega arith), q, e) (below_ge d j true (fits_kind κ A) ∙ past j (ltb j (length A)) refl)

  var_v : (h k : ℕ) → below d k true (fits_kind value A) ≡ meets_v h (place_v (length A) ρ d k)
  var_v h k = meets_var value k ∙ go (ltb k d) (ltb (k - d) (length A))
    where
      go : (x y : Bool) → cond x true (cond y (fits_kind value A (k - d)) true) ≡ meets_v h (cond x (ValVar k) (cond y (ValFill (k - d)) (ValVar (ρ ((k - d) - length A) + d))))
      go true y = refl
      go false true = refl
      go false false = refl

  var_s : (k : ℕ) → below d k true (fits_kind stack A) ≡ meets_s (place_s (length A) ρ d k)
  var_s k = meets_var stack k ∙ go (ltb k d) (ltb (k - d) (length A))
    where
      go : (x y : Bool) → cond x true (cond y (fits_kind stack A (k - d)) true) ≡ meets_s (cond x (StkVar k) (cond y (StkFill (k - d)) (StkVar (ρ ((k - d) - length A) + d))))
      go true y = refl
      go false true = refl
      go false false = refl

  pub meets_value : (h : ℕ) → meets A d (mean_v τ h) ≡ meets_v h (value_at τ.rows (place_v (length A) ρ d) h)
  unfolding value_with meets code_of
  meets_value zero = ap (meets A d) (value_is τ zero)
  meets_value (suc r) = ap (meets A d) (value_is τ (suc r)) ∙ go (cell 4 τ.rows r 1) (cell 4 τ.rows r 2) (eqb (cell 4 τ.rows r 0) 0) (eqb (cell 4 τ.rows r 0) 2) (eqb (cell 4 τ.rows r 0) 3) (eqb (cell 4 τ.rows r 0) 4) (eqb (cell 4 τ.rows r 0) 5) (eqb (cell 4 τ.rows r 0) 6)
    where
      go : (a b : ℕ) (x₁ x₂ x₃ x₄ x₅ x₆ : Bool) → meets A d (build_v (mean_v τ) (mean_s τ) τ.parts (suc r) (cond x₁ Int (cond x₂ (ValVar a) (cond x₃ (Tuple a b) (cond x₄ (Pointer (lower (suc r) a)) (cond x₅ (Code (lower (suc r) a) b) (cond x₆ (Hidden (lower (suc r) a)) Junk)))))))
          ≡ meets_v (suc r) (cond x₁ Int (cond x₂ (place_v (length A) ρ d a) (cond x₃ (Tuple a b) (cond x₄ (Pointer (lower (suc r) a)) (cond x₅ (Code (lower (suc r) a) b) (cond x₆ (Hidden (lower (suc r) a)) Junk))))))
      go a b true x₂ x₃ x₄ x₅ x₆ = refl
      go a b false true x₃ x₄ x₅ x₆ = var_v (suc r) a
      go a b false false true x₄ x₅ x₆ = refl
      go a b false false false true x₅ x₆ = refl
      go a b false false false false true x₆ = refl
      go a b false false false false false true = refl
      go a b false false false false false false = refl

  pub meets_stack : (h : ℕ) → meets A d (mean_s τ h) ≡ meets_s (stack_at τ.rows (place_s (length A) ρ d) h)
  unfolding stack_with meets
  meets_stack zero = ap (meets A d) (stack_is τ zero)
  meets_stack (suc r) = ap (meets A d) (stack_is τ (suc r)) ∙ go (cell 4 τ.rows r 1) (cell 4 τ.rows r 2) (ltb (cell 4 τ.rows r 0) 8) (eqb (cell 4 τ.rows r 0) 8) (eqb (cell 4 τ.rows r 0) 9)
    where
      go : (a b : ℕ) (x₁ x₂ x₃ : Bool) → meets A d (build_s (mean_v τ) (mean_s τ) (cond x₁ Nil (cond x₂ (StkVar a) (cond x₃ (Push (lower (suc r) a) (lower (suc r) b)) (Join (lower (suc r) a) (lower (suc r) b))))))
          ≡ meets_s (cond x₁ Nil (cond x₂ (place_s (length A) ρ d a) (cond x₃ (Push (lower (suc r) a) (lower (suc r) b)) (Join (lower (suc r) a) (lower (suc r) b)))))
      go a b true x₂ x₃ = refl
      go a b false true x₃ = and_true (below d a true (fits_kind stack A)) ∙ var_s a
      go a b false false true = refl
      go a b false false false = meets_join A d (mean_s τ (lower (suc r) a)) (mean_s τ (lower (suc r) b))

  -- the same from what a reader answers
  pub stack_meets : (m h : ℕ) {n k : Stk} → length A ≡ m → n ≡ stack_at τ.rows (place_s m ρ d) h → n ≡ k → meets A d (mean_s τ h) ≡ meets_s k
  stack_meets m h {n} {k} l e f =
      let q : stack_at τ.rows (place_s (length A) ρ d) h ≡ k = rw l (sym e ∙ f) in
      meets_stack h ∙ ap meets_s q

  pub value_meets : (m h : ℕ) {n : Val} → length A ≡ m → n ≡ value_at τ.rows (place_v m ρ d) h → meets A d (mean_v τ h) ≡ meets_v h n
  value_meets m h {n} l e =
      let q : value_at τ.rows (place_v (length A) ρ d) h ≡ n = rw l (sym e) in
      meets_value h ∙ ap (meets_v h) q
