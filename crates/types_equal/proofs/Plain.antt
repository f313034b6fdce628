-- Laws of rows compared with no arguments and no lift.
use mathlib.Core.Path.{◌≡◌, refl, ap, sym, ◌∙◌}
use mathlib.Core.Bool.{Bool}
use mathlib.Core.List.{List, []}
use Prim.Native.Nat.{ℕ, suc, ◌+◌, ◌*◌, ◌≤◌}
use native.Mathlib.Omega.{arith}
use lib.ListN.{length}
use Rattle.syntax.specs.Syntax.{Kind, value, stack}
use Rattle.types.specs.Equal.{same}
use Rattle.types.specs.Rows.{type_at, types_of}
use Rattle.tables.specs.Tables.{RowTable, rows_in}
use Rattle.types_rows.specs.Read.{lower, lift, mean_v, mean_s, mean, value_under, stack_under, parts_under, code_of, code_under, parts_of, args_of}
use Rattle.types_rows.specs.Environments.{read_in, shifted}
use Rattle.types_rows.proofs.Laws.{lower_low}
use Rattle.types_rows.proofs.Environments.{plain, shifted_now, shifted_none, shifted_plain}
use Rattle.types_rows.proofs.Bridge.{type_at_lem}
use Rattle.types_equal.proofs.pending.Meets.{and_true, no_args, meets_none}
use Rattle.types_equal.specs.declared.stack_pairs.Context.{Context}
use Rattle.types_equal.specs.Bounds.{Tabled, Spare}
use Rattle.types_equal.specs.stack_pairs.Fit.{fit_values, same_stacks}

module _ (τ : RowTable) where
  pub plain_value : (d h : ℕ) → value_under τ [] (lift 0) d h ≡ mean_v τ h
  unfolding value_under
  plain_value d h = plain d (mean_v τ h)

  pub plain_stack : (d h : ℕ) → stack_under τ [] (lift 0) d h ≡ mean_s τ h
  unfolding stack_under
  plain_stack d h = plain d (mean_s τ h)

  pub plain_parts : (d : ℕ) (file : Bool) (h p n : ℕ) → parts_under τ [] (lift 0) d file h p n ≡ parts_of (mean_v τ) τ.parts file h p n
  unfolding parts_under
  plain_parts d file h p n = plain d (parts_of (mean_v τ) τ.parts file h p n)

  pub plain_code : (d h x p : ℕ) → code_under τ [] (lift 0) d h x p ≡ code_of τ h x p
  unfolding code_under
  plain_code d h x p = plain d (code_of τ h x p)

-- a context in which nothing is filled or raised
pub plain_context : (k : Context) → (k.m ≡ 0) × ((k.by ≡ 0) × ((k.d ≡ 0) × ((k.env ≡ 0) × ((k.d2 ≡ 0) × (k.env2 ≡ 0))))) → k ≡ record { m = 0; by = 0; d = 0; env = 0; d2 = 0; env2 = 0 }
plain_context k e = λ i. record { m = e.0 i; by = e.1.0 i; d = e.1.1.0 i; env = e.1.1.1.0 i; d2 = e.1.1.1.1.0 i; env2 = e.1.1.1.1.1 i }

-- what is read now is only raised
pub now_lift : (E : List ℕ) (x by : ℕ) → x ≡ 2 * length E → shifted E x by ≡ lift by
now_lift E x by e = ap (λ z. shifted E z by) e ∙ shifted_now E by

-- ---- n rows
module _ (τ : RowTable) (args : List ℕ) (n : ℕ) where
  pub link_few : (x l : ℕ) → x ≡ lower (n + 1) l → x ≤ n
  link_few x l e = let h = lower_low (n + 1) l (omega arith) in omega arith

  pub tabled_plain : (x y l r : ℕ) → n ≤ 514 → x ≡ lower (n + 1) l → y ≡ lower (n + 1) r → Tabled τ args 0 x y
  tabled_plain x y l r c e f = record { top = n; few = c; left = link_few x l e; right = link_few y r f; given = λ j h. absurd (omega arith) }

  pub spare_plain : (x y l r : ℕ) → n ≤ 514 → x ≡ lower (n + 1) l → y ≡ lower (n + 1) r → Spare 0 x y 1543
  spare_plain x y l r c e f = let a = link_few x l e in let b = link_few y r f in (omega arith, omega arith)

  pub link_type : (κ : Kind) (x l : ℕ) → x ≡ lower (n + 1) l → type_at κ (types_of (rows_in τ n)) l ≡ mean τ κ x
  link_type κ x l e = let q : suc n ≡ n + 1 = omega arith in type_at_lem τ κ n l ∙ ap (λ z. mean τ κ (lower z l)) q ∙ ap (mean τ κ) (sym e)

  pub values_are : (x y l r : ℕ) {o : Bool} → x ≡ lower (n + 1) l → y ≡ lower (n + 1) r → o ≡ fit_values τ (args_of τ args 0) (shifted [] 0 0) 0 x (shifted [] 0 0) 0 y → o ≡ same (type_at value (types_of (rows_in τ n)) l) (type_at value (types_of (rows_in τ n)) r)
  unfolding fit_values
  values_are x y l r e f h =
      h ∙ rw (no_args τ args 0 refl, shifted_none 0, plain_value τ 0 x, plain_value τ 0 y, meets_none 0 (mean_v τ x), link_type value x l e, link_type value y r f) (and_true (same (mean_v τ x) (mean_v τ y)))

  pub stacks_are : (x y l r : ℕ) {o : Bool} → x ≡ lower (n + 1) l → y ≡ lower (n + 1) r → o ≡ same_stacks τ (args_of τ args 0) (shifted [] 0 0) 0 x (shifted [] 0 0) 0 y → o ≡ same (type_at stack (types_of (rows_in τ n)) l) (type_at stack (types_of (rows_in τ n)) r)
  unfolding same_stacks
  stacks_are x y l r e f h =
      h ∙ rw (no_args τ args 0 refl, shifted_none 0, plain_stack τ 0 x, plain_stack τ 0 y, meets_none 0 (mean_s τ x), link_type stack x l e, link_type stack y r f) (and_true (same (mean_s τ x) (mean_s τ y)))

  -- two rows, each read in its environment
  pub held_are : (E : List ℕ) (x y e l f r : ℕ) {o : Bool} → e ≤ 65535 → f ≤ 65535 → x ≡ lower (n + 1) l → y ≡ lower (n + 1) r → o ≡ fit_values τ (args_of τ args 0) (shifted E e 0) 0 x (shifted E f 0) 0 y
      → o ≡ same (read_in E e (type_at value (types_of (rows_in τ n)) l)) (read_in E f (type_at value (types_of (rows_in τ n)) r))
  unfolding fit_values value_under read_in
  held_are E x y e l f r i j p q h =
      h ∙ rw (no_args τ args 0 refl, shifted_plain E e i, shifted_plain E f j, meets_none 0 (mean_v τ x), link_type value x l p, link_type value y r q) (and_true _)
