-- Laws of the functions, one for each way through them.
use Prim.Native.Nat.{ℕ, suc, ◌<◌, ◌≤◌}
use mathlib.Core.Path.{◌≡◌, refl, ap, sym, ◌∙◌}
use mathlib.Core.Bool.{Bool, true, false, cond}
use mathlib.Core.List.{List}
use lib.ListN.{length}
use Rattle.syntax.specs.Syntax.{value, stack}
use Rattle.types.specs.Types.{Arg, arg, kind_of}
use Rattle.types.specs.Equal.{same}
use Rattle.types.specs.Rows.{type_at, types_of}
use Rattle.types.proofs.Equal.{same_sound}
use Rattle.types.proofs.Meaning.{type_in, as_kind}
use Rattle.tables.specs.Tables.{RowTable, rows_in}
use Rattle.types_rows.specs.Read.{is_stack_at, mean_v, mean_s, arg_of}
use Rattle.types_rows.proofs.Bridge.{arg_at}
use Rattle.valid_share.specs.Shared.{Firsts}

-- ---- rows of the same type
module _ (τ : RowTable) (m c r : ℕ) (hc : c < m) (hr : r < m) where
  abbrev T : List Arg
  T = types_of (rows_in τ m)

  kind_at : (x : ℕ) (b : Bool) → x < m → b ≡ is_stack_at τ.rows x → kind_of (type_in T x) ≡ cond b stack value
  kind_at x b l e = ap kind_of (arg_at τ m x l) ∙ unfold arg_of in rw (← e) (go b)
    where
      go : (b : Bool) → kind_of (cond b (arg stack (mean_s τ (suc x))) (arg value (mean_v τ (suc x)))) ≡ cond b stack value
      go true = unfold kind_of in refl
      go false = unfold kind_of in refl

  pub like_stacks : {o : Bool} → true ≡ is_stack_at τ.rows c → true ≡ is_stack_at τ.rows r → o ≡ same (type_at stack T c) (type_at stack T r) → o ≡ true → type_in T c ≡ type_in T r
  unfolding type_at
  like_stacks f e i o =
      as_kind stack (type_in T c) (kind_at c true hc f) ∙ ap (arg stack) (same_sound (type_at stack T c) (type_at stack T r) (sym i ∙ o)) ∙ sym (as_kind stack (type_in T r) (kind_at r true hr e))

  pub like_values : {o : Bool} → false ≡ is_stack_at τ.rows c → false ≡ is_stack_at τ.rows r → o ≡ same (type_at value T c) (type_at value T r) → o ≡ true → type_in T c ≡ type_in T r
  unfolding type_at
  like_values f e i o =
      as_kind value (type_in T c) (kind_at c false hc f) ∙ ap (arg value) (same_sound (type_at value T c) (type_at value T r) (sym i ∙ o)) ∙ sym (as_kind value (type_in T r) (kind_at r false hr e))

-- ---- the rows that stand for the first r rows
module _ (τ : RowTable) (m n : ℕ) (before : List ℕ) where
  abbrev pub Naming : List ℕ → ℕ → Type 0
  Naming first r = (r ≤ n) × (length first ≡ length before) × Firsts τ m first r
