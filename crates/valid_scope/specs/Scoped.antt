-- The tables of free variables: for each row 64 entries in `uses`, how each variable is free in it, and one in `tops`. Each row's entries
-- are found from those of the rows that it names.
use Rattle.std.specs.Prelude.{ℕ, ◌+◌, ◌-◌, ◌*◌, ◌<◌, ◌≤◌, ◌≡◌, true, cond, List, map, length, get_or}
use Rattle.syntax.specs.Syntax.{Row, row_i, row_n, row_e, row_v, row_x, row_p, row_h, row_u, row_k, row_a, row_c}
use Rattle.types.specs.Types.{Arg}
use Rattle.types.specs.Rows.{meaning, types_of, Ref, row_refs, all_below, all_of_sort}
use Rattle.tables.specs.Tables.{RowTable, row_at, rows_in}
use Rattle.image.specs.declared.Places.{Places}
use Rattle.valid_scope.specs.variables.Free.{top_of, free_in, respected_in}
use Rattle.valid_scope.specs.variables.Uses.{use_at}

-- ---- what the tables say
-- the type of row r, at its own kind
unfoldable pub row_type : RowTable → ℕ → Arg
row_type τ r = meaning (types_of (rows_in τ r)) (row_at τ r)

-- one more than the highest free variable, or 255 if some variable is bound inside the type by a letter of the other kind
unfoldable pub top_in : Arg → ℕ
top_in a = cond (respected_in a) (top_of (λ k. free_in k a) 64) 255

-- the first n rows' entries in `uses` are right
abbrev pub Free : RowTable → ℕ → List ℕ → Type 0
Free τ n uses = (r k : ℕ) → r < n → use_at uses k r ≡ free_in k (row_type τ r)

-- no variable from `bound` on is free in the first n rows
abbrev pub Within : RowTable → ℕ → ℕ → Type 0
Within τ n bound = (r k : ℕ) → r < n → bound ≤ k → free_in k (row_type τ r) ≡ 0

-- entries i to j are 0 now, and those before them as they were
abbrev pub Cleared : List ℕ → List ℕ → ℕ → ℕ → Type 0
Cleared before after i j = ((x : ℕ) → x < i → get_or after x 0 ≡ get_or before x 0) × ((x : ℕ) → i ≤ x → x < j → get_or after x 0 ≡ 0)

-- both tables are right for the first n rows, and have room for them
pub record Scoped (τ : RowTable) (n : ℕ) (uses tops : List ℕ) : Type 0 where
  pub room : 64 * n ≤ length uses
  pub free : Free τ n uses
  pub top : (r : ℕ) → r < n → get_or tops r 0 ≡ top_in (row_type τ r)

-- ---- what passes one and two have seen of a row: its variable is at most 63, and it names lower rows of the sort needed
-- the row's variable, if it is one, is at most 63
abbrev pub SmallVariable : Row → Type 0
SmallVariable row_i = Unit
SmallVariable row_n = Unit
SmallVariable (row_v k) = k < 64
SmallVariable (row_u ts) = Unit
SmallVariable (row_p s) = Unit
SmallVariable (row_c q s rs) = Unit
SmallVariable (row_h t) = Unit
SmallVariable row_e = Unit
SmallVariable (row_x k) = k < 64
SmallVariable (row_k t s) = Unit
SmallVariable (row_a s₁ s₂) = Unit

-- what passes one and two have seen of row r
pub record Checked (τ : RowTable) (r : ℕ) : Type 0 where
  pub small : SmallVariable (row_at τ r)
  pub lower : all_below r (map (λ (x : Ref). x.row) (row_refs (row_at τ r))) ≡ true
  pub sorts : all_of_sort (rows_in τ r) (row_refs (row_at τ r)) ≡ true

-- ---- what finding the entries of row r asks
-- row r is next: passes one and two have seen it, and no variable from `bound` on is free in the rows before it
pub record NextRow (τ : RowTable) (r bound : ℕ) : Type 0 where
  pub checked : Checked τ r
  pub few : bound ≤ 64
  pub within : Within τ r bound

-- the sections have room for the entries of row r
pub record RowRoom (p : Places) (r : ℕ) : Type 0 where
  pub uses : 64 * r + 64 ≤ p.tops - p.uses
  pub tops : r < p.shared - p.tops
