-- The shared table: each row is that of the text with each reference replaced by a row of the same type.
use Rattle.std.specs.Prelude.{ℕ, ◌+◌, ◌-◌, ◌*◌, ◌≤◌, ◌<◌, ◌≡◌, true, List, map, length, get_or}
use Rattle.std.proofs.Math.Option.{Option, none, some}
use Rattle.types.specs.Types.{junk, arg}
use Rattle.syntax.specs.Syntax.{Kind, value, Row, row_i, row_n, row_e, row_v, row_x, row_p, row_h, row_u, row_k, row_a, row_c}
use Rattle.types.specs.Rows.{types_of, is_value, is_code, Ref, row_refs, all_below}
use Rattle.tables.specs.Tables.{RowTable, cell, row_from, row_at, rows_in}
use Rattle.types_rows.specs.Read.{mean, Counted}
use Rattle.image.specs.declared.Places.{Places}
use Rattle.valid_scope.specs.Scoped.{Scoped}
use Rattle.valid.specs.Bounds.{SmallRow}
use Rattle.valid_share.specs.rename.Renamed.{first_of}

-- each of the first n rows has the type of the row that `first` names, m rows being there
abbrev pub Firsts : RowTable → ℕ → List ℕ → ℕ → Type 0
Firsts τ m first n = (x : ℕ) → x < n → get_or (types_of (rows_in τ m)) (get_or first x 0) (arg value junk) ≡ get_or (types_of (rows_in τ m)) x (arg value junk)

-- a register's row replaced, if there is one
abbrev pub renamed_option : (ℕ → ℕ) → Option ℕ → Option ℕ
renamed_option f none = none
renamed_option f (some x) = some (f x)

-- a row with the rows that it names replaced
unfoldable pub renamed : (ℕ → ℕ) → Row → Row
renamed f row_i = row_i
renamed f row_n = row_n
renamed f (row_v k) = row_v k
renamed f (row_u ts) = row_u (map f ts)
renamed f (row_p s) = row_p (f s)
renamed f (row_c q s rs) = row_c q (f s) (map (renamed_option f) rs)
renamed f (row_h t) = row_h (f t)
renamed f row_e = row_e
renamed f (row_x k) = row_x k
renamed f (row_k t s) = row_k (f t) (f s)
renamed f (row_a s₁ s₂) = row_a (f s₁) (f s₂)

-- two rows of the kind k, with the numbers a and b and with x and y, are the same row once the rows that they name are replaced
abbrev pub Alike : List ℕ → List ℕ → ℕ → ℕ → ℕ → ℕ → ℕ → Type 0
Alike first ps k a b x y = renamed (first_of first) (row_from ps k a b) ≡ renamed (first_of first) (row_from ps k x y)

-- each of the first n rows names lower rows only
abbrev pub Lower : RowTable → ℕ → Type 0
Lower τ n = (x : ℕ) → x < n → all_below x (map (λ (r : Ref). r.row) (row_refs (row_at τ x))) ≡ true

-- the numbers of two rows, a and b, x and y, are entries of a table
pub record SmallForms (a b x y : ℕ) : Type 0 where
  pub left_first : a ≤ 65535
  pub left_second : b ≤ 65535
  pub right_first : x ≤ 65535
  pub right_second : y ≤ 65535

-- row r of m rows is next: `first` names a row for each row before it, and it and they name lower rows only
pub record RowsTo (τ : RowTable) (m : ℕ) (first : List ℕ) (r : ℕ) : Type 0 where
  pub few : m ≤ 514
  pub within : r < m
  pub firsts : Firsts τ m first r
  pub lower : Lower τ (r + 1)

-- what is lent has room for the rows named for n rows, and for hashes and what a comparison keeps pending
pub record WorkFor (n : ℕ) (first work : List ℕ) : Type 0 where
  pub names : n ≤ length first
  pub hashes : 2567 ≤ length work

-- the sections of the new table have room for n rows and two more, and for the parts of n rows
pub record SharedFor (n : ℕ) (p : Places) : Type 0 where
  pub rows : 4 * n + 8 ≤ p.slots - p.shared
  pub parts : 17 * n ≤ p.end - p.slots

-- ---- what is promised: σ stands for the same types as τ, n rows and two more, and serves as well
-- the new table σ of n rows stands for what τ does
pub record Shared (τ σ : RowTable) (n : ℕ) : Type 0 where
  pub types : types_of (rows_in σ n) ≡ types_of (rows_in τ n)
  pub all_types : types_of (rows_in σ (n + 2)) ≡ types_of (rows_in τ (n + 2))
  pub means : (κ : Kind) (h : ℕ) → h ≤ n + 2 → mean σ κ h ≡ mean τ κ h
  pub counted : Counted σ (n + 2)
  pub int_row : cell 4 σ.rows n 0 ≡ 0
  pub junk_row : cell 4 σ.rows (n + 1) 0 ≡ 1
  pub small : (r : ℕ) → r < n → SmallRow (row_at σ r)
  pub code : (r : ℕ) → r < n → is_code (row_at σ r) ≡ is_code (row_at τ r)
  pub values : (r : ℕ) → r < n → is_value (row_at σ r) ≡ is_value (row_at τ r)
  pub scoped : (uses tops : List ℕ) → Scoped τ n uses tops → Scoped σ n uses tops
