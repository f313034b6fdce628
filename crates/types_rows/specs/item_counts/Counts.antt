-- What counting the items of rows promises.
use Rattle.std.specs.Prelude.{ℕ, ◌<◌, ◌≤◌, ◌≡◌, List, length}
use Rattle.types.specs.Rows.{size_of, sizes_of}
use Rattle.tables.specs.Tables.{cell, row_at, rows_in}
use Rattle.types_rows.specs.Read.{tab, Counted}

-- the first n rows are within pass two's limit of size
abbrev pub SizesFit : List ℕ → List ℕ → ℕ → Type 0
SizesFit rows parts n = (x : ℕ) → x < n → size_of (sizes_of (rows_in (tab rows parts) x)) (row_at (tab rows parts) x) ≤ 4096

-- the first n rows are counted, and all rows are as before
pub record CountsFilled (before after parts : List ℕ) (n : ℕ) : Type 0 where
  pub counted : Counted (tab after parts) n
  pub rows : rows_in (tab after parts) n ≡ rows_in (tab before parts) n
  pub entries : (x k : ℕ) → k < 3 → cell 4 after x k ≡ cell 4 before x k
  pub size : length after ≡ length before
