-- The renamed table: each reference replaced by the row that stands for it, and the parts of row r at 17 r.
use Rattle.std.specs.Prelude.{ℕ, suc, ◌+◌, ◌-◌, ◌*◌, ◌≤◌, ◌<◌, ◌≡◌, cond, ◌⊎◌, List, eqb, leb, ltb, get_or}
use Rattle.tables.specs.Tables.{cell}
use Rattle.valid_share.specs.declared.rename.Entries.{Entries}

-- the row that stands for row x: the one that `first` names, if it is lower
unfoldable pub first_of : List ℕ → ℕ → ℕ
first_of first x = cond (leb (get_or first x 0) x) (get_or first x 0) x

-- ---- the entries of row r of the kind k with the numbers a and b
-- the first number of row r, of kind k
unfoldable pub new_a : List ℕ → ℕ → ℕ → ℕ → ℕ
new_a first r k a = cond (eqb k 3) (17 * r) (cond (eqb k 2) a (cond (eqb k 8) a (first_of first a)))

-- the second number
unfoldable pub new_b : List ℕ → ℕ → ℕ → ℕ → ℕ
new_b first r k b = cond (eqb k 3) b (cond (eqb k 5) (17 * r) (first_of first b))

-- a register: 0, or one more than its row
unfoldable pub new_slot : List ℕ → ℕ → ℕ
new_slot first x = cond (eqb x 0) 0 (suc (first_of first (x - 1)))

-- part j: of a tuple a component, else a register or what stands behind the registers
unfoldable pub new_part : List ℕ → List ℕ → ℕ → ℕ → ℕ → ℕ → ℕ
new_part first ps k a b j = cond (eqb k 3) (first_of first (get_or ps (a + j) 0)) (cond (ltb j 8) (new_slot first (get_or ps (b + j) 0)) (get_or ps (b + j) 0))

-- entry e of row r in the new table
unfoldable pub entry_at : List ℕ → List ℕ → ℕ → ℕ → ℕ
entry_at first rows r e =
    cond (eqb e 1) (new_a first r (cell 4 rows r 0) (cell 4 rows r 1))
    (cond (eqb e 2) (new_b first r (cell 4 rows r 0) (cell 4 rows r 2)) (cell 4 rows r e))

-- the four entries of row r in the new table
pub record NewEntries (first rows : List ℕ) (r : ℕ) (x : Entries) : Type 0 where
  pub kind : x.kind ≡ entry_at first rows r 0
  pub a : x.a ≡ entry_at first rows r 1
  pub b : x.b ≡ entry_at first rows r 2
  pub count : x.count ≡ entry_at first rows r 3

-- part j of row r in the new table
unfoldable pub part_at : List ℕ → List ℕ → List ℕ → ℕ → ℕ → ℕ
part_at first rows ps r j = new_part first ps (cell 4 rows r 0) (cell 4 rows r 1) (cell 4 rows r 2) j

-- the new table of rows is filled up to a row
abbrev pub FilledRows : List ℕ → List ℕ → ℕ → List ℕ → Type 0
FilledRows first rows m l = (r e : ℕ) → r < m → e < 4 → cell 4 l r e ≡ entry_at first rows r e

-- a row of the kind k has parts: it is a tuple or code
abbrev pub HasParts : ℕ → Type 0
HasParts k = (k ≡ 3) ⊎ (k ≡ 5)

-- the new table of parts is filled up to a row: the parts of the rows that have them
abbrev pub FilledParts : List ℕ → List ℕ → List ℕ → ℕ → List ℕ → Type 0
FilledParts first rows ps n l = (r j : ℕ) → r < n → HasParts (cell 4 rows r 0) → j < 17 → cell 17 l r j ≡ part_at first rows ps r j

-- a section of parts stands before `base`, and 17 parts from there on within n entries
pub record InOrder (parts operands base n : ℕ) : Type 0 where
  pub section : parts ≤ operands
  pub behind : operands ≤ base
  pub room : base + 17 ≤ n

-- entry base + j of a table is g j, for j below n, and those before are as they were
abbrev pub FilledRow : ℕ → ℕ → (ℕ → ℕ) → List ℕ → List ℕ → Type 0
FilledRow base n g before after = ((j : ℕ) → j < n → get_or after (base + j) 0 ≡ g j) × ((x : ℕ) → x < base → get_or after x 0 ≡ get_or before x 0)

-- the same of a row of the kind k, if it has parts
abbrev pub FilledIf : ℕ → ℕ → ℕ → (ℕ → ℕ) → List ℕ → List ℕ → Type 0
FilledIf k base n g before after = (HasParts k → (j : ℕ) → j < n → get_or after (base + j) 0 ≡ g j) × ((x : ℕ) → x < base → get_or after x 0 ≡ get_or before x 0)
