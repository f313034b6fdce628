-- The fields of a line from a place on, and what reading some of them gives.
use Rattle.std.specs.Prelude.{ℕ, zero, suc, Bool, true, false, cond, List, [], ◌∷◌, eqb, leb, length, drop}
use Rattle.std.proofs.Math.Option.{Option, none, some}
use Rattle.syntax.specs.Partial.{chain, guarded}
use Rattle.text.specs.Bytes.{fields_of}
use Rattle.text.specs.Grammar.{each, row_number, index, amount, register, known}

-- the fields from `at` on; none where `at` is past the line's end
unfoldable pub fields_from : List ℕ → ℕ → List (List ℕ)
fields_from line at = cond (leb at (length line)) (fields_of (drop at line)) []

-- ---- plain fields
-- a field of kind 1 register, 2 row, 3 index, 4 amount
unfoldable pub plain_field : ℕ → List ℕ → Option ℕ
plain_field k f = cond (eqb k 1) (register f) (cond (eqb k 2) (row_number f) (cond (eqb k 3) (index f) (amount f)))

-- the greatest number of a field of kind 2 row, 3 index, 4 amount
unfoldable pub most_of : ℕ → ℕ
most_of k = cond (eqb k 2) 511 (cond (eqb k 3) 63 64)

-- its number, and the fields behind it; kind 0 takes no field and gives 0
unfoldable pub read_slot : ℕ → List (List ℕ) → Option (ℕ × List (List ℕ))
read_slot zero fs = some (0, fs)
read_slot (suc k) [] = none
read_slot (suc k) (f ∷ fs) = chain (plain_field (suc k) f) (λ n. some (n, fs))

-- the numbers of fields of these kinds, one after the other, and the fields behind them
unfoldable pub read_slots : List ℕ → List (List ℕ) → Option (List ℕ × List (List ℕ))
read_slots [] fs = some ([], fs)
read_slots (k ∷ ks) fs = chain (read_slot k fs) (λ r. chain (read_slots ks r.1) (λ q. some (r.0 ∷ q.0, q.1)))

-- ---- all the fields that are left
-- if there are at most n
unfoldable pub at_most : {A : Type 0} → ℕ → (List ℕ → Option A) → List (List ℕ) → Option (List A)
at_most n p fs = chain (each p fs) (λ xs. guarded (leb (length fs) n) xs)

-- a register's row as a table keeps it
abbrev pub kept_as : Option ℕ → ℕ
kept_as none = 0
kept_as (some t) = suc t

-- a component's row, or a register's as a table keeps it
unfoldable pub part_number : Bool → List ℕ → Option ℕ
part_number false f = row_number f
part_number true f = chain (known f) (λ o. some (kept_as o))
