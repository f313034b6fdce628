-- The least fault of what is named, as the functions find it: reference by reference, from the kinds of rows alone.
use Rattle.std.specs.Prelude.{ℕ, zero, suc, Bool, true, not, cond, List, [], ◌∷◌, ◌++◌, eqb, ltb}
use Rattle.syntax.proofs.Least.{least}
use Rattle.tables.specs.Tables.{cell}
use Rattle.types.specs.Rows.{Sort, value_row, stack_row, code_row, hidden_row, any_row, Ref, ref}
use Rattle.types_pass_two.specs.declared.row_refs.Part.{Part}
use Rattle.types_pass_two.specs.declared.row_refs.Part.TheVariants.{Component, Register, Argument}

-- which kinds of rows are of a sort
abbrev pub kind_fits : Sort → ℕ → Bool
kind_fits value_row k = ltb k 7
kind_fits stack_row k = not (ltb k 7)
kind_fits code_row k = eqb k 5
kind_fits hidden_row k = eqb k 6
kind_fits any_row k = true

-- row t, which is to be one of the first n and of the sort s
abbrev pub ref_least : List ℕ → ℕ → Sort → ℕ → ℕ
ref_least rs n s t = cond (ltb t n) (cond (kind_fits s (cell 4 rs t 0)) 0 5) 4

-- the least fault of rows named, 0 for none
unfoldable pub refs_least : List ℕ → ℕ → List Ref → ℕ
refs_least rs n [] = 0
refs_least rs n (r ∷ refs) = least (ref_least rs n r.sort r.row) (refs_least rs n refs)

-- what an entry of a list of rows names
unfoldable pub part_refs : Part → ℕ → List Ref
part_refs Component t = ref value_row t ∷ []
part_refs Register zero = []
part_refs Register (suc t) = ref value_row t ∷ []
part_refs Argument t = ref any_row t ∷ []

-- what a list of rows names
unfoldable pub list_refs : Part → List ℕ → List Ref
list_refs p [] = []
list_refs p (x ∷ xs) = part_refs p x ++ list_refs p xs
