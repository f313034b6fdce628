-- What the answers for a code row's letters stand for, and what is stored in lent memory.
use Rattle.std.specs.Prelude.{ℕ, List, [], map, reverse, length}
use Rattle.std.proofs.Math.Option.{Option, none, some}
use Rattle.syntax.specs.Syntax.{Kind, value, stack}

-- the number of letters
unfoldable pub count_of : Option (List Kind) → Option ℕ
count_of none = none
count_of (some q) = some (length q)

-- a letter as a table keeps it
abbrev pub kind_code : Kind → ℕ
kind_code value = 0
kind_code stack = 1

-- the letters as a table keeps them, in the order of their variables: the last comes first
unfoldable pub codes_of : Option (List Kind) → List ℕ
codes_of none = []
codes_of (some q) = map kind_code (reverse q)
