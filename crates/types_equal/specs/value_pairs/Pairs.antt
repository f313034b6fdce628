-- What is left to compare of two forms, of two parts; letters.
use Rattle.std.specs.Prelude.{ℕ, ◌+◌, ◌≤◌, Bool, cond, List, map, eqb, get_or, Option, Some, None}
use Rattle.syntax.specs.Syntax.{Kind}
use Rattle.types.specs.Equal.{same_letters}
use Rattle.tables.specs.Tables.{RowTable, span, letter_of, letters_at}
use Rattle.types_rows.specs.Read.{is_stack_at}
use Rattle.types_rows.specs.declared.Val.{Val}
use Rattle.types_rows.specs.declared.Val.TheVariants.{Int, Junk, ValVar, ValFill, Tuple, Pointer, Code, Hidden}
use Rattle.types_equal.specs.declared.value_pairs.Pair.{Pair}
use Rattle.types_equal.specs.declared.value_pairs.Pair.TheVariants.{Same, Tuples, Pointers, Codes, Inside}
use Rattle.types_equal.specs.declared.value_pairs.Within.TheVariants.{Argument, Package}
use Rattle.types_equal.specs.declared.value_pairs.Span.{Span}
use Rattle.types_equal.specs.declared.value_pairs.Heads.{Heads}

-- a row that is filled by row a, beside row r
abbrev pub pair_fill : List ℕ → ℕ → ℕ → Option Pair
pair_fill rows a r = cond (is_stack_at rows a) None (Some (Inside Argument (a + 1) r))

-- what is left to compare of a value row of a given form and of row r, whose form is w; none if they differ
abbrev pub pair_of : RowTable → List ℕ → ℕ → Val → Val → Option Pair
pair_of τ args r (ValFill j) w = pair_fill τ.rows (get_or args j 0) r
pair_of τ args r Int Int = Some Same
pair_of τ args r Junk Junk = Some Same
pair_of τ args r (ValVar k) (ValVar i) = cond (eqb k i) (Some Same) None
pair_of τ args r (Tuple p n) (Tuple q o) = cond (eqb n o) (Some (Tuples p q n)) None
pair_of τ args r (Pointer x) (Pointer y) = Some (Pointers x y)
pair_of τ args r (Code x p) (Code y q) = cond (same_letters (letters_at τ.parts p) (letters_at τ.parts q)) (Some (Codes x p y q)) None
pair_of τ args r (Hidden x) (Hidden y) = Some (Inside Package x y)
pair_of τ args r n w = None

-- the registers of a code row may stand in a table
abbrev pub Placed : Val → Type 0
Placed Int = Unit
Placed Junk = Unit
Placed (ValVar i) = Unit
Placed (ValFill j) = Unit
Placed (Tuple p n) = Unit
Placed (Pointer x) = Unit
Placed (Code x p) = p ≤ 65535
Placed (Hidden x) = Unit

-- n parts from p on the left and from q on the right
abbrev pub span_of : Bool → ℕ → ℕ → ℕ → Span
span_of file p q n = record { file = file; p = p; q = q; n = n }

-- what is left to compare of two parts; none if one is a gap and the other is not
abbrev pub slots_of : Option ℕ → Option ℕ → Option Heads
slots_of None None = Some (record { left = 0; right = 0 })
slots_of None (Some u) = None
slots_of (Some t) None = None
slots_of (Some t) (Some u) = Some (record { left = t; right = u })

-- the n letters at p
unfoldable pub letters_from : List ℕ → ℕ → ℕ → List Kind
letters_from ps p n = map letter_of (span ps p n)
