-- The letters in force at an instruction.
use Rattle.std.specs.Prelude.{ℕ, List, ◌++◌, map, replicate}
use Rattle.syntax.specs.Syntax.{Kind, value}
use Rattle.tables.specs.Tables.{span, letter_of}
use Rattle.valid_scope.specs.declared.BlockLetters.{BlockLetters}

-- "After an unpack the hidden type is variable 0 for the rest of the block" (document 02, point 3): the hidden variables, then the block's
-- letters
abbrev pub letters_of : List ℕ → BlockLetters → List Kind
letters_of parts w = replicate w.hidden value ++ map letter_of (span parts w.start w.count)
