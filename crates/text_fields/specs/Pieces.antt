-- What the private functions of this crate give: the pieces that an operand with arguments is made of.
use Rattle.std.specs.Prelude.{ℕ, ◌+◌, Bool, true, false, List, map, length, nat_le, Option as Maybe, Some, None}
use Prim.Native.Char.{code}
use Rattle.std.proofs.Math.Option.{Option, none, some}
use Rattle.syntax.specs.Partial.{chain, guarded}
use Rattle.syntax.specs.Syntax as S
use Rattle.text.specs.Grammar.{row_number, each}
use Rattle.text_fields.specs.declared.plain_operands.Base.{Base}
use Rattle.text_fields.specs.declared.plain_operands.OperandRead.{OperandRead}
use Rattle.text_fields.specs.plain_operands.Answers.{base_of, plain_read}

-- what parts the arguments of an operand
abbrev pub colon : ℕ
colon = code ":"

-- a base, as the code has it, if there is one
abbrev pub base_read : Option S.Base → Maybe Base
base_read none = None
base_read (some b) = Some (base_of b)

-- a base as a plain operand, as the code has it
abbrev pub any_read : Option S.Base → Maybe OperandRead
any_read none = None
any_read (some b) = Some (plain_read (base_of b))

-- there is a number
abbrev pub is_some : Option ℕ → Bool
is_some none = false
is_some (some n) = true

-- the number, 0 if there is none
abbrev pub or_zero : Option ℕ → ℕ
or_zero none = 0
or_zero (some n) = n

-- n and the number of these parts, if each is a row number and that is at most 8
unfoldable pub row_count : ℕ → List (List ℕ) → Option ℕ
row_count n ps = chain (each row_number ps) (λ ts. guarded (nat_le (n + length ps) 8) (n + length ps))

-- the row numbers of the parts, 0 where one is none
unfoldable pub rows_in : List (List ℕ) → List ℕ
rows_in ps = map (λ p. or_zero (row_number p)) ps
