-- What the answer for an operand at a place of a line stands for.
use Rattle.std.specs.Prelude.{◌≡◌, ℕ, ◌+◌, List, length, Option as Maybe, Some, None}
use Rattle.text.specs.Grammar.{operand}
use Rattle.text_lines.specs.Parts.{field_in}
use Rattle.text_fields.specs.declared.plain_operands.OperandRead.{OperandRead}
use Rattle.text_fields.specs.declared.plain_operands.Placed.{Placed}
use Rattle.text_fields.specs.plain_operands.Answers.{OperandIs}

-- the operand that was read, if there is one
abbrev pub read_in : Maybe Placed → Maybe OperandRead
read_in None = None
read_in (Some x) = Some x.read

-- the answer is that of the operand whose field starts at `at` in the first line of s, its arguments are stored, and it is said where
-- that field ends if it is one
pub record OperandAt (s : List ℕ) (at : ℕ) (before : List ℕ) (to : ℕ) (r : Maybe Placed) (after : List ℕ) : Type 0 where
  pub read : OperandIs (operand (field_in s at)) before to (read_in r) after
  pub ends : (x : Placed) → r ≡ Some x → x.next ≡ at + length (field_in s at)
