-- What the answers for an operand stand for.
use Rattle.std.specs.Prelude.{◌≡◌, ℕ, ◌+◌, true, false, List, [], ◌∷◌, length, Option as Maybe, Some, None}
use Rattle.std.proofs.Math.Option.{Option, none, some}
use Rattle.std.proofs.lemmas.List.Edits.{sets}
use Rattle.syntax.specs.Syntax as S
use Rattle.syntax.specs.Syntax.{Operand, plain, inst, pack}
use Rattle.text.specs.Grammar.{operand}
use Rattle.text_lines.specs.Parts.{field_in}
use Rattle.text_fields.specs.declared.plain_operands.Base.{Base}
use Rattle.text_fields.specs.declared.plain_operands.Base.TheVariants.{Register, Literal, Label}
use Rattle.text_fields.specs.declared.plain_operands.OperandRead.{OperandRead}
use Rattle.text_fields.specs.declared.plain_operands.Placed.{Placed}

-- the base of an operand, as the code has it
abbrev pub base_of : S.Base → Base
base_of (S.reg n) = Register n
base_of (S.lit n) = Literal n
base_of (S.lab n) = Label n

-- a plain operand has no arguments and the row 0
abbrev pub plain_read : Base → OperandRead
plain_read b = record { base = b; packed = false; count = 0; row = 0 }

-- an operand, as the code has it
abbrev pub read_of : Operand → OperandRead
read_of (plain b) = plain_read (base_of b)
read_of (inst b ts t) = record { base = base_of b; packed = false; count = length ts; row = t }
read_of (pack a b h) = record { base = base_of b; packed = true; count = 1; row = h }

-- the same, if there is one
unfoldable pub answer_of : Option Operand → Maybe OperandRead
answer_of none = None
answer_of (some o) = Some (read_of o)

-- an operand's arguments; none where it is plain or no operand
unfoldable pub args_of : Option Operand → List ℕ
args_of none = []
args_of (some (plain b)) = []
args_of (some (inst b ts t)) = ts
args_of (some (pack a b h)) = a ∷ []

-- the answer is that of o, and the arguments of o are stored from `at` on, none past the end
pub record OperandIs (o : Option Operand) (before : List ℕ) (at : ℕ) (r : Maybe OperandRead) (after : List ℕ) : Type 0 where
  pub answer : r ≡ answer_of o
  pub stored : after ≡ sets before at (args_of o)

-- a plain operand, whose field ends at `next`
abbrev pub plain_placed : Base → ℕ → Placed
plain_placed b next = record { read = plain_read b; next = next }

-- x is the operand whose field starts at `at`, and a plain one
pub record PlainIs (s : List ℕ) (at : ℕ) (x : Placed) : Type 0 where
  pub base : S.Base
  pub operand_is : operand (field_in s at) ≡ some (plain base)
  pub read : x.read ≡ plain_read (base_of base)
  pub ends : x.next ≡ at + length (field_in s at)

-- if r is an operand, it is the one whose field starts at `at`, and a plain one
abbrev pub PlainAt : List ℕ → ℕ → Maybe Placed → Type 0
PlainAt s at None = Unit
PlainAt s at (Some x) = PlainIs s at x
