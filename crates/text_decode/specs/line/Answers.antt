-- What the readers' answers stand for, and what they leave in the tables.
use Rattle.std.specs.Prelude.{ℕ, ◌+◌, ◌*◌, ◌≤◌, ◌<◌, ◌≡◌, Bool, cond, Option as Maybe, Some, None, List, [], ◌∷◌, length, take}
use Rattle.std.proofs.Math.Option.{none, some}
use Rattle.std.proofs.lemmas.List.Edits.{sets}
use Rattle.syntax.specs.Syntax.{Operand, Entry}
use Rattle.text.specs.Grammar.{forms, operand}
use Rattle.tables.specs.Tables.{span, OperandTable, operands_at}
use Rattle.image.specs.declared.Places.{Places}
use Rattle.image.specs.Sections.{operand_section, arg_section}
use Rattle.text_lines.specs.Parts.{line_in, StopAt}
use Rattle.text_fields.specs.names.Names.{form_at}
use Rattle.text_fields.specs.declared.plain_operands.Base.{Base}
use Rattle.text_fields.specs.declared.plain_operands.Base.TheVariants.{Register, Literal, Label}
use Rattle.text_fields.specs.declared.plain_operands.OperandRead.{OperandRead}
use Rattle.text_decode.specs.line.Fields.{fields_from, read_slot, read_slots, at_most, part_number}
use Rattle.text_decode.specs.line.Forms.{form_cell, fewest, entry_with}
use Rattle.text_decode.specs.declared.line.Slot.{Slot}
use Rattle.text_decode.specs.declared.line.Slots.{Slots}
use Rattle.text_decode.specs.declared.line.Count.{Count}
use Rattle.text_decode.specs.declared.line.Said.{Said}

-- x is the field behind the stop at `at` of the first line of s, and ends at a stop
pub record SlotRead (s : List ℕ) (at kind : ℕ) (x : Slot) : Type 0 where
  pub says : some (x.value, fields_from (line_in s) (x.next + 1)) ≡ read_slot kind (fields_from (line_in s) (at + 1))
  pub stop : StopAt s x.next

-- r is that field, or there is none
abbrev pub SlotIs : List ℕ → ℕ → ℕ → Maybe Slot → Type 0
SlotIs s at kind None = none ≡ read_slot kind (fields_from (line_in s) (at + 1))
SlotIs s at kind (Some x) = SlotRead s at kind x

-- the same of several fields
pub record SlotsRead (s : List ℕ) (at : ℕ) (kinds : List ℕ) (x : Slots) : Type 0 where
  pub says : some (x.a ∷ x.b ∷ x.c ∷ x.d ∷ [], fields_from (line_in s) (x.next + 1)) ≡ read_slots kinds (fields_from (line_in s) (at + 1))
  pub stop : StopAt s x.next

abbrev pub SlotsAre : List ℕ → ℕ → List ℕ → Maybe Slots → Type 0
SlotsAre s at kinds None = none ≡ read_slots kinds (fields_from (line_in s) (at + 1))
SlotsAre s at kinds (Some x) = SlotsRead s at kinds x

-- x counts the fields fs, which are read as rows or registers into `after` from p on
pub record PartsThere (fs : List (List ℕ)) (known : Bool) (most p : ℕ) (after : List ℕ) (x : Count) : Type 0 where
  pub few : x.count ≤ most
  pub says : some (span after p x.count) ≡ at_most most (part_number known) fs

abbrev pub PartsSaid : List (List ℕ) → Bool → ℕ → ℕ → List ℕ → Maybe Count → Type 0
PartsSaid fs known most p after None = none ≡ at_most most (part_number known) fs
PartsSaid fs known most p after (Some x) = PartsThere fs known most p after x

-- the fields fs, at most `most` of them, are read as rows or registers into `after` from p on, if they are; what stands before is kept
pub record PartsRead (fs : List (List ℕ)) (known : Bool) (most p : ℕ) (before after : List ℕ) (r : Maybe Count) : Type 0 where
  pub kept : take p after ≡ take p before
  pub read : PartsSaid fs known most p after r

-- the first m operands of two tables are the same, and the first k arguments
pub record SameOperands (m k : ℕ) (ω ρ : OperandTable) : Type 0 where
  pub kinds : take (4 * m) ω.operands ≡ take (4 * m) ρ.operands
  pub numbers : take m ω.numbers ≡ take m ρ.numbers
  pub args : take k ω.args ≡ take k ρ.args

-- the three lists as a table of operands
abbrev pub operand_table : List ℕ → List ℕ → List ℕ → OperandTable
operand_table operands numbers args = record { operands = operands; numbers = numbers; args = args }

-- the same, from an image
abbrev pub operands_in : Places → List ℕ → List ℕ → OperandTable
operands_in p image numbers = operand_table (operand_section p image) numbers (arg_section p image)

-- the kind of an operand's base, as a table keeps it
abbrev pub base_kind : Base → ℕ
base_kind (Register n) = 0
base_kind (Literal n) = 1
base_kind (Label n) = 2

-- its number
abbrev pub base_number : Base → ℕ
base_number (Register n) = n
base_number (Literal n) = n
base_number (Label n) = n

-- the kind of an operand; a package's is 4 more than its base's
abbrev pub kind_number : OperandRead → ℕ
kind_number o = cond o.packed (base_kind o.base + 4) (base_kind o.base)

-- operand v, stored, with its arguments from `start` on
abbrev pub with_operand : List ℕ → ℕ → OperandRead → ℕ → List ℕ
with_operand l v o start = sets l (4 * v) (kind_number o ∷ o.count ∷ o.row ∷ start ∷ [])

-- tables of these lengths hold n operands with k arguments
pub record OperandRoom (n k operands numbers args : ℕ) : Type 0 where
  pub kinds : 4 * n ≤ operands
  pub bases : n ≤ numbers
  pub rows : k ≤ args
  pub small : k ≤ 65535

-- x counts the fields fs, which are read as operands into `after` from v on, their arguments from a on. What is read stays as long as the
-- first operands and arguments do.
pub record OperandsThere (fs : List (List ℕ)) (most v a : ℕ) (after : OperandTable) (x : Count) : Type 0 where
  pub few : x.count ≤ most
  pub says : (ω : OperandTable) → SameOperands (v + x.count) (a + x.args) ω after → some (operands_at ω v x.count) ≡ at_most most operand fs

abbrev pub OperandsSaid : List (List ℕ) → ℕ → ℕ → ℕ → OperandTable → Maybe Count → Type 0
OperandsSaid fs most v a after None = none ≡ at_most most operand fs
OperandsSaid fs most v a after (Some x) = OperandsThere fs most v a after x

-- the fields fs, at most `most` of them, are read as operands, if they are; what stands before is kept
pub record OperandsRead (fs : List (List ℕ)) (most v a : ℕ) (before after : OperandTable) (r : Maybe Count) : Type 0 where
  pub kept : SameOperands v a after before
  pub read : OperandsSaid fs most v a after r

-- m arguments stand in the first line of s: each takes two of its bytes, a mark and a digit
abbrev pub Carried : List ℕ → ℕ → Type 0
Carried s m = (2 * m ≤ length (line_in s)) × (m ≤ 128)

-- what was read goes to the end of the first line of s, and m arguments stand in it
abbrev pub Through : List ℕ → ℕ → ℕ → Type 0
Through s m next = (next ≡ length (line_in s)) × Carried s m

abbrev pub CountThrough : List ℕ → Maybe Count → Type 0
CountThrough s None = Unit
CountThrough s (Some x) = Through s x.args x.next

-- ---- a line
abbrev pub SaidThrough : List ℕ → Maybe Said → Type 0
SaidThrough s None = Unit
SaidThrough s (Some x) = Through s x.args x.next

-- the entry of the form at place `code`
abbrev pub said_by : ℕ → Said → List ℕ → List Operand → Entry
said_by code s parts vs = entry_with code s.a s.b s.c s.d parts vs

-- the form at place `code` is neither U nor C, whose fields are rows and registers
pub record PlainForm (code : ℕ) : Type 0 where
  pub known : code < 36
  pub no_tuple : code ≡ 3 → ⊥
  pub no_code : code ≡ 5 → ⊥

-- s is what the fields fs say by the form at place `code`. Its operands stand in `after` from v on, their arguments from a on.
pub record PlainThere (code : ℕ) (fs : List (List ℕ)) (v a : ℕ) (after : OperandTable) (s : Said) : Type 0 where
  pub few : s.count ≤ 16
  pub enough : fewest (form_cell code 4) ≤ s.count
  pub says : (parts : List ℕ) (ω : OperandTable) → SameOperands (v + s.count) (a + s.args) ω after → some (said_by code s parts (operands_at ω v s.count)) ≡ form_at forms code fs

abbrev pub PlainSaid : ℕ → List (List ℕ) → ℕ → ℕ → OperandTable → Maybe Said → Type 0
PlainSaid code fs v a after None = none ≡ form_at forms code fs
PlainSaid code fs v a after (Some s) = PlainThere code fs v a after s

-- r is what the fields say, if they say something; the operands before v and the arguments before a are kept
pub record PlainIs (code : ℕ) (fs : List (List ℕ)) (v a : ℕ) (before after : OperandTable) (r : Maybe Said) : Type 0 where
  pub kept : SameOperands v a after before
  pub read : PlainSaid code fs v a after r

-- The same of a row whose parts stand in `after` from p on.
pub record RowThere (code : ℕ) (fs : List (List ℕ)) (p : ℕ) (after : List ℕ) (s : Said) : Type 0 where
  pub none_follow : s.count ≡ 0
  pub none_carried : s.args ≡ 0
  pub enough : fewest (form_cell code 4) ≡ 0
  pub says : (parts : List ℕ) (vs : List Operand) → take (p + 17) parts ≡ take (p + 17) after → some (said_by code s parts vs) ≡ form_at forms code fs

abbrev pub RowSaid : ℕ → List (List ℕ) → ℕ → List ℕ → Maybe Said → Type 0
RowSaid code fs p after None = none ≡ form_at forms code fs
RowSaid code fs p after (Some s) = RowThere code fs p after s

pub record RowIs (code : ℕ) (fs : List (List ℕ)) (p : ℕ) (before after : List ℕ) (r : Maybe Said) : Type 0 where
  pub kept : take p after ≡ take p before
  pub read : RowSaid code fs p after r

-- The same of any line.
pub record FormThere (code : ℕ) (fs : List (List ℕ)) (p v a : ℕ) (parts' : List ℕ) (after : OperandTable) (s : Said) : Type 0 where
  pub few : s.count ≤ 16
  pub enough : fewest (form_cell code 4) ≤ s.count
  pub says : (ps : List ℕ) (ω : OperandTable) → take (p + 17) ps ≡ take (p + 17) parts' → SameOperands (v + s.count) (a + s.args) ω after → some (said_by code s ps (operands_at ω v s.count)) ≡ form_at forms code fs

abbrev pub FormSaid : ℕ → List (List ℕ) → ℕ → ℕ → ℕ → List ℕ → OperandTable → Maybe Said → Type 0
FormSaid code fs p v a parts' after None = none ≡ form_at forms code fs
FormSaid code fs p v a parts' after (Some s) = FormThere code fs p v a parts' after s

pub record FormIs (code : ℕ) (fs : List (List ℕ)) (p v a : ℕ) (parts parts' : List ℕ) (before after : OperandTable) (r : Maybe Said) : Type 0 where
  pub kept_parts : take p parts' ≡ take p parts
  pub kept_operands : SameOperands v a after before
  pub read : FormSaid code fs p v a parts' after r
