-- The tables of a decoded text as sections of one list.
use Rattle.std.specs.Prelude.{ℕ, ◌-◌, ◌≤◌, ◌≡◌, List, length, take, drop}
use Rattle.image.specs.declared.Places.{Places}

-- the entries from a to b
unfoldable pub part : ℕ → ℕ → List ℕ → List ℕ
part a b l = take (b - a) (drop a l)

-- ---- the sections
abbrev pub row_section : Places → List ℕ → List ℕ
row_section p l = part p.rows p.blocks l

abbrev pub block_section : Places → List ℕ → List ℕ
block_section p l = part p.blocks p.instrs l

abbrev pub instr_section : Places → List ℕ → List ℕ
instr_section p l = part p.instrs p.parts l

abbrev pub part_section : Places → List ℕ → List ℕ
part_section p l = part p.parts p.operands l

abbrev pub operand_section : Places → List ℕ → List ℕ
operand_section p l = part p.operands p.args l

abbrev pub arg_section : Places → List ℕ → List ℕ
arg_section p l = part p.args p.uses l

abbrev pub use_section : Places → List ℕ → List ℕ
use_section p l = part p.uses p.tops l

abbrev pub top_section : Places → List ℕ → List ℕ
top_section p l = part p.tops p.shared l

-- the rows and their parts once more
abbrev pub shared_section : Places → List ℕ → List ℕ
shared_section p l = part p.shared p.slots l

abbrev pub slot_section : Places → List ℕ → List ℕ
slot_section p l = part p.slots p.end l

-- they stand one behind the other, within a list of length n
pub record Ordered (p : Places) (n : ℕ) : Type 0 where
  pub rows : p.rows ≤ p.blocks
  pub blocks : p.blocks ≤ p.instrs
  pub instrs : p.instrs ≤ p.parts
  pub parts : p.parts ≤ p.operands
  pub operands : p.operands ≤ p.args
  pub args : p.args ≤ p.uses
  pub uses : p.uses ≤ p.tops
  pub tops : p.tops ≤ p.shared
  pub shared : p.shared ≤ p.slots
  pub slots : p.slots ≤ p.end
  pub fits : p.end ≤ n

-- l' is l but for the entries from a to b
pub record Outside (a b : ℕ) (l l' : List ℕ) : Type 0 where
  pub size : length l' ≡ length l
  pub front : take a l' ≡ take a l
  pub rest : drop b l' ≡ drop b l
