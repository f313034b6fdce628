-- When tables are those of a program, as the machine sees it.
use Rattle.std.specs.Prelude.{ℕ, ◌+◌, ◌*◌, ◌<◌, ◌≤◌, ◌≡◌, List, [], ◌∷◌, length}
use Rattle.exec.specs.Machine.{Bodies, flat, start_of}
use Rattle.syntax.specs.Syntax.{Base, reg, lit, lab, Operand, plain, inst, pack, Instr, aop, bop, mov, ld, st, malloc, getsp, setsp, salloc, sfree, sld, sst, slp, ssp, jmp, halt, unpack}
use Rattle.tables.specs.Tables.{cell, instr_at, instrs_from}
use Rattle.exec_machine.specs.Step.{Tables, operands_of}

-- its instructions, with whatever type arguments; its labels, and where each leads
pub record Represents (T : Tables) (args : List ℕ) (P : Bodies) : Type 0 where
  pub instructions : flat P ≡ instrs_from T.instrs (record { operands = T.operands; numbers = T.bases; args = args }) 0 T.count
  pub blocks : length P ≡ T.labels
  pub starts : (l : ℕ) → l < T.labels → start_of P l ≡ cell 2 T.blocks l 1

-- ---- registers
-- an operand's register, if it is one
abbrev pub LowBase : Base → Type 0
LowBase (reg r) = r < 8
LowBase (lit n) = Unit
LowBase (lab l) = Unit

-- with type arguments, in a package, or neither
abbrev pub LowOperand : Operand → Type 0
LowOperand (plain b) = LowBase b
LowOperand (inst b ts t) = LowBase b
LowOperand (pack a b h) = LowBase b

-- each of a list
abbrev pub LowOperands : List Operand → Type 0
LowOperands [] = Unit
LowOperands (v ∷ vs) = LowOperand v × LowOperands vs

-- "Registers are r1 to r8.": those that an instruction names
abbrev pub Registered : Instr → Type 0
Registered (aop o d s v) = (d < 8) × (s < 8) × LowOperand v
Registered (bop o r v) = (r < 8) × LowOperand v
Registered (mov d v) = (d < 8) × LowOperand v
Registered (ld d s i) = (d < 8) × (s < 8)
Registered (st d i s) = (d < 8) × (s < 8)
Registered (malloc d t vs) = (d < 8) × LowOperands vs
Registered (getsp d t) = d < 8
Registered (setsp s) = s < 8
Registered (salloc n) = Unit
Registered (sfree n) = Unit
Registered (sld d i) = d < 8
Registered (sst i s) = s < 8
Registered (slp d s i) = (d < 8) × (s < 8)
Registered (ssp d i s t) = (d < 8) × (s < 8)
Registered (jmp v) = LowOperand v
Registered (halt t) = Unit
Registered (unpack d v) = (d < 8) × LowOperand v

-- the operands of instruction j stand in the tables: entry 5 says where they start, entry 6 how many they are
abbrev pub OperandsIn : Tables → ℕ → Type 0
OperandsIn T j =
    (cell 8 T.instrs j 5 + cell 8 T.instrs j 6 ≤ length T.bases) × (4 * (cell 8 T.instrs j 5 + cell 8 T.instrs j 6) ≤ length T.operands)

-- what decoding sees to: at most 1,024 instructions, each naming registers, with operands that stand in the tables, and blocks that
-- start at one of them
pub record Fit (T : Tables) : Type 0 where
  pub few : T.count ≤ 1024
  pub registers : (j : ℕ) → j < T.count → Registered (instr_at T.instrs (operands_of T) j)
  pub room : (j : ℕ) → j < T.count → OperandsIn T j
  pub starts : (l : ℕ) → l < T.labels → cell 2 T.blocks l 1 < T.count
