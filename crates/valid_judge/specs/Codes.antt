-- Which codes of instructions there are, by what judging them takes.
use Rattle.std.specs.Prelude.{ℕ, ◌≤◌, ◌<◌, ◌≡◌, Bool, true, false, ◌⊎◌, List}
use Rattle.tables.specs.Tables.{cell}
use Rattle.image.specs.declared.Places.{Places}
use Rattle.image.specs.Sections.{instr_section}
use Rattle.valid_judge.specs.declared.InstrForm.{InstrForm}

-- 0 to 9, `malloc` and `jmp` have operands; `unpack` is judged apart
pub record OperandCode (b : Bool) (k : ℕ) : Type 0 where
  pub has : b ≡ true → (k < 10) ⊎ ((k ≡ 12) ⊎ (k ≡ 21))
  pub lacks : b ≡ false → (10 ≤ k) × (k ≡ 12 → ⊥) × (k ≡ 21 → ⊥)

-- branches, 3 to 8, and `jmp` have a target
pub record TargetCode (b : Bool) (k : ℕ) : Type 0 where
  pub has : b ≡ true → (3 ≤ k) × (9 ≤ k → k ≡ 21)
  pub lacks : b ≡ false → (3 ≤ k → 9 ≤ k) × (k ≡ 21 → ⊥)

-- ---- instruction x of the table: its code is the table's, and one of some
-- an instruction with operands
pub record OperandForm (p : Places) (image : List ℕ) (x : InstrForm) : Type 0 where
  pub code : x.code ≡ cell 8 (instr_section p image) x.at 0
  pub which : (x.code < 10) ⊎ ((x.code ≡ 12) ⊎ (x.code ≡ 21))

-- an instruction without, and not `unpack`
pub record PlainForm (p : Places) (image : List ℕ) (x : InstrForm) : Type 0 where
  pub code : x.code ≡ cell 8 (instr_section p image) x.at 0
  pub from : 10 ≤ x.code
  pub no_malloc : x.code ≡ 12 → ⊥
  pub no_jump : x.code ≡ 21 → ⊥
  pub no_unpack : x.code ≡ 23 → ⊥

-- `unpack`
pub record OpenForm (p : Places) (image : List ℕ) (x : InstrForm) : Type 0 where
  pub code : x.code ≡ cell 8 (instr_section p image) x.at 0
  pub is : x.code ≡ 23

-- arithmetic, `mov` or `malloc`
pub record ValueForm (p : Places) (image : List ℕ) (x : InstrForm) : Type 0 where
  pub code : x.code ≡ cell 8 (instr_section p image) x.at 0
  pub no_branch : 3 ≤ x.code → 9 ≤ x.code
  pub malloc : 10 ≤ x.code → x.code ≡ 12

-- a branch or `jmp`
pub record JumpForm (p : Places) (image : List ℕ) (x : InstrForm) : Type 0 where
  pub code : x.code ≡ cell 8 (instr_section p image) x.at 0
  pub from : 3 ≤ x.code
  pub jump : 9 ≤ x.code → x.code ≡ 21

-- `ld`, `st` or `halt`
pub record HeapForm (p : Places) (image : List ℕ) (x : InstrForm) : Type 0 where
  pub code : x.code ≡ cell 8 (instr_section p image) x.at 0
  pub from : 10 ≤ x.code
  pub halt : 12 ≤ x.code → 22 ≤ x.code
  pub no_unpack : x.code ≡ 23 → ⊥

-- `getsp`, `setsp`, `salloc` or `sfree`
pub record SpForm (p : Places) (image : List ℕ) (x : InstrForm) : Type 0 where
  pub code : x.code ≡ cell 8 (instr_section p image) x.at 0
  pub from : 13 ≤ x.code
  pub to : x.code ≤ 16

-- `sld`, `sst`, `slp` or `ssp`
pub record ItemForm (p : Places) (image : List ℕ) (x : InstrForm) : Type 0 where
  pub code : x.code ≡ cell 8 (instr_section p image) x.at 0
  pub from : 17 ≤ x.code
  pub to : x.code ≤ 20
