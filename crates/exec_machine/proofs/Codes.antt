-- Which instruction stands in the table, by its code.
use mathlib.Core.Path.{◌≡◌}
use mathlib.Core.Bool.{false}
use mathlib.Core.List.{List}
use Prim.Native.Nat.{ℕ, zero, suc, ◌+◌, ◌-◌, ◌<◌, ◌≤◌}
use native.Mathlib.Omega.{arith}
use lib.Dec.{eqb}
use borrow.Author.Tests.{ne_eqb}
use Rattle.syntax.specs.Syntax.{Operand, aop, bop, mov, ld, st, malloc, getsp, setsp, salloc, sfree, sld, sst, slp, ssp, jmp, halt, unpack}
use Rattle.tables.specs.Tables.{cell, OperandTable, operand_at, operands_at, instr_at}
use Rattle.exec_words.specs.arith.Codes.{arith_of, branch_of}

module _ (ι : List ℕ) (ω : OperandTable) (j : ℕ) where
  abbrev pub code : ℕ
  code = cell 8 ι j 0

  abbrev pub operand : Operand
  operand = operand_at ω (cell 8 ι j 5)

  pub is_arith : (k : ℕ) → code ≡ k → k < 3 → instr_at ι ω j ≡ aop (arith_of k) (cell 8 ι j 1) (cell 8 ι j 2) operand
  unfolding instr_at arith_of
  is_arith zero e h = rw e
  is_arith (suc zero) e h = rw e
  is_arith (suc (suc zero)) e h = rw e
  is_arith (suc (suc (suc k))) e h = absurd (omega arith)

  -- kinds of branches are counted from code 3 on
  pub is_branch : (k : ℕ) → code ≡ 3 + k → k < 6 → instr_at ι ω j ≡ bop (branch_of k) (cell 8 ι j 1) operand
  unfolding instr_at branch_of
  is_branch zero e h = rw e
  is_branch (suc zero) e h = rw e
  is_branch (suc (suc zero)) e h = rw e
  is_branch (suc (suc (suc zero))) e h = rw e
  is_branch (suc (suc (suc (suc zero)))) e h = rw e
  is_branch (suc (suc (suc (suc (suc zero))))) e h = rw e
  is_branch (suc (suc (suc (suc (suc (suc k)))))) e h = absurd (omega arith)

  pub is_mov : code ≡ 9 → instr_at ι ω j ≡ mov (cell 8 ι j 1) operand
  unfolding instr_at
  is_mov e = rw e

  pub is_ld : code ≡ 10 → instr_at ι ω j ≡ ld (cell 8 ι j 1) (cell 8 ι j 2) (cell 8 ι j 3)
  unfolding instr_at
  is_ld e = rw e

  pub is_st : code ≡ 11 → instr_at ι ω j ≡ st (cell 8 ι j 1) (cell 8 ι j 2) (cell 8 ι j 3)
  unfolding instr_at
  is_st e = rw e

  pub is_malloc : code ≡ 12 → instr_at ι ω j ≡ malloc (cell 8 ι j 1) (cell 8 ι j 2) (operands_at ω (cell 8 ι j 5) (cell 8 ι j 6))
  unfolding instr_at
  is_malloc e = rw e

  pub is_getsp : code ≡ 13 → instr_at ι ω j ≡ getsp (cell 8 ι j 1) (cell 8 ι j 2)
  unfolding instr_at
  is_getsp e = rw e

  pub is_setsp : code ≡ 14 → instr_at ι ω j ≡ setsp (cell 8 ι j 1)
  unfolding instr_at
  is_setsp e = rw e

  pub is_salloc : code ≡ 15 → instr_at ι ω j ≡ salloc (cell 8 ι j 1)
  unfolding instr_at
  is_salloc e = rw e

  pub is_sfree : code ≡ 16 → instr_at ι ω j ≡ sfree (cell 8 ι j 1)
  unfolding instr_at
  is_sfree e = rw e

  pub is_sld : code ≡ 17 → instr_at ι ω j ≡ sld (cell 8 ι j 1) (cell 8 ι j 2)
  unfolding instr_at
  is_sld e = rw e

  pub is_sst : code ≡ 18 → instr_at ι ω j ≡ sst (cell 8 ι j 1) (cell 8 ι j 2)
  unfolding instr_at
  is_sst e = rw e

  pub is_slp : code ≡ 19 → instr_at ι ω j ≡ slp (cell 8 ι j 1) (cell 8 ι j 2) (cell 8 ι j 3)
  unfolding instr_at
  is_slp e = rw e

  pub is_ssp : code ≡ 20 → instr_at ι ω j ≡ ssp (cell 8 ι j 1) (cell 8 ι j 2) (cell 8 ι j 3) (cell 8 ι j 4)
  unfolding instr_at
  is_ssp e = rw e

  pub is_jmp : code ≡ 21 → instr_at ι ω j ≡ jmp operand
  unfolding instr_at
  is_jmp e = rw e

  pub is_unpack : code ≡ 23 → instr_at ι ω j ≡ unpack (cell 8 ι j 1) operand
  unfolding instr_at
  is_unpack e = rw e

  pub is_halt : 22 ≤ code → (code ≡ 23 → ⊥) → instr_at ι ω j ≡ halt (cell 8 ι j 1)
  unfolding instr_at
  is_halt h u =
      let no : (m : ℕ) → m < 22 → eqb code m ≡ false = λ m l. ne_eqb code m (λ e. omega arith) in
      simp (
        no 0 (omega arith),
        no 1 (omega arith),
        no 2 (omega arith),
        no 3 (omega arith),
        no 4 (omega arith),
        no 5 (omega arith),
        no 6
            (omega arith),
        no 7 (omega arith),
        no 8 (omega arith),
        no 9 (omega arith),
        no 10 (omega arith),
        no 11 (omega arith),
        no 12
            (omega arith),
        no 13 (omega arith),
        no 14 (omega arith),
        no 15 (omega arith),
        no 16 (omega arith),
        no 17 (omega arith),
        no 18
            (omega arith),
        no 19 (omega arith),
        no 20 (omega arith),
        no 21 (omega arith),
        ne_eqb code 23 u,
      )
