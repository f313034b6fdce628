-- The step by tables is the step of the program that they represent: `step_is`.
use mathlib.Core.Path.{◌≡◌, refl, ap, ap₂, sym, ◌∙◌}
use mathlib.Core.Bool.{Bool, true, false, cond}
use mathlib.Core.Option.{none, some}
use mathlib.Core.List.{List, ◌∷◌, map}
use Prim.Native.Nat.{ℕ, zero, suc, ◌+◌, ◌-◌, ◌<◌, ◌≤◌}
use native.Mathlib.Nat.{zero-add, suc-add, add-zero, add-suc}
use native.Mathlib.Decide.{dec_lt}
use native.Mathlib.Omega.{arith}
use lib.Dec.{ltb, eqb, leb-zero, leb-suc-zero, leb-suc-suc}
use lib.ListN.{length, get_elem?}
use borrow.Author.Tests.{ltb-true, eqb-true, eqb-false}
use Rattle.syntax.specs.Syntax.{Operand, Arith, Branch, Instr, aop, bop, mov, ld, st, malloc, getsp, setsp, salloc, sfree, sld, sst, slp, ssp, jmp, halt, unpack}
use Rattle.exec.specs.Machine.{Word, Memory, State, Bodies, start_of, fetch, stuck, Result, go, stop, word_of, only, unless, set_position, jump, exec, exec_next, step}
use Rattle.tables.specs.Tables.{cell, OperandTable, operand_at, operands_at, instr_at, instrs_from}
use Rattle.exec_words.specs.arith.Codes.{arith_of, branch_of}
use Rattle.exec_words.specs.memory.Lent.{operand_table, tuple_of}
use Rattle.exec_words.proofs.memory.Laws.{word_of_lem}
use Rattle.exec_machine.specs.declared.Stop.TheVariants.{Stuck}
use Rattle.exec_machine.specs.Step.{Tables, operands_of, given, provided, next_arith, next_jump, next_branch, next_load, next_store, next_tuple, next_cut, next_push, next_pop, next_read, next_write, next_read_through, next_write_through, next_of, next_at, result_of, step_at, Next, End}
use Rattle.exec_machine.specs.Represents.{Represents}
use Rattle.exec_machine.proofs.Codes.{is_arith, is_branch, is_mov, is_ld, is_st, is_malloc, is_getsp, is_setsp, is_salloc, is_sfree, is_sld, is_sst, is_slp, is_ssp, is_jmp, is_halt, is_unpack}
use Rattle.exec_machine.proofs.Forms.{length_operands}

-- ---- type arguments do nothing
same_word : (R : Memory) (os bs args : List ℕ) (v : ℕ) → word_of R (operand_at (record { operands = os; numbers = bs; args = args }) v) ≡ word_of R (operand_at (operand_table os bs) v)
same_word R os bs args v = word_of_lem R (record { operands = os; numbers = bs; args = args }) v ∙ sym (word_of_lem R (operand_table os bs) v)

same_words : (R : Memory) (os bs args : List ℕ) (v n : ℕ) → map (word_of R) (operands_at (record { operands = os; numbers = bs; args = args }) v n) ≡ map (word_of R) (operands_at (operand_table os bs) v n)
unfolding operands_at
same_words R os bs args v zero = refl
same_words R os bs args v (suc n) = ap₂ (λ (w : Word) (ws : List Word). w ∷ ws) (same_word R os bs args v) (same_words R os bs args (suc v) n)

-- ---- the instruction at a position
fetched : (ι : List ℕ) (ω : OperandTable) (j n i : ℕ) → get_elem? (instrs_from ι ω j n) i ≡ cond (ltb i n) (some (instr_at ι ω (j + i))) none
unfolding instrs_from
fetched ι ω j zero zero = refl
fetched ι ω j zero (suc i) = rw leb-suc-zero
fetched ι ω j (suc n) zero = rw (leb-suc-suc, leb-zero, add-zero)
fetched ι ω j (suc n) (suc i) = rw (leb-suc-suc, add-suc, ← suc-add) (fetched ι ω (suc j) n i)

-- ---- each instruction
module _ (T : Tables) (σ : State) where
  abbrev after : Next → Result State
  after x = result_of (operands_of T) σ x

  in_cond : (b : Bool) (x y : Next) → after (cond b x y) ≡ cond b (after x) (after y)
  in_cond true x y = refl
  in_cond false x y = refl

  module _ (P : Bodies) where
    arith_law : (o : Arith) (d s : ℕ) (v v' : Operand) → word_of σ.registers v ≡ word_of σ.registers v' → exec P σ (aop o d s v) ≡ after (next_of T σ (aop o d s v'))
    unfolding exec only next_of next_arith given result_of
    arith_law o d s v v' e = rw e (simp in_cond)

    mov_law : (d : ℕ) (v v' : Operand) → word_of σ.registers v ≡ word_of σ.registers v' → exec P σ (mov d v) ≡ after (next_of T σ (mov d v'))
    unfolding exec next_of result_of
    mov_law d v v' e = rw e

    unpack_law : (d : ℕ) (v v' : Operand) → word_of σ.registers v ≡ word_of σ.registers v' → exec P σ (unpack d v) ≡ after (next_of T σ (unpack d v'))
    unfolding exec next_of result_of
    unpack_law d v v' e = rw e

    ld_law : (d s i : ℕ) → exec P σ (ld d s i) ≡ after (next_of T σ (ld d s i))
    unfolding exec only unless next_of next_load given provided result_of
    ld_law d s i = simp in_cond

    st_law : (d i s : ℕ) → exec P σ (st d i s) ≡ after (next_of T σ (st d i s))
    unfolding exec only unless next_of next_store given provided result_of
    st_law d i s = simp in_cond

    getsp_law : (d t : ℕ) → exec P σ (getsp d t) ≡ after (next_of T σ (getsp d t))
    unfolding exec next_of result_of
    getsp_law d t = refl

    setsp_law : (s : ℕ) → exec P σ (setsp s) ≡ after (next_of T σ (setsp s))
    unfolding exec only unless next_of next_cut given provided result_of
    setsp_law s = simp in_cond

    salloc_law : (n : ℕ) → exec P σ (salloc n) ≡ after (next_of T σ (salloc n))
    unfolding exec unless next_of next_push provided result_of
    salloc_law n = simp in_cond

    sfree_law : (n : ℕ) → exec P σ (sfree n) ≡ after (next_of T σ (sfree n))
    unfolding exec unless next_of next_pop provided result_of
    sfree_law n = simp in_cond

    sld_law : (d i : ℕ) → exec P σ (sld d i) ≡ after (next_of T σ (sld d i))
    unfolding exec unless next_of next_read provided result_of
    sld_law d i = simp in_cond

    sst_law : (i s : ℕ) → exec P σ (sst i s) ≡ after (next_of T σ (sst i s))
    unfolding exec unless next_of next_write provided result_of
    sst_law i s = simp in_cond

    slp_law : (d s i : ℕ) → exec P σ (slp d s i) ≡ after (next_of T σ (slp d s i))
    unfolding exec only unless next_of next_read_through given provided result_of
    slp_law d s i = simp in_cond

    ssp_law : (d i s t : ℕ) → exec P σ (ssp d i s t) ≡ after (next_of T σ (ssp d i s t))
    unfolding exec only unless next_of next_write_through given provided result_of
    ssp_law d i s t = simp in_cond

    halt_law : (t : ℕ) → exec P σ (halt t) ≡ after (next_of T σ (halt t))
    unfolding exec next_of result_of
    halt_law t = refl

    module _ (eb : length P ≡ T.labels) (es : (l : ℕ) → l < T.labels → start_of P l ≡ cell 2 T.blocks l 1) where
      jump_law : (w : Word) → jump P σ w ≡ after (next_jump T.blocks T.labels w)
      unfolding jump only unless next_jump given provided result_of
      jump_law w = rw eb (simp in_cond (ap (λ (r : Result State). cond (eqb w.kind 1) r (stop stuck)) (go' (ltb w.number T.labels) refl)))
        where
          go' : (b : Bool) → ltb w.number T.labels ≡ b → cond b (go (set_position σ (start_of P w.number))) (stop stuck) ≡ cond b (go (set_position σ (cell 2 T.blocks w.number 1))) (stop stuck)
          go' true e = ap (λ (p : ℕ). go (set_position σ p)) (es w.number (ltb-true w.number T.labels e))
          go' false e = refl

      jmp_law : (v v' : Operand) → word_of σ.registers v ≡ word_of σ.registers v' → exec P σ (jmp v) ≡ after (next_of T σ (jmp v'))
      unfolding exec next_of
      jmp_law v v' e = rw e (jump_law (word_of σ.registers v'))

      bop_law : (o : Branch) (r : ℕ) (v v' : Operand) → word_of σ.registers v ≡ word_of σ.registers v' → exec P σ (bop o r v) ≡ after (next_of T σ (bop o r v'))
      unfolding exec only next_of next_branch given result_of
      bop_law o r v v' e = rw e (simp (in_cond, jump_law))

    -- vs are the operands with their type arguments, of which the tables say the words
    malloc_law : (d t : ℕ) (vs : List Operand) (v n : ℕ) → length vs ≡ n → map (word_of σ.registers) vs ≡ map (word_of σ.registers) (operands_at (operands_of T) v n) → exec P σ (malloc d t vs) ≡ after (next_tuple σ.used (suc σ.position) d v n)
    unfolding exec unless next_tuple provided result_of tuple_of
    malloc_law d t vs v n el ew = rw (el, ew) (simp in_cond)

-- ---- the step
module _ (T : Tables) (args : List ℕ) (P : Bodies) (rep : Represents T args P) (σ : State) where
  abbrev j : ℕ
  j = σ.position

  abbrev ι : List ℕ
  ι = T.instrs

  abbrev full : OperandTable
  full = record { operands = T.operands; numbers = T.bases; args = args }

  word : (v : ℕ) → word_of σ.registers (operand_at full v) ≡ word_of σ.registers (operand_at (operands_of T) v)
  word v = same_word σ.registers T.operands T.bases args v

  abbrev Same : Type 0
  Same = exec P σ (instr_at ι full j) ≡ after T σ (next_of T σ (instr_at ι (operands_of T) j))

  -- both sides at the instruction that stands there
  both : {x y : Instr} → instr_at ι full j ≡ x → instr_at ι (operands_of T) j ≡ y → exec P σ x ≡ after T σ (next_of T σ y) → Same
  both ex ey h = ap (exec P σ) ex ∙ h ∙ ap (λ (y : Instr). after T σ (next_of T σ y)) (sym ey)

  abbrev a : ℕ
  a = cell 8 ι j 1

  abbrev b : ℕ
  b = cell 8 ι j 2

  abbrev c : ℕ
  c = cell 8 ι j 3

  abbrev v : ℕ
  v = cell 8 ι j 5

  an_arith : (k : ℕ) → cell 8 ι j 0 ≡ k → k < 3 → Same
  an_arith k e h = both (is_arith ι full j k e h) (is_arith ι (operands_of T) j k e h) (arith_law T σ P (arith_of k) a b (operand_at full v) (operand_at (operands_of T) v) (word v))

  a_branch : (k : ℕ) → cell 8 ι j 0 ≡ 3 + k → k < 6 → Same
  a_branch k e h = both (is_branch ι full j k e h) (is_branch ι (operands_of T) j k e h) (bop_law T σ P rep.blocks rep.starts (branch_of k) a (operand_at full v) (operand_at (operands_of T) v) (word v))

  a_malloc : cell 8 ι j 0 ≡ 12 → Same
  unfolding next_of
  a_malloc e =
      let n : ℕ = cell 8 ι j 6 in
      both (is_malloc ι full j e) (is_malloc ι (operands_of T) j e)
      (malloc_law T σ P a b (operands_at full v n) v n (length_operands full v n) (same_words σ.registers T.operands T.bases args v n)
      ∙ ap (λ (m : ℕ). after T σ (next_tuple σ.used (suc j) a v m)) (sym (length_operands (operands_of T) v n)))

  below : (k : ℕ) → (cell 8 ι j 0 < k → Same) → (k ≤ cell 8 ι j 0 → Same) → Same
  below k f g = pick (dec_lt (cell 8 ι j 0) k)
    where
      pick : Dec (cell 8 ι j 0 < k) → Same
      pick (yes h) = f h
      pick (no n) = g (omega arith)

  equal : (k : ℕ) → (cell 8 ι j 0 ≡ k → Same) → k ≤ cell 8 ι j 0 → (suc k ≤ cell 8 ι j 0 → Same) → Same
  equal k f l g = pick (dec_lt k (cell 8 ι j 0))
    where
      pick : Dec (k < cell 8 ι j 0) → Same
      pick (yes h) = g h
      pick (no n) = f (omega arith)

  but : (k : ℕ) → (cell 8 ι j 0 ≡ k → Same) → ((cell 8 ι j 0 ≡ k → ⊥) → Same) → Same
  but k f g = pick (eqb (cell 8 ι j 0) k) refl
    where
      pick : (t : Bool) → eqb (cell 8 ι j 0) k ≡ t → Same
      pick true e = f (eqb-true (cell 8 ι j 0) k e)
      pick false e = g (eqb-false (cell 8 ι j 0) k e)

  by_code : Same
  by_code =
      below 3 (λ h. an_arith (cell 8 ι j 0) refl h) λ l3.
      below 9 (λ h. a_branch (cell 8 ι j 0 - 3) (omega arith) (omega arith)) λ l9.
      equal 9 (λ e. both (is_mov ι full j e) (is_mov ι (operands_of T) j e) (mov_law T σ P a (operand_at full v) (operand_at (operands_of T) v) (word v))) l9 λ l10.
      equal 10 (λ e. both (is_ld ι full j e) (is_ld ι (operands_of T) j e) (ld_law T σ P a b c)) l10 λ l11.
      equal 11 (λ e. both (is_st ι full j e) (is_st ι (operands_of T) j e) (st_law T σ P a b c)) l11 λ l12.
      equal 12 (λ e. a_malloc e) l12 λ l13.
      equal 13 (λ e. both (is_getsp ι full j e) (is_getsp ι (operands_of T) j e) (getsp_law T σ P a b)) l13 λ l14.
      equal 14 (λ e. both (is_setsp ι full j e) (is_setsp ι (operands_of T) j e) (setsp_law T σ P a)) l14 λ l15.
      equal 15 (λ e. both (is_salloc ι full j e) (is_salloc ι (operands_of T) j e) (salloc_law T σ P a)) l15 λ l16.
      equal 16 (λ e. both (is_sfree ι full j e) (is_sfree ι (operands_of T) j e) (sfree_law T σ P a)) l16 λ l17.
      equal 17 (λ e. both (is_sld ι full j e) (is_sld ι (operands_of T) j e) (sld_law T σ P a b)) l17 λ l18.
      equal 18 (λ e. both (is_sst ι full j e) (is_sst ι (operands_of T) j e) (sst_law T σ P a b)) l18 λ l19.
      equal 19 (λ e. both (is_slp ι full j e) (is_slp ι (operands_of T) j e) (slp_law T σ P a b c)) l19 λ l20.
      equal 20 (λ e. both (is_ssp ι full j e) (is_ssp ι (operands_of T) j e) (ssp_law T σ P a b c (cell 8 ι j 4))) l20 λ l21.
      equal 21 (λ e. both (is_jmp ι full j e) (is_jmp ι (operands_of T) j e) (jmp_law T σ P rep.blocks rep.starts (operand_at full v) (operand_at (operands_of T) v) (word v))) l21 λ l22.
      but 23 (λ e. both (is_unpack ι full j e) (is_unpack ι (operands_of T) j e) (unpack_law T σ P a (operand_at full v) (operand_at (operands_of T) v) (word v)))
      λ u. both (is_halt ι full j l22 u) (is_halt ι (operands_of T) j l22 u) (halt_law T σ P a)

  pub step_is : step_at T σ ≡ step P σ
  unfolding step fetch step_at next_at result_of
  step_is =
      rw (rep.instructions, fetched ι full 0 T.count j, zero-add) (at_most (ltb j T.count))
    where
      at_most : (t : Bool) → after T σ (cond t (next_of T σ (instr_at ι (operands_of T) j)) (End Stuck)) ≡ exec_next P σ (cond t (some (instr_at ι full j)) none)
      at_most true = sym by_code
      at_most false = refl
