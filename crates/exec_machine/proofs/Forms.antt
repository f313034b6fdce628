-- From what a function for an instruction answers to what the next instruction does.
use mathlib.Core.Path.{◌≡◌, refl, ap, ap₂, sym, ◌∙◌}
use mathlib.Core.List.{List}
use Prim.Native.Nat.{ℕ, zero, suc, ◌+◌, ◌-◌, ◌<◌, ◌≤◌}
use native.Mathlib.Numerals.{add-one}
use native.Mathlib.Omega.{arith}
use lib.ListN.{length}
use borrow.Author.Tests.{lt-ltb, le-ltb}
use Rattle.syntax.specs.Syntax.{Instr}
use Rattle.exec.specs.Machine.{State, height, word_of}
use Rattle.tables.specs.Tables.{cell, OperandTable, operand_at, operands_at, instr_at}
use Rattle.exec_words.specs.arith.Codes.{arith_of, branch_of}
use Rattle.exec_words.specs.declared.memory.Word.{Word as Pair}
use Rattle.exec_words.specs.memory.Lent.{word_is, operand_table}
use Rattle.exec_machine.specs.declared.Stop.TheVariants.{Halted, Stuck}
use Rattle.exec_machine.specs.Step.{tables, pair, next_arith, next_jump, next_branch, next_load, next_store, next_tuple, next_cut, next_push, next_pop, next_read, next_write, next_read_through, next_write_through, next_of, next_at, Next, Register, End}
use Rattle.exec_machine.proofs.Codes.{is_arith, is_branch, is_mov, is_ld, is_st, is_malloc, is_getsp, is_setsp, is_salloc, is_sfree, is_sld, is_sst, is_slp, is_ssp, is_jmp, is_halt, is_unpack}

pub length_operands : (ω : OperandTable) (v n : ℕ) → length (operands_at ω v n) ≡ n
unfolding operands_at
length_operands ω v zero = refl
length_operands ω v (suc n) = ap suc (length_operands ω (suc v) n)

module _ (ι os bs β : List ℕ) (n l : ℕ) (σ : State) where
  abbrev ω : OperandTable
  ω = operand_table os bs

  abbrev j : ℕ
  j = σ.position

  abbrev instruction : Instr
  instruction = instr_at ι ω j

  abbrev does : Instr → Next
  does x = next_of (tables ι os bs β n l) σ x

  by : {r : Next} {x : Instr} → instruction ≡ x → r ≡ does x → r ≡ does instruction
  by e h = h ∙ ap does (sym e)

  -- `mov` and `unpack`
  abbrev pub moves : Next
  moves = Register (cell 8 ι j 1) (pair (word_of σ.registers (operand_at ω (cell 8 ι j 5)))) (suc j)

  pub mov_moves : cell 8 ι j 0 ≡ 9 → does instruction ≡ moves
  unfolding next_of
  mov_moves k = ap does (is_mov ι ω j k)

  pub unpack_moves : cell 8 ι j 0 ≡ 23 → does instruction ≡ moves
  unfolding next_of
  unpack_moves k = ap does (is_unpack ι ω j k)

  -- ---- the function that it calls answers r; the numbers that it was handed are entries of the table
  module _ {to : ℕ} (et : to ≡ j + 1) where
    next : to ≡ suc j
    next = et ∙ add-one j

    module _ {a : ℕ} (ea : a ≡ cell 8 ι j 1) where
      -- one that moves its operand's word: `mov` or `unpack`
      pub moved_is : does instruction ≡ moves → (w : Pair) → word_is w ≡ word_of σ.registers (operand_at ω (cell 8 ι j 5)) → Register a w to ≡ does instruction
      moved_is m w e = ap₂ (λ (x y : ℕ). Register x w y) ea next ∙ ap (λ (x : Pair). Register (cell 8 ι j 1) x (suc j)) (ap pair e) ∙ sym m

      pub getsp_is : cell 8 ι j 0 ≡ 13 → Register a (pair (height σ.depth)) to ≡ does instruction
      unfolding next_of
      getsp_is k = by (is_getsp ι ω j k) (ap₂ (λ (x y : ℕ). Register x (pair (height σ.depth)) y) ea next)

      module _ (r : Next) where
        pub malloc_is : cell 8 ι j 0 ≡ 12 → {v m : ℕ} → v ≡ cell 8 ι j 5 → m ≡ cell 8 ι j 6 → r ≡ next_tuple σ.used to a v m → r ≡ does instruction
        unfolding next_of
        malloc_is k {v} {m} ev em h =
            let c : m ≡ length (operands_at ω (cell 8 ι j 5) (cell 8 ι j 6)) = em ∙ sym (length_operands ω (cell 8 ι j 5) (cell 8 ι j 6)) in
            by (is_malloc ι ω j k) (h ∙ ap₂ (λ (x y : ℕ). next_tuple σ.used x y v m) next ea ∙ ap₂ (λ (x y : ℕ). next_tuple σ.used (suc j) (cell 8 ι j 1) x y) ev c)

        pub setsp_is : cell 8 ι j 0 ≡ 14 → r ≡ next_cut σ.registers σ.depth to a → r ≡ does instruction
        unfolding next_of
        setsp_is k h = by (is_setsp ι ω j k) (h ∙ ap₂ (λ (x y : ℕ). next_cut σ.registers σ.depth x y) next ea)

        pub salloc_is : cell 8 ι j 0 ≡ 15 → r ≡ next_push σ.depth to a → r ≡ does instruction
        unfolding next_of
        salloc_is k h = by (is_salloc ι ω j k) (h ∙ ap₂ (λ (x y : ℕ). next_push σ.depth x y) next ea)

        pub sfree_is : cell 8 ι j 0 ≡ 16 → r ≡ next_pop σ.depth to a → r ≡ does instruction
        unfolding next_of
        sfree_is k h = by (is_sfree ι ω j k) (h ∙ ap₂ (λ (x y : ℕ). next_pop σ.depth x y) next ea)

        module _ {b : ℕ} (eb : b ≡ cell 8 ι j 2) {h : ℕ} (eh : h ≡ σ.depth) where
          pub sld_is : cell 8 ι j 0 ≡ 17 → r ≡ next_read σ.stack h to a b → r ≡ does instruction
          unfolding next_of
          sld_is k q = by (is_sld ι ω j k) (q ∙ ap₂ (λ (x y : ℕ). next_read σ.stack x y a b) eh next ∙ ap₂ (λ (x y : ℕ). next_read σ.stack σ.depth (suc j) x y) ea eb)

          pub sst_is : cell 8 ι j 0 ≡ 18 → r ≡ next_write σ.registers h to a b → r ≡ does instruction
          unfolding next_of
          sst_is k q = by (is_sst ι ω j k) (q ∙ ap₂ (λ (x y : ℕ). next_write σ.registers x y a b) eh next ∙ ap₂ (λ (x y : ℕ). next_write σ.registers σ.depth (suc j) x y) ea eb)

          module _ {c : ℕ} (ec : c ≡ cell 8 ι j 3) where
            pub slp_is : cell 8 ι j 0 ≡ 19 → r ≡ next_read_through σ.registers σ.stack h to a b c → r ≡ does instruction
            unfolding next_of
            slp_is k q =
                by (is_slp ι ω j k)
                (q ∙ ap₂ (λ (x y : ℕ). next_read_through σ.registers σ.stack x y a b c) eh next ∙ ap (λ (x : ℕ). next_read_through σ.registers σ.stack σ.depth (suc j) x b c) ea
                ∙ ap₂ (λ (x y : ℕ). next_read_through σ.registers σ.stack σ.depth (suc j) (cell 8 ι j 1) x y) eb ec)

            pub ssp_is : cell 8 ι j 0 ≡ 20 → r ≡ next_write_through σ.registers h to a b c → r ≡ does instruction
            unfolding next_of
            ssp_is k q =
                by (is_ssp ι ω j k)
                (q ∙ ap₂ (λ (x y : ℕ). next_write_through σ.registers x y a b c) eh next ∙ ap (λ (x : ℕ). next_write_through σ.registers σ.depth (suc j) x b c) ea
                ∙ ap₂ (λ (x y : ℕ). next_write_through σ.registers σ.depth (suc j) (cell 8 ι j 1) x y) eb ec)

        module _ {b c : ℕ} (eb : b ≡ cell 8 ι j 2) (ec : c ≡ cell 8 ι j 3) where
          pub ld_is : cell 8 ι j 0 ≡ 10 → r ≡ next_load σ.registers σ.heap to a b c → r ≡ does instruction
          unfolding next_of
          ld_is k q = by (is_ld ι ω j k) (q ∙ ap₂ (λ (x y : ℕ). next_load σ.registers σ.heap x y b c) next ea ∙ ap₂ (λ (x y : ℕ). next_load σ.registers σ.heap (suc j) (cell 8 ι j 1) x y) eb ec)

          pub st_is : cell 8 ι j 0 ≡ 11 → r ≡ next_store σ.registers σ.heap to a b c → r ≡ does instruction
          unfolding next_of
          st_is k q = by (is_st ι ω j k) (q ∙ ap₂ (λ (x y : ℕ). next_store σ.registers σ.heap x y b c) next ea ∙ ap₂ (λ (x y : ℕ). next_store σ.registers σ.heap (suc j) (cell 8 ι j 1) x y) eb ec)

  -- ---- the whole decision
  module _ (r : Next) where
    pub nowhere : n ≤ j → r ≡ End Stuck → r ≡ next_at (tables ι os bs β n l) σ
    unfolding next_at
    nowhere h e = e ∙ sym (simp (le-ltb j n h))

    module _ (h : j < n) where
      pub here : r ≡ does instruction → r ≡ next_at (tables ι os bs β n l) σ
      unfolding next_at
      here e = e ∙ sym (simp (lt-ltb j n h))

      pub arith_is : (k : ℕ) → k ≡ cell 8 ι j 0 → k < 3 → r ≡ next_arith σ.registers (j + 1) (arith_of k) (cell 8 ι j 1) (cell 8 ι j 2) (operand_at ω (cell 8 ι j 5)) → r ≡ next_at (tables ι os bs β n l) σ
      unfolding next_of
      arith_is k e q c = here (by (is_arith ι ω j k (sym e) q) (c ∙ ap (λ (x : ℕ). next_arith σ.registers x (arith_of k) (cell 8 ι j 1) (cell 8 ι j 2) (operand_at ω (cell 8 ι j 5))) (add-one j)))

      pub branch_is : (k : ℕ) → k ≡ cell 8 ι j 0 → 3 ≤ k → k < 9 → r ≡ next_branch β l σ.registers (j + 1) (branch_of (k - 3)) (cell 8 ι j 1) (operand_at ω (cell 8 ι j 5)) → r ≡ next_at (tables ι os bs β n l) σ
      unfolding next_of
      branch_is k e q s c =
          let m : ℕ = k - 3 in
          let f : cell 8 ι j 0 ≡ 3 + m = omega arith in
          let u : m < 6 = omega arith in
          here (by (is_branch ι ω j m f u) (c ∙ ap (λ (x : ℕ). next_branch β l σ.registers x (branch_of m) (cell 8 ι j 1) (operand_at ω (cell 8 ι j 5))) (add-one j)))

      pub jmp_is : cell 8 ι j 0 ≡ 21 → {v : ℕ} (w : Pair) → word_is w ≡ word_of σ.registers (operand_at ω v) → v ≡ cell 8 ι j 5 → r ≡ next_jump β l (word_is w) → r ≡ next_at (tables ι os bs β n l) σ
      unfolding next_of
      jmp_is k w e ev c = here (by (is_jmp ι ω j k) (c ∙ ap (next_jump β l) (e ∙ ap (λ (v : ℕ). word_of σ.registers (operand_at ω v)) ev)))

  pub halt_is : j < n → 22 ≤ cell 8 ι j 0 → (cell 8 ι j 0 ≡ 23 → ⊥) → End Halted ≡ next_at (tables ι os bs β n l) σ
  unfolding next_of next_at
  halt_is h k u = sym (simp (lt-ltb j n h) (ap does (is_halt ι ω j k u)))
