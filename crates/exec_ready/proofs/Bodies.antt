-- The machine's view of a program: its instructions end to end, and where its blocks start.
use Prim.Native.Nat.{ℕ, zero, suc, ◌+◌, ◌-◌, ◌≤◌, ◌<◌}
use native.Mathlib.Omega.{arith}
use native.Mathlib.Nat.{add-zero, zero-add}
use mathlib.Core.Path.{◌≡◌, refl, ap, ap₂, sym, ◌∙◌}
use mathlib.Core.List.{List, [], ◌∷◌, ◌++◌, map}
use lib.ListN.{length, length-append, take}
use Rattle.syntax.specs.Syntax.{value, Instr}
use Rattle.text.specs.PassOne.{Listing}
use Rattle.types.specs.Types.{Arg}
use Rattle.types.specs.Rows.{type_at}
use Rattle.tables.specs.Tables.{cell, OperandTable, instr_at, instrs_from, blocks_from}
use Rattle.tables.proofs.Steps.{length_instrs}
use Rattle.valid.specs.Program.{Block, Program, blocks_of}
use Rattle.valid.proofs.Order.{body_of}
use Rattle.exec.specs.Machine.{Bodies, flat, start_of}
use Rattle.exec.specs.Run.{bodies}
use Rattle.exec_machine.specs.Step.{tables}
use Rattle.exec_machine.specs.Represents.{Represents}

-- ---- bodies
bodies_in : List Listing → Bodies
bodies_in bs = map (λ b. b.body) bs

bodies_of : (T : List Arg) (bs : List Listing) → map (λ (B : Block). B.body) (blocks_of T bs) ≡ bodies_in bs
unfolding blocks_of bodies_in
bodies_of T [] = refl
bodies_of T (b ∷ bs) = ap₂ (λ (x : List Instr) (xs : Bodies). x ∷ xs) (body_of (type_at value T b.code) b.body) (bodies_of T bs)

-- ---- instructions end to end
module _ (ι : List ℕ) (ω : OperandTable) where
  instrs_join : (j m n : ℕ) → instrs_from ι ω j m ++ instrs_from ι ω (j + m) n ≡ instrs_from ι ω j (m + n)
  unfolding instrs_from
  instrs_join j zero n = ap₂ (λ (x y : ℕ). instrs_from ι ω x y) (add-zero j) (sym (zero-add n))
  instrs_join j (suc m) n =
      let e : j + suc m ≡ suc j + m = omega arith in
      let f : suc m + n ≡ suc (m + n) = omega arith in
      rw (e, f) (ap (◌∷◌ (instr_at ι ω j)) (instrs_join (suc j) m n))

  join_at : (a b c : ℕ) → a ≤ b → b ≤ c → instrs_from ι ω a (b - a) ++ instrs_from ι ω b (c - b) ≡ instrs_from ι ω a (c - a)
  join_at a b c h k =
      let e : b ≡ a + (b - a) = omega arith in
      let f : (b - a) + (c - b) ≡ c - a = omega arith in
      ap (λ (x : ℕ). instrs_from ι ω a (b - a) ++ instrs_from ι ω x (c - b)) e ∙ instrs_join a (b - a) (c - b) ∙ ap (instrs_from ι ω a) f

  module _ (β : List ℕ) (ni nb : ℕ) (rising : (l : ℕ) → suc l < nb → cell 2 β l 1 < cell 2 β (suc l) 1) (within : (l : ℕ) → l < nb → cell 2 β l 1 < ni) where
    flat_from : (l n : ℕ) → l + suc n ≡ nb → flat (bodies_in (blocks_from β ι ω ni l (suc n))) ≡ instrs_from ι ω (cell 2 β l 1) (ni - cell 2 β l 1)
    unfolding flat bodies_in blocks_from
    flat_from l zero e = append_none (instrs_from ι ω (cell 2 β l 1) (ni - cell 2 β l 1))
      where
        append_none : (xs : List Instr) → xs ++ [] ≡ xs
        append_none [] = refl
        append_none (x ∷ xs) = ap (◌∷◌ x) (append_none xs)
    flat_from l (suc n) e =
        let r = rising l (omega arith) in
        let w = within (suc l) (omega arith) in
        ap (λ (xs : List Instr). instrs_from ι ω (cell 2 β l 1) (cell 2 β (suc l) 1 - cell 2 β l 1) ++ xs) (flat_from (suc l) n (omega arith))
        ∙ join_at (cell 2 β l 1) (cell 2 β (suc l) 1) ni (omega arith) (omega arith)

    start_from : (l n k : ℕ) → l + suc n ≡ nb → k < suc n → cell 2 β l 1 + length (flat (take k (bodies_in (blocks_from β ι ω ni l (suc n))))) ≡ cell 2 β (l + k) 1
    unfolding flat bodies_in blocks_from
    start_from l n zero e h = add-zero (cell 2 β l 1) ∙ ap (λ (x : ℕ). cell 2 β x 1) (sym (add-zero l))
    start_from l zero (suc k) e h = absurd (omega arith)
    start_from l (suc n) (suc k) e h =
        let r = rising l (omega arith) in
        let a = cell 2 β l 1 in
        let b = cell 2 β (suc l) 1 in
        let xs = instrs_from ι ω (cell 2 β l 1) (cell 2 β (suc l) 1 - cell 2 β l 1) in
        let ys = flat (take k (bodies_in (blocks_from β ι ω ni (suc l) (suc n)))) in
        let q = start_from (suc l) n k (omega arith) (omega arith) in
        let p = length-append xs ys in
        let f = length_instrs ι ω (cell 2 β l 1) (cell 2 β (suc l) 1 - cell 2 β l 1) in
        let i : suc l + k ≡ l + suc k = omega arith in
        let g : a + length (xs ++ ys) ≡ b + length ys = omega arith in
        g ∙ q ∙ ap (λ (x : ℕ). cell 2 β x 1) i

bodies_length : (β ι : List ℕ) (ω : OperandTable) (ni b k : ℕ) → length (bodies_in (blocks_from β ι ω ni b k)) ≡ k
unfolding bodies_in blocks_from
bodies_length β ι ω ni b zero = refl
bodies_length β ι ω ni b (suc zero) = refl
bodies_length β ι ω ni b (suc (suc k)) = ap suc (bodies_length β ι ω ni (suc b) (suc k))

-- ---- the tables represent the program
pub represents_is : (ι os ns as' β : List ℕ) (ni nb : ℕ) (P : Program) (T : List Arg) (bs : List Listing)
    → P.blocks ≡ blocks_of T bs
    → blocks_from β ι (record { operands = os; numbers = ns; args = as' }) ni 0 nb ≡ bs
    → 0 < nb
    → cell 2 β 0 1 ≡ 0
    → ((l : ℕ) → suc l < nb → cell 2 β l 1 < cell 2 β (suc l) 1)
    → ((l : ℕ) → l < nb → cell 2 β l 1 < ni)
    → Represents (tables ι os ns β ni nb) as' (bodies P)
unfolding bodies start_of
represents_is ι os ns as' β ni zero P T bs eP eb h first rising within = absurd (omega arith)
represents_is ι os ns as' β ni (suc n) P T bs eP eb h first rising within =
    let ω : OperandTable = record { operands = os; numbers = ns; args = as' } in
    let e : map (λ (B : Block). B.body) P.blocks ≡ bodies_in (blocks_from β ι ω ni 0 (suc n)) = ap (map (λ (B : Block). B.body)) eP ∙ bodies_of T bs ∙ ap bodies_in (sym eb) in
    let z : 0 + suc n ≡ suc n = omega arith in
    record {
      instructions = ap flat e ∙ flat_from ι ω β ni (suc n) rising within 0 n z ∙ ap (λ (x : ℕ). instrs_from ι ω x (ni - x)) first ∙ ap (instrs_from ι ω 0) (omega arith);
      blocks = ap length e ∙ bodies_length β ι ω ni 0 (suc n);
      starts = λ l k.
          ap (λ (x : Bodies). length (flat (take l x))) e
          ∙ sym (zero-add (length (flat (take l (bodies_in (blocks_from β ι ω ni 0 (suc n)))))))
          ∙ ap (λ (x : ℕ). x + length (flat (take l (bodies_in (blocks_from β ι ω ni 0 (suc n)))))) (sym first)
          ∙ start_from ι ω β ni (suc n) rising within 0 n l z k
          ∙ ap (λ (x : ℕ). cell 2 β x 1) (zero-add l);
    }
