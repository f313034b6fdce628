-- The rows and the instructions of tables that stand for a text are small, since every entry of the text is.
-- Assumes nothing.
use Prim.Native.Nat.{ℕ, zero, suc, ◌+◌, ◌-◌, ◌<◌, ◌≤◌}
use native.Mathlib.Omega.{arith}
use native.Mathlib.Nat.{add-zero, not-suc-le-zero}
use mathlib.Core.Path.{◌≡◌, refl, sym, subst}
use mathlib.Core.Bool.{Bool, true, false}
use mathlib.Core.List.{List}
use lib.Dec.{eqb, ltb}
use borrow.Author.Tests.{eqb-true, eqb-false, ltb-true, ltb-false}
use Rattle.text.specs.PassOne.{entries_of, rows_of, listings_of}
use Rattle.tables.specs.Tables.{cell, RowTable, row_at, rows_from, rows_in, OperandTable, instr_at, instrs_from, blocks_from}
use Rattle.valid.specs.Bounds.{SmallRow, SmallInstr}
use Rattle.valid.proofs.Grammar.{AllRows, all_rows, AllInstrs, AllListings, all_listings, entries_small}

-- ---- rows
row_from_lem : (τ : RowTable) (i n k : ℕ) → AllRows (rows_from τ i n) → k < n → SmallRow (row_at τ (i + k))
unfolding rows_from
row_from_lem τ i zero k a h = absurd (not-suc-le-zero h)
row_from_lem τ i (suc n) zero a h = subst (λ (j : ℕ). SmallRow (row_at τ j)) (sym (add-zero i)) a.0
row_from_lem τ i (suc n) (suc k) a h =
    let e : suc i + k ≡ i + suc k = omega arith in
    subst (λ (j : ℕ). SmallRow (row_at τ j)) e (row_from_lem τ (suc i) n k a.1 (omega arith))

-- the rows of a table that stands for a text
pub rows_small : (text : List ℕ) (τ : RowTable) (n : ℕ) → rows_in τ n ≡ rows_of (entries_of text) → (r : ℕ) → r < n → SmallRow (row_at τ r)
rows_small text τ n e r h =
    let z : 0 + r ≡ r = omega arith in
    let a : AllRows (rows_in τ n) = subst AllRows (sym e) (all_rows (entries_of text) (entries_small text)) in
    subst (λ (j : ℕ). SmallRow (row_at τ j)) z (row_from_lem τ 0 n r a h)

-- ---- instructions
module _ (β ι : List ℕ) (ω : OperandTable) where
  -- the instructions from i on
  instr_from_lem : (i n j : ℕ) → AllInstrs (instrs_from ι ω i n) → i ≤ j → j < i + n → SmallInstr (instr_at ι ω j)
  unfolding instrs_from
  instr_from_lem i zero j a l h = absurd (omega arith)
  instr_from_lem i (suc n) j a l h = go (eqb i j) refl (λ q. instr_from_lem (suc i) n j a.1 q (omega arith))
    where
      go : (t : Bool) → eqb i j ≡ t → (suc i ≤ j → SmallInstr (instr_at ι ω j)) → SmallInstr (instr_at ι ω j)
      go true e k = subst (λ (k : ℕ). SmallInstr (instr_at ι ω k)) (eqb-true i j e) a.0
      go false e k = let d : i ≡ j → ⊥ = eqb-false i j e in k (omega arith)

  -- those of block b and of the blocks behind it
  block_from : (ni b n j : ℕ) → AllListings (blocks_from β ι ω ni b (suc n)) → cell 2 β b 1 ≤ j → j < ni → SmallInstr (instr_at ι ω j)
  unfolding blocks_from
  block_from ni b zero j a l h = instr_from_lem (cell 2 β b 1) (ni - cell 2 β b 1) j a.0 l (omega arith)
  block_from ni b (suc n) j a l h = go (ltb j (cell 2 β (suc b) 1)) refl (λ q. block_from ni (suc b) n j a.1 q h)
    where
      go : (t : Bool) → ltb j (cell 2 β (suc b) 1) ≡ t → (cell 2 β (suc b) 1 ≤ j → SmallInstr (instr_at ι ω j)) → SmallInstr (instr_at ι ω j)
      go true e k =
          let q : j < cell 2 β (suc b) 1 = ltb-true j (cell 2 β (suc b) 1) e in
          instr_from_lem (cell 2 β b 1) (cell 2 β (suc b) 1 - cell 2 β b 1) j a.0 l (omega arith)
      go false e k = k (ltb-false j (cell 2 β (suc b) 1) e)

  -- block b + k and those behind it are among block b and those behind it
  behind : (ni b n k : ℕ) → AllListings (blocks_from β ι ω ni b (suc (k + n))) → AllListings (blocks_from β ι ω ni (b + k) (suc n))
  unfolding blocks_from
  behind ni b n zero a =
      let e : 0 + n ≡ n = omega arith in
      let f : b + 0 ≡ b = omega arith in
      subst (λ (c : ℕ). AllListings (blocks_from β ι ω ni c (suc n))) (sym f) (subst (λ (m : ℕ). AllListings (blocks_from β ι ω ni b (suc m))) e a)
  behind ni b n (suc k) a =
      let e : suc k + n ≡ suc (k + n) = omega arith in
      let f : suc b + k ≡ b + suc k = omega arith in
      let c : AllListings (blocks_from β ι ω ni b (suc (suc (k + n)))) = subst (λ (m : ℕ). AllListings (blocks_from β ι ω ni b (suc m))) e a in
      subst (λ (m : ℕ). AllListings (blocks_from β ι ω ni m (suc n))) f (behind ni (suc b) n k c.1)

  -- the instructions of tables that stand for a text
  module _ (text : List ℕ) (ni nb : ℕ) (e : blocks_from β ι ω ni 0 nb ≡ listings_of (entries_of text)) where
    -- from the start of a block on
    pub block_small : (b : ℕ) → b < nb → (j : ℕ) → cell 2 β b 1 ≤ j → j < ni → SmallInstr (instr_at ι ω j)
    block_small b h j l k =
        let q : nb ≡ suc (b + (nb - suc b)) = omega arith in
        let z : 0 + b ≡ b = omega arith in
        let all : AllListings (blocks_from β ι ω ni 0 nb) = subst AllListings (sym e) (all_listings (entries_of text) (entries_small text)) in
        let here : AllListings (blocks_from β ι ω ni (0 + b) (suc (nb - suc b))) = behind ni 0 (nb - suc b) b (subst (λ (m : ℕ). AllListings (blocks_from β ι ω ni 0 m)) q all) in
        block_from ni b (nb - suc b) j (subst (λ (c : ℕ). AllListings (blocks_from β ι ω ni c (suc (nb - suc b)))) z here) l k

    -- the first block starts at the first instruction
    pub instrs_small : 0 < nb → cell 2 β 0 1 ≡ 0 → (j : ℕ) → j < ni → SmallInstr (instr_at ι ω j)
    instrs_small h s j k = block_small 0 h j (omega arith) k
