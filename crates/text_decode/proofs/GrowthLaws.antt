-- Laws of what the tables say, one line more.
-- Assumes nothing.
use mathlib.Core.Path.{◌≡◌, refl, ap, ap₂, sym, ◌∙◌}
use mathlib.Core.Bool.{Bool, true, false, true≢false}
use mathlib.Core.List.{List, [], ◌∷◌, ◌++◌}
use Prim.Native.Nat.{ℕ, suc, ◌+◌, ◌*◌, ◌<◌, ◌≤◌}
use native.Mathlib.Omega.{arith}
use native.Mathlib.Nat.{zero-add}
use native.Mathlib.Numerals.{add-one}
use lib.Dec.{ltb}
use lib.ListN.{take}
use borrow.Author.Tests.{ltb-true, ltb-false}
use Rattle.syntax.specs.Syntax.{Row, Instr, Entry, row, block, instr}
use Rattle.text.specs.PassOne.{at_rows, in_block, behind_block, rows_of, Listing, listings_of}
use Rattle.text.specs.PassOne as one
use Rattle.text.proofs.Growth.{rows_row, rows_block, rows_instr, lengthened, listings_row, listings_block, listings_instr}
use Rattle.tables.specs.Tables.{cell, row_at, rows_in, instr_at, blocks_from}
use Rattle.tables.proofs.Spans.{same_at, rows_snoc, blocks_block, blocks_instr}
use Rattle.text_decode.proofs.line.OperandLaws.{same_on}
use Rattle.text_decode.specs.store.Store.{Store, row_table, operands_of, Same}
use Rattle.text_decode.specs.store.Lines.{used_after}
use Rattle.text_decode.specs.Decoded.{place_of}
use Rattle.text_decode.specs.state.State.{inside_block}
use Rattle.text_decode.specs.declared.state.Place.{Place}
use Rattle.text_decode.specs.declared.state.Place.TheVariants.{TypeLines, InBlock, BehindBlock}
use Rattle.text_decode.specs.declared.store.Used.{Used}
use Rattle.text_decode.specs.declared.store.Line.{Line}
use Rattle.text_decode.specs.declared.store.Line.TheVariants as line
use Rattle.text_decode.proofs.store.LineLaws.{grown}

pub same_trans : (u : Used) (ρ π σ : Store) → Same u ρ π → Same u π σ → Same u ρ σ
same_trans u ρ π σ s t = record {
  rows = s.rows ∙ t.rows;
  parts = s.parts ∙ t.parts;
  operands = same_on (operands_of ρ) (operands_of π) (operands_of σ) u.operands u.args s.operands t.operands;
  instrs = s.instrs ∙ t.instrs;
  blocks = s.blocks ∙ t.blocks;
}

-- ---- the entries in use say es, whatever stands past them
pub record Says (u : Used) (σ : Store) (es : List Entry) : Type 0 where
  pub rows : (ρ : Store) → Same u ρ σ → rows_in (row_table ρ) u.rows ≡ rows_of es
  pub blocks : (ρ : Store) → Same u ρ σ → blocks_from ρ.blocks ρ.instrs (operands_of ρ) u.instrs 0 u.blocks ≡ listings_of es

module _ (u : Used) (σ π : Store) (es : List Entry) (says : Says u σ es) (kept : Same u π σ) where
  before : (l : Line) (ρ : Store) → Same (used_after u l) ρ π → Same u ρ σ
  before l ρ s = same_trans u ρ π σ (grown u l ρ π s) kept

  pub says_row : (r : Row) → ((ρ : Store) → Same (used_after u line.Row) ρ π → row_at (row_table ρ) u.rows ≡ r) → Says (used_after u line.Row) π (es ++ (row r ∷ []))
  says_row r is = record {
    rows = λ ρ s. rows_snoc (row_table ρ) u.rows ∙ ap₂ (λ (xs : List Row) (x : Row). xs ++ (x ∷ [])) (says.rows ρ (before line.Row ρ s)) (is ρ s) ∙ sym (rows_row es r);
    blocks = λ ρ s. says.blocks ρ (before line.Row ρ s) ∙ sym (listings_row es r);
  }

  pub says_block : (c : ℕ) → ((ρ : Store) → Same (used_after u line.Block) ρ π → cell 2 ρ.blocks u.blocks 0 ≡ c) → cell 2 π.blocks u.blocks 1 ≡ u.instrs → Says (used_after u line.Block) π (es ++ (block c ∷ []))
  says_block c is start = record {
    rows = λ ρ s. says.rows ρ (before line.Block ρ s) ∙ sym (rows_block es c);
    blocks = λ ρ s. one_more_lem ρ s ∙ ap₂ (λ (xs : List Listing) (x : ℕ). xs ++ (record { code = x; body = [] } ∷ [])) (says.blocks ρ (before line.Block ρ s)) (is ρ s) ∙ sym (listings_block es c);
  }
    where
      one_more_lem : (ρ : Store) → Same (used_after u line.Block) ρ π → blocks_from ρ.blocks ρ.instrs (operands_of ρ) u.instrs 0 (u.blocks + 1) ≡ blocks_from ρ.blocks ρ.instrs (operands_of ρ) u.instrs 0 u.blocks ++ (record { code = cell 2 ρ.blocks u.blocks 0; body = [] } ∷ [])
      one_more_lem ρ s =
          let z : 0 + u.blocks ≡ u.blocks = zero-add u.blocks in
          let at : cell 2 ρ.blocks u.blocks 1 ≡ u.instrs = same_at (2 * (u.blocks + 1)) ρ.blocks π.blocks (2 * u.blocks + 1) (omega arith) s.blocks ∙ start in
          ap (blocks_from ρ.blocks ρ.instrs (operands_of ρ) u.instrs 0) (add-one u.blocks)
          ∙ blocks_block ρ.instrs (operands_of ρ) ρ.blocks u.instrs 0 u.blocks (ap (λ (l : ℕ). cell 2 ρ.blocks l 1) z ∙ at)
          ∙ ap (λ (l : ℕ). blocks_from ρ.blocks ρ.instrs (operands_of ρ) u.instrs 0 u.blocks ++ (record { code = cell 2 ρ.blocks l 0; body = [] } ∷ [])) z

  pub says_instr : (n k : ℕ) (x : Instr) → ((ρ : Store) → Same (used_after u (line.Instruction n k)) ρ π → instr_at ρ.instrs (operands_of ρ) u.instrs ≡ x) → (m : ℕ) → u.blocks ≡ suc m → cell 2 σ.blocks m 1 ≤ u.instrs → Says (used_after u (line.Instruction n k)) π (es ++ (instr x ∷ []))
  says_instr n k x is m some_blocks start = record {
    rows = λ ρ s. says.rows ρ (before (line.Instruction n k) ρ s) ∙ sym (rows_instr es x);
    blocks = λ ρ s. one_more_lem ρ s ∙ ap₂ (λ (y : Instr) (bs : List Listing). lengthened y bs) (is ρ s) (says.blocks ρ (before (line.Instruction n k) ρ s)) ∙ sym (listings_instr es x);
  }
    where
      one_more_lem : (ρ : Store) → Same (used_after u (line.Instruction n k)) ρ π → blocks_from ρ.blocks ρ.instrs (operands_of ρ) (u.instrs + 1) 0 u.blocks ≡ lengthened (instr_at ρ.instrs (operands_of ρ) u.instrs) (blocks_from ρ.blocks ρ.instrs (operands_of ρ) u.instrs 0 u.blocks)
      one_more_lem ρ s =
          let b : Same u ρ σ = before (line.Instruction n k) ρ s in
          let in_use_lem : 2 * m + 1 < 2 * u.blocks = omega arith in
          let at : cell 2 ρ.blocks m 1 ≡ cell 2 σ.blocks m 1 = same_at (2 * u.blocks) ρ.blocks σ.blocks (2 * m + 1) in_use_lem b.blocks in
          let low : cell 2 ρ.blocks (0 + m) 1 ≤ u.instrs = omega (arith, ap (λ (l : ℕ). cell 2 ρ.blocks l 1) (zero-add m)) in
          ap (λ (j : ℕ). blocks_from ρ.blocks ρ.instrs (operands_of ρ) j 0 u.blocks) (add-one u.instrs)
          ∙ ap (blocks_from ρ.blocks ρ.instrs (operands_of ρ) (suc u.instrs) 0) some_blocks
          ∙ blocks_instr ρ.instrs (operands_of ρ) ρ.blocks u.instrs 0 m low
          ∙ ap (λ (j : ℕ). lengthened (instr_at ρ.instrs (operands_of ρ) u.instrs) (blocks_from ρ.blocks ρ.instrs (operands_of ρ) u.instrs 0 j)) (sym some_blocks)

-- ---- where the blocks start
abbrev LastStart : one.Place → Used → List ℕ → Type 0
LastStart at_rows u β = (u.blocks ≡ 0) × (u.instrs ≡ 0)
LastStart in_block u β = (m : ℕ) × (u.blocks ≡ suc m) × (cell 2 β m 1 ≤ u.instrs)
LastStart behind_block u β = (m : ℕ) × (u.blocks ≡ suc m) × (cell 2 β m 1 < u.instrs)

pub record Starts (place : Place) (u : Used) (β : List ℕ) : Type 0 where
  pub first : 0 < u.blocks → cell 2 β 0 1 ≡ 0
  pub rising : (l : ℕ) → suc l < u.blocks → cell 2 β l 1 < cell 2 β (suc l) 1
  pub last : LastStart (place_of place) u β

module _ (u : Used) (β γ : List ℕ) (same : take (2 * u.blocks) γ ≡ take (2 * u.blocks) β) where
  start_same : (l : ℕ) → l < u.blocks → cell 2 γ l 1 ≡ cell 2 β l 1
  start_same l h = let q : 2 * l + 1 < 2 * u.blocks = omega arith in same_at (2 * u.blocks) γ β (2 * l + 1) q same

  pub starts_row : Starts TypeLines u β → Starts TypeLines (used_after u line.Row) γ
  starts_row s = record {
    first = λ h. let z = s.last.0 in absurd (omega arith);
    rising = λ l h. let z = s.last.0 in absurd (omega arith);
    last = s.last;
  }

  pub starts_instr : (n k : ℕ) → Starts InBlock u β → Starts InBlock (used_after u (line.Instruction n k)) γ × Starts BehindBlock (used_after u (line.Instruction n k)) γ
  starts_instr n k s =
      let m : ℕ = s.last.0 in
      let e : u.blocks ≡ suc m = s.last.1 in
      let in_use_lem : m < u.blocks = omega arith in
      let low : cell 2 γ m 1 ≤ u.instrs = let w = s.last.2 in let v = start_same m in_use_lem in omega arith in
      let first : 0 < u.blocks → cell 2 γ 0 1 ≡ 0 = λ h. start_same 0 h ∙ s.first h in
      let rising : (l : ℕ) → suc l < u.blocks → cell 2 γ l 1 < cell 2 γ (suc l) 1 = λ l h. let q : l < u.blocks = omega arith in omega (arith, s.rising l h, start_same l q, start_same (suc l) h) in (
        record { first = first; rising = rising; last = (m, e, omega arith) },
        record { first = first; rising = rising; last = (m, e, omega arith) },
      )

  pub starts_block : (p : Place) → inside_block p ≡ false → Starts p u β → cell 2 γ u.blocks 1 ≡ u.instrs → Starts InBlock (used_after u line.Block) γ
  starts_block TypeLines h s here = record {
    first = λ k. let z = s.last.0 in let w = s.last.1 in omega (arith, ap (λ (l : ℕ). cell 2 γ l 1) z);
    rising = λ l k. let z = s.last.0 in absurd (omega arith);
    last = (u.blocks, add-one u.blocks, omega arith);
  }
  starts_block InBlock h s here = absurd (true≢false h)
  starts_block BehindBlock h s here =
      let m : ℕ = s.last.0 in
      let e : u.blocks ≡ suc m = s.last.1 in
      let in_use_lem : m < u.blocks = omega arith in
      let below : cell 2 γ m 1 < u.instrs = let w = s.last.2 in let v = start_same m in_use_lem in omega arith in
      record {
        first = λ k. let z : 0 < u.blocks = omega arith in start_same 0 z ∙ s.first z;
        rising = rising m e below;
        last = (u.blocks, add-one u.blocks, omega arith);
      }
    where
      rising : (m : ℕ) → u.blocks ≡ suc m → cell 2 γ m 1 < u.instrs → (l : ℕ) → suc l < u.blocks + 1 → cell 2 γ l 1 < cell 2 γ (suc l) 1
      rising m e below l k = go (ltb (suc l) u.blocks) refl
        where
          go : (t : Bool) → ltb (suc l) u.blocks ≡ t → cell 2 γ l 1 < cell 2 γ (suc l) 1
          go true q =
              let a : suc l < u.blocks = ltb-true (suc l) u.blocks q in
              let b : l < u.blocks = omega arith in
              omega (arith, s.rising l a, start_same l b, start_same (suc l) a)
          go false q =
              let a : u.blocks ≤ suc l = ltb-false (suc l) u.blocks q in
              let b : l ≡ m = omega arith in
              let c : suc l ≡ u.blocks = omega arith in
              omega (arith, ap (λ (i : ℕ). cell 2 γ i 1) b, ap (λ (i : ℕ). cell 2 γ i 1) c)
