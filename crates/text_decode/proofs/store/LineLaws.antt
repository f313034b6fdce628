-- Laws of one line: what its fields say and what is stored of them make what the tables then say.
-- Assumes nothing.
use mathlib.Core.Path.{◌≡◌, refl, ap, ap₂, sym, ◌∙◌}
use mathlib.Core.Bool.{Bool, true, false, ◌&&◌, cond}
use mathlib.Core.List.{List, [], ◌∷◌}
use mathlib.Core.Option.{none, some}
use Prim.Native.Nat.{ℕ, ◌+◌, ◌-◌, ◌*◌, ◌<◌, ◌≤◌, zero-le}
use native.Mathlib.Omega.{arith}
use native.Mathlib.Nat.{le_refl}
use lib.Dec.{eqb, ltb, leb, lit<}
use lib.ListN.{length, get_or, take}
use lib.Seq.{sets}
use borrow.Author.Tests.{lt-ltb, le-ltb, ltb-true, ltb-false, eq-eqb, ne_eqb, eqb-true, eqb-false, le-leb, lt-leb}
use Rattle.syntax.specs.Syntax
use Rattle.syntax.specs.Syntax.{Operand, Instr, Entry, row, block, instr}
use Rattle.text.specs.Bytes.{fields_of}
use Rattle.text.specs.Grammar.{forms, entry_of}
use Rattle.tables.specs.Tables.{cell, row_from, row_at, OperandTable, operands_at, instr_at}
use Rattle.tables.proofs.Spans.{same_less, same_at, same_sets, sets_at}
use Rattle.text_fields.specs.names.Names.{form_at}
use Rattle.text_decode.specs.line.Forms.{form_cell, fewest, instr_with, entry_with}
use Rattle.text_decode.specs.line.Answers.{SameOperands, operand_table, FormIs}
use Rattle.std.specs.Prelude.{Some, None}
use Rattle.text_decode.specs.declared.line.Said.{Said}
use Rattle.text_decode.proofs.line.OperandLaws.{same_fewer}
use Rattle.text_decode.specs.store.Store.{Store, store, row_table, operands_of, RoomFor, Room, Few, Same}
use Rattle.text_decode.specs.store.Lines.{used_after, ends_block, Listed, LineIs, NoForm, Stored}
use Rattle.text_decode.specs.declared.store.Used.{Used}
use Rattle.text_decode.specs.declared.store.Line.{Line}
use Rattle.text_decode.specs.declared.store.Line.TheVariants.{Row, Block, Instruction, Last}
use Rattle.text_decode.proofs.store.EntryLaws.{unnamed, last_is, instr_is}

pub same_refl : (u : Used) (σ : Store) → Same u σ σ
same_refl u σ = record {
  rows = refl;
  parts = refl;
  operands = record { kinds = refl; numbers = refl; args = refl };
  instrs = refl;
  blocks = refl;
}

-- tables with room for every text have room for one line more
pub room_for : (u : Used) (σ : Store) → Room σ → Few u → RoomFor u σ
room_for u σ r f = record {
  rows = omega (arith, r.rows, f.rows);
  parts = omega (arith, r.parts, f.rows);
  operands = record {
    kinds = omega (arith, r.operands, f.operands, f.instrs);
    bases = omega (arith, r.numbers, f.operands, f.instrs);
    rows = omega (arith, r.args, f.args);
    small = omega (arith, f.args);
  };
  instrs = omega (arith, r.instrs, f.instrs);
  blocks = omega (arith, r.blocks, f.blocks);
}

-- a store that changes what is past those in use
grown_instr : (u : Used) (n m : ℕ) (σ π : Store) → Same (used_after u (Instruction n m)) σ π → Same u σ π
grown_instr u n m σ π s = record {
  rows = s.rows;
  parts = s.parts;
  operands = same_fewer (operands_of σ) (operands_of π) u.operands (u.operands + n) u.args (u.args + m) (omega arith) (omega arith) s.operands;
  instrs = same_less (8 * u.instrs) (8 * (u.instrs + 1)) σ.instrs π.instrs (omega arith) s.instrs;
  blocks = s.blocks;
}

pub grown : (u : Used) (l : Line) (σ π : Store) → Same (used_after u l) σ π → Same u σ π
grown u Row σ π s = record {
  rows = same_less (4 * u.rows) (4 * (u.rows + 1)) σ.rows π.rows (omega arith) s.rows;
  parts = same_less (17 * u.rows) (17 * (u.rows + 1)) σ.parts π.parts (omega arith) s.parts;
  operands = s.operands;
  instrs = s.instrs;
  blocks = s.blocks;
}
grown u Block σ π s = record {
  rows = s.rows;
  parts = s.parts;
  operands = s.operands;
  instrs = s.instrs;
  blocks = same_less (2 * u.blocks) (2 * (u.blocks + 1)) σ.blocks π.blocks (omega arith) s.blocks;
}
grown u (Instruction n m) σ π s = grown_instr u n m σ π s
grown u (Last n m) σ π s = grown_instr u n m σ π s

-- ---- the entry of a form, by its place
module _ (code a b c d : ℕ) (ps : List ℕ) (vs : List Operand) where
  row_entry : code < 11 → entry_with code a b c d ps vs ≡ row (row_from ps code a b)
  unfolding entry_with
  row_entry h = simp (lt-ltb code 11 h)

  block_entry : code ≡ 11 → entry_with code a b c d ps vs ≡ block a
  unfolding entry_with
  block_entry h = let n : 11 ≤ code = omega arith in simp (le-ltb code 11 n, eq-eqb code 11 h)

  instr_entry : 11 < code → entry_with code a b c d ps vs ≡ instr (instr_with (code - 12) a b c d vs)
  unfolding entry_with
  instr_entry h =
      let n : 11 ≤ code = omega arith in
      let m : eqb code 11 ≡ false = ne_eqb code 11 (λ w. omega arith) in
      simp (le-ltb code 11 n, m)

-- ---- a line of no form
module _ (line : List ℕ) (u : Used) (σ : Store) (code : ℕ) (fs : List (List ℕ)) (is : entry_of (fields_of line) ≡ form_at forms code fs) where
  -- whatever was written past what is in use
  pub line_none : (π : Store) → Same u π σ → form_at forms code fs ≡ none → NoForm line u σ π
  line_none π k e = record { kept = k; said = sym (is ∙ e) }

  pub line_unnamed : 36 ≤ code → NoForm line u σ σ
  line_unnamed h = line_none σ (same_refl u σ) (unnamed code fs h)

  module _ (parts' operands' numbers' args' : List ℕ) where
    pub line_bad : FormIs code fs (17 * u.rows) u.operands u.args σ.parts parts' (operands_of σ) (operand_table operands' numbers' args') None → NoForm line u σ (store σ.rows parts' operands' numbers' args' σ.instrs σ.blocks)
    line_bad form =
        line_none (store σ.rows parts' operands' numbers' args' σ.instrs σ.blocks)
        (record { rows = refl; parts = form.kept_parts; operands = form.kept_operands; instrs = refl; blocks = refl })
        (sym form.read)

    module _ (s : Said) (form : FormIs code fs (17 * u.rows) u.operands u.args σ.parts parts' (operands_of σ) (operand_table operands' numbers' args') (Some s)) (two : 2 * s.args ≤ length line) (room : RoomFor u σ) where
      same_operands : SameOperands (u.operands + s.count) (u.args + s.args) (operand_table operands' numbers' args') (operand_table operands' numbers' args')
      same_operands = record { kinds = refl; numbers = refl; args = refl }

      -- the entry, whatever the parts and operands past those in use
      entry_by_lem : (ps : List ℕ) (ω : OperandTable) → take (17 * u.rows + 17) ps ≡ take (17 * u.rows + 17) parts' → SameOperands
          (u.operands + s.count) (u.args + s.args) ω (operand_table operands' numbers' args') → some (entry_with code s.a s.b
          s.c s.d ps (operands_at ω u.operands s.count)) ≡ entry_of (fields_of line)
      entry_by_lem ps ω p o = form.read.says ps ω p o ∙ sym is

      good_row : code < 11 → LineIs line u σ (store (sets σ.rows (4 * u.rows) (code ∷ s.a ∷ s.b ∷ [])) parts' operands' numbers' args' σ.instrs σ.blocks) Row
      unfolding row_at
      good_row h = record {
        kept = record {
          rows = same_sets (4 * u.rows) σ.rows (4 * u.rows) (code ∷ s.a ∷ s.b ∷ []) (le_refl (4 * u.rows));
          parts = form.kept_parts;
          operands = form.kept_operands;
          instrs = refl;
          blocks = refl;
        };
        few = zero-le;
        carried = zero-le;
        said = row_said;
        last = ap ends_block (row_said σ' (same_refl (used_after u Row) σ'));
        starts = λ w. let z : ◌≡◌ {A = ℕ} 0 1 = cc in absurd (omega arith);
        listed = tt;
      }
        where
          σ' : Store
          σ' = store (sets σ.rows (4 * u.rows) (code ∷ s.a ∷ s.b ∷ [])) parts' operands' numbers' args' σ.instrs σ.blocks

          cells : (ρ : Store) → Same (used_after u Row) ρ σ' → (k : ℕ) → k < 3 → cell 4 ρ.rows u.rows k ≡ get_or (code ∷ s.a ∷ s.b ∷ []) k 0
          cells ρ t k l =
              same_at (4 * (u.rows + 1)) ρ.rows σ'.rows (4 * u.rows + k) (omega arith) t.rows
              ∙ sets_at σ.rows (4 * u.rows) (code ∷ s.a ∷ s.b ∷ []) k (omega (arith, room.rows)) l

          row_said : (ρ : Store) → Same (used_after u Row) ρ σ' → some (row (row_at (row_table ρ) u.rows)) ≡ entry_of (fields_of line)
          row_said ρ t =
              let is_row : row_at (row_table ρ) u.rows ≡ row_from ρ.parts code s.a s.b = simp (cells ρ t 0 (lit< tt), cells ρ t 1 (lit< tt), cells ρ t 2 (lit< tt)) in
              let p : take (17 * u.rows + 17) ρ.parts ≡ take (17 * u.rows + 17) parts' = same_less (17 * u.rows + 17) (17 * (u.rows + 1)) ρ.parts parts' (omega arith) t.parts in
              ap (λ (x : Syntax.Row). some (row x)) is_row
              ∙ ap some (sym (row_entry code s.a s.b s.c s.d ρ.parts (operands_at (operand_table operands' numbers' args') u.operands s.count) h))
              ∙ entry_by_lem ρ.parts (operand_table operands' numbers' args') p same_operands

      good_block : code ≡ 11 → LineIs line u σ (store σ.rows parts' operands' numbers' args' σ.instrs (sets σ.blocks (2 * u.blocks) (s.a ∷ u.instrs ∷ []))) Block
      good_block h = record {
        kept = record {
          rows = refl;
          parts = form.kept_parts;
          operands = form.kept_operands;
          instrs = refl;
          blocks = same_sets (2 * u.blocks) σ.blocks (2 * u.blocks) (s.a ∷ u.instrs ∷ []) (le_refl (2 * u.blocks));
        };
        few = zero-le;
        carried = zero-le;
        said = block_said;
        last = ap ends_block (block_said σ' (same_refl (used_after u Block) σ'));
        starts = λ w. sets_at σ.blocks (2 * u.blocks) (s.a ∷ u.instrs ∷ []) 1 (omega (arith, room.blocks)) (lit< tt);
        listed = tt;
      }
        where
          σ' : Store
          σ' = store σ.rows parts' operands' numbers' args' σ.instrs (sets σ.blocks (2 * u.blocks) (s.a ∷ u.instrs ∷ []))

          block_said : (ρ : Store) → Same (used_after u Block) ρ σ' → some (block (cell 2 ρ.blocks u.blocks 0)) ≡ entry_of (fields_of line)
          block_said ρ t =
              let c : cell 2 ρ.blocks u.blocks 0 ≡ s.a = same_at (2 * (u.blocks + 1)) ρ.blocks σ'.blocks (2 * u.blocks + 0) (omega arith) t.blocks ∙ sets_at σ.blocks (2 * u.blocks) (s.a ∷ u.instrs ∷ []) 0 (omega (arith, room.blocks)) (lit< tt) in
              ap (λ (x : ℕ). some (block x)) c
              ∙ ap some (sym (block_entry code s.a s.b s.c s.d parts' (operands_at (operand_table operands' numbers' args') u.operands s.count) h))
              ∙ entry_by_lem parts' (operand_table operands' numbers' args') refl same_operands

      module _ (h : 11 < code) (k : code < 36) where
        abbrev with_instr : Store
        with_instr = store σ.rows parts' operands' numbers' args' (sets σ.instrs (8 * u.instrs) ((code - 12) ∷ s.a ∷ s.b ∷ s.c ∷ s.d ∷ u.operands ∷ s.count ∷ [])) σ.blocks

        instr_cells : (ρ : Store) → Same (used_after u (Instruction s.count s.args)) ρ with_instr → (i : ℕ) → i < 7 → cell 8 ρ.instrs u.instrs i ≡ get_or ((code - 12) ∷ s.a ∷ s.b ∷ s.c ∷ s.d ∷ u.operands ∷ s.count ∷ []) i 0
        instr_cells ρ t i l =
            same_at (8 * (u.instrs + 1)) ρ.instrs with_instr.instrs (8 * u.instrs + i) (omega arith) t.instrs
            ∙ sets_at σ.instrs (8 * u.instrs) ((code - 12) ∷ s.a ∷ s.b ∷ s.c ∷ s.d ∷ u.operands ∷ s.count ∷ []) i (omega (arith, room.instrs)) l

        instr_said : (ρ : Store) → Same (used_after u (Instruction s.count s.args)) ρ with_instr → some (instr (instr_at ρ.instrs (operands_of ρ) u.instrs)) ≡ entry_of (fields_of line)
        unfolding instr_at
        instr_said ρ t =
            let back : (code - 12) + 12 ≡ code = omega arith in
            let enough : fewest (form_cell ((code - 12) + 12) 4) ≤ s.count = omega (arith, form.read.enough, ap (λ (j : ℕ). fewest (form_cell j 4)) back) in
            let at : (i : ℕ) → i < 7 → cell 8 ρ.instrs u.instrs i ≡ get_or ((code - 12) ∷ s.a ∷ s.b ∷ s.c ∷ s.d ∷ u.operands ∷ s.count ∷ []) i 0 = instr_cells ρ t in
            let is_instr : instr_at ρ.instrs (operands_of ρ) u.instrs ≡ instr_with (code - 12) s.a s.b s.c s.d
            (operands_at (operands_of ρ) u.operands s.count) = simp (
              at 0 (lit< tt),
              at 1 (lit< tt),
              at 2 (lit< tt),
              at 3 (lit< tt),
              at 4 (lit< tt),
              at 5 (lit< tt),
              at 6 (lit< tt),
            ) (instr_is s.a s.b s.c s.d (operands_of ρ) u.operands (code - 12)
            s.count (omega arith) enough) in
            ap (λ (x : Instr). some (instr x)) is_instr
            ∙ ap some (sym (instr_entry code s.a s.b s.c s.d parts' (operands_at (operands_of ρ) u.operands s.count) h))
            ∙ entry_by_lem parts' (operands_of ρ) refl t.operands

        last_flag : ends_block (entry_of (fields_of line)) ≡ (leb 21 (code - 12) && ltb (code - 12) 23)
        last_flag =
            let vs : List Operand = operands_at (operand_table operands' numbers' args') u.operands s.count in
            ap ends_block (sym (entry_by_lem parts' (operand_table operands' numbers' args') refl same_operands))
            ∙ ap (λ (e : Entry). ends_block (some e)) (instr_entry code s.a s.b s.c s.d parts' vs h)
            ∙ last_is s.a s.b s.c s.d (code - 12) vs (omega arith)

        instr_kept : Same u with_instr σ
        instr_kept = record {
          rows = refl;
          parts = form.kept_parts;
          operands = form.kept_operands;
          instrs = same_sets (8 * u.instrs) σ.instrs (8 * u.instrs) ((code - 12) ∷ s.a ∷ s.b ∷ s.c ∷ s.d ∷ u.operands ∷ s.count ∷ []) (le_refl (8 * u.instrs));
          blocks = refl;
        }

        instr_listed : Listed u with_instr (Instruction s.count s.args)
        instr_listed =
            let at : (i : ℕ) → i < 7 → cell 8 with_instr.instrs u.instrs i ≡ get_or ((code - 12) ∷ s.a ∷ s.b ∷ s.c ∷ s.d ∷ u.operands ∷ s.count ∷ []) i 0 = instr_cells with_instr (same_refl (used_after u (Instruction s.count s.args)) with_instr) in
            ap₂ (λ (a b : ℕ). a + b) (at 5 (lit< tt)) (at 6 (lit< tt))

        good_inside : (leb 21 (code - 12) && ltb (code - 12) 23) ≡ false → LineIs line u σ with_instr (Instruction s.count s.args)
        good_inside m = record {
          kept = instr_kept;
          few = form.read.few;
          carried = two;
          said = instr_said;
          last = sym (last_flag ∙ m);
          starts = λ w. let z : ◌≡◌ {A = ℕ} 0 1 = cc in absurd (omega arith);
          listed = instr_listed;
        }

        good_last : (leb 21 (code - 12) && ltb (code - 12) 23) ≡ true → LineIs line u σ with_instr (Last s.count s.args)
        good_last m = record {
          kept = instr_kept;
          few = form.read.few;
          carried = two;
          said = instr_said;
          last = sym (last_flag ∙ m);
          starts = λ w. let z : ◌≡◌ {A = ℕ} 0 1 = cc in absurd (omega arith);
          listed = instr_listed;
        }

      pub line_good : (rows' instrs' blocks' : List ℕ) (l : Line) → code < 36 → Stored code s u σ.rows σ.instrs σ.blocks rows' instrs' blocks' l → LineIs line u σ (store rows' parts' operands' numbers' args' instrs' blocks') l
      line_good rows' instrs' blocks' l k t = go (ltb code 11) (eqb code 11) refl refl
        where
          inside : (h : 11 < code) (z w : Bool) → ltb code 33 ≡ z → ltb code 35 ≡ w → l ≡ cond z (Instruction s.count s.args) (cond w (Last s.count s.args) (Instruction s.count s.args)) → LineIs line u σ (with_instr h k) l
          inside h true w g f d =
              let m = ltb-true code 33 g in
              rw d (good_inside h k (simp (lt-leb 21 (code - 12) (omega arith))))
          inside h false true g f d =
              let m = ltb-false code 33 g in
              let n = ltb-true code 35 f in
              rw d (good_last h k (simp (le-leb 21 (code - 12) (omega arith), lt-ltb (code - 12) 23 (omega arith))))
          inside h false false g f d =
              let m = ltb-false code 33 g in
              let n = ltb-false code 35 f in
              rw d (good_inside h k (simp (le-leb 21 (code - 12) (omega arith), le-ltb (code - 12) 23 (omega arith))))

          go : (x y : Bool) → ltb code 11 ≡ x → eqb code 11 ≡ y → LineIs line u σ (store rows' parts' operands' numbers' args' instrs' blocks') l
          go true y e f =
              let h : code < 11 = ltb-true code 11 e in
              let n : eqb code 11 ≡ false = ne_eqb code 11 (λ w. omega arith) in
              let m : ltb 11 code ≡ false = le-ltb 11 code (omega arith) in
              let a : rows' ≡ sets σ.rows (4 * u.rows) (code ∷ s.a ∷ s.b ∷ []) = t.row ∙ simp e in
              let b : instrs' ≡ σ.instrs = t.instr ∙ simp m in
              let c : blocks' ≡ σ.blocks = t.block ∙ simp n in
              let d : l ≡ Row = t.line ∙ simp e in
              rw (a, b, c, d) (good_row h)
          go false true e f =
              let h : code ≡ 11 = eqb-true code 11 f in
              let m : ltb 11 code ≡ false = le-ltb 11 code (omega arith) in
              let a : rows' ≡ σ.rows = t.row ∙ simp e in
              let b : instrs' ≡ σ.instrs = t.instr ∙ simp m in
              let c : blocks' ≡ sets σ.blocks (2 * u.blocks) (s.a ∷ u.instrs ∷ []) = t.block ∙ simp f in
              let d : l ≡ Block = t.line ∙ simp (e, f) in
              rw (a, b, c, d) (good_block h)
          go false false e f =
              let h : 11 < code = let w = ltb-false code 11 e in let q = eqb-false code 11 f in omega arith in
              let a : rows' ≡ σ.rows = t.row ∙ simp e in
              let b : instrs' ≡ sets σ.instrs (8 * u.instrs) ((code - 12) ∷ s.a ∷ s.b ∷ s.c ∷ s.d ∷ u.operands ∷ s.count ∷ []) = t.instr ∙ simp (lt-ltb 11 code h) in
              let c : blocks' ≡ σ.blocks = t.block ∙ simp f in
              rw (a, b, c) (inside h (ltb code 33) (ltb code 35) refl refl (t.line ∙ simp (e, f)))
