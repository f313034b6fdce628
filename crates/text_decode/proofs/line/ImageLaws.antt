-- A section of an image is lent and comes back: it is what came back, and the sections beside it are as they were.
-- Assumes nothing.
use mathlib.Core.Path.{◌≡◌}
use mathlib.Core.List.{List}
use Prim.Native.Nat.{ℕ, ◌-◌}
use native.Mathlib.Omega.{arith}
use native.Mathlib.Nat.{le_refl}
use lib.ListN.{length}
use borrow.Rule.Slice.PartMut.{put_mid}
use Rattle.image.specs.declared.Places.{Places}
use Rattle.image.specs.Sections.{Ordered, Outside, row_section, block_section, instr_section, part_section, operand_section, arg_section}
use Rattle.image.proofs.Laws.{Back, returned, before, behind, wider}

module _ (p : Places) (l : List ℕ) (o : Ordered p (length l)) (y : List ℕ) where
  -- ---- among the operands
  -- the arguments came back as y, or the operands did
  pub record ArgsBack (l' : List ℕ) : Type 0 where
    pub size : length l' ≡ length l
    pub kinds : operand_section p l' ≡ operand_section p l
    pub args : arg_section p l' ≡ y
    pub outside : Outside p.operands p.uses l l'

  pub args_back : length y ≡ length (arg_section p l) → ArgsBack (put_mid p.args (p.uses - p.args) l y)
  args_back e =
      let b : Back p.args p.uses l y (put_mid p.args (p.uses - p.args) l y) = returned p.args p.uses l y o.args (omega arith) e in
      record {
        size = b.outside.size;
        kinds = before p.args p.uses l (put_mid p.args (p.uses - p.args) l y) (omega arith) b.outside p.operands p.args o.operands (le_refl p.args);
        args = b.here;
        outside = wider p.args p.uses p.operands p.uses l (put_mid p.args (p.uses - p.args) l y) o.operands (le_refl p.uses) (omega arith) b.outside;
      }

  pub record KindsBack (l' : List ℕ) : Type 0 where
    pub size : length l' ≡ length l
    pub kinds : operand_section p l' ≡ y
    pub args : arg_section p l' ≡ arg_section p l
    pub outside : Outside p.operands p.uses l l'

  pub kinds_back : length y ≡ length (operand_section p l) → KindsBack (put_mid p.operands (p.args - p.operands) l y)
  kinds_back e =
      let b : Back p.operands p.args l y (put_mid p.operands (p.args - p.operands) l y) = returned p.operands p.args l y o.operands (omega arith) e in
      record {
        size = b.outside.size;
        kinds = b.here;
        args = behind p.operands p.args l (put_mid p.operands (p.args - p.operands) l y) b.outside p.args p.uses (le_refl p.args);
        outside = wider p.operands p.args p.operands p.uses l (put_mid p.operands (p.args - p.operands) l y) (le_refl p.operands) o.args (omega arith) b.outside;
      }

  -- ---- the parts of rows
  pub record PartsBack (l' : List ℕ) : Type 0 where
    pub parts : part_section p l' ≡ y
    pub kinds : operand_section p l' ≡ operand_section p l
    pub args : arg_section p l' ≡ arg_section p l
    pub outside : Outside p.parts p.uses l l'

  pub parts_back : length y ≡ length (part_section p l) → PartsBack (put_mid p.parts (p.operands - p.parts) l y)
  parts_back e =
      let l' : List ℕ = put_mid p.parts (p.operands - p.parts) l y in
      let b : Back p.parts p.operands l y l' = returned p.parts p.operands l y o.parts (omega arith) e in
      record {
        parts = b.here;
        kinds = behind p.parts p.operands l l' b.outside p.operands p.args (le_refl p.operands);
        args = behind p.parts p.operands l l' b.outside p.args p.uses o.operands;
        outside = wider p.parts p.operands p.parts p.uses l l' (le_refl p.parts) (omega arith) (omega arith) b.outside;
      }

  -- ---- rows, blocks, instructions
  pub record RowsBack (l' : List ℕ) : Type 0 where
    pub rows : row_section p l' ≡ y
    pub blocks : block_section p l' ≡ block_section p l
    pub instrs : instr_section p l' ≡ instr_section p l
    pub outside : Outside p.rows p.parts l l'

  pub rows_back : length y ≡ length (row_section p l) → RowsBack (put_mid p.rows (p.blocks - p.rows) l y)
  rows_back e =
      let l' : List ℕ = put_mid p.rows (p.blocks - p.rows) l y in
      let b : Back p.rows p.blocks l y l' = returned p.rows p.blocks l y o.rows (omega arith) e in
      record {
        rows = b.here;
        blocks = behind p.rows p.blocks l l' b.outside p.blocks p.instrs (le_refl p.blocks);
        instrs = behind p.rows p.blocks l l' b.outside p.instrs p.parts o.blocks;
        outside = wider p.rows p.blocks p.rows p.parts l l' (le_refl p.rows) (omega arith) (omega arith) b.outside;
      }

  pub record BlocksBack (l' : List ℕ) : Type 0 where
    pub rows : row_section p l' ≡ row_section p l
    pub blocks : block_section p l' ≡ y
    pub instrs : instr_section p l' ≡ instr_section p l
    pub outside : Outside p.rows p.parts l l'

  pub blocks_back : length y ≡ length (block_section p l) → BlocksBack (put_mid p.blocks (p.instrs - p.blocks) l y)
  blocks_back e =
      let l' : List ℕ = put_mid p.blocks (p.instrs - p.blocks) l y in
      let b : Back p.blocks p.instrs l y l' = returned p.blocks p.instrs l y o.blocks (omega arith) e in
      record {
        rows = before p.blocks p.instrs l l' (omega arith) b.outside p.rows p.blocks o.rows (le_refl p.blocks);
        blocks = b.here;
        instrs = behind p.blocks p.instrs l l' b.outside p.instrs p.parts (le_refl p.instrs);
        outside = wider p.blocks p.instrs p.rows p.parts l l' o.rows o.instrs (omega arith) b.outside;
      }

  pub record InstrsBack (l' : List ℕ) : Type 0 where
    pub rows : row_section p l' ≡ row_section p l
    pub blocks : block_section p l' ≡ block_section p l
    pub instrs : instr_section p l' ≡ y
    pub outside : Outside p.rows p.parts l l'

  pub instrs_back : length y ≡ length (instr_section p l) → InstrsBack (put_mid p.instrs (p.parts - p.instrs) l y)
  instrs_back e =
      let l' : List ℕ = put_mid p.instrs (p.parts - p.instrs) l y in
      let b : Back p.instrs p.parts l y l' = returned p.instrs p.parts l y o.instrs (omega arith) e in
      record {
        rows = before p.instrs p.parts l l' (omega arith) b.outside p.rows p.blocks o.rows o.blocks;
        blocks = before p.instrs p.parts l l' (omega arith) b.outside p.blocks p.instrs o.blocks (le_refl p.instrs);
        instrs = b.here;
        outside = wider p.instrs p.parts p.rows p.parts l l' (omega arith) (le_refl p.parts) (omega arith) b.outside;
      }
