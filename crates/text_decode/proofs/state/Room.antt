-- Room for one line more, by the places of the sections.
-- Assumes nothing.
use mathlib.Core.Path.{◌≡◌, refl}
use mathlib.Core.Bool.{Bool, true}
use mathlib.Core.List.{List}
use Prim.Native.Nat.{ℕ, ◌+◌, ◌-◌, ◌*◌, ◌≤◌}
use native.Mathlib.Omega.{arith}
use lib.Dec.{leb}
use lib.ListN.{length}
use Rattle.image.specs.declared.Places.{Places}
use Rattle.image.specs.Sections.{Ordered, row_section, block_section, instr_section, part_section, operand_section, arg_section}
use Rattle.image.proofs.Laws.{part_length}
use borrow.Author.Tests.{leb-true}
use Rattle.text_decode.specs.store.Store.{store_in, RoomFor, Plenty, Few}
use Rattle.text_decode.specs.declared.store.Used.{Used}
use Rattle.text_decode.proofs.store.LineLaws.{room_for}
use Rattle.text_decode.proofs.state.AnswerLaws.{decided}

-- the lengths of the sections
pub record Lengths (p : Places) (l : List ℕ) : Type 0 where
  pub rows : length (row_section p l) ≡ p.blocks - p.rows
  pub blocks : length (block_section p l) ≡ p.instrs - p.blocks
  pub instrs : length (instr_section p l) ≡ p.parts - p.instrs
  pub parts : length (part_section p l) ≡ p.operands - p.parts
  pub operands : length (operand_section p l) ≡ p.args - p.operands
  pub args : length (arg_section p l) ≡ p.uses - p.args

pub lengths : (p : Places) (l : List ℕ) → Ordered p (length l) → Lengths p l
lengths p l o = record {
  rows = part_length p.rows p.blocks l (omega arith);
  blocks = part_length p.blocks p.instrs l (omega arith);
  instrs = part_length p.instrs p.parts l (omega arith);
  parts = part_length p.parts p.operands l (omega arith);
  operands = part_length p.operands p.args l (omega arith);
  args = part_length p.args p.uses l (omega arith);
}

module _ (p : Places) (n : ℕ) (u : Used) where
  -- whether b says that there is room
  abbrev pub Says : Bool → Type 0
  Says b =
      (l ns : List ℕ) → Ordered p (length l) → length ns ≡ n → (b ≡ true → RoomFor u (store_in p l ns)) × (RoomFor u (store_in p l ns) → b ≡ true)

  -- what there is room for, by the places
  pub record Holds : Type 0 where
    pub rows : 4 * (u.rows + 1) ≤ p.blocks - p.rows
    pub parts : 17 * (u.rows + 1) ≤ p.operands - p.parts
    pub operands : 4 * (u.operands + 16) ≤ p.args - p.operands
    pub numbers : u.operands + 16 ≤ n
    pub args : u.args + 128 ≤ p.uses - p.args
    pub instrs : 8 * (u.instrs + 1) ≤ p.parts - p.instrs

  pub holds : (l ns : List ℕ) → Ordered p (length l) → length ns ≡ n → RoomFor u (store_in p l ns) → Holds
  holds l ns o e r =
      let w = lengths p l o in
      record {
        rows = omega (arith, r.rows, w.rows);
        parts = omega (arith, r.parts, w.parts);
        operands = omega (arith, r.operands.kinds, w.operands);
        numbers = omega (arith, r.operands.bases, e);
        args = omega (arith, r.operands.rows, w.args);
        instrs = omega (arith, r.instrs, w.instrs);
      }

  pub by_blocks : 4 * (u.rows + 1) ≤ p.blocks - p.rows → 17 * (u.rows + 1) ≤ p.operands - p.parts
      → 4 * (u.operands + 16) ≤ p.args - p.operands → u.operands + 16 ≤ n → u.args + 128 ≤ p.uses - p.args
      → 8 * (u.instrs + 1) ≤ p.parts - p.instrs → u.args ≤ 32768 → Says (leb (2 * (u.blocks + 1)) (p.instrs - p.blocks))
  by_blocks h1 h2 h3 h4 h5 h6 h7 l ns o e =
      let w = lengths p l o in
      decided (2 * (u.blocks + 1)) (p.instrs - p.blocks)
      (λ h. record {
        rows = omega (arith, w.rows);
        parts = omega (arith, w.parts);
        operands = record { kinds = omega (arith, w.operands); bases = omega (arith, e); rows = omega (arith, w.args); small = omega arith };
        instrs = omega (arith, w.instrs);
        blocks = omega (arith, w.blocks);
      })
      (λ r. let g = r.blocks in omega (arith, w.blocks))

  -- with room for every text
  pub by_plenty : Plenty p n → Few u → Says true
  by_plenty h f l ns o e = (λ w. room_for u (store_in p l ns) (h l ns o e) f, λ r. refl)

-- ---- room for every text
module _ (p : Places) (n : ℕ) where
  pub all_room : 2052 ≤ p.blocks - p.rows → 8721 ≤ p.operands - p.parts → 65600 ≤ p.args - p.operands → 16400 ≤ n → 32896 ≤ p.uses - p.args → 8200 ≤ p.parts - p.instrs → leb 130 (p.instrs - p.blocks) ≡ true → Plenty p n
  all_room h1 h2 h3 h4 h5 h6 h7 l ns o e =
      let w = lengths p l o in
      let h : 130 ≤ p.instrs - p.blocks = leb-true 130 (p.instrs - p.blocks) h7 in
      record {
        rows = omega (arith, w.rows);
        parts = omega (arith, w.parts);
        operands = omega (arith, w.operands);
        numbers = omega (arith, e);
        args = omega (arith, w.args);
        instrs = omega (arith, w.instrs);
        blocks = omega (arith, w.blocks);
      }
