-- No stack row of a text has more than 4,096 items.
use Prim.Native.Nat.{ℕ, zero, suc, ◌+◌, ◌≤◌}
use native.Mathlib.Omega.{arith}
use mathlib.Core.Path.{◌≡◌, refl, ap}
use mathlib.Core.Bool.{Bool, true, false}
use mathlib.Core.List.{List}
use lib.Dec.{ltb}
use borrow.Author.Tests.{ltb-true, ltb-false}
use Rattle.types.specs.Types.{items}
use Rattle.tables.specs.Tables.{RowTable, cell}
use Rattle.types_rows.specs.Clear.{RowsClear}
use Rattle.types_rows.specs.Read.{tab, mean_s}
use Rattle.types_rows.proofs.Laws.{stack_is}
use Rattle.types_rows.proofs.item_counts.Counts.{items_size}
use Rattle.types_rows.proofs.measure.Sizes.{size_in}
use Rattle.types_pass_two.proofs.Laws.{size_clear}
use Rattle.valid_pass_three.proofs.body.Flat.{made_nil}

module _ (rows parts : List ℕ) (n : ℕ) (int_row : cell 4 rows n 0 ≡ 0) (junk_row : cell 4 rows (n + 1) 0 ≡ 1) where
  abbrev τ : RowTable
  τ = tab rows parts

  pub few_items : RowsClear τ n → (x : ℕ) → x ≤ n + 2 → items (mean_s τ x) ≤ 4096
  unfolding items
  few_items c x h = go x (ltb n x) refl
    where
      go : (y : ℕ) (b : Bool) → ltb n x ≡ b → items (mean_s τ x) ≤ 4096
      go y true e = let q = ap items (made_nil rows parts n int_row junk_row x (ltb-true n x e) h) in omega arith
      go y false e = low x (ltb-false n x e)
        where
          low : (z : ℕ) → z ≤ n → items (mean_s τ z) ≤ 4096
          low zero l = let q = ap items (stack_is τ 0) in omega arith
          low (suc r) l = let i = items_size τ (suc r) in let s = size_in τ r in let k = size_clear τ n c r l in omega arith
