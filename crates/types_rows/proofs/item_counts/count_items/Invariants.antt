use mathlib.Core.List.{List}
use Prim.Native.Nat.{ℕ}
use Rattle.types_rows.specs.item_counts.Counts.{SizesFit}
use Rattle.types_rows.proofs.item_counts.Counts.{Filling}
use Rattle.types_rows.proofs.item_counts.count_items.Given as goal

abbrev pub invariant-loop-r : goal.invariant-loop-r
invariant-loop-r l =
    (parts : List ℕ) → SizesFit l.initial.rows parts l.n → Filling l.initial.rows parts l.n l.rows l.r
