-- The program that the tables hold, and the item that an answer names.
use Rattle.std.specs.Prelude.{ℕ, ◌≡◌, cond, List, ltb, eqb}
use Rattle.std.proofs.Math.Option.{Option, none, some}
use Rattle.std.proofs.Math.ListN.{get_elem?}
use Rattle.syntax.specs.Partial.{guarded}
use Rattle.syntax.specs.Syntax.{value}
use Rattle.syntax.specs.Fault.{first_item}
use Rattle.types.specs.Rows.{type_at, types_of}
use Rattle.tables.specs.Tables.{cell, RowTable, rows_in}
use Rattle.valid.specs.Program.{Program}
use Rattle.valid.specs.PassThree.{Judged, faults_of}
use Rattle.valid.specs.Tests.{label_type}
use Rattle.valid_context.specs.Told.{told_of, answer}

-- P's types are those of the first n rows; its labels are the first nb blocks, and each has the type of its block's row (pass two has
-- seen that this is a code row)
pub record Holds (τ : RowTable) (n : ℕ) (β : List ℕ) (nb : ℕ) (P : Program) : Type 0 where
  pub types : P.types ≡ types_of (rows_in τ n)
  pub labels : (l : ℕ) → label_type (get_elem? P.blocks l) ≡ guarded (ltb l nb) (type_at value P.types (cell 2 β l 0))

-- ---- items
-- the item that a number of the code says: 100 for none
unfoldable pub item_said : ℕ → Option ℕ
item_said i = cond (eqb i 100) none (some i)

-- the code's answer to a premise: its least fault k, 0 if it holds and gives x; and the first item of fault 10 at a jump or branch
pub record Answered {A : Type 0} (J : Judged A) (k : ℕ) (x : A) (item : ℕ) : Type 0 where
  pub told : told_of J ≡ answer k x
  pub named : item_said item ≡ cond (eqb k 10) (first_item (faults_of J)) none
