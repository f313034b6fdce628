-- The size of a row by its form. That it is the size of crate types is proved (module measure, proofs/Sizes.antt).
use Rattle.std.specs.Prelude.{ℕ, zero, suc, ◌+◌, ◌≤◌, ◌<◌, ◌≡◌, List, Bool, true, false, cond, get_or}
use Rattle.tables.specs.Tables.{RowTable}
use Rattle.types_rows.specs.Read.{value_at, stack_at, is_stack_at, slot_at}
use Rattle.types_rows.specs.declared.Val.{Val}
use Rattle.types_rows.specs.declared.Val.TheVariants.{Int, Junk, ValVar, ValFill, Tuple, Pointer, Code, Hidden}
use Rattle.types_rows.specs.declared.Stk.{Stk}
use Rattle.types_rows.specs.declared.Stk.TheVariants.{Nil, StkVar, StkFill, Push, Join}
use Rattle.std.specs.Prelude.{Option, Some, None}

-- s being the sizes of lower rows
abbrev pub slot_size : (ℕ → ℕ) → Option ℕ → ℕ
slot_size s None = 0
slot_size s (Some t) = s t

-- the sizes of the n parts from p on, added up
unfoldable pub parts_size : (ℕ → ℕ) → List ℕ → Bool → ℕ → ℕ → ℕ → ℕ
parts_size s ps file h p zero = 0
parts_size s ps file h p (suc n) = slot_size s (slot_at file h (get_or ps p 0)) + parts_size s ps file h (suc p) n

-- the sizes of the rows that a value row names
abbrev pub under_v : (ℕ → ℕ) → List ℕ → ℕ → Val → ℕ
under_v s ps h Int = 0
under_v s ps h Junk = 0
under_v s ps h (ValVar k) = 0
under_v s ps h (ValFill j) = 0
under_v s ps h (Tuple p n) = parts_size s ps false h p n
under_v s ps h (Pointer x) = s x
under_v s ps h (Code x p) = s x + parts_size s ps true h p 8
under_v s ps h (Hidden x) = s x

-- the sizes of the rows that a stack row names
abbrev pub under_s : (ℕ → ℕ) → Stk → ℕ
under_s s Nil = 0
under_s s (StkVar k) = 0
under_s s (StkFill j) = 0
under_s s (Push t x) = s t + s x
under_s s (Join x y) = s x + s y

-- the first argument bounds the depth
unfoldable pub size_to : ℕ → RowTable → ℕ → ℕ
size_to zero τ h = 0
size_to (suc n) τ zero = 0
size_to (suc n) τ (suc r) = suc (cond (is_stack_at τ.rows r) (under_s (size_to n τ) (stack_at τ.rows StkVar (suc r))) (under_v (size_to n τ) τ.parts (suc r) (value_at τ.rows ValVar (suc r))))

-- the size of row h: links fall, so this is deep enough
unfoldable pub size_at : RowTable → ℕ → ℕ
size_at τ h = size_to (suc h) τ h

-- row h may be one that is measured, and its n parts from p on may stand in a table
pub record PartsAt (h p n : ℕ) : Type 0 where
  pub named : 0 < h
  pub low : h ≤ 65536
  pub few : n ≤ 65535
  pub within : p + n ≤ 131072

-- each entry of the table of sizes is that of its row, or 0 for a row that is not measured yet
abbrev pub Measured : RowTable → List ℕ → Type 0
Measured τ sizes = (h : ℕ) → (get_or sizes h 0 ≡ 0 → ⊥) → get_or sizes h 0 ≡ size_at τ h
