-- What is read of a block's row.
use Rattle.std.specs.Prelude.{ℕ, zero, suc, ◌≤◌, ◌<◌, ◌≡◌, Bool, true, false, ◌&&◌, List, Option, Some, None}
use Rattle.syntax.specs.Syntax.{stack, Instr}
use Rattle.types.specs.Types.{Ty, tuple, nil, push, gap}
use Rattle.types.specs.Equal.{same}
use Rattle.tables.specs.Tables.{RowTable, letters_at}
use Rattle.types_rows.specs.Read.{mean_v, mean_s, parts_of, CountedTo}
use Rattle.valid.specs.Program.{Block}
use Rattle.valid.specs.Rules.{entry_regs, declared}
use Rattle.valid_scope.specs.declared.entry.Samples.{Samples}

-- k registers that are not named
unfoldable pub gaps : ℕ → Ty stack
gaps zero = nil
gaps (suc k) = gap (gaps k)

-- r1 before other registers: whether it is fit where the others are not named
abbrev pub FitFirst : (Ty stack → Ty stack) → Bool → Type 0
FitFirst r1 b = (g : Ty stack) → same (r1 g) (entry_regs (declared (r1 g))) ≡ b && same g (gaps 7)

-- r1 is no tuple: it declares no samples, and is not fit
pub record NoTuple (r1 : Ty stack → Ty stack) : Type 0 where
  pub count : (g : Ty stack) → 0 ≡ declared (r1 g)
  pub fit : FitFirst r1 false

-- r1 is the tuple, and declares its components as samples
pub record IsTuple (τ : RowTable) (r1 : Ty stack → Ty stack) (x : Samples) : Type 0 where
  pub is : push (tuple (parts_of (mean_v τ) τ.parts false x.row x.start x.count)) ≡ r1
  pub named : 0 < x.row
  pub low : x.row ≤ 65536
  pub file : x.start ≤ 65535
  pub few : x.count ≤ 65535

-- r1 before other registers: which tuple it is, if it is one
pub record Declares (τ : RowTable) (r1 : Ty stack → Ty stack) (o : Option Samples) : Type 0 where
  pub no : o ≡ None → NoTuple r1
  pub yes : (x : Samples) → o ≡ Some x → IsTuple τ r1 x

-- row h may be a code row with the stack x, whose items are counted, and its registers at p
pub record CodeAt (τ : RowTable) (h x p : ℕ) : Type 0 where
  pub named : 0 < h
  pub low : h ≤ 65536
  pub lower : x < h
  pub file : p ≤ 65535
  pub counted : CountedTo τ x

-- the block of code row h with the stack x and its registers at p
abbrev pub block_at : RowTable → ℕ → ℕ → ℕ → List Instr → Block
block_at τ h x p xs = record { letters = letters_at τ.parts p; sp = mean_s τ x; regs = parts_of (mean_v τ) τ.parts true h p 8; body = xs }
