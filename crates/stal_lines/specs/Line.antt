-- What the library tells of a line that is written into lent memory.
use Rattle.std.specs.Prelude.{ℕ, List}
use Rattle.std.proofs.Math.Option.{Option, none, some}
use Rattle.print.specs.Written.{Written}

-- a code, a length, and what the memory holds then
pub record Told : Type 0 where
  pub code : ℕ
  pub length : ℕ
  pub memory : List ℕ

-- these
abbrev pub told : ℕ → ℕ → List ℕ → Told
told c n m = record { code = c; length = n; memory = m }

-- 0 and the line's length, or 16 and 0 where the memory is too short
unfoldable pub count_of : Option ℕ → List ℕ → Told
count_of (some n) m = told 0 n m
count_of none m = told 16 0 m

-- the same of what was written
abbrev pub told_of : Written → Told
told_of w = count_of w.count w.memory
