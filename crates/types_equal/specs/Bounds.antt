-- The contexts in which a comparison goes on, and what it relies on: few rows, small sums, room for what is pending.
use Rattle.std.specs.Prelude.{ℕ, zero, suc, ◌+◌, ◌-◌, ◌*◌, ◌≤◌, ◌<◌, List, length, get_or}
use Rattle.tables.specs.Tables.{RowTable}
use Rattle.types_rows.specs.declared.Held.{Held}
use Rattle.types_equal.specs.pending.Pending.{room}
use Rattle.types_equal.specs.declared.pending.Setting.{Setting}
use Rattle.types_equal.specs.declared.pending.Source.{Source}
use Rattle.types_equal.specs.declared.pending.Source.TheVariants.{Own, Given}
use Rattle.types_equal.specs.declared.stack_pairs.Context.{Context}
use Rattle.types_equal.specs.declared.value_pairs.Bodies.{Bodies}
use Rattle.types_equal.specs.declared.value_pairs.Span.{Span}
use Rattle.types_equal.specs.declared.value_pairs.Within.{Within}
use Rattle.types_equal.specs.declared.value_pairs.Within.TheVariants.{Argument, Package}

-- the rows that the two sides and the arguments lead to are few
pub record Tabled (τ : RowTable) (args : List ℕ) (m l r : ℕ) : Type 0 where
  pub top : ℕ
  pub few : top ≤ 514
  pub left : l ≤ top
  pub right : r ≤ top
  pub given : (j : ℕ) → j < m → suc (get_or args j 0) ≤ top

-- what arguments add to the sums of a side
abbrev pub big : ℕ → ℕ
big zero = 0
big (suc m) = 134217728

-- room for the sums of a side: m arguments, raised by `by` past d, at row l
abbrev pub Room : ℕ → ℕ → ℕ → ℕ → Type 0
Room m by d l = by + d + 65536 * l + big m ≤ 2147483648

-- the settings of the two sides
abbrev pub left_of : Context → Setting
left_of k = record { m = k.m; by = k.by; d = k.d; env = k.env }

-- that of the right one
abbrev pub right_of : Context → Setting
right_of k = record { m = 0; by = 0; d = k.d2; env = k.env2 }

-- the context k with a row of an argument on the left: read now, raised by the depth
abbrev pub given_of : List ℕ → Context → Context
given_of E k = record { m = 0; by = k.d; d = 0; env = 2 * length E; d2 = k.d2; env2 = k.env2 }

-- the context k with a row of a source on the left
abbrev pub source_of : List ℕ → Context → Source → Context
source_of E k Own = k
source_of E k Given = given_of E k

-- the context k under a more binders on the left and b more on the right
abbrev pub deeper_of : Context → ℕ → ℕ → Context
deeper_of k a b = record { m = k.m; by = k.by; d = a + k.d; env = k.env; d2 = b + k.d2; env2 = k.env2 }

-- the context k under the letters of two code rows, whose registers start at p and at q
abbrev pub under_of : List ℕ → Context → ℕ → ℕ → Context
under_of ps k p q = deeper_of k (get_or ps (p + 8) 0) (get_or ps (q + 8) 0)

-- that of two code rows with a and b letters, the left one read in environment e and filled by m arguments, the right one read now
abbrev pub filling_of : List ℕ → ℕ → ℕ → ℕ → ℕ → Context
filling_of E m e a b = record { m = m; by = 0; d = a - m; env = e; d2 = b; env2 = 2 * length E }

-- that of an argument's row and another, or of the insides of two packages
abbrev pub inside_of : List ℕ → Context → Within → Context
inside_of E k Argument = given_of E k
inside_of E k Package = deeper_of k 1 1

-- the depths of a context are small enough to grow
pub record Depths (k : Context) : Type 0 where
  pub left : k.d ≤ 2147483648
  pub right : k.d2 ≤ 2147483648

-- small environments of two rows
abbrev pub BothSmall : Held → Held → Type 0
BothSmall l r = (l.env ≤ 65535) × (r.env ≤ 65535)

-- room for the sums of both sides, at rows l and r; few environments or names, and small numbers of environments
pub record Rooms (E : List ℕ) (k : Context) (l r : ℕ) : Type 0 where
  pub left : Room k.m k.by k.d l
  pub right : Room 0 0 k.d2 r
  pub envs : length E ≤ 256
  pub env : k.env ≤ 131072
  pub env2 : k.env2 ≤ 131072

-- the same for the parts of rows l and r, under the letters of these rows
pub record PartRooms (E : List ℕ) (k : Context) (l r : ℕ) : Type 0 where
  pub left : k.by + k.d + 65536 * l + big k.m ≤ 2147549184
  pub right : k.d2 + 65536 * r ≤ 2147549184
  pub left_row : 0 < l
  pub right_row : 0 < r
  pub envs : length E ≤ 256
  pub env : k.env ≤ 131072
  pub env2 : k.env2 ≤ 131072

-- the stacks of two code rows l and r are lower rows, and their registers may stand in a table
pub record BodiesIn (c : Bodies) (l r : ℕ) : Type 0 where
  pub left_stack : c.x < l
  pub left_file : c.p ≤ 65535
  pub right_stack : c.y < r
  pub right_file : c.q ≤ 65535

-- the parts of two rows may stand in a table
pub record SpanIn (s : Span) : Type 0 where
  pub few : s.n ≤ 65535
  pub left : s.p + s.n ≤ 131072
  pub right : s.q + s.n ≤ 131072

-- environments of packages, few and small: no tables of names
pub record EnvsIn (E : List ℕ) (e f : ℕ) : Type 0 where
  pub few : length E ≤ 64
  pub left : e ≤ 65535
  pub right : f ≤ 65535

-- room for what is pending on both sides, in n words: at most a row's number of entries, and more for arguments
abbrev pub Spare : ℕ → ℕ → ℕ → ℕ → Type 0
Spare m l r n = (l + r + room m < n) × (n ≤ 32768)
