-- A stack row under way: the rows that are still to be read, and what the next item is.
use Rattle.std.specs.Prelude.{ℕ, zero, suc, ◌+◌, ◌-◌, ◌*◌, ◌/◌, ◌%◌, ◌≤◌, ◌<◌, ◌≡◌, Bool, true, false, ◌&&◌, cond, List, [], map, ltb, length, get_or, Option, Some, None}
use Rattle.syntax.specs.Syntax.{value, stack}
use Rattle.types.specs.Types.{Ty, nil, push, svar, join, Arg, meets}
use Rattle.tables.specs.Tables.{RowTable}
use Rattle.types_rows.specs.declared.Stk.{Stk}
use Rattle.types_rows.specs.declared.Stk.TheVariants.{Nil, StkVar, StkFill, Push, Join}
use Rattle.types_rows.specs.Read.{is_stack_at, mean_v, mean_s, lift, value_under, stack_under}
use Rattle.types_equal.specs.declared.pending.Form.{Form}
use Rattle.types_equal.specs.declared.pending.Form.TheVariants.{Skip, One, Two, Top, Var as VarTop}
use Rattle.types_equal.specs.declared.pending.Next.{Next}
use Rattle.types_equal.specs.declared.pending.Next.TheVariants.{End, Row, Var as VarNext}
use Rattle.types_equal.specs.declared.pending.Side.{Side}
use Rattle.types_equal.specs.declared.pending.Side.TheVariants.{Left, Right}
use Rattle.types_equal.specs.declared.pending.Source.{Source}
use Rattle.types_equal.specs.declared.pending.Source.TheVariants.{Own, Given}

-- ---- two lists in one: entry k of the left one in the low 16 bits of word k, of the right one in the high 16 bits
-- the half of a word that is a side's
unfoldable pub half : Side → ℕ → ℕ
half Left w = w % 65536
half Right w = w / 65536

-- the other side
abbrev pub other : Side → Side
other Left = Right
other Right = Left

-- the list of a side
unfoldable pub list_of : Side → List ℕ → List ℕ
list_of b ws = map (half b) ws

-- ---- an entry: a row in its context, or, from 32768 on, a row of an argument, raised by d
module _ (τ : RowTable) (A : List Arg) (ρ : ℕ → ℕ) (d : ℕ) where
  -- the stack type that an entry stands for
  unfoldable pub entry_type : ℕ → Ty stack
  entry_type e = cond (ltb e 32768) (stack_under τ A ρ d e) (stack_under τ [] (lift d) 0 (e - 32768))

  -- the first n entries, the last of them on top
  unfoldable pub pending_type : List ℕ → ℕ → Ty stack
  pending_type ws zero = nil
  pending_type ws (suc n) = join (entry_type (get_or ws n 0)) (pending_type ws n)

-- no argument of the wrong kind fills a variable of it
module _ (τ : RowTable) (A : List Arg) (d : ℕ) where
  -- no argument of the wrong kind fills a variable of an entry
  unfoldable pub entry_meets : ℕ → Bool
  entry_meets e = cond (ltb e 32768) (meets A d (mean_s τ e)) true

  -- nor of the first n entries
  unfoldable pub pending_meets : List ℕ → ℕ → Bool
  pending_meets ws zero = true
  pending_meets ws (suc n) = entry_meets (get_or ws n 0) && pending_meets ws n

-- ---- how far the entries reach: rows fall, so entry i and its row together are at most the row l that was read first; m arguments
-- entry i of the list, e, within that bound
abbrev pub Low : ℕ → ℕ → ℕ → ℕ → Type 0
Low m l i e = (e < 32768 → i + e ≤ l) × (32768 ≤ e → (0 < m) × (e ≤ 33282) × (i + e ≤ 33282 + l))

-- the first n entries are within it
abbrev pub Pends : ℕ → ℕ → List ℕ → ℕ → Type 0
Pends m l ws n = (i : ℕ) → i < n → Low m l i (get_or ws i 0)

-- the entries that arguments may take
abbrev pub room : ℕ → ℕ
room zero = 0
room (suc m) = 514

-- the m argument rows are among 514
abbrev pub Givens : List ℕ → ℕ → Type 0
Givens args m = (j : ℕ) → j < m → suc (get_or args j 0) ≤ 514

-- what is lent to read a stack: m arguments that are few rows, and n words, more than the arguments' entries
pub record Lent (args : List ℕ) (m n : ℕ) : Type 0 where
  pub given : Givens args m
  pub enough : room m < n
  pub short : n ≤ 32768

-- what is pending in these words, i entries on the left and j on the right, is low enough for them
pub record PendsBoth (m : ℕ) (pending : List ℕ) (i j : ℕ) : Type 0 where
  pub left : Pends m (length pending - suc (room m)) (list_of Left pending) i
  pub right : Pends 0 (length pending - 1) (list_of Right pending) j

-- ---- what falls while entries are read
-- an entry falls from a row in its context to one of an argument, and then by rows
unfoldable pub weight : ℕ → ℕ
weight e = cond (ltb e 32768) (e + 515) (e - 32768)

-- 3 to the n
unfoldable pub power : ℕ → ℕ
power zero = 1
power (suc n) = 3 * power n

-- the weights of the first n entries, so that two lower entries weigh less than one
unfoldable pub mass : List ℕ → ℕ → ℕ
mass ws zero = 0
mass ws (suc n) = power (weight (get_or ws n 0)) + mass ws n

-- ---- an entry by its form
-- an argument row in the place of its variable
abbrev pub arg_form : List ℕ → ℕ → Option Form
arg_form rows a = cond (is_stack_at rows a) (Some (One (32769 + a))) None

-- a row in its context
abbrev pub own_form : List ℕ → List ℕ → Stk → Option Form
own_form rows args Nil = Some Skip
own_form rows args (StkVar k) = Some (VarTop k)
own_form rows args (StkFill j) = arg_form rows (get_or args j 0)
own_form rows args (Push t x) = Some (Top Own t x)
own_form rows args (Join x y) = Some (Two x y)

-- a row of an argument
abbrev pub given_form : Stk → Form
given_form Nil = Skip
given_form (StkVar k) = VarTop k
given_form (StkFill j) = Skip
given_form (Push t x) = Top Given t (32768 + x)
given_form (Join x y) = Two (32768 + x) (32768 + y)

-- ---- a value row t on top
module _ (τ : RowTable) (A : List Arg) (ρ : ℕ → ℕ) (d : ℕ) where
  -- its type
  abbrev pub row_type : Source → ℕ → Ty value
  row_type Own t = value_under τ A ρ d t
  row_type Given t = value_under τ [] (lift d) 0 t

  -- no argument of the wrong kind fills a variable of it
  abbrev pub row_meets : Source → ℕ → Bool
  row_meets Own t = meets A d (mean_v τ t)
  row_meets Given t = true

-- with n entries pending, it is within the bound l
abbrev pub RowLow : ℕ → Source → ℕ → ℕ → ℕ → Type 0
RowLow m Own l n t = n + t ≤ l
RowLow m Given l n t = (0 < m) × (t < 514) × (n + t ≤ 514 + l)

-- x is lower than e
abbrev pub Lower : ℕ → ℕ → ℕ → Type 0
Lower m e x = (weight x < weight e) × ((l i : ℕ) → Low m l i e → Low m l (suc i) x)

module _ (τ : RowTable) (A : List Arg) (ρ : ℕ → ℕ) (d m e : ℕ) where
  -- what each form says of entry e
  abbrev pub FormOf : Option Form → Type 0
  FormOf None = (entry_meets τ A d e ≡ false) × (0 < m)
  FormOf (Some Skip) = (entry_type τ A ρ d e ≡ nil) × (entry_meets τ A d e ≡ true)
  FormOf (Some (One x)) = (entry_type τ A ρ d e ≡ entry_type τ A ρ d x) × (entry_meets τ A d e ≡ entry_meets τ A d x) × (weight x < weight e) × ((l i : ℕ) → Low m l i e → Low m l i x)
  FormOf (Some (Two x y)) = (entry_type τ A ρ d e ≡ join (entry_type τ A ρ d x) (entry_type τ A ρ d y)) × (entry_meets τ A d e ≡ entry_meets τ A d x && entry_meets τ A d y) × Lower m e x × Lower m e y
  FormOf (Some (Top s t x)) =
      (entry_type τ A ρ d e ≡ push (row_type τ A ρ d s t) (entry_type τ A ρ d x)) × (entry_meets τ A d e ≡ row_meets τ A ρ d s t && entry_meets τ A d x) × ((l i : ℕ) → Low m l i e → RowLow m s l (suc i) t) × Lower m e x
  FormOf (Some (VarTop k)) = (entry_type τ A ρ d e ≡ svar k nil) × (entry_meets τ A d e ≡ true)

-- ---- the next item
-- n entries of `out` are left of the top entries of ws
pub record Rest (m : ℕ) (ws : List ℕ) (top : ℕ) (out : List ℕ) (n : ℕ) : Type 0 where
  pub less : mass out n < mass ws top
  pub keeps : (l : ℕ) → Pends m l ws top → Pends m l out n

module _ (τ : RowTable) (A : List Arg) (ρ : ℕ → ℕ) (d m : ℕ) (ws : List ℕ) (top : ℕ) (out : List ℕ) where
  -- what each answer says of the first entries of ws; `out` are the entries then
  abbrev pub NextIs : Option Next → Type 0
  NextIs None = (pending_meets τ A d ws top ≡ false) × (0 < m)
  NextIs (Some End) = (pending_type τ A ρ d ws top ≡ nil) × (pending_meets τ A d ws top ≡ true)
  NextIs (Some (Row s t n)) =
      (pending_type τ A ρ d ws top ≡ push (row_type τ A ρ d s t) (pending_type τ A ρ d out n)) × (pending_meets τ A d ws top ≡ row_meets τ A ρ d s t && pending_meets τ A d out n)
      × Rest m ws top out n × ((l : ℕ) → Pends m l ws top → (0 < n) × RowLow m s l n t)
  NextIs (Some (VarNext k n)) = (pending_type τ A ρ d ws top ≡ svar k (pending_type τ A ρ d out n)) × (pending_meets τ A d ws top ≡ pending_meets τ A d out n) × Rest m ws top out n
