-- What the functions of this crate read, and how their answers are stated.
use Rattle.std.specs.Prelude.{ℕ, zero, suc, ◌+◌, ◌-◌, ◌*◌, ◌≤◌, ◌<◌, ◌≡◌, Bool, true, false, cond, List, [], map, reverse, ltb, eqb, length, get_or, take, Option, Some, None}
use Rattle.std.proofs.Math.Option as Math
use Rattle.syntax.specs.Syntax.{Kind, value, stack}
use Rattle.types.specs.Types.{Ty, junk, nil, push, svar, gap, walk, Arg, arg, items}
use Rattle.types.specs.Rows.{type_at, types_of}
use Rattle.types.specs.Equal.{same}
use Rattle.tables.specs.Tables.{cell, rows_in, letters_at}
use Rattle.valid.specs.Program.{Program, CodeType}
use Rattle.valid.specs.Tests.{item_at}
use Rattle.valid.specs.PassThree.{Judged, ◌▹◌, or_fault, tuple_at}
use Rattle.types_rows.specs.Read.{tab, Counted, mean_v, mean_s, parts_of, acting}
use Rattle.types_rows.specs.Environments.{var_in, read_in}
use Rattle.types_rows.specs.declared.Held.{Held}
use Rattle.types_rows.specs.declared.Item.{Item}
use Rattle.types_rows.specs.declared.Item.TheVariants.{Val as ValItem, Var as VarItem}
use Rattle.valid_context.specs.Context.{Reading, first_var, on_item, EnvsIn}
use Rattle.valid_typing.specs.declared.Coded.{Coded}

-- Rows n and n + 1 are made `I` and `N`: every type that the checker holds is the type of one of these n + 2 rows.
abbrev pub types_in : List ℕ → List ℕ → ℕ → List Arg
types_in rows parts n = types_of (rows_in (tab rows parts) (n + 2))

-- what held numbers stand for, E being the environments of the packages opened so far
abbrev pub held_in : List ℕ → List ℕ → ℕ → List ℕ → Reading
held_in rows parts n E = record { type = λ e t. read_in E e (type_at value (types_in rows parts n) t); variable = λ e k. var_in E e k }

-- the type of a row that is held, and the stack of a row's link that is
abbrev pub held_type : Reading → Held → Ty value
held_type T h = T.type h.env h.row

abbrev pub held_stack : List ℕ → List ℕ → List ℕ → Held → Ty stack
held_stack rows parts E h = read_in E h.env (mean_s (tab rows parts) h.row)

-- what the premises rely on: rows n and n + 1 are `I` and `N`, and the counts are filled in
pub record Ready (rows parts : List ℕ) (n : ℕ) : Type 0 where
  pub few : n ≤ 512
  pub int_row : cell 4 rows n 0 ≡ 0
  pub junk_row : cell 4 rows (n + 1) 0 ≡ 1
  pub counted : Counted (tab rows parts) (n + 2)

-- what a comparison relies on: the rows, few packages opened so far, and room for what is pending
pub record Comparing (rows parts E : List ℕ) (n : ℕ) (pending : List ℕ) : Type 0 where
  pub ready : Ready rows parts n
  pub few : length E ≤ 64
  pub room : 1543 ≤ length pending

-- a type that is found: one of the n + 2 rows, in an environment that exists if those of the registers do
pub record Found (n : ℕ) (E regs : List ℕ) (t : Held) : Type 0 where
  pub row_in : t.row ≤ n + 1
  pub small : t.env ≤ 65535
  pub exists : EnvsIn (2 * length E) regs 8 → t.env ≤ 2 * length E

-- the row of link h is one of the n + 2, and its parts start at p
pub record RowParts (n h p : ℕ) : Type 0 where
  pub some : 0 < h
  pub row : h ≤ n + 2
  pub start : p ≤ 65535

-- `ld` and `st`: component i of the tuple in register r
abbrev pub component_at : Program → List Kind → Ty stack → ℕ → ℕ → Judged (Ty value)
component_at P Δ g r i = tuple_at P Δ g r ▹ λ c. or_fault 11 (item_at c i)

-- the code type of row h (a link) whose stack is x and whose registers start at p
abbrev pub code_in : List ℕ → List ℕ → ℕ → ℕ → ℕ → CodeType
code_in rows parts h x p = record { letters = letters_at parts p; sp = mean_s (tab rows parts) x; regs = parts_of (mean_v (tab rows parts)) parts true h p 8 }

-- a code type that was read in environment e, as it counts now
abbrev pub code_read : List ℕ → ℕ → CodeType → CodeType
code_read E e c =
    record { letters = c.letters; sp = walk (acting [] (var_in E e)) (length c.letters) c.sp; regs = walk (acting [] (var_in E e)) (length c.letters) c.regs }

-- a row as code, read in environment e
abbrev pub code_seen : List ℕ → List ℕ → List ℕ → ℕ → Option Coded → Math.Option CodeType
code_seen rows parts E e None = Math.none
code_seen rows parts E e (Some c) = Math.some (code_read E e (code_in rows parts c.link c.stack c.start))

-- a code row is one of the n + 2
pub record CodeIn (n : ℕ) (c : Coded) : Type 0 where
  pub link_in : c.link ≤ n + 2
  pub stack_in : c.stack ≤ n + 1
  pub start_in : c.start ≤ 65535

-- an item of a stack row that was read in environment e, its variable as it counts now, is the one that entry y of sp stands for, which was
-- read in environment f
unfoldable pub item_is : List ℕ → List ℕ → ℕ → List ℕ → ℕ → Option Item → ℕ → ℕ → Bool
item_is rows parts n E e None f y = false
item_is rows parts n E e (Some (ValItem t)) f y = cond (ltb y first_var) (same (read_in E e (mean_v (tab rows parts) t)) ((held_in rows parts n E).type f y)) false
item_is rows parts n E e (Some (VarItem k)) f y = cond (ltb y first_var) false (eqb k (var_in E f (y - first_var)))

-- an entry of sp, and its environment, are small
pub record EntryIn (y f : ℕ) : Type 0 where
  pub entry : y ≤ 65535
  pub env : f ≤ 65535

-- an item that is a row is one of the first h links
abbrev pub LowItem : ℕ → Option Item → Type 0
LowItem h None = Unit
LowItem h (Some (ValItem t)) = t ≤ h
LowItem h (Some (VarItem k)) = Unit

-- the link of an item that is a value type, 0 of any other
abbrev pub LinkIs : ℕ → Option Item → ℕ → Type 0
LinkIs n None u = u ≡ 0
LinkIs n (Some (ValItem t)) u = (u ≡ 0 → ⊥) × ((rows parts : List ℕ) → Ready rows parts n → type_at value (types_in rows parts n) (u - 1) ≡ mean_v (tab rows parts) t)
LinkIs n (Some (VarItem k)) u = u ≡ 0

-- stack variables that an entry of sp can hold
abbrev pub SmallVars : Ty stack → Type 0
SmallVars nil = Unit
SmallVars (push t a) = SmallVars a
SmallVars (svar k a) = (k ≤ 60000) × SmallVars a
SmallVars (gap a) = SmallVars a

-- the stack row of link x is one of the n + 2, and sp has room for its items, two entries each
pub record LaidOut (rows parts : List ℕ) (n x : ℕ) (sp : List ℕ) : Type 0 where
  pub row : x ≤ n + 2
  pub room : 2 * items (mean_s (tab rows parts) x) ≤ length sp
  pub vars : SmallVars (mean_s (tab rows parts) x)

-- a variable's number fits an entry of sp
abbrev pub SmallItem : Option Item → Type 0
SmallItem None = Unit
SmallItem (Some (ValItem t)) = Unit
SmallItem (Some (VarItem k)) = k ≤ 60000

-- the entry of sp that stands for an item, in whatever environment
abbrev pub EntryIs : ℕ → Option Item → ℕ → Type 0
EntryIs n None y = Unit
EntryIs n (Some (ValItem t)) y = (rows parts E : List ℕ) (e : ℕ) (b : Ty stack) → Ready rows parts n → on_item (held_in rows parts n E) e y b ≡ push (read_in E e (mean_v (tab rows parts) t)) b
EntryIs n (Some (VarItem k)) y = (T : Reading) (e : ℕ) (b : Ty stack) → on_item T e y b ≡ svar (T.variable e k) b

-- ---- rows that an instruction gives
-- row t of the program's n rows among the n + 2: one that is not there reads as the junk type
unfoldable pub given_row : ℕ → ℕ → ℕ
given_row n t = cond (ltb t n) t (n + 1)

-- row t as an argument; one that is not there is the junk type
abbrev pub given_arg : List ℕ → List ℕ → ℕ → ℕ → Arg
given_arg rows parts n t = get_or (types_of (rows_in (tab rows parts) n)) t (arg value junk)

-- the arguments that rows give, in the order of their variables
abbrev pub args_in : List ℕ → List ℕ → ℕ → List ℕ → List Arg
args_in rows parts n ts = reverse (map (given_arg rows parts n) ts)

-- an argument that is a stack or not, and a letter as it stands in the table
unfoldable pub fits_letter : Bool → ℕ → Bool
fits_letter true zero = false
fits_letter true (suc x) = true
fits_letter false zero = true
fits_letter false (suc x) = false

-- the letters that c arguments leave of the code row whose registers start at p
abbrev pub letters_less : List ℕ → ℕ → ℕ → List Kind
letters_less parts p c = take (length (letters_at parts p) - c) (letters_at parts p)
