-- What the code reads from the tables: the form of a row, and what it means, by the meanings of lower rows. A row is named by a link: one
-- more than its number, 0 for none. That the meaning of a row is the type that crate types gives it is proved (proofs/Bridge.antt).
use Rattle.std.specs.Prelude.{ℕ, zero, suc, ◌+◌, ◌-◌, ◌<◌, ◌≤◌, ◌≡◌, Bool, true, false, cond, List, [], ◌∷◌, map, eqb, leb, ltb, get_or}
use Rattle.syntax.specs.Syntax.{Kind, value, stack}
use Rattle.types.specs.Types.{Ty, int, junk, var, tuple, pointer, hidden, code, nil, push, svar, gap, join, items, variable, below, Act, walk, raise, Arg, arg, of_kind}
use Rattle.types.specs.Rows.{type_at, types_of}
use Rattle.tables.specs.Tables.{RowTable, cell, span, letters_at, rows_in}
use Rattle.types_rows.specs.declared.Val.{Val}
use Rattle.types_rows.specs.declared.Val.TheVariants.{Int, Junk, ValVar, ValFill, Tuple, Pointer, Code, Hidden}
use Rattle.types_rows.specs.declared.Stk.{Stk}
use Rattle.types_rows.specs.declared.Stk.TheVariants.{Nil, StkVar, StkFill, Push, Join}
use Rattle.std.specs.Prelude.{Option, Some, None}
use Rattle.types_rows.specs.declared.Place.{Place}
use Rattle.types_rows.specs.declared.Item.{Item}
use Rattle.types_rows.specs.declared.Item.TheVariants.{Val as ValItem, Var as VarItem}

-- rows and parts as a table
abbrev pub tab : List ℕ → List ℕ → RowTable
tab rows parts = record { rows = rows; parts = parts }

-- the link to row x as row h names it: none if x is not lower
abbrev pub lower : ℕ → ℕ → ℕ
lower h x = cond (ltb (suc x) h) (suc x) 0

-- ---- a row's form; f says what a variable is
-- the value row of kind k with the numbers a and b, as row h
unfoldable pub value_with : (ℕ → Val) → ℕ → ℕ → ℕ → ℕ → Val
value_with f h k a b =
    cond (eqb k 0) Int
    (cond (eqb k 2) (f a)
    (cond (eqb k 3) (Tuple a b)
    (cond (eqb k 4) (Pointer (lower h a))
    (cond (eqb k 5) (Code (lower h a) b)
    (cond (eqb k 6) (Hidden (lower h a)) Junk)))))

-- the stack row
unfoldable pub stack_with : (ℕ → Stk) → ℕ → ℕ → ℕ → ℕ → Stk
stack_with f h k a b =
    cond (ltb k 8) Nil
    (cond (eqb k 8) (f a)
    (cond (eqb k 9) (Push (lower h a) (lower h b)) (Join (lower h a) (lower h b))))

-- the value row h, 0 for none
abbrev pub value_at : List ℕ → (ℕ → Val) → ℕ → Val
value_at rows f zero = Junk
value_at rows f (suc r) = value_with f (suc r) (cell 4 rows r 0) (cell 4 rows r 1) (cell 4 rows r 2)

-- the stack row h, 0 for none
abbrev pub stack_at : List ℕ → (ℕ → Stk) → ℕ → Stk
stack_at rows f zero = Nil
stack_at rows f (suc r) = stack_with f (suc r) (cell 4 rows r 0) (cell 4 rows r 1) (cell 4 rows r 2)

-- row r is a stack row
abbrev pub is_stack_at : List ℕ → ℕ → Bool
is_stack_at rows r = leb 7 (cell 4 rows r 0)

-- a register, or a component
abbrev pub slot_at : Bool → ℕ → ℕ → Option ℕ
slot_at false h x = Some (lower h x)
slot_at true h zero = None
slot_at true h (suc t) = Some (lower h t)

-- ---- what a row means, v and s being what lower rows mean
-- a part on top of the list a
abbrev pub on_slot : (ℕ → Ty value) → Option ℕ → Ty stack → Ty stack
on_slot v None a = gap a
on_slot v (Some t) a = push (v t) a

-- the n parts from p on, registers if `file`
unfoldable pub parts_of : (ℕ → Ty value) → List ℕ → Bool → ℕ → ℕ → ℕ → Ty stack
parts_of v ps file h p zero = nil
parts_of v ps file h p (suc n) = on_slot v (slot_at file h (get_or ps p 0)) (parts_of v ps file h (suc p) n)

-- the type of a value row, by the types of lower rows
abbrev pub build_v : (ℕ → Ty value) → (ℕ → Ty stack) → List ℕ → ℕ → Val → Ty value
build_v v s ps h Int = int
build_v v s ps h Junk = junk
build_v v s ps h (ValVar k) = var k
build_v v s ps h (ValFill j) = junk
build_v v s ps h (Tuple p n) = tuple (parts_of v ps false h p n)
build_v v s ps h (Pointer x) = pointer (s x)
build_v v s ps h (Code x p) = code (letters_at ps p) (s x) (parts_of v ps true h p 8)
build_v v s ps h (Hidden x) = hidden (v x)

-- the type of a stack row, by the types of lower rows
abbrev pub build_s : (ℕ → Ty value) → (ℕ → Ty stack) → Stk → Ty stack
build_s v s Nil = nil
build_s v s (StkVar k) = svar k nil
build_s v s (StkFill j) = nil
build_s v s (Push t x) = push (v t) (s x)
build_s v s (Join x y) = join (s x) (s y)

-- the first argument bounds the depth
unfoldable mutual
  -- row h as a value type
  pub value_to : ℕ → RowTable → ℕ → Ty value
  value_to zero τ h = junk
  value_to (suc n) τ h = build_v (λ x. value_to n τ x) (λ x. stack_to n τ x) τ.parts h (value_at τ.rows ValVar h)

  -- row h as a stack type
  pub stack_to : ℕ → RowTable → ℕ → Ty stack
  stack_to zero τ h = nil
  stack_to (suc n) τ h = build_s (λ x. value_to n τ x) (λ x. stack_to n τ x) (stack_at τ.rows StkVar h)

-- row h as a value type and as a stack type: links fall, so this is deep enough
unfoldable pub mean_v : RowTable → ℕ → Ty value
mean_v τ h = value_to (suc h) τ h

-- the same of a stack row
unfoldable pub mean_s : RowTable → ℕ → Ty stack
mean_s τ h = stack_to (suc h) τ h

-- by kind
abbrev pub mean : RowTable → (κ : Kind) → ℕ → Ty κ
mean τ value h = mean_v τ h
mean τ stack h = mean_s τ h

-- ---- a row in a context: the first variables past d are filled by A, raised by d; for later ones, which come down by the number of A, ρ
-- says which variable stands for each free one
-- the variable j places past d
unfoldable pub placed : (κ : Kind) → (ℕ → ℕ) → ℕ → List Arg → ℕ → Ty κ
placed κ ρ d [] j = variable κ (ρ j + d)
placed κ ρ d (a ∷ A) zero = raise d (of_kind κ a)
placed κ ρ d (a ∷ A) (suc j) = placed κ ρ d A j

-- what a context does to a variable
unfoldable pub acting : List Arg → (ℕ → ℕ) → Act
acting A ρ d κ k = below d k (variable κ k) (placed κ ρ d A)

-- each free variable raised by `by`
abbrev pub lift : ℕ → ℕ → ℕ
lift by j = j + by

-- the type of value row h in its context
unfoldable pub value_under : RowTable → List Arg → (ℕ → ℕ) → ℕ → ℕ → Ty value
value_under τ A ρ d h = walk (acting A ρ) d (mean_v τ h)

-- the type of stack row h in its context
unfoldable pub stack_under : RowTable → List Arg → (ℕ → ℕ) → ℕ → ℕ → Ty stack
stack_under τ A ρ d h = walk (acting A ρ) d (mean_s τ h)

-- the types of parts in their context
unfoldable pub parts_under : RowTable → List Arg → (ℕ → ℕ) → ℕ → Bool → ℕ → ℕ → ℕ → Ty stack
parts_under τ A ρ d file h p n = walk (acting A ρ) d (parts_of (mean_v τ) τ.parts file h p n)

-- the code type of row h whose stack is x and whose registers start at p
unfoldable pub code_of : RowTable → ℕ → ℕ → ℕ → Ty value
code_of τ h x p = code (letters_at τ.parts p) (mean_s τ x) (parts_of (mean_v τ) τ.parts true h p 8)

-- the code type of row h in its context
unfoldable pub code_under : RowTable → List Arg → (ℕ → ℕ) → ℕ → ℕ → ℕ → ℕ → Ty value
code_under τ A ρ d h x p = walk (acting A ρ) d (code_of τ h x p)

-- row a as an argument, and the first m rows of args
unfoldable pub arg_of : RowTable → ℕ → Arg
arg_of τ a = cond (is_stack_at τ.rows a) (arg stack (mean_s τ (suc a))) (arg value (mean_v τ (suc a)))

-- the first m rows of args as arguments
unfoldable pub args_of : RowTable → List ℕ → ℕ → List Arg
args_of τ args m = map (arg_of τ) (span args 0 m)

-- a variable placed, m arguments being there
abbrev pub place_v : ℕ → (ℕ → ℕ) → ℕ → ℕ → Val
place_v m ρ d k = cond (ltb k d) (ValVar k) (cond (ltb (k - d) m) (ValFill (k - d)) (ValVar (ρ ((k - d) - m) + d)))

-- the same of a stack variable
abbrev pub place_s : ℕ → (ℕ → ℕ) → ℕ → ℕ → Stk
place_s m ρ d k = cond (ltb k d) (StkVar k) (cond (ltb (k - d) m) (StkFill (k - d)) (StkVar (ρ ((k - d) - m) + d)))

-- ---- what the code relies on: links fall, an argument is one of m, starts and counts are small
-- of a value row
abbrev pub OkV : ℕ → ℕ → Val → Type 0
OkV m h Int = Unit
OkV m h Junk = Unit
OkV m h (ValVar k) = Unit
OkV m h (ValFill j) = j < m
OkV m h (Tuple p n) = (p ≤ 65535) × (n ≤ 65535) × (0 < h)
OkV m h (Pointer x) = x < h
OkV m h (Code x p) = (x < h) × (p ≤ 65535)
OkV m h (Hidden x) = x < h

-- of a stack row
abbrev pub OkS : ℕ → ℕ → Stk → Type 0
OkS m h Nil = Unit
OkS m h (StkVar k) = Unit
OkS m h (StkFill j) = j < m
OkS m h (Push t x) = (t < h) × (x < h)
OkS m h (Join x y) = (x < h) × (y < h)

-- a part's row is lower
abbrev pub OkSlot : ℕ → Option ℕ → Type 0
OkSlot h None = Unit
OkSlot h (Some t) = t < h

-- ---- stacks by position
-- the stack without its first n items
unfoldable pub drop_s : ℕ → Ty stack → Ty stack
drop_s zero a = a
drop_s (suc n) nil = nil
drop_s (suc n) (push t a) = drop_s n a
drop_s (suc n) (svar k a) = drop_s n a
drop_s (suc n) (gap a) = drop_s n a

-- its first n items
unfoldable pub take_s : ℕ → Ty stack → Ty stack
take_s zero a = nil
take_s (suc n) nil = nil
take_s (suc n) (push t a) = push t (take_s n a)
take_s (suc n) (svar k a) = svar k (take_s n a)
take_s (suc n) (gap a) = gap (take_s n a)

-- the count of items that stands in row h
abbrev pub items_at : List ℕ → ℕ → ℕ
items_at rows zero = 0
items_at rows (suc r) = cell 4 rows r 3

-- the counts that stand in the rows up to h are those of their items
abbrev pub CountedTo : RowTable → ℕ → Type 0
CountedTo τ h = (x : ℕ) → x ≤ h → items_at τ.rows x ≡ items (mean_s τ x)

-- the counts that stand in the first n rows are those of the items of the types that crate types gives these rows
pub record Counted (τ : RowTable) (n : ℕ) : Type 0 where
  pub few : n ≤ 65536
  pub counts : (x : ℕ) → x < n → cell 4 τ.rows x 3 ≡ items (type_at stack (types_of (rows_in τ n)) x)

-- a place one row further down
abbrev pub down : ℕ → ℕ → Option Place
down x j = Some (record { row = x; at = j })

-- where the n items from item j on of a stack row of this form stand one row further down
abbrev pub down_of : List ℕ → Stk → ℕ → ℕ → Option Place
down_of rows Nil j n = None
down_of rows (StkVar k) j n = None
down_of rows (StkFill i) j n = None
down_of rows (Push t x) j n = cond (eqb j 0) None (down x (j - 1))
down_of rows (Join x y) j n = cond (leb (items_at rows x) j) (down y (j - items_at rows x)) (cond (leb n (items_at rows x - j)) (down x j) None)

-- up to n items from item i of row x on are those from item j of row r on, with no more after them, and no lower row has them
pub record Narrowed (τ : RowTable) (r j n x i : ℕ) : Type 0 where
  pub row_low : x ≤ r
  pub at_low : i ≤ j
  pub same : take_s n (drop_s j (mean_s τ r)) ≡ take_s n (drop_s i (mean_s τ x))
  pub rest : items (mean_s τ x) - i ≤ items (mean_s τ r) - j
  pub stays : down_of τ.rows (stack_at τ.rows StkVar x) i n ≡ None

-- the first item of a stack row of this form
abbrev pub head_of : Stk → Option Item
head_of Nil = None
head_of (StkVar k) = Some (VarItem k)
head_of (StkFill j) = None
head_of (Push t x) = Some (ValItem t)
head_of (Join x y) = None

-- item j of the stack a, whose value items are rows below h
abbrev pub ItemOf : RowTable → (ℕ → ℕ) → ℕ → ℕ → Ty stack → ℕ → Option Item → Type 0
ItemOf τ ρ d h a j None = drop_s j a ≡ nil
ItemOf τ ρ d h a j (Some (ValItem t)) = (t < h) × (drop_s j a ≡ push (value_under τ [] ρ d t) (drop_s (suc j) a))
ItemOf τ ρ d h a j (Some (VarItem k)) = drop_s j a ≡ svar k (drop_s (suc j) a)
