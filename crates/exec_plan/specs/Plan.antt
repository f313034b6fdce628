-- The machine's own table of a program: what its rows say, and what a row does.
use Rattle.std.specs.Prelude.{ℕ, suc, ◌+◌, ◌-◌, ◌*◌, ◌<◌, ◌≡◌, Bool, ◌||◌, cond, List, [], ◌∷◌, ltb, eqb, get_or, set}
use Rattle.syntax.specs.Syntax.{reg, lit, plain, add, sub, mul}
use Rattle.exec.specs.Machine.{Memory, at, int_kind, height, compute, sign_of, taken, word_of}
use Rattle.tables.specs.Tables.{cell}
use Rattle.exec_words.specs.arith.Codes.{branch_of, column}
use Rattle.exec_words.specs.memory.Lent.{base_kind}
use Rattle.exec_plan.specs.declared.Column.{Column}
use Rattle.exec_plan.specs.declared.Column.TheVariants.{Nothing, First, Second, Third, Target, Operand, Branch, Constant}
use Rattle.exec_plan.specs.declared.Choices.{Choices}
use Rattle.exec_machine.specs.declared.Stop.TheVariants.{Halted, Stuck}
use Rattle.exec_machine.specs.Step.{Tables, pair, given, next_arith, next_jump, next_load, next_store, next_tuple, next_cut, next_push, next_pop, next_read, next_write, next_read_through, next_write_through, Next, Go, Register, End}

-- ---- the rows
-- a row's form, by code, in the order of the forms, and by the kind of the operand's base: register, integer, label
abbrev pub forms : List (List ℕ)
forms =
    (0 ∷ 1 ∷ 24 ∷ []) ∷ (20 ∷ 1 ∷ 24 ∷ []) ∷ (3 ∷ 15 ∷ 24 ∷ [])
    ∷ (21 ∷ 22 ∷ 4 ∷ []) ∷ (21 ∷ 22 ∷ 4 ∷ []) ∷ (21 ∷ 22 ∷ 4 ∷ []) ∷ (21 ∷ 22 ∷ 4 ∷ []) ∷ (21 ∷ 22 ∷ 4 ∷ []) ∷ (21 ∷ 22 ∷ 4 ∷ [])
    ∷ (5 ∷ 6 ∷ 6 ∷ []) ∷ (9 ∷ 9 ∷ 9 ∷ []) ∷ (10 ∷ 10 ∷ 10 ∷ []) ∷ (2 ∷ 2 ∷ 2 ∷ [])
    ∷ (16 ∷ 16 ∷ 16 ∷ []) ∷ (17 ∷ 17 ∷ 17 ∷ []) ∷ (18 ∷ 18 ∷ 18 ∷ []) ∷ (19 ∷ 19 ∷ 19 ∷ [])
    ∷ (11 ∷ 11 ∷ 11 ∷ []) ∷ (12 ∷ 12 ∷ 12 ∷ []) ∷ (13 ∷ 13 ∷ 13 ∷ []) ∷ (14 ∷ 14 ∷ 14 ∷ [])
    ∷ (8 ∷ 24 ∷ 7 ∷ []) ∷ (23 ∷ 23 ∷ 23 ∷ []) ∷ (5 ∷ 6 ∷ 6 ∷ []) ∷ []

-- a code past the table is that of `halt`
abbrev pub halts : List ℕ
halts = 23 ∷ 23 ∷ 23 ∷ []

-- which number stands in column 1, 2 and 3: 0 for none, 1 to 3 one of the instruction's own, 4 where its label leads, 5 its first
-- operand, 6 the branch's kind, 7 a constant's kind
abbrev pub columns : List (List ℕ)
columns =
    (1 ∷ 2 ∷ 0 ∷ []) ∷ (1 ∷ 2 ∷ 0 ∷ []) ∷ (1 ∷ 2 ∷ 0 ∷ [])
    ∷ (1 ∷ 6 ∷ 0 ∷ []) ∷ (1 ∷ 6 ∷ 0 ∷ []) ∷ (1 ∷ 6 ∷ 0 ∷ []) ∷ (1 ∷ 6 ∷ 0 ∷ []) ∷ (1 ∷ 6 ∷ 0 ∷ []) ∷ (1 ∷ 6 ∷ 0 ∷ [])
    ∷ (1 ∷ 7 ∷ 0 ∷ []) ∷ (1 ∷ 2 ∷ 3 ∷ []) ∷ (1 ∷ 3 ∷ 2 ∷ []) ∷ (1 ∷ 0 ∷ 5 ∷ [])
    ∷ (1 ∷ 0 ∷ 0 ∷ []) ∷ (1 ∷ 0 ∷ 0 ∷ []) ∷ (0 ∷ 0 ∷ 1 ∷ []) ∷ (0 ∷ 0 ∷ 1 ∷ [])
    ∷ (1 ∷ 0 ∷ 2 ∷ []) ∷ (0 ∷ 2 ∷ 1 ∷ []) ∷ (1 ∷ 2 ∷ 3 ∷ []) ∷ (1 ∷ 3 ∷ 2 ∷ [])
    ∷ (0 ∷ 0 ∷ 4 ∷ []) ∷ (0 ∷ 0 ∷ 0 ∷ []) ∷ (1 ∷ 7 ∷ 0 ∷ []) ∷ []

-- forms whose operand is a register
unfoldable pub reads_operand : ℕ → Bool
reads_operand f = eqb f 0 || eqb f 3 || eqb f 5 || eqb f 8 || eqb f 20 || eqb f 21

-- the number of that choice; where a label leads is kept eight times, as the place of its row in the table
unfoldable pub chosen : ℕ → ℕ → ℕ → ℕ → ℕ → ℕ → ℕ → ℕ → ℕ
chosen k a b c t v o q = cond (eqb k 1) a (cond (eqb k 2) b (cond (eqb k 3) c (cond (eqb k 4) (8 * t) (cond (eqb k 5) v (cond (eqb k 6) o (cond (eqb k 7) q 0))))))

-- a column's choice of the code, as the number in `columns`
abbrev pub column_number : Column → ℕ
column_number Nothing = 0
column_number First = 1
column_number Second = 2
column_number Third = 3
column_number Target = 4
column_number Operand = 5
column_number Branch = 6
column_number Constant = 7

-- numbers of 16 bits to choose from: the instruction's own, where its label leads, its first operand, a branch's and a constant's kind
pub record Small (n : Choices) : Type 0 where
  pub first : n.first < 65536
  pub second : n.second < 65536
  pub third : n.third < 65536
  pub target : n.target < 65536
  pub operand : n.operand < 65536
  pub branch : n.branch < 65536
  pub constant : n.constant < 65536

-- ---- a form in a row: those below 15 are the row's class; the others are of class 15 and stand where the first goal of a branch does
unfoldable pub class_of : ℕ → ℕ
class_of f = cond (ltb f 15) f 15

-- that column, where a branch has the goal g
unfoldable pub fifth_of : ℕ → ℕ → ℕ
fifth_of f g = cond (ltb f 15) g f

-- the form, from the class and that column
unfoldable pub form_in : ℕ → ℕ → ℕ
form_in c e = cond (ltb c 15) c e

-- an integer that is to be taken away is added, negated
unfoldable pub added_of : ℕ → ℕ → ℕ
added_of kind n = cond (eqb kind 1) (compute sub 0 n) n

-- the last column before the goals: how many operands `malloc` has, else the operand's number
unfoldable pub last_of : ℕ → ℕ → ℕ → ℕ → ℕ
last_of code kind m n = cond (eqb code 12) m (cond (eqb code 1) (added_of kind n) n)

-- numbers in a row, from p on
unfoldable pub put_row : List ℕ → ℕ → List ℕ → List ℕ
put_row s p [] = s
put_row s p (v ∷ vs) = put_row (set s p v) (suc p) vs

module _ (T : Tables) (j : ℕ) where
  -- the instruction's code
  abbrev pub code_at : ℕ
  code_at = cell 8 T.instrs j 0

  -- where its operands start
  abbrev pub operand_in : ℕ
  operand_in = cell 8 T.instrs j 5

  -- how many they are
  abbrev pub count_at : ℕ
  count_at = cell 8 T.instrs j 6

  -- the kind of the operand's base
  unfoldable pub kind_at : ℕ
  kind_at = base_kind (cell 4 T.operands operand_in 0)

  -- the operand's number
  abbrev pub number_at : ℕ
  number_at = get_or T.bases operand_in 0

  -- where the operand leads, if it is a label
  abbrev pub target_at : ℕ
  target_at = cell 2 T.blocks number_at 1

  -- column i + 1 of the row
  unfoldable pub column_at : ℕ → ℕ
  column_at i = chosen (get_or (get_or columns code_at []) i 0) (cell 8 T.instrs j 1) (cell 8 T.instrs j 2) (cell 8 T.instrs j 3) target_at operand_in (code_at - 3) (kind_at - 1)

  -- the form that the table of forms has
  unfoldable pub form_for : ℕ
  form_for = get_or (get_or forms code_at halts) kind_at 24

  -- a branch or a jump to a label that is not there goes nowhere
  unfoldable pub form_at : ℕ
  form_at = cond (ltb number_at T.labels) form_for (cond (eqb form_for 4) 22 (cond (eqb form_for 7) 24 form_for))

  -- where a branch on the number x leads, if its operand is a label
  unfoldable pub goal_at : ℕ → ℕ
  goal_at x = cond (taken (branch_of (code_at - 3)) (sign_of x)) target_at (j + 1)

  -- and by the sign's column: negative, zero, positive
  unfoldable pub goal_in : ℕ → ℕ
  goal_in i = cond (eqb i 0) (goal_at 2147483648) (cond (eqb i 1) (goal_at 0) (goal_at 1))

  -- column 4 of the row
  unfoldable pub last_at : ℕ
  last_at = last_of code_at kind_at count_at number_at

  -- the row
  unfoldable pub row_of : List ℕ
  row_of = class_of form_at ∷ column_at 0 ∷ column_at 1 ∷ column_at 2 ∷ last_at ∷ fifth_of form_at (8 * goal_in 0) ∷ 8 * goal_in 1 ∷ 8 * goal_in 2 ∷ []

-- the row that is stuck
abbrev pub stuck_row : List ℕ
stuck_row = 15 ∷ 0 ∷ 0 ∷ 0 ∷ 0 ∷ 24 ∷ 0 ∷ 0 ∷ []

-- the rows of all instructions, and behind them one that is stuck
pub record Plan (T : Tables) (φ : List ℕ) : Type 0 where
  pub rows : (j k : ℕ) → j < T.count → k < 8 → cell 8 φ j k ≡ get_or (row_of T j) k 0
  pub last : (k : ℕ) → k < 8 → cell 8 φ T.count k ≡ get_or stuck_row k 0

-- ---- what a row does
-- f is its form, x, y, z and n are its numbers, s is where its label leads and g where a branch does, by the column of the sign; R, S and
-- H are the words, h the depth, u the words of the heap in use, and p is the position after it
unfoldable pub planned : List ℕ → ℕ → ℕ → (ℕ → ℕ) → ℕ → ℕ → ℕ → ℕ → ℕ → ℕ → Memory → Memory → Memory → ℕ → ℕ → Next
planned β l s g f x y z n p R S H h u =
    cond (eqb f 0) (next_arith R p add x y (plain (reg n)))
    (cond (eqb f 1) (next_arith R p add x y (plain (lit n)))
    (cond (eqb f 2) (next_tuple u p x z n)
    (cond (eqb f 3) (next_arith R p mul x y (plain (reg n)))
    (cond (eqb f 4) (given int_kind (at R x) (λ v. Go (g (column (sign_of v)))))
    (cond (eqb f 5) (Register x (pair (word_of R (plain (reg n)))) p)
    (cond (eqb f 6) (Register x (record { kind = y; number = n }) p)
    (cond (eqb f 7) (Go s)
    (cond (eqb f 8) (next_jump β l (word_of R (plain (reg n))))
    (cond (eqb f 9) (next_load R H p x y z)
    (cond (eqb f 10) (next_store R H p x z y)
    (cond (eqb f 11) (next_read S h p x z)
    (cond (eqb f 12) (next_write R h p z y)
    (cond (eqb f 13) (next_read_through R S h p x y z)
    (cond (eqb f 14) (next_write_through R h p x z y)
    (cond (eqb f 15) (next_arith R p mul x y (plain (lit n)))
    (cond (eqb f 16) (Register x (pair (height h)) p)
    (cond (eqb f 17) (next_cut R h p x)
    (cond (eqb f 18) (next_push h p z)
    (cond (eqb f 19) (next_pop h p z)
    (cond (eqb f 20) (next_arith R p sub x y (plain (reg n)))
    (cond (eqb f 21) (given int_kind (at R x) (λ v. cond (taken (branch_of y) (sign_of v)) (next_jump β l (word_of R (plain (reg n)))) (Go p)))
    (cond (eqb f 22) (given int_kind (at R x) (λ v. cond (taken (branch_of y) (sign_of v)) (End Stuck) (Go p)))
    (cond (eqb f 23) (End Halted) (End Stuck))))))))))))))))))))))))
