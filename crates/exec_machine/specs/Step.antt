-- A step by the tables of a decoded program: what the next instruction does, and the state that it leaves.
use Rattle.std.specs.Prelude.{ℕ, suc, ◌+◌, ◌-◌, Bool, ◌&&◌, cond, List, leb, ltb, eqb, length, replicate}
use Rattle.syntax.specs.Syntax.{Operand, Arith, Branch, Instr, aop, bop, mov, ld, st, malloc, getsp, setsp, salloc, sfree, sld, sst, slp, ssp, jmp, halt, unpack}
use Rattle.exec.specs.Machine.{Word, int_kind, code_kind, tuple_kind, height_kind, integer, handle, height, junk_word, Memory, at, put, puts, State, stack_limit, heap_limit, component_at, compute, sign_of, taken, Stop, halted, stack_full, heap_full, stuck, Result, go, stop, word_of, set_position}
use Rattle.tables.specs.Tables.{cell, OperandTable, instr_at}
use Rattle.exec_words.specs.declared.memory.Word.{Word as Pair}
use Rattle.exec_words.specs.memory.Lent.{word_is, lent, operand_table, tuple_of}
use Rattle.exec_machine.specs.declared.Place.{Place}
use Rattle.exec_machine.specs.declared.Stop.{Stop as Reason}
use Rattle.exec_machine.specs.declared.Stop.TheVariants.{Halted, StackFull, HeapFull, Stuck}

-- ---- the tables, and the state that is lent
-- the tables of a decoded program, and how many instructions and labels they hold
pub record Tables : Type 0 where
  pub instrs : List ℕ
  pub operands : List ℕ
  pub bases : List ℕ
  pub blocks : List ℕ
  pub count : ℕ
  pub labels : ℕ

-- these, from their parts
abbrev pub tables : List ℕ → List ℕ → List ℕ → List ℕ → ℕ → ℕ → Tables
tables ι os bs β n l = record { instrs = ι; operands = os; bases = bs; blocks = β; count = n; labels = l }

-- the program's operands
abbrev pub operands_of : Tables → OperandTable
operands_of T = operand_table T.operands T.bases

-- the lent words and the place, as a state
abbrev pub state_of : List ℕ → List ℕ → List ℕ → List ℕ → List ℕ → List ℕ → Place → State
state_of rk rn sk sn hk hn p = record { registers = lent rk rn; stack = lent sk sn; heap = lent hk hn; depth = p.depth; used = p.used; position = p.position }

-- the machine's word, as the code's
abbrev pub pair : Word → Pair
pair w = record { kind = w.kind; number = w.number }

-- the code's stop, as that of crate exec
abbrev pub stop_is : Reason → Stop
stop_is Halted = halted
stop_is StackFull = stack_full
stop_is HeapFull = heap_full
stop_is Stuck = stuck

-- ---- what the next instruction does
-- the last number is the position after it
pub data Next : Type 0 where
  Go : ℕ → Next
  -- a word to a register, to the stack or to the heap
  Register : ℕ → Pair → ℕ → Next
  Stack : ℕ → Pair → ℕ → Next
  Heap : ℕ → Pair → ℕ → Next
  -- another depth; n words of junk on top, and the depth then
  Depth : ℕ → ℕ → Next
  Junk : ℕ → ℕ → ℕ → Next
  -- a tuple at the first unused word: that word, the handle's register, the first operand, their number, the use then
  Tuple : ℕ → ℕ → ℕ → ℕ → ℕ → ℕ → Next
  End : Reason → Next

-- ---- what an instruction does, from the registers, the memory that it reads and the next position
-- as `only` and `unless` of crate exec
unfoldable pub given : ℕ → Word → (ℕ → Next) → Next
given k w f = cond (eqb w.kind k) (f w.number) (End Stuck)

-- x if b holds, else the stop s
unfoldable pub provided : Reason → Bool → Next → Next
provided s b x = cond b x (End s)

-- `add`, `sub` and `mul`
unfoldable pub next_arith : Memory → ℕ → Arith → ℕ → ℕ → Operand → Next
next_arith R to o d s v = given int_kind (at R s) (λ x. given int_kind (word_of R v) (λ y. Register d (pair (integer (compute o x y))) to))

-- a jump to the word w
unfoldable pub next_jump : List ℕ → ℕ → Word → Next
next_jump β labels w = given code_kind w (λ l. provided Stuck (ltb l labels) (Go (cell 2 β l 1)))

-- a branch on register r
unfoldable pub next_branch : List ℕ → ℕ → Memory → ℕ → Branch → ℕ → Operand → Next
next_branch β labels R to o r v = given int_kind (at R r) (λ x. cond (taken o (sign_of x)) (next_jump β labels (word_of R v)) (Go to))

-- `ld`
unfoldable pub next_load : Memory → Memory → ℕ → ℕ → ℕ → ℕ → Next
next_load R H to d s i = given tuple_kind (at R s) (λ a. provided Stuck (ltb i (at H a).number) (Register d (pair (at H (component_at a i))) to))

-- `st`
unfoldable pub next_store : Memory → Memory → ℕ → ℕ → ℕ → ℕ → Next
next_store R H to d i s = given tuple_kind (at R d) (λ a. provided Stuck (ltb i (at H a).number) (Heap (component_at a i) (pair (at R s)) to))

-- n operands from v on
unfoldable pub next_tuple : ℕ → ℕ → ℕ → ℕ → ℕ → Next
next_tuple used to d v n = provided HeapFull (leb (used + n + 1) heap_limit) (Tuple used d v n (used + n + 1) to)

-- `setsp`
unfoldable pub next_cut : Memory → ℕ → ℕ → ℕ → Next
next_cut R depth to s = given height_kind (at R s) (λ p. provided Stuck (leb p depth) (Depth p to))

-- `salloc`
unfoldable pub next_push : ℕ → ℕ → ℕ → Next
next_push depth to n = provided StackFull (leb (depth + n) stack_limit) (Junk n (depth + n) to)

-- `sfree`
unfoldable pub next_pop : ℕ → ℕ → ℕ → Next
next_pop depth to n = provided Stuck (leb n depth) (Depth (depth - n) to)

-- `sld`
unfoldable pub next_read : Memory → ℕ → ℕ → ℕ → ℕ → Next
next_read S depth to d i = provided Stuck (ltb i depth) (Register d (pair (at S (depth - suc i))) to)

-- `sst`
unfoldable pub next_write : Memory → ℕ → ℕ → ℕ → ℕ → Next
next_write R depth to i s = provided Stuck (ltb i depth) (Stack (depth - suc i) (pair (at R s)) to)

-- `slp`
unfoldable pub next_read_through : Memory → Memory → ℕ → ℕ → ℕ → ℕ → ℕ → Next
next_read_through R S depth to d s i = given height_kind (at R s) (λ p. provided Stuck (leb p depth && ltb i p) (Register d (pair (at S (p - suc i))) to))

-- `ssp`
unfoldable pub next_write_through : Memory → ℕ → ℕ → ℕ → ℕ → ℕ → Next
next_write_through R depth to d i s = given height_kind (at R d) (λ p. provided Stuck (leb p depth && ltb i p) (Stack (p - suc i) (pair (at R s)) to))

-- the instruction at the state's position: a tuple's operands are found in the tables
unfoldable pub next_of : Tables → State → Instr → Next
next_of T σ (aop o d s v) = next_arith σ.registers (suc σ.position) o d s v
next_of T σ (bop o r v) = next_branch T.blocks T.labels σ.registers (suc σ.position) o r v
next_of T σ (mov d v) = Register d (pair (word_of σ.registers v)) (suc σ.position)
next_of T σ (ld d s i) = next_load σ.registers σ.heap (suc σ.position) d s i
next_of T σ (st d i s) = next_store σ.registers σ.heap (suc σ.position) d i s
next_of T σ (malloc d t vs) = next_tuple σ.used (suc σ.position) d (cell 8 T.instrs σ.position 5) (length vs)
next_of T σ (getsp d t) = Register d (pair (height σ.depth)) (suc σ.position)
next_of T σ (setsp s) = next_cut σ.registers σ.depth (suc σ.position) s
next_of T σ (salloc n) = next_push σ.depth (suc σ.position) n
next_of T σ (sfree n) = next_pop σ.depth (suc σ.position) n
next_of T σ (sld d i) = next_read σ.stack σ.depth (suc σ.position) d i
next_of T σ (sst i s) = next_write σ.registers σ.depth (suc σ.position) i s
next_of T σ (slp d s i) = next_read_through σ.registers σ.stack σ.depth (suc σ.position) d s i
next_of T σ (ssp d i s t) = next_write_through σ.registers σ.depth (suc σ.position) d i s
next_of T σ (jmp v) = next_jump T.blocks T.labels (word_of σ.registers v)
next_of T σ (halt t) = End Halted
next_of T σ (unpack d v) = Register d (pair (word_of σ.registers v)) (suc σ.position)

-- what the next instruction does; stuck past the last
unfoldable pub next_at : Tables → State → Next
next_at T σ = cond (ltb σ.position T.count) (next_of T σ (instr_at T.instrs (operands_of T) σ.position)) (End Stuck)

-- ---- the state that it leaves
-- ω are the program's operands
unfoldable pub result_of : OperandTable → State → Next → Result State
result_of ω σ (Go p) = go (set_position σ p)
result_of ω σ (Register d w p) = go (record { registers = put σ.registers d (word_is w); stack = σ.stack; heap = σ.heap; depth = σ.depth; used = σ.used; position = p })
result_of ω σ (Stack i w p) = go (record { registers = σ.registers; stack = put σ.stack i (word_is w); heap = σ.heap; depth = σ.depth; used = σ.used; position = p })
result_of ω σ (Heap i w p) = go (record { registers = σ.registers; stack = σ.stack; heap = put σ.heap i (word_is w); depth = σ.depth; used = σ.used; position = p })
result_of ω σ (Depth d p) = go (record { registers = σ.registers; stack = σ.stack; heap = σ.heap; depth = d; used = σ.used; position = p })
result_of ω σ (Junk n d p) = go (record { registers = σ.registers; stack = puts σ.stack σ.depth (replicate n junk_word); heap = σ.heap; depth = d; used = σ.used; position = p })
result_of ω σ (Tuple a d v n u p) =
    go (record {
      registers = put σ.registers d (handle a);
      stack = σ.stack;
      heap = puts σ.heap a (tuple_of ω σ.registers v n);
      depth = σ.depth;
      used = u;
      position = p;
    })
result_of ω σ (End s) = stop (stop_is s)

-- "one step" of crate exec, by the tables
unfoldable pub step_at : Tables → State → Result State
step_at T σ = result_of (operands_of T) σ (next_at T σ)
