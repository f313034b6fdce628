-- The machine, one step (document 01, "Machine"; Figures 7 and 8). Type arguments and rows do nothing at run time.
use Rattle.std.specs.Prelude.{ℕ, suc, ◌+◌, ◌-◌, ◌*◌, ◌%◌, min, Bool, true, false, ◌&&◌, cond, List, [], ◌∷◌, ◌++◌, map, leb, ltb, eqb, length, get_or, set, take, replicate}
use Rattle.std.proofs.Math.Option.{Option, none, some}
use Rattle.std.proofs.Math.ListN.{get_elem?}
use Rattle.syntax.specs.Bits.{modulus, half}
use Rattle.syntax.specs.Syntax.{Base, reg, lit, lab, Operand, plain, inst, pack, Arith, add, sub, mul, Branch, beq, bneq, bgt, blt, bgte, blte, Instr, aop, bop, mov, unpack, ld, st, malloc, getsp, setsp, salloc, sfree, sld, sst, slp, ssp, jmp, halt}

-- ---- words
-- "A word is an integer, a label, a tuple handle (its first heap word's index), a stack height, or junk": a kind and a number.
-- An integer's number is its bits (Bits.antt of crate syntax).
pub record Word : Type 0 where
  pub kind : ℕ
  pub number : ℕ

-- The five kinds, "int, code, tuple, height, junk", are numbered in that order.

-- the kind of an integer
abbrev pub int_kind : ℕ
int_kind = 0

-- the kind of a label
abbrev pub code_kind : ℕ
code_kind = 1

-- the kind of a tuple handle
abbrev pub tuple_kind : ℕ
tuple_kind = 2

-- the kind of a stack height
abbrev pub height_kind : ℕ
height_kind = 3

-- the kind of junk
abbrev pub junk_kind : ℕ
junk_kind = 4

-- The five words: an integer, a label, a tuple handle, a stack height, junk.

-- the integer with bits n
abbrev pub integer : ℕ → Word
integer n = record { kind = int_kind; number = n }

-- label l
abbrev pub label : ℕ → Word
label l = record { kind = code_kind; number = l }

-- the handle of the tuple whose first heap word is a
abbrev pub handle : ℕ → Word
handle a = record { kind = tuple_kind; number = a }

-- stack height p
abbrev pub height : ℕ → Word
height p = record { kind = height_kind; number = p }

-- junk: "junk's number 0"
abbrev pub junk_word : Word
junk_word = record { kind = junk_kind; number = 0 }

-- ---- lent state
-- words as they are lent: their kinds, and beside them their numbers
pub record Memory : Type 0 where
  pub kinds : List ℕ
  pub numbers : List ℕ

-- how many words are lent
abbrev pub capacity : Memory → ℕ
capacity m = min (length m.kinds) (length m.numbers)

-- word i; past the ends stand the kind of junk and 0
unfoldable pub at : Memory → ℕ → Word
at m i = record { kind = get_or m.kinds i junk_kind; number = get_or m.numbers i 0 }

-- word i replaced
unfoldable pub put : Memory → ℕ → Word → Memory
put m i w = record { kinds = set m.kinds i w.kind; numbers = set m.numbers i w.number }

-- words in a row replaced, from word i on
unfoldable pub puts : Memory → ℕ → List Word → Memory
puts m i [] = m
puts m i (w ∷ ws) = puts (put m i w) (suc i) ws

-- The stack stands from the bottom up, of which `depth` words are in use; of the heap `used` words are. `position` counts the
-- instructions of all blocks from 0.
pub record State : Type 0 where
  pub registers : Memory
  pub stack : Memory
  pub heap : Memory
  pub depth : ℕ
  pub used : ℕ
  pub position : ℕ

-- "Limits: 256 stack words, .."
abbrev pub stack_limit : ℕ
stack_limit = 256

-- "Limits: .., 2,048 heap words."
abbrev pub heap_limit : ℕ
heap_limit = 2048

-- ---- the program, as the machine sees it
-- the instructions of each block
abbrev pub Bodies : Type 0
Bodies = List (List Instr)

-- the instructions of all blocks, one after the other
unfoldable pub flat : Bodies → List Instr
flat [] = []
flat (b ∷ bs) = b ++ flat bs

-- the position of block l's first instruction
unfoldable pub start_of : Bodies → ℕ → ℕ
start_of P l = length (flat (take l P))

-- the instruction at the position
unfoldable pub fetch : Bodies → State → Option Instr
fetch P σ = get_elem? (flat P) σ.position

-- ---- arithmetic and tests
-- "Sums, differences and products are taken modulo 2^32 and read as signed": the bits of the result; `signed` of crate syntax reads them.
unfoldable pub compute : Arith → ℕ → ℕ → ℕ
compute add x y = (x + y) % modulus
compute sub x y = (x + (modulus - y % modulus)) % modulus
compute mul x y = (x * y) % modulus

-- the three signs of the branch tests
pub data Sign : Type 0 where
  negative null positive : Sign

-- the sign of an integer, given as bits
unfoldable pub sign_of : ℕ → Sign
sign_of n = cond (eqb n 0) null (cond (ltb n half) positive negative)

-- "The branch tests are a constant table of six rows by three signs."
unfoldable pub taken : Branch → Sign → Bool
taken beq negative = false
taken beq null = true
taken beq positive = false
taken bneq negative = true
taken bneq null = false
taken bneq positive = true
taken bgt negative = false
taken bgt null = false
taken bgt positive = true
taken blt negative = true
taken blt null = false
taken blt positive = false
taken bgte negative = false
taken bgte null = true
taken bgte positive = true
taken blte negative = true
taken blte null = true
taken blte positive = false

-- ---- one step
-- how a step ends a run: at `halt`, "stack full", "heap full", "stuck"
pub data Stop : Type 0 where
  halted stack_full heap_full stuck : Stop

-- what a step gives, or the stop
pub data Result (A : Type 0) : Type 0 where
  go : A → Result A
  stop : Stop → Result A

-- the word of a base, by the registers R
unfoldable pub base_word : Memory → Base → Word
base_word R (reg r) = at R r
base_word R (lit n) = integer n
base_word R (lab l) = label l

-- R̂(v) of the paper: the word of an operand, by the registers R; "the machine hands the inner word on" of a package (document 02, point 3)
unfoldable pub word_of : Memory → Operand → Word
word_of R (plain b) = base_word R b
word_of R (inst b ts t) = base_word R b
word_of R (pack a b h) = base_word R b

-- the number of a word of that kind; any other word is stuck
unfoldable pub only : {A : Type 0} → ℕ → Word → (ℕ → Result A) → Result A
only k w f = cond (eqb w.kind k) (f w.number) (stop stuck)

-- r if the test holds; else the stop s
unfoldable pub unless : {A : Type 0} → Stop → Bool → Result A → Result A
unless s b r = cond b r (stop s)

-- Four changes of the state: the first three go on to the next instruction, with a register, the stack or the heap changed.

-- register d holds w
abbrev pub set_register : State → ℕ → Word → State
set_register σ d w = record { registers = put σ.registers d w; stack = σ.stack; heap = σ.heap; depth = σ.depth; used = σ.used; position = suc σ.position }

-- the stack is m, of which d words are in use
abbrev pub set_stack : State → Memory → ℕ → State
set_stack σ m d = record { registers = σ.registers; stack = m; heap = σ.heap; depth = d; used = σ.used; position = suc σ.position }

-- the heap is m
abbrev pub set_heap : State → Memory → State
set_heap σ m = record { registers = σ.registers; stack = σ.stack; heap = m; depth = σ.depth; used = σ.used; position = suc σ.position }

-- the next instruction is at p, and nothing else is changed
abbrev pub set_position : State → ℕ → State
set_position σ p = record { registers = σ.registers; stack = σ.stack; heap = σ.heap; depth = σ.depth; used = σ.used; position = p }

-- the length of the tuple at heap word a: "A tuple takes a length word (an integer) and its components"
abbrev pub length_at : State → ℕ → ℕ
length_at σ a = (at σ.heap a).number

-- where component i of the tuple at a stands, behind its length word
abbrev pub component_at : ℕ → ℕ → ℕ
component_at a i = a + suc i

-- "Through height p, index i is the word p - 1 - i from the bottom."
abbrev pub through : ℕ → ℕ → ℕ
through p i = p - suc i

-- a jump to the word w: to the first instruction of its block; stuck if it is "no existing label"
unfoldable pub jump : Bodies → State → Word → Result State
jump P σ w = only code_kind w (λ l. unless stuck (ltb l (length P)) (go (set_position σ (start_of P l))))

-- What an instruction does: one step of the paper's machine, within the limits; or the stop, by document 01's conditions.
unfoldable pub exec : Bodies → State → Instr → Result State
exec P σ (aop o d s v) = only int_kind (at σ.registers s) (λ x. only int_kind (word_of σ.registers v) (λ y. go (set_register σ d (integer (compute o x y)))))
exec P σ (bop o r v) = only int_kind (at σ.registers r) (λ x. cond (taken o (sign_of x)) (jump P σ (word_of σ.registers v)) (go (set_position σ (suc σ.position))))
exec P σ (mov d v) = go (set_register σ d (word_of σ.registers v))
-- "The machine hands the inner word on" (document 02, point 3): one step, as `mov`, whatever the word is
exec P σ (unpack d v) = go (set_register σ d (word_of σ.registers v))
exec P σ (ld d s i) = only tuple_kind (at σ.registers s) (λ a. unless stuck (ltb i (length_at σ a)) (go (set_register σ d (at σ.heap (component_at a i)))))
exec P σ (st d i s) = only tuple_kind (at σ.registers d) (λ a. unless stuck (ltb i (length_at σ a)) (go (set_heap σ (put σ.heap (component_at a i) (at σ.registers s)))))
exec P σ (malloc d t vs) =
    unless heap_full (leb (σ.used + length vs + 1) heap_limit) (go (record {
      registers = put σ.registers d (handle σ.used);
      stack = σ.stack;
      heap = puts σ.heap σ.used (integer (length vs) ∷ map (word_of σ.registers) vs);
      depth = σ.depth;
      used = σ.used + length vs + 1;
      position = suc σ.position;
    }))
exec P σ (getsp d t) = go (set_register σ d (height σ.depth))
exec P σ (setsp s) = only height_kind (at σ.registers s) (λ p. unless stuck (leb p σ.depth) (go (set_stack σ σ.stack p)))
exec P σ (salloc n) = unless stack_full (leb (σ.depth + n) stack_limit) (go (set_stack σ (puts σ.stack σ.depth (replicate n junk_word)) (σ.depth + n)))
exec P σ (sfree n) = unless stuck (leb n σ.depth) (go (set_stack σ σ.stack (σ.depth - n)))
exec P σ (sld d i) = unless stuck (ltb i σ.depth) (go (set_register σ d (at σ.stack (through σ.depth i))))
exec P σ (sst i s) = unless stuck (ltb i σ.depth) (go (set_stack σ (put σ.stack (through σ.depth i) (at σ.registers s)) σ.depth))
exec P σ (slp d s i) = only height_kind (at σ.registers s) (λ p. unless stuck (leb p σ.depth && ltb i p) (go (set_register σ d (at σ.stack (through p i)))))
exec P σ (ssp d i s t) = only height_kind (at σ.registers d) (λ p. unless stuck (leb p σ.depth && ltb i p) (go (set_stack σ (put σ.stack (through p i) (at σ.registers s)) σ.depth)))
exec P σ (jmp v) = jump P σ (word_of σ.registers v)
exec P σ (halt t) = stop halted

-- what the instruction fetched does; stuck where there is none, which good form shuts out
abbrev pub exec_next : Bodies → State → Option Instr → Result State
exec_next P σ none = stop stuck
exec_next P σ (some x) = exec P σ x

-- One step: the instruction at the position is executed.
unfoldable pub step : Bodies → State → Result State
step P σ = exec_next P σ (fetch P σ)
