-- Lent slices as the memory of crate exec.
use Rattle.std.specs.Prelude.{◌≡◌, ℕ, ◌+◌, ◌*◌, ◌<◌, ◌≤◌, cond, ◌||◌, List, [], ◌∷◌, map, length, ◌==◌, slice_index}
use Rattle.exec.specs.Machine.{Word, Memory, integer, word_of}
use Rattle.tables.specs.Tables.{OperandTable, operands_at}
use Rattle.exec_words.specs.declared.memory.Word.{Word as Pair}

-- a word of the code, as the machine's
abbrev pub word_is : Pair → Word
word_is w = record { kind = w.kind; number = w.number }

-- kinds beside numbers
abbrev pub lent : List ℕ → List ℕ → Memory
lent ks ns = record { kinds = ks; numbers = ns }

-- the operand table without its type arguments, which do nothing at run time
abbrev pub operand_table : List ℕ → List ℕ → OperandTable
operand_table os ns = record { operands = os; numbers = ns; args = [] }

-- the kind of the base of an operand of kind k: 0 register, 1 integer, 2 label; a package has its base's kind and 4
unfoldable pub base_kind : ℕ → ℕ
base_kind k = cond (k == 0 || k == 4) 0 (cond (k == 1 || k == 5) 1 2)

-- b is that kind, or a number past 1 where that is a label's
pub record KindOf (k b : ℕ) : Type 0 where
  pub own : b < 2 → b ≡ base_kind k
  pub label : 2 ≤ b → 2 ≡ base_kind k

-- a tuple's words: its length, then those of n operands from v on
unfoldable pub tuple_of : OperandTable → Memory → ℕ → ℕ → List Word
tuple_of ω R v n = integer n ∷ map (word_of R) (operands_at ω v n)

-- n operands from v on stand in the tables, and those whose base is a register name one below 8
pub record Sourced (os bs : List ℕ) (v n : ℕ) : Type 0 where
  pub bases : v + n ≤ length bs
  pub operands : 4 * (v + n) ≤ length os
  pub low : (k : ℕ) → k < n → base_kind (slice_index os (4 * (v + k))) ≡ 0 → slice_index bs (v + k) < 8

-- kinds and numbers of at least n words
pub record Long (n : ℕ) (ks ns : List ℕ) : Type 0 where
  pub kinds : n ≤ length ks
  pub numbers : n ≤ length ns

-- the word at i is lent
pub record WordAt (i : ℕ) (ks ns : List ℕ) : Type 0 where
  pub kinds : i < length ks
  pub numbers : i < length ns

-- operand v stands in the tables, and if its base is a register it is below 8
pub record OperandAt (os bs : List ℕ) (v : ℕ) : Type 0 where
  pub operands : 4 * v < length os
  pub bases : v < length bs
  pub low : base_kind (slice_index os (4 * v)) ≡ 0 → slice_index bs v < 8
