-- What pass three relies on.
use Rattle.std.specs.Prelude.{ℕ, ◌+◌, ◌≤◌, ◌<◌, ◌≡◌, List, length, take}
use Rattle.image.specs.declared.Places.{Places}
use Rattle.image.specs.Sections.{Ordered, instr_section, use_section, top_section, shared_section, slot_section}
use Rattle.syntax.specs.Syntax.{Instr}
use Rattle.types.specs.Types.{items}
use Rattle.tables.specs.Tables.{row_at, instrs_from}
use Rattle.types_rows.specs.Read.{tab, mean_s}
use Rattle.valid_context.specs.Context.{EnvsIn}
use Rattle.valid_scope.specs.Scoped.{Scoped}
use Rattle.valid_scope.specs.declared.BlockLetters.{BlockLetters}
use Rattle.valid_typing.specs.Typing.{Ready}
use Rattle.valid_typing.specs.Image.{row_table, operands_in, instr_in}
use Rattle.valid.specs.Bounds.{SmallRow, SmallInstr}
use Rattle.valid_judge.specs.Image.{InForce, counting}
use Rattle.valid_pass_three.specs.declared.body.CodeBlock.{CodeBlock}

-- what the tables of rows hold: every row's count, its uses of variables, small numbers
pub record Tables (rows parts : List ℕ) (n : ℕ) (uses tops : List ℕ) : Type 0 where
  pub ready : Ready rows parts n
  pub scoped : Scoped (tab rows parts) n uses tops
  pub small : (r : ℕ) → r < n → SmallRow (row_at (tab rows parts) r)
  pub few : (x : ℕ) → x ≤ n + 2 → items (mean_s (tab rows parts) x) ≤ 4096

-- the same of an image, its rows as the checker shares them
abbrev pub TablesAt : Places → List ℕ → ℕ → Type 0
TablesAt p l n = Tables (shared_section p l) (slot_section p l) n (use_section p l) (top_section p l)

-- the same, with the image's sections in order
pub record Tabled (p : Places) (image : List ℕ) (n : ℕ) : Type 0 where
  pub ordered : Ordered p (length image)
  pub tables : TablesAt p image n

-- the instructions from first to end - 1, behind line base, have small numbers
pub record SmallInstrs (p : Places) (image literals : List ℕ) (first end base : ℕ) : Type 0 where
  pub small : (i : ℕ) → first ≤ i → i < end → SmallInstr (instr_in p image literals i)
  pub last : end ≤ 65535
  pub lines : base ≤ 262144

-- room in the arrays of registers, of sp's items, of those behind a pointer, and of what a comparison keeps pending
pub record Arrays (γ σ ω π : List ℕ) : Type 0 where
  pub registers : 16 ≤ length γ
  pub items : 128 ≤ length σ
  pub work : 8192 ≤ length ω
  pub pending : 1543 ≤ length π

-- at a block's start no package is opened, and no environment but 0 is held; sp has at most 64 items
pub record Begins (w : BlockLetters) (γ σ : List ℕ) (d : ℕ) : Type 0 where
  pub hidden : w.hidden ≡ 0
  pub depth : d ≤ 64
  pub regs_in : EnvsIn 0 γ 8
  pub sp_in : EnvsIn 0 σ d

-- the environments of the h packages opened so far stand in front, and they and what is held are in force
pub record Opening (envs : List ℕ) (h : ℕ) (w : BlockLetters) (γ σ : List ℕ) (d : ℕ) : Type 0 where
  pub fits : h ≤ length envs
  pub force : InForce (take h envs) (counting w (take h envs)) γ σ d

-- the code row of a block is one of the n, its stack stands below it and has few items
pub record CodeRow (p : Places) (image : List ℕ) (n : ℕ) (x : CodeBlock) : Type 0 where
  pub some : 0 < x.link
  pub row : x.link ≤ n + 1
  pub below : x.stack < x.link
  pub start : x.start ≤ 65535
  pub few : items (mean_s (row_table p image) x.stack) ≤ 64

-- the k instructions of an image from i on
abbrev pub instrs_in : Places → List ℕ → List ℕ → ℕ → ℕ → List Instr
instrs_in p l literals i k = instrs_from (instr_section p l) (operands_in p l literals) i k
