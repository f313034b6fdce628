-- What is asked and promised of the instructions of an image, whose tables are its sections.
use Rattle.std.specs.Prelude.{ℕ, suc, ◌+◌, ◌*◌, ◌≤◌, ◌<◌, ◌≡◌, List, [], ◌∷◌, ◌++◌, length, Option, Some, None, Result, IfOk, IfSome}
use Rattle.syntax.specs.Syntax.{Kind, Instr}
use Rattle.faults.specs.declared.Fault.{Fault}
use Rattle.image.specs.declared.Places.{Places}
use Rattle.image.specs.declared.Counts.{Counts}
use Rattle.image.specs.Sections.{block_section, shared_section, slot_section}
use Rattle.types.specs.Types.{items}
use Rattle.tables.specs.Tables.{row_at}
use Rattle.types_rows.specs.Read.{mean_s}
use Rattle.types_rows.specs.Environments.{Known}
use Rattle.valid.specs.Bounds.{SmallRow, AllShort}
use Rattle.valid.specs.Program.{Program}
use Rattle.valid.specs.Rules.{letters_after}
use Rattle.valid.specs.PassThree.{judge}
use Rattle.valid_context.specs.Context.{context_of, EnvsIn, HeldIn}
use Rattle.valid_context.specs.Told.{told_of}
use Rattle.valid_context.specs.Told
use Rattle.valid_scope.specs.declared.BlockLetters.{BlockLetters}
use Rattle.valid_typing.specs.declared.Listed.{Listed}
use Rattle.valid_typing.specs.Image.{row_table, listed_in, read_at, letters_in, HoldsAt}
use Rattle.valid_judge.specs.heap.Forms.{InRegs}
use Rattle.valid_judge.specs.stack.Forms.{InStack}
use Rattle.valid_judge.specs.through.Forms.{Flat}
use Rattle.valid_judge.specs.values.Forms.{InFile}

abbrev pub FlatAt : Places → List ℕ → ℕ → Type 0
FlatAt p l n = Flat (shared_section p l) (slot_section p l) n

-- each stack row can be written out in 4,096 items of two entries, for which there is room
pub record Flattens (p : Places) (image : List ℕ) (n : ℕ) (work : List ℕ) : Type 0 where
  pub flat : FlatAt p image n
  pub room : 8192 ≤ length work

-- the n rows' numbers are small, their stacks have at most 4,096 items, and there is room for as many
pub record SmallRows (p : Places) (image : List ℕ) (n : ℕ) (work : List ℕ) : Type 0 where
  pub small : (r : ℕ) → r < n → SmallRow (row_at (row_table p image) r)
  pub few : (x : ℕ) → x ≤ n → items (mean_s (row_table p image) x) ≤ 4096
  pub room : 8192 ≤ length work

-- few packages are opened, and there is room in the array of the registers
pub record Roomy (E regs : List ℕ) : Type 0 where
  pub few : length E ≤ 64
  pub registers : 16 ≤ length regs

-- the same, and the letters count the hidden variables
pub record Unpacks (E : List ℕ) (w : BlockLetters) (regs : List ℕ) : Type 0 where
  pub few : length E ≤ 64
  pub registers : 16 ≤ length regs
  pub hidden : w.hidden ≡ length E

-- few packages are opened, and there is room in the arrays of the registers and of sp, which has m items and may get more
pub record Rooms (E regs sp : List ℕ) (m : ℕ) : Type 0 where
  pub few : length E ≤ 64
  pub registers : 16 ≤ length regs
  pub items : 128 ≤ length sp
  pub depth : m ≤ 64

-- the same; the environments E and those that are held exist, and the letters w count the hidden variables
pub record InForce (E : List ℕ) (w : BlockLetters) (regs sp : List ℕ) (m : ℕ) : Type 0 where
  pub room : Rooms E regs sp m
  pub known : Known E
  pub held : HeldIn E regs sp m
  pub hidden : w.hidden ≡ length E

-- operands that are listed have few arguments each, stand within the table, and are at most 16
pub record ListedIn (p : Places) (image literals : List ℕ) (o : Listed) : Type 0 where
  pub short : AllShort (listed_in p image literals o)
  pub last : o.first + o.count ≤ 131072
  pub few : o.count ≤ 16

abbrev pub InRegsAt : Places → List ℕ → ℕ → List ℕ → List Kind → List ℕ → List ℕ → Result (Unit {0}) Fault → Instr → Type 0
InRegsAt p l n E Δ γ γ' r x = InRegs (shared_section p l) (slot_section p l) n E Δ γ γ' r x

abbrev pub InStackAt : {A : Type 0} → Places → List ℕ → ℕ → List ℕ → List Kind → List ℕ → List ℕ → ℕ → List ℕ → List ℕ → (A → ℕ) → Result A Fault → Instr → Type 0
InStackAt p l n E Δ γ σ d γ' σ' m r x = InStack (shared_section p l) (slot_section p l) n E Δ γ σ d γ' σ' m r x

abbrev pub InFileAt : Places → List ℕ → Counts → List ℕ → List Kind → List ℕ → List ℕ → Result (Unit {0}) Fault → Instr → Type 0
InFileAt p l c E Δ γ γ' r x = InFile (shared_section p l) (slot_section p l) c.rows (block_section p l) c.blocks E Δ γ γ' r x

-- ---- packages
-- the environments of the packages opened so far, where one more may be opened, in the environment e
unfoldable pub after : List ℕ → Option ℕ → List ℕ
after E None = E
after E (Some e) = E ++ e ∷ []

-- the letters w with as many hidden variables as there are environments
abbrev pub counting : BlockLetters → List ℕ → BlockLetters
counting w E = record { hidden = length E; count = w.count; start = w.start }

-- a package is opened: one environment more, which existed, and those of the registers γ exist
pub record OpenedTo (E : List ℕ) (e : ℕ) (γ : List ℕ) : Type 0 where
  pub one : length (after E (Some e)) ≡ suc (length E)
  pub few : length E < 64
  pub known : Known (after E (Some e))
  pub regs_in : EnvsIn (2 * length (after E (Some e))) γ 8
  pub small : e ≤ 65535

-- the code's answer r to an instruction x that opens a package: its least fault, or the package's environment and the types after it,
-- whatever items sp has
pub record OpensAt (p : Places) (l : List ℕ) (c : Counts) (E : List ℕ) (w : BlockLetters) (γ γ' : List ℕ) (r : Result ℕ Fault) (x : Instr) : Type 0 where
  pub told : (P : Program) (σ : List ℕ) (m : ℕ) → HoldsAt p l c P → Known E → HeldIn E γ σ m
      → told_of (judge P (letters_in p l w) (context_of (read_at p l c.rows E) γ σ m) x) ≡ Told.told (λ e. context_of (read_at p l c.rows (after E (Some e))) γ' σ m) r
  pub goes : IfOk r (λ e. Known E → EnvsIn (2 * length E) γ 8 → OpenedTo E e γ')

-- after instruction x, which has no fault: its letters, and what is in force
pub record Goes (p : Places) (l E : List ℕ) (o : Option ℕ) (w : BlockLetters) (x : Instr) (γ σ : List ℕ) (m : ℕ) : Type 0 where
  pub letters : letters_after x (letters_in p l w) ≡ letters_in p l (counting w (after E o))
  pub known : Known (after E o)
  pub held : HeldIn (after E o) γ σ m
  pub few : length (after E o) ≤ 64
  pub small : IfSome o (λ e. e ≤ 65535)
