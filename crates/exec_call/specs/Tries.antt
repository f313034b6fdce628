-- What a call asks for, and what an attempt at it with an image that may be too small leaves: where the text fits it the outcome that is
-- asked for, else the lent state as it was.
use Rattle.std.specs.Prelude.{ℕ, ◌+◌, ◌-◌, ◌≤◌, ◌≡◌, Bool, true, false, cond, List, [], MatchOption}
use Rattle.std.specs.Prelude as code
use Rattle.std.proofs.Math.Option.{Option, none}
use Rattle.valid.specs.Program.{Program}
use Rattle.exec.specs.Machine.{State}
use Rattle.exec.specs.Run.{Outcome, refuse, start_on, starting, continue_unless, continuing}
use Rattle.image.specs.declared.Places.{Places}
use Rattle.image.specs.Sections.{instr_section, operand_section, block_section}
use Rattle.image.specs.Layout.{places_of}
use Rattle.exec_machine.specs.Step.{Tables, tables}
use Rattle.exec_ready.specs.declared.Ready.{Ready}
use Rattle.exec_call.specs.declared.Call.{Call}
use Rattle.exec_call.specs.declared.Call.TheVariants.{Start, Continue}

-- ---- what is called for
-- whether it is a start
abbrev pub starts : Call → Bool
starts (Start s) = true
starts Continue = false

-- the samples' text; there is none where a run goes on
abbrev pub given : Call → List ℕ
given (Start s) = s.now
given Continue = []

-- the answer to a call: of a start, or of going on
pub record Called (first : Bool) (text samples : List ℕ) (m : ℕ) (σ : State) (out : Outcome) : Type 0 where
  pub started : first ≡ true → out ≡ starting text samples m σ
  pub continued : first ≡ false → out ≡ continuing text m σ

-- the same, where nothing bars the program
pub record RanOn (first : Bool) (P : Program) (xs : Option (List ℕ)) (m : ℕ) (σ : State) (out : Outcome) : Type 0 where
  pub started : first ≡ true → out ≡ start_on P xs m σ
  pub continued : first ≡ false → out ≡ continue_unless none P m σ

-- an attempt, from a state to the one after it: the outcome that was called for, or else the state as it was
abbrev pub Tries : {O : Type 0} → Bool → List ℕ → List ℕ → ℕ → code.Option O → (O → Outcome) → State → State → Type 0
Tries first text samples m r out after before = MatchOption r (after ≡ before) (λ o. Called first text samples m before (out o))

-- ---- in working memory
-- the machine's tables in an image, at these places, and its numbers, as they were counted
abbrev pub tables_in : Places → List ℕ → List ℕ → Ready → Tables
tables_in p image numbers r = tables (instr_section p image) (operand_section p image) numbers (block_section p image) r.instrs r.blocks

-- a plan of that length holds one row more than an image has instructions
abbrev pub PlanFits : ℕ → ℕ → Type 0
PlanFits image plan = (places_of image).parts - (places_of image).instrs + 8 ≤ plan

-- the answer to a call with working memory lent: 16, line 0, where it is too short, before anything else
pub record CalledIn (long first : Bool) (text samples : List ℕ) (m : ℕ) (σ : State) (out : Outcome) : Type 0 where
  pub enough : long ≡ true → Called first text samples m σ out
  pub short : long ≡ false → out ≡ refuse σ 16 0

-- the same, each by itself
abbrev pub starting_in : Bool → List ℕ → List ℕ → ℕ → State → Outcome
starting_in long text samples m σ = cond long (starting text samples m σ) (refuse σ 16 0)

abbrev pub continuing_in : Bool → List ℕ → ℕ → State → Outcome
continuing_in long text m σ = cond long (continuing text m σ) (refuse σ 16 0)
