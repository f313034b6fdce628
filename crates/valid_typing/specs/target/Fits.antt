-- Whether a register fits what a code row says of it, and what a target is asked with.
use Rattle.std.specs.Prelude.{ℕ, zero, suc, ◌+◌, ◌≤◌, ◌≡◌, Bool, true, false, cond, eqb, List, length, Option, Some, None, Result, Ok, Err}
use Rattle.std.proofs.Math.Option as Math
use Rattle.syntax.specs.Syntax.{value}
use Rattle.syntax.specs.Fault.{first_item}
use Rattle.types.specs.Types.{Ty}
use Rattle.types.specs.Equal.{same}
use Rattle.faults.specs.declared.Fault.{Fault}
use Rattle.faults.specs.Numbers.{number}
use Rattle.valid.specs.PassThree.{Judged, faults_of}
use Rattle.valid_context.specs.Context.{Reading}
use Rattle.valid_context.specs.Told.{Told, gives, lacks, told_of}
use Rattle.types_rows.specs.declared.Held.{Held}
use Rattle.valid_typing.specs.declared.target.Misfit.{Misfit}

-- a register is a link u in environment e: 0 if nothing is known of it, else one more than the row of its type; v says what a row means
unfoldable pub slot_fits : (ℕ → Ty value) → Reading → Option ℕ → ℕ → ℕ → Bool
slot_fits v T None e u = true
slot_fits v T (Some t) e zero = false
slot_fits v T (Some t) e (suc u) = same (v t) (T.type e u)

-- a code row is one of the n + 2, in a small environment
pub record CodeHeld (n : ℕ) (h : Held) : Type 0 where
  pub link_in : h.row ≤ n + 2
  pub small : h.env ≤ 65535

-- an operand within the table, few packages opened so far, and a small depth of sp
pub record TargetIn (v : ℕ) (E : List ℕ) (d : ℕ) : Type 0 where
  pub last : v ≤ 131072
  pub few : length E ≤ 64
  pub depth : d ≤ 65535

-- ---- the code's answer to a premise of which an item may not fit
-- the item that the code names
abbrev pub item_of : Option ℕ → Math.Option ℕ
item_of None = Math.none
item_of (Some i) = Math.some i

-- the number of its fault, 0 if there is none, and its item
abbrev pub misfit_number : {A : Type 0} → Result A Misfit → ℕ
misfit_number (Ok x) = 0
misfit_number (Err m) = number m.fault

abbrev pub misfit_item : {A : Type 0} → Result A Misfit → Math.Option ℕ
misfit_item (Ok x) = Math.none
misfit_item (Err m) = item_of m.item

-- the fault of a target's operand: for fault 10 the item is the resulting row
abbrev pub operand_misfit : Fault → Misfit
operand_misfit f = record { fault = f; item = cond (eqb (number f) 10) (Some 99) None }

-- what it answers, where g says what its result stands for
abbrev pub told_misfit : {A B : Type 0} → (B → A) → Result B Misfit → Told A
told_misfit g (Ok x) = gives (g x)
told_misfit g (Err m) = lacks (number m.fault)

-- the premise holds and gives this, or has this least fault; and the first item of fault 10 at a jump or branch
pub record AnsweredBy {A B : Type 0} (J : Judged A) (g : B → A) (r : Result B Misfit) : Type 0 where
  pub told : told_of J ≡ told_misfit g r
  pub named : misfit_item r ≡ cond (eqb (misfit_number r) 10) (first_item (faults_of J)) Math.none
