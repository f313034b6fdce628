-- The refusal that a finding says.
use Rattle.std.specs.Prelude.{ℕ, cond, eqb, Option as Maybe, Some, None, Result, Ok, Err}
use Rattle.std.proofs.Math.Option.{Option, none, some}
use Rattle.syntax.specs.Fault.{Refusal}
use Rattle.faults.specs.Numbers.{number}
use Rattle.valid_context.specs.premises.Answers.{item_said}
use Rattle.valid_verdict.specs.declared.finding.Finding.{Finding}
use Rattle.valid_verdict.specs.declared.finding.NumberedFinding.{NumberedFinding}

-- the item that is named, if one is
abbrev pub item_named : Maybe ℕ → Option ℕ
item_named None = none
item_named (Some i) = some i

-- what a finding refuses
abbrev pub refusal_of : Finding → Refusal
refusal_of f = record { number = number f.fault; line = f.line; item = item_named f.item }

-- where no fault is found there is none
abbrev pub refusal_said : {A : Type 0} → Result A Finding → Option Refusal
refusal_said (Ok x) = none
refusal_said (Err f) = some (refusal_of f)

-- of a finding in numbers: the number 0 says that there is none
unfoldable pub refusal_numbered : NumberedFinding → Option Refusal
refusal_numbered f = cond (eqb f.number 0) none (some (record { number = f.number; line = f.line; item = item_said f.item }))
