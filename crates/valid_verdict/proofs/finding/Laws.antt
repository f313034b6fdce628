-- Findings on a line, with an item, and in numbers.
use Rattle.std.specs.Prelude.{ℕ, Option as Maybe, None, Result, Err}
use mathlib.Core.Path.{◌≡◌, ap, ◌∙◌}
use Rattle.faults.specs.declared.Fault.{Fault}
use Rattle.faults.specs.Numbers.{number}
use mathlib.Core.Option.{Option, none, some}
use borrow.Author.Tests.{eq-eqb, ne_eqb}
use Rattle.syntax.specs.Fault.{Refusal}
use Rattle.valid_context.specs.premises.Answers.{item_said}
use Rattle.valid_verdict.specs.declared.finding.Finding.{Finding}
use Rattle.valid_verdict.specs.declared.finding.NumberedFinding.{NumberedFinding}
use Rattle.valid_verdict.specs.finding.Found.{item_named, refusal_of, refusal_said, refusal_numbered}

-- a fault without an item
pub on_line_said : {f : Finding} {k : Fault} {l : ℕ} → f ≡ record { fault = k; line = l; item = None } → some (refusal_of f) ≡ some (record { number = number k; line = l; item = none })
on_line_said e = ap (λ (f : Finding). some (refusal_of f)) e

-- a finding with what is known of its item
pub finding_said : {A : Type 0} (r : Result A Finding) (f : Finding) (i : Maybe ℕ) → r ≡ Err f → f.item ≡ i → refusal_said r ≡ some (record { number = number f.fault; line = f.line; item = item_named i })
finding_said r f i e q = ap refusal_said e ∙ ap (λ (j : Maybe ℕ). some (record { number = number f.fault; line = f.line; item = item_named j })) q

-- a finding in numbers: with the number 0 it refuses nothing
pub says_none : (f : NumberedFinding) → f.number ≡ 0 → refusal_numbered f ≡ none
unfolding refusal_numbered
says_none f z = rw (eq-eqb f.number 0 z)

-- with another number it refuses, and its item is what the number of the item means
pub says_some : (f : NumberedFinding) (o : Option ℕ) → (f.number ≡ 0 → ⊥) → item_said f.item ≡ o → refusal_numbered f ≡ some (record { number = f.number; line = f.line; item = o })
unfolding refusal_numbered
says_some f o h e = rw (ne_eqb f.number 0 h) (ap (λ (i : Option ℕ). some (record { number = f.number; line = f.line; item = i })) e)
