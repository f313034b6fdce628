use mathlib.Core.Path.{◌≡◌, refl, ap, ◌∙◌}
use mathlib.Core.Bool.{cond}
use Rattle.types_pass_two.proofs.Laws.{row_refs_lem, row_size}
use Rattle.types_pass_two.proofs.refs.Lines.{number_is}
use Rattle.std.specs.Bool.{then_some}
use Rattle.faults.specs.Numbers.{fault_number}
use Rattle.faults.specs.declared.Fault.TheVariants.{TooLarge}
use mathlib.Core.Bool.{Bool, true, false}
use Rattle.types_pass_two.proofs.row_fault.Goals as goal

size_number : (b : Bool) → fault_number (then_some b TooLarge) ≡ cond b 6 0
size_number true = refl
size_number false = refl

pub returns-in-Some : goal.returns-in-Some
returns-in-Some c = (row_refs_lem _ _ _ c.in-Some.ensures (number_is c.in-Some.f), search)

pub returns : goal.returns
returns c =
    (ap fault_number c.then_some.ensures ∙ size_number c.size_over.result ∙ row_size _ _ _ c.in_default.ensures _ c.size_over.ensures.0 refl, search)
