use mathlib.Core.Path.{◌∙◌, sym}
use Rattle.types_pass_two.proofs.instr_refs.Operands.{instr_bare, instr_given}
use Rattle.types_pass_two.proofs.instr_refs.instr_fault.Goals as goal

pub returns-in-None : goal.returns-in-None
returns-in-None c =
    λ ps. instr_bare _ ps _ _ _ _ _ _ _ _ _ _ c.cell-k.ensures.0 c.cell.ensures.0 c.cell-2.ensures.0 c.operand_count-m.ensures.0 (sym c.in-None.is ∙ c.given_place.ensures) c.operands_fault-f.ensures

pub returns-in-Some : goal.returns-in-Some
returns-in-Some c =
    λ ps. instr_given _ ps _ _ _ _ _ _ _ _ _ _ _ _ _ _ c.cell-k.ensures.0 c.cell.ensures.0
    c.cell-2.ensures.0 c.operand_count-m.ensures.0 (sym c.in-Some.is ∙ c.given_place.ensures) c.operands_fault-f.ensures
    c.cell-in-Some.ensures.0 c.value_ref.ensures c.least.ensures
