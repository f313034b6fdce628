use mathlib.Core.Path.{◌≡◌, refl}
use Rattle.types_pass_two.proofs.instr_refs.Operands.{operand_package, operand_plain, operand_inst}
use Rattle.types_pass_two.proofs.instr_refs.operand_fault.Goals as goal

pub returns-then-k-ge4 : goal.returns-then-k-ge4
returns-then-k-ge4 c =
    operand_package _ _ _ _ _ _ _ _ _ _ c.cell-k.ensures.0 (search) c.label_fault-p.ensures c.package_fault.ensures

pub returns-then-m-eq0 : goal.returns-then-m-eq0
returns-then-m-eq0 c =
    operand_plain _ _ _ _ _ _ _ _ _ _ _ c.cell-m.ensures.0 c.cell-k.ensures.0 refl (search) (search) (search)

pub returns : goal.returns
returns c =
    let some_args : c.cell-m.result ≡ 0 → ⊥ = search in
    operand_inst _ _ _ _ _ _ _ _ _ _ _ _ _ _ _ _ _ c.cell-m.ensures.0 c.cell-k.ensures.0 refl
    c.cell-at.ensures.0 c.cell.ensures.0 c.if-k-ge4.false some_args c.label_fault-f.ensures c.list_fault-g.ensures
    c.code_ref.ensures c.least.ensures (search)
