use Prim.Native.Nat.{◌≤◌}
use native.Mathlib.Omega.{arith}
use mathlib.Core.Path.{◌≡◌}
use Rattle.types_pass_two.proofs.row_refs.References.{row_by, row_tuple, row_pointer, row_code, row_hidden, row_push, row_join, row_leaf}
use Rattle.types_pass_two.proofs.row_refs.row_fault.Goals as goal

pub returns-in-0-to-2 : goal.returns-in-0-to-2
returns-in-0-to-2 c =
    let k = c.cell.result in
    let low : k ≤ 8 = omega arith in
    let not_tuple : k ≡ 3 → ⊥ = omega arith in
    let not_pointer : k ≡ 4 → ⊥ = omega arith in
    let not_code : k ≡ 5 → ⊥ = omega arith in
    let not_hidden : k ≡ 6 → ⊥ = omega arith in
    row_by _ _ _ _ _ _ 0 c.cell.ensures.0 c.cell-a.ensures.0 c.cell-b.ensures.0 (row_leaf _ _ _ _ _ _ not_tuple not_pointer not_code not_hidden (omega arith) (omega arith))

pub returns-in-3 : goal.returns-in-3
returns-in-3 c =
    row_by _ _ _ _ _ _ _ c.cell.ensures.0 c.cell-a.ensures.0 c.cell-b.ensures.0 (row_tuple _ _ _ _ _ _ _ c.in-3.is c.list_fault.ensures)

pub returns-in-4 : goal.returns-in-4
returns-in-4 c =
    row_by _ _ _ _ _ _ _ c.cell.ensures.0 c.cell-a.ensures.0 c.cell-b.ensures.0 (row_pointer _ _ _ _ _ _ _ c.in-4.is c.stack_ref.ensures)

pub returns-in-5 : goal.returns-in-5
returns-in-5 c =
    row_by _ _ _ _ _ _ _ c.cell.ensures.0 c.cell-a.ensures.0 c.cell-b.ensures.0 (row_code _ _ _ _ _ _ _ _ _ c.in-5.is c.stack_ref-in-5.ensures c.list_fault-in-5.ensures c.least.ensures)

pub returns-in-6 : goal.returns-in-6
returns-in-6 c =
    row_by _ _ _ _ _ _ _ c.cell.ensures.0 c.cell-a.ensures.0 c.cell-b.ensures.0 (row_hidden _ _ _ _ _ _ _ c.in-6.is c.value_ref.ensures)

pub returns-in-9 : goal.returns-in-9
returns-in-9 c =
    row_by _ _ _ _ _ _ _ c.cell.ensures.0 c.cell-a.ensures.0 c.cell-b.ensures.0 (row_push _ _ _ _ _ _ _ _ _ c.in-9.is c.value_ref-in-9.ensures c.stack_ref-in-9.ensures c.least-in-9.ensures)

pub returns-in_default : goal.returns-in_default
returns-in_default c =
    row_by _ _ _ _ _ _ _ c.cell.ensures.0 c.cell-a.ensures.0 c.cell-b.ensures.0 (row_join _ _ _ _ _ _ _ _ _ (omega arith) c.stack_ref-in_default.ensures c.stack_ref-in_default-2.ensures c.least-in_default.ensures)
