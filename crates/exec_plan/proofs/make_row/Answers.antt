use mathlib.Core.Path.{ap, ◌∙◌}
use mathlib.Core.List.{List}
use Prim.Native.Nat.{ℕ, ◌*◌}
use Rattle.exec_plan.specs.Plan.{put_row}
use Rattle.exec_plan.proofs.Laws.{row_is}
use Rattle.exec_plan.proofs.make_row.Goals as goal

pub returns : goal.returns
returns c =
    λ m. c.put_row.ensures ∙ ap (λ (vs : List ℕ). put_row c.args.plan.now (8 * c.args.j) vs) (row_is c.args.instrs.now
    c.args.operands.now c.args.bases.now c.args.blocks.now _ _ c.cell-code.ensures.0 c.cell-2.ensures.0
    c.cell-3.ensures.0 c.cell-4.ensures.0 c.cell-v.ensures.0 c.cell-6.ensures.0 c.cell.ensures.0
    c.base_kind-kind.ensures.0 c.entry_or-n.ensures c.cell-5.ensures.0 c.saturating_sub.ensures
    c.saturating_sub-2.ensures m c.column_in.ensures c.choose.ensures c.column_in-2.ensures c.choose-2.ensures
    c.column_in-3.ensures c.choose-3.ensures c.form.ensures.0 c.checked-f.ensures.0 c.class.ensures
    c.last.ensures c.goal.ensures c.fifth.ensures c.goal-2.ensures c.goal-3.ensures)
