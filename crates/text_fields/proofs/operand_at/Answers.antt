use Rattle.std.proofs.Common.{arith}
use Rattle.text_lines.proofs.InLine.{field_read}
use Rattle.text_fields.proofs.Placed.{plain_operand, any_at, none_at}
use Rattle.text_fields.proofs.operand_at.Goals as goal

pub returns-in-Some : goal.returns-in-Some
returns-in-Some c = plain_operand _ _ _ _ _ c.in-Some.ensures

pub slice_bounds-any_operand-end : goal.slice_bounds-any_operand-end
slice_bounds-any_operand-end c =
    let h = field_read _ _ _ c.requires c.field_end-next.ensures in
    omega arith

pub returns-in_err-read : goal.returns-in_err-read
returns-in_err-read c = rw c.from_residual.ensures (none_at _ _ _ _ c.requires _ c.field_end-next.ensures _ c.in_err-read.ensures)

pub returns : goal.returns
returns c = any_at _ _ _ _ c.requires _ c.field_end-next.ensures _ _ c.in_ok-read.ensures
