use Rattle.std.proofs.Common.{arith}
use Rattle.text_lines.proofs.InLine.{stop_on}
use Rattle.text_decode.proofs.line.FieldLaws.{plain_small}
use Rattle.text_decode.proofs.line.StopLaws.{slot_lacks, slot_wrong, slot_there}
use Rattle.text_decode.proofs.line.read_field.Goals as goal

pub plain_field-requires : goal.plain_field-requires
plain_field-requires c = stop_on _ _ c.requires.1 c.if-rest-at-ne44.false

pub returns-then-rest-at-ne44 : goal.returns-then-rest-at-ne44
returns-then-rest-at-ne44 c = slot_lacks _ _ _ c.requires.1 c.requires.0 c.if-rest-at-ne44.true

pub returns-in_err-x : goal.returns-in_err-x
returns-in_err-x c =
    rw c.from_residual.ensures (slot_wrong _ _ _ c.requires.1 c.requires.0 c.if-rest-at-ne44.false c.in_err-x.ensures)

pub overflow_cast-result : goal.overflow_cast-result
overflow_cast-result c =
    let h = plain_small _ _ _ c.in_ok-x.ensures.says in
    omega arith

pub returns : goal.returns
returns c = slot_there _ _ _ c.requires.1 c.requires.0 c.if-rest-at-ne44.false _ c.in_ok-x.ensures
