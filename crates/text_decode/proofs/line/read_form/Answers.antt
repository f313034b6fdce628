use Rattle.std.proofs.Common.{◌+◌, ◌*◌, arith}
use Rattle.image.specs.Sections.{part}
use Rattle.text_lines.specs.Parts.{line_in}
use Rattle.text_decode.specs.line.Fields.{fields_from}
use Rattle.text_decode.proofs.line.FormImage.{row_in, plain_in}
use Rattle.text_decode.proofs.line.read_form.Goals as goal

pub read_tuple-requires : goal.read_tuple-requires
unfolding part
read_tuple-requires c = (omega arith, omega arith, search)

pub returns-in-3 : goal.returns-in-3
unfolding part
returns-in-3 c =
    let a = c.args in
    let q = row_in a.code (fields_from (line_in a.rest.now) (a.at + 1)) (17 * a.u.rows) a.u.operands a.u.args a.p
    a.image.now a.numbers.now c.requires.0.ordered c.read_tuple.new.parts c.read_tuple.auto.parts
    c.read_tuple.result 3 c.in-3.is c.read_tuple.ensures.0 in
    (q.0, c.read_tuple.ensures.1, q.1)

pub read_code-requires : goal.read_code-requires
unfolding part
read_code-requires c = (omega arith, omega arith, search)

pub returns-in-5 : goal.returns-in-5
unfolding part
returns-in-5 c =
    let a = c.args in
    let q = row_in a.code (fields_from (line_in a.rest.now) (a.at + 1)) (17 * a.u.rows) a.u.operands a.u.args a.p
    a.image.now a.numbers.now c.requires.0.ordered c.read_code.new.parts c.read_code.auto.parts
    c.read_code.result 5 c.in-5.is c.read_code.ensures.0 in
    (q.0, c.read_code.ensures.1, q.1)

pub returns-in_default : goal.returns-in_default
returns-in_default c =
    let q = plain_in _ _ _ _ _ _ _ _ c.requires.0.ordered _ _ _ c.read_plain.ensures.0 c.read_plain.ensures.2 in
    (q.0, c.read_plain.ensures.1, q.1)
