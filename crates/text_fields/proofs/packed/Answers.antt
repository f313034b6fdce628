use Rattle.std.proofs.Common.{◌+◌, ◌∙◌}
use Rattle.text_fields.proofs.numbers.Laws.{part_from}
use Rattle.text_fields.proofs.Operands.{nothing_is, pack_alone, pack_more, pack_base, pack_argument, pack_row, pack_all}
use Rattle.text_fields.proofs.packed.Goals as goal

pub returns-then-l-e : goal.returns-then-l-e
returns-then-l-e c = nothing_is (pack_alone _ _ _ c.part_end-e.ensures (search)) (search)

pub returns-then-part_end-v : goal.returns-then-part_end-v
returns-then-part_end-v c =
    let f = part_from c.args.l.now (c.part_end-e.result + 1) in
    nothing_is (pack_more _ _ _ c.part_end-e.ensures (search) _ f _ c.part_end.ensures (search)) (search)

pub returns-in_err-base : goal.returns-in_err-base
returns-in_err-base c =
    let f = part_from c.args.l.now (c.part_end-e.result + 1) in
    nothing_is (pack_base _ _ _ c.part_end-e.ensures c.if-l-e.false _ f _ c.part_end.ensures c.if-part_end-v.false c.in_err-base.ensures) c.from_residual.ensures

pub returns-in_err-argument : goal.returns-in_err-argument
returns-in_err-argument c =
    let f = part_from c.args.l.now (c.part_end-e.result + 1) in
    nothing_is (pack_argument _ _ _ c.part_end-e.ensures c.if-l-e.false _ f _ c.part_end.ensures c.if-part_end-v.false c.in_err-argument.ensures) c.from_residual-in_err-argument.ensures

pub returns-in_err-row : goal.returns-in_err-row
returns-in_err-row c =
    let f = part_from c.args.l.now (c.part_end-e.result + 1) in
    nothing_is (pack_row _ _ _ c.part_end-e.ensures c.if-l-e.false _ f _ c.part_end.ensures c.if-part_end-v.false c.in_err-row.ensures) c.from_residual-in_err-row.ensures

pub returns : goal.returns
returns c =
    let f = part_from c.args.l.now (c.part_end-e.result + 1) in
    let g = pack_all _ _ _ c.part_end-e.ensures c.if-l-e.false _ f _ c.part_end.ensures c.if-part_end-v.false _ c.in_ok-base.ensures _ _ c.in_ok-argument.ensures c.in_ok-row.ensures _ _ in
    record { answer = g.answer; stored = c.put.ensures ∙ g.stored }
