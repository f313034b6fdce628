use Rattle.std.proofs.Common.{ℕ, ◌+◌, List, ap, ◌∙◌}
use lib.Seq.{sets}
use Rattle.text.specs.Bytes.{split}
use Rattle.text_fields.specs.Pieces.{row_count, rows_in}
use Rattle.text_fields.proofs.numbers.Laws.{part_from}
use Rattle.text_fields.proofs.Operands.{nothing_is, sides_alone, sides_base, sides_count, sides_row, sides_all}
use Rattle.text_fields.proofs.carried.Goals as goal

pub returns-then-l-e : goal.returns-then-l-e
returns-then-l-e c = nothing_is (sides_alone _ _ _ c.part_end-e.ensures (search)) (search)

pub returns-in_err-base : goal.returns-in_err-base
returns-in_err-base c =
    nothing_is (sides_base _ _ _ c.part_end-e.ensures c.if-l-e.false c.in_err-base.ensures) c.from_residual.ensures

pub returns-in_err-count : goal.returns-in_err-count
returns-in_err-count c =
    let n = c.in_err-count.ensures ∙ ap (λ (s : List ℕ). row_count 0 (split 58 s)) (part_from c.args.l.now (c.part_end-e.result + 1)) in
    nothing_is (sides_count _ _ _ c.part_end-e.ensures c.if-l-e.false n) c.from_residual-in_err-count.ensures

pub returns-in_err-row : goal.returns-in_err-row
returns-in_err-row c =
    nothing_is (sides_row _ _ _ c.part_end-e.ensures c.if-l-e.false c.in_err-row.ensures) c.from_residual-in_err-row.ensures

pub returns : goal.returns
returns c =
    let f = part_from c.args.l.now (c.part_end-e.result + 1) in
    let n = c.in_ok-count.ensures ∙ ap (λ (s : List ℕ). row_count 0 (split 58 s)) f in
    let w = sides_all _ _ _ c.part_end-e.ensures c.if-l-e.false _ c.in_ok-base.ensures _ _ n c.in_ok-row.ensures _ _ in
    record { answer = w.answer; stored = c.put_rows.ensures ∙ ap (λ (s : List ℕ). sets c.args.out.now c.args.at (rows_in (split 58 s))) f ∙ w.stored }
