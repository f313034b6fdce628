use Rattle.std.proofs.Common.{◌<◌, length, drop, sym, ap, ◌∙◌, arith, rules}
use Rattle.text.specs.Bytes.{split}
use Rattle.text_lines.proofs.Parts.{end_within, split_part, split_more, split_last, split_is}
use Rattle.text_fields.specs.Pieces.{row_count}
use Rattle.text_fields.proofs.Operands.{count_bad, count_more, count_last, count_many}
use Rattle.text_fields.proofs.count_rows.Goals as goal

pub slice_bounds-is_row-end : goal.slice_bounds-is_row-end
slice_bounds-is_row-end c = end_within 58 _ _ _ c.part_end-e.ensures (search)

pub returns-then-not-is_row : goal.returns-then-not-is_row
returns-then-not-is_row c =
    let p = split_part 58 _ _ _ c.part_end-e.ensures in
    let b = sym c.is_row.ensures ∙ c.if-not-is_row.true in
    sym (count_bad _ _ _ b) ∙ sym (ap (row_count c.loop-n.n) p) ∙ c.loop-n.invariant.1

pub returns-then-s-e : goal.returns-then-s-e
returns-then-s-e c =
    let p = split_last 58 _ _ _ c.part_end-e.ensures (search) in
    let b = sym c.is_row.ensures ∙ c.if-not-is_row.false in
    sym (count_last _ _ c.loop-n-test.true b) ∙ sym (ap (row_count c.loop-n.n) p) ∙ c.loop-n.invariant.1

pub loop-n-preserved : goal.loop-n-preserved
loop-n-preserved c =
    let p = split_more 58 _ _ _ c.part_end-e.ensures (search) in
    let b = sym c.is_row.ensures ∙ c.if-not-is_row.false in
    (search rules, sym (count_more _ _ _ b) ∙ sym (ap (row_count _) p) ∙ c.loop-n.invariant.1)

pub returns : goal.returns
returns c =
    let s = c.args.s.now in
    let ps = split 58 (drop c.loop-n.i s) in
    let q : 0 < length ps = omega (arith, ap length (split_is 58 (drop c.loop-n.i s))) in
    sym (count_many c.loop-n.n ps c.loop-n-test.false q) ∙ c.loop-n.invariant.1
