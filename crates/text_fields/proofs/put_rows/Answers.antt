use Rattle.std.proofs.Common.{ℕ, ◌+◌, drop, set, sym, ap, ◌∙◌, arith, length-set}
use lib.Seq.{sets}
use Rattle.text.specs.Bytes.{split}
use Rattle.text.specs.Grammar.{row_number}
use Rattle.text_lines.proofs.Parts.{end_within, split_more, split_last}
use Rattle.text_fields.specs.Pieces.{or_zero, rows_in}
use Rattle.text_fields.proofs.names.Stores.{sets_out, sets_one}
use Rattle.text_fields.proofs.Operands.{rows_cons, rows_one}
use Rattle.text_fields.proofs.put_rows.Goals as goal

pub slice_bounds-row_of-end : goal.slice_bounds-row_of-end
slice_bounds-row_of-end c = end_within 58 _ _ _ c.part_end-e.ensures (search)

pub returns-then-s-e : goal.returns-then-s-e
returns-then-s-e c =
    let p = split_last 58 _ _ _ c.part_end-e.ensures (search) in
    ap (set c.loop-to.out c.loop-to.to) c.row_of.ensures ∙ sym (ap (sets _ _) (ap rows_in p ∙ rows_one _)) ∙ c.loop-to.invariant.2

pub loop-to-preserved : goal.loop-to-preserved
loop-to-preserved c =
    let s = c.args.s.now in
    let e = c.part_end-e.result in
    let vs = rows_in (split 58 (drop (e + 1) s)) in
    let p = split_more 58 _ _ _ c.part_end-e.ensures (search) in
    (omega arith, simp length-set (search), ap (λ (v : ℕ). sets (set c.loop-to.out c.loop-to.to v) (c.loop-to.to + 1) vs) c.row_of.ensures ∙ sets_one c.loop-to.out c.loop-to.to (or_zero (row_number _)) vs ∙ sym (ap (sets _ _) (ap rows_in p ∙ rows_cons _ _)) ∙ c.loop-to.invariant.2)

pub returns : goal.returns
returns c = sym (sets_out _ _ (rows_in _) (omega arith)) ∙ c.loop-to.invariant.2
