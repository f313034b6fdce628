use Rattle.std.proofs.Common.{◌+◌, get_or, drop, sym, ap, ◌∙◌, drop_of_length-le}
use Rattle.text_fields.specs.numbers.Numbers.{number_of, up_to}
use Rattle.text_fields.proofs.numbers.Laws.{drop_more, up_none, up_some, up_end}
use Rattle.text_fields.proofs.numbers.digits.Goals as goal

pub returns-in_err-n : goal.returns-in_err-n
returns-in_err-n c =
    let s = c.args.s.now in
    let i = c.loop-b.b-index in
    ap number_of c.from_residual.ensures ∙ sym (sym c.loop-b.invariant.1 ∙ ap (up_to c.args.high c.loop-b.n) (drop_more s i c.loop-b-test.true) ∙ up_none c.args.high c.loop-b.n (get_or s i 0) (drop (i + 1) s) c.in_err-n.ensures)

pub loop-b-preserved : goal.loop-b-preserved
loop-b-preserved c =
    let s = c.args.s.now in
    let i = c.loop-b.b-index in
    let u = up_some c.args.high c.loop-b.n (get_or s i 0) (drop (i + 1) s) c.in_ok-n.n c.in_ok-n.ensures in
    (u.0, sym u.1 ∙ sym (ap (up_to c.args.high c.loop-b.n) (drop_more s i c.loop-b-test.true)) ∙ c.loop-b.invariant.1)

pub returns : goal.returns
returns c =
    let s = c.args.s.now in
    sym (ap (up_to c.args.high c.loop-b.n) (drop_of_length-le s c.loop-b-test.false) ∙ up_end c.args.high c.loop-b.n c.loop-b.invariant.0) ∙ c.loop-b.invariant.1
