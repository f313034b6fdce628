use Rattle.std.proofs.Common.{◌≡◌, ◌≤◌, length, drop, [], length-drop, drop-drop, ap, sym, ◌∙◌, arith}
use Rattle.std.proofs.Math.ListN.{drop_of_length-le}
use Rattle.text.specs.Bytes.{lines_of}
use Rattle.text_lines.proofs.Parts.{lines_none}
use Rattle.text_lines.proofs.line_start.Goals as goal

pub returns-then-text-at : goal.returns-then-text-at
returns-then-text-at c =
    let ls = lines_of c.args.text.now in
    let e : lines_of (drop c.loop.at c.args.text.now) ≡ [] = lines_none _ _ c.if-text-at.true in
    let k : length ls ≤ c.args.n = omega (arith, ap length (sym c.loop.invariant.1 ∙ e), length-drop c.loop.counter ls) in
    (c.loop.invariant.0, e ∙ sym (drop_of_length-le ls k))

pub loop-preserved : goal.loop-preserved
loop-preserved c =
    let h = c.next_line-at.ensures in
    (h.within, h.others ∙ ap (drop 1) c.loop.invariant.1 ∙ drop-drop 1 c.loop.counter (lines_of c.args.text.now))
