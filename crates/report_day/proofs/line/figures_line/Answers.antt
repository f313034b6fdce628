use Rattle.std.proofs.Common.{rules, arith, w64}
use Rattle.std.proofs.lemmas.Int.{to_z-of_z}
use mir.Val.{SFits}
use Rattle.report_day.proofs.line.Laws.{seven_figures}
use Rattle.report_day.proofs.line.figures_line.Goals as goal

pub returns : goal.returns
returns c =
    let i = c.put_counts-a.ensures.1 in
    let j = c.put_next-b.ensures.1 in
    let k = c.put_next-c.ensures.1 in
    let l = c.put_next-d.ensures.1 in
    let m = c.put_next-e.ensures.1 in
    let n = c.put_last.ensures.1 in
    let f : SFits w64 c.args.f.total = search rules in
    let g : SFits w64 c.args.f.smallest = search rules in
    let h : SFits w64 c.args.f.largest = search rules in
    let q : SFits w64 c.args.f.quotient = search rules in
    (omega arith, seven_figures c.args.f c.put_counts-a.ensures.0 (simp to_z-of_z at c.put_next-b.ensures.0) (simp to_z-of_z at c.put_next-c.ensures.0) (simp to_z-of_z at c.put_next-d.ensures.0) (simp to_z-of_z at c.put_next-e.ensures.0) c.put_last.ensures.0)
