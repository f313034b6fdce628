use Rattle.std.proofs.Common.{rules, w64, refl}
use Rattle.std.proofs.lemmas.Int.{to_z-of_z}
use mir.Val.{SFits}
use Rattle.stal_lines.specs.Day.{seven}
use Rattle.stal_lines.proofs.Laws.{read_back}
use Rattle.stal_lines.proofs.numbers_of.Goals as goal

pub returns : goal.returns
unfolding seven
returns c =
    let e1 : SFits w64 c.args.f.total = search rules in
    let e2 : SFits w64 c.args.f.smallest = search rules in
    let e3 : SFits w64 c.args.f.largest = search rules in
    let e4 : SFits w64 c.args.f.quotient = search rules in
    let h1 = simp to_z-of_z at c.cast_unsigned.ensures in
    let h2 = simp to_z-of_z at c.cast_unsigned-2.ensures in
    let h3 = simp to_z-of_z at c.cast_unsigned-3.ensures in
    let h4 = simp to_z-of_z at c.cast_unsigned-4.ensures in
    (rw (h1, h2, h3, h4) refl, read_back c.args.f e1 e2 e3 e4)
