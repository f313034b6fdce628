use Rattle.std.proofs.Common.{rules, arith, w64, ◌≡◌, pos, to_z}
use Rattle.std.proofs.lemmas.Int.{ints, to_z-of_z}
use mir.Val.{SFits}
use Rattle.report_day.specs.Tally.{figures_by}
use Rattle.report_day.proofs.Tallies.{figures_are}
use Rattle.report_day.proofs.Tally.figures.Goals as goal

pub returns : goal.returns
unfolding figures_by
returns c =
    let e1 : SFits w64 c.args.self.sum = search rules in
    let e2 : SFits w64 c.args.self.low = search rules in
    let e3 : SFits w64 c.args.self.high = search rules in
    let e4 : SFits w64 c.div_euclid.result = search rules in
    let e5 : SFits w64 c.rem_euclid.result = search rules in
    let few = c.requires.1.few in
    let k : to_z w64 c.args.self.count ≡ pos c.args.self.count = omega (arith, ints) in
    let a = simp (to_z-of_z, k) at c.div_euclid.ensures in
    let b = simp (to_z-of_z, k) at c.rem_euclid.ensures.value in
    simp to_z-of_z (figures_are c.args.self c.args.others a b)
