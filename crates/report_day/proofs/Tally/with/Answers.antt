use Rattle.std.proofs.Common.{rules, refl, ◌+ℤ◌, w32, w64}
use Rattle.std.proofs.lemmas.Int.{to_z-of_z}
use mir.Val.{SFits}
use Rattle.report_day.specs.Tally.{after}
use Rattle.report_day.proofs.Tallies.{plus_small, with_is, short_bounds, sum_fits}
use Rattle.report_day.proofs.Tally.with.Goals as goal

pub returns-in-Integer : goal.returns-in-Integer
unfolding after
returns-in-Integer c =
    let e1 : SFits w64 c.args.self.sum = search rules in
    let e2 : SFits w64 c.args.self.low = search rules in
    let e3 : SFits w64 c.args.self.high = search rules in
    let e4 : SFits w32 c.in-Integer.n = search rules in
    let e5 : SFits w64 c.from-n.result = search rules in
    let e6 : SFits w64 c.min.result = search rules in
    let e7 : SFits w64 c.max.result = search rules in
    let h = simp to_z-of_z at c.from-n.ensures in
    let e8 : SFits w64 (c.args.self.sum +ℤ c.from-n.result) = rw h (sum_fits c.args.self c.in-Integer.n c.requires.0 c.requires.1 e4) in
    let b = short_bounds c.in-Integer.n e4 in
    let p = with_is c.args.self h (simp to_z-of_z at c.min.ensures.value) (simp to_z-of_z at c.max.ensures.value) in
    simp to_z-of_z (rw c.in-Integer.is (p, rw p (plus_small c.args.self c.in-Integer.n c.requires.0 c.requires.1 b.0 b.1)))

pub returns-in-Other : goal.returns-in-Other
unfolding after
returns-in-Other c = (rw c.in-Other.is refl, c.requires.0)
