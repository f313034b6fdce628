use borrow.Author.Rules.{rules}
use mathlib.Core.Path.{◌≡◌}
use native.Mathlib.Omega.{arith}
use Rattle.valid_scope.proofs.Sections.{same_rows, same_parts, finding_next}
use Rattle.valid_scope.proofs.find_all.Goals as goal

pub find_uses-bound-requires : goal.find_uses-bound-requires
find_uses-bound-requires c =
    let f = c.loop-r.invariant in
    let o = c.requires.0 in
    let e0 = same_rows o f in
    let e1 = same_parts o f in
    (rw f.out.size o, search rules, record { checked = rw (e0, e1) (c.requires.3 _ (omega arith)); few = f.small; within = rw (e0, e1) f.within }, rw (e0, e1) f.scoped)

pub loop-r-preserved : goal.loop-r-preserved
loop-r-preserved c =
    let u = c.find_uses-bound.ensures in
    finding_next (search) c.loop-r.invariant (omega arith) u.0 u.1 u.2 u.3

pub returns : goal.returns
returns c =
    let f = c.loop-r.invariant in
    let e : c.loop-r.r ≡ c.args.n = omega arith in
    (rw e at f.scoped, f.out)
