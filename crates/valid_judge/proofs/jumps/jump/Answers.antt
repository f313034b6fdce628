use native.Mathlib.Omega.{arith}
use Rattle.valid_judge.proofs.jumps.Laws.{jumps}
use Rattle.valid_judge.proofs.jumps.jump.Goals as goal

pub target-requires : goal.target-requires
target-requires c =
    let r = c.requires.3 in
    (search, search, record { last = c.requires.2; few = r.few; depth = omega (arith, r.depth) })

pub returns : goal.returns
returns c = λ P h. jumps P _ _ _ _ (c.target.ensures P h)
