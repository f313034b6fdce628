use native.Mathlib.Omega.{arith}
use mathlib.Core.Path.{ap, ◌∙◌}
use Rattle.valid_context.specs.Told.{told}
use Rattle.valid_judge.proofs.jumps.Laws.{branches, branches_none}
use Rattle.image.specs.Sections.{part}
use Rattle.valid_judge.proofs.jumps.branch.Goals as goal

pub integer-f-requires : goal.integer-f-requires
unfolding part
integer-f-requires c = c.requires.0.ready

pub target-t-requires : goal.target-t-requires
target-t-requires c =
    let r = c.requires.3 in
    (search, search, record { last = c.requires.2; few = r.few; depth = omega (arith, r.depth) })

pub returns-in-Ok : goal.returns-in-Ok
unfolding part
returns-in-Ok c = λ P o h. branches P _ _ _ _ (c.target-t.ensures P h) o _ (c.integer-f.ensures _ P _ ∙ ap (told (λ u. tt)) c.in-Ok.is)

pub returns-in-Err : goal.returns-in-Err
unfolding part
returns-in-Err c = λ P o h. branches_none P _ _ _ _ (c.target-t.ensures P h) o _ c.in-Err.f _ (c.integer-f.ensures _ P _ ∙ ap (told (λ u. tt)) c.in-Err.is) c.lesser.ensures.0 c.lesser.ensures.1
