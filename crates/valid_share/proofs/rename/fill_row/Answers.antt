use native.Mathlib.Omega.{arith}
use Rattle.image.specs.Sections.{part}
use Rattle.valid_share.proofs.rename.Laws.{row_turn}
use Rattle.valid_share.proofs.rename.fill_row.Goals as goal

pub loop-j-preserved : goal.loop-j-preserved
unfolding part
loop-j-preserved c =
    let t = row_turn _ _ _ _ _ _ _ _ c.requires.0.section c.requires.0.behind c.requires.0.room _ _ _ _ (omega arith) c.loop-j.invariant.1 c.loop-j.invariant.2 c.new_part-x.ensures.0 (search) in
    (omega arith, t.0, t.1)
