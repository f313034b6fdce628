use native.Mathlib.Omega.{arith}
use Rattle.image.specs.Sections.{part}
use Rattle.valid_share.proofs.rename.Laws.{rows_turn}
use Rattle.valid_share.proofs.rename.fill_rows.Goals as goal

pub loop-r-preserved : goal.loop-r-preserved
unfolding part
loop-r-preserved c =
    let t = rows_turn c.requires.0.rows (omega arith) c.requires.0.shared (omega arith) (omega arith) c.loop-r.invariant.1 c.loop-r.invariant.2 c.new_entries-e.ensures c.put_entries.ensures in
    (omega arith, t.0, t.1)
