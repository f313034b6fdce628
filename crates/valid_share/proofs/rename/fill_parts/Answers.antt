use native.Mathlib.Omega.{arith}
use Rattle.valid_share.proofs.rename.Laws.{parts_turn, turned}
use Rattle.valid_share.proofs.rename.fill_parts.Goals as goal

pub loop-r-preserved : goal.loop-r-preserved
loop-r-preserved c =
    let o = c.requires.0 in
    (omega arith, parts_turn c.loop-r.invariant.1 o.rows (omega arith) o.parts (omega arith) (omega arith) _ (omega arith) (search) (search))

pub returns : goal.returns
returns c =
    let o = c.requires.0 in
    turned c.loop-r.invariant.1 o.rows (omega arith) o.parts (omega arith) (omega arith) _ o.slots (search) (omega arith)
