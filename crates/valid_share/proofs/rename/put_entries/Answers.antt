use native.Mathlib.Omega.{arith}
use Rattle.valid_share.proofs.rename.Laws.{put_row}
use Rattle.valid_share.proofs.rename.put_entries.Goals as goal

pub returns : goal.returns
returns c = put_row _ _ _ _ _ c.copy_from_slice.ensures.after (omega arith) (omega arith)
