use Rattle.text_decode.proofs.line.StopLaws.{slot_none}
use Rattle.text_decode.proofs.line.read_slot.Goals as goal

pub returns-then-kind-eq0 : goal.returns-then-kind-eq0
returns-then-kind-eq0 c = slot_none _ _ _ (search) (search)
