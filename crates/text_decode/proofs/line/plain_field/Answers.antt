use Rattle.text_decode.proofs.line.StopLaws.{scan_to, plain_register, plain_number}
use Rattle.text_decode.proofs.line.plain_field.Goals as goal

pub returns-then-kind-eq1 : goal.returns-then-kind-eq1
returns-then-kind-eq1 c = scan_to _ _ _ _ (search) _ (plain_register _ _ (search))

pub returns : goal.returns
returns c = scan_to _ _ _ _ c.number_at.ensures _ (plain_number _ _ _ (search) (search))
