use Rattle.read_lines.proofs.Compare.{agreed}
use Rattle.read_lines.proofs.agreement.Goals as goal

pub returns : goal.returns
returns c = agreed _ _ c.eq.ensures c.from.ensures
