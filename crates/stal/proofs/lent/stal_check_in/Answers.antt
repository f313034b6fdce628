use mathlib.Core.Path.{ap, ◌∙◌}
use Rattle.stal_numbers.specs.Numbers.{verdict_of}
use Rattle.stal.proofs.lent.stal_check_in.Goals as goal

pub returns : goal.returns
returns c = (c.put_verdict.ensures ∙ ap verdict_of c.check_in-a.ensures.0, c.check_in-a.ensures.1)
