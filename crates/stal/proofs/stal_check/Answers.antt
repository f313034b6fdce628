use mathlib.Core.Path.{ap, ◌∙◌}
use Rattle.stal_numbers.specs.Numbers.{verdict_of}
use Rattle.stal.proofs.stal_check.Goals as goal

pub returns : goal.returns
returns c = c.put_verdict.ensures ∙ ap verdict_of c.check.ensures
