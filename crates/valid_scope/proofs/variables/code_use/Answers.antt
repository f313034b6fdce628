use mathlib.Core.Path.{◌∙◌, ap₂}
use Rattle.valid_scope.specs.variables.Free.{both}
use Rattle.valid_scope.specs.variables.Uses.{code_use}
use Rattle.valid_scope.proofs.variables.code_use.Goals as goal

pub returns : goal.returns
unfolding code_use
returns c = c.both.ensures ∙ ap₂ both (search) (search)
