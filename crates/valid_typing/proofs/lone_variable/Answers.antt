use borrow.Author.Tests.{eqb-true}
use Rattle.valid_typing.proofs.Seen.{variable_last}
use mathlib.Core.Path.{sym, ◌∙◌}
use Rattle.valid_typing.proofs.lone_variable.Goals as goal

pub returns : goal.returns
returns c =
    λ z T. variable_last T _ _ _ _ _ (search) c.cell-y.ensures.0 (search) (sym (search) ∙ c.cell.ensures.0) (eqb-true _ _ z)
