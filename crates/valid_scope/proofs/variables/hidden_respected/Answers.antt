use mathlib.Core.Path.{◌∙◌, ap}
use mathlib.Core.Option.{some}
use Rattle.syntax.specs.Syntax.{value}
use Rattle.valid_scope.specs.variables.Free.{fits}
use Rattle.valid_scope.proofs.variables.Laws.{two_first, two_second}
use Rattle.valid_scope.proofs.variables.hidden_respected.Goals as goal

pub returns-then-respected_at : goal.returns-then-respected_at
returns-then-respected_at c =
    two_second _ c.respected_at.ensures c.if-respected_at.true (c.is_value.ensures ∙ ap (λ x. fits x (some value)) c.use_at.ensures)

pub returns-else-respected_at : goal.returns-else-respected_at
returns-else-respected_at c = two_first _ c.respected_at.ensures c.if-respected_at.false
