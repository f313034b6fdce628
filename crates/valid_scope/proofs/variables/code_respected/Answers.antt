use mathlib.Core.Path.{sym, ◌∙◌}
use Rattle.valid_scope.proofs.variables.Laws.{code_stack, code_registers, code_letters}
use Rattle.valid_scope.proofs.variables.code_respected.Goals.{then-respected_at, else-respected_at}
use Rattle.valid_scope.proofs.variables.code_respected.Goals as goal

pub returns-then-parts_respected : goal.returns-then-parts_respected
returns-then-parts_respected c = elim c.if-respected_at.branch [
  | then-respected_at w ↦ code_letters _ _ _ _ _ c.respected_at.ensures w.if-respected_at.true w.parts_respected.ensures (sym w.value-is ∙ c.if-parts_respected.true) c.letters_respected.ensures
  | else-respected_at w ↦ absurd (cc (w.value-is, c.if-parts_respected.true, w.if-respected_at.false))
]

pub returns-else-parts_respected : goal.returns-else-parts_respected
returns-else-parts_respected c = c.if-parts_respected.false ∙ (elim c.if-respected_at.branch [
  | then-respected_at w ↦ code_registers _ _ _ _ _ w.parts_respected.ensures (sym w.value-is ∙ c.if-parts_respected.false)
  | else-respected_at w ↦ code_stack _ _ _ _ _ c.respected_at.ensures w.if-respected_at.false
])
