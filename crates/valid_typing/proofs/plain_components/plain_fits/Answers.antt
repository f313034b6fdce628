use Rattle.valid_context.specs.Told.{gives}
use native.Mathlib.Omega.{arith}
use mathlib.Core.Path.{◌∙◌, ap}
use Rattle.tables.specs.Tables.{operand_at}
use Rattle.types_rows.proofs.Environments.{read_now}
use Rattle.valid_typing.specs.operands.Operands.{operand_table}
use Rattle.valid_typing.proofs.operands.Filling.{plain_at, plain_told}
use Rattle.valid_typing.proofs.plain_components.Plain.{literal_fits}
use Rattle.image.specs.Sections.{part}
use Rattle.valid_typing.proofs.plain_components.plain_fits.Goals as goal

pub is_int-requires : goal.is_int-requires
unfolding part
is_int-requires c =
    let f = c.requires.0.ready.few in
    (c.requires.0.ready, omega arith)

pub returns-then-kind-eq1 : goal.returns-then-kind-eq1
unfolding part
returns-then-kind-eq1 c =
    λ z P Δ args h. literal_fits P Δ _ (operand_table _ _ args) _ _ _ _ _ _ _ _ c.requires.0.ready c.cell-kind.ensures.0 c.cell-count.ensures.0 (search)
    c.is_plain.ensures c.if-not-is_plain.false c.is_int.ensures z

pub same_at_sight-requires : goal.same_at_sight-requires
unfolding part
same_at_sight-requires c = c.requires.0.ready

pub returns : goal.returns
unfolding part
returns c =
    λ z P Δ args h. plain_told P Δ _ _ (operand_at (operand_table _ _ args) _) _ (plain_at (operand_table _ _ args) _ _ _ _
    c.cell-kind.ensures.0 c.cell-count.ensures.0 c.number_at-number.ensures.0 c.is_plain.ensures
    c.if-not-is_plain.false) (c.in-Ok.ensures.0 P Δ h) ∙ ap gives (c.same_at_sight.ensures z _ ∙ read_now _ _)
