use Prim.Native.Nat.{ℕ}
use mathlib.Core.Path.{◌∙◌, ap}
use mathlib.Core.Bool.{false}
use mathlib.Core.Option.{some}
use Rattle.types_rows.specs.Read.{mean_v, parts_of}
use Rattle.valid_typing.proofs.Forms.{form_tuple}
use Rattle.valid_typing.specs.operands.Operands.{operand_table}
use Rattle.valid_typing.proofs.plain_components.Plain.{plain_makes}
use Rattle.image.specs.Sections.{part, slot_section}
use Rattle.valid_typing.specs.Image.{row_table}
use Rattle.valid_typing.proofs.plain_components.plain_tuple.Goals as goal

pub returns-then-k-o : goal.returns-then-k-o
unfolding part
returns-then-k-o c =
    let a = c.args in
    let l = a.image.now in
    λ z P Δ args k. plain_makes P Δ _ (operand_table _ _ args) _ _ _ _ _ c.in-Tuple.at _ (form_tuple _ _ _ _ _
    c.link-h.ensures c.read_value.ensures.0 c.in-Tuple.is
    ∙ ap (λ (j : ℕ). some (parts_of (mean_v (row_table a.p l)) (slot_section a.p l) false c.link-h.result c.in-Tuple.at
    j)) c.if-k-o.true) (c.plain_parts.ensures z P Δ args k)
