use native.Mathlib.Omega.{arith}
use mathlib.Core.Path.{◌∙◌, ap}
use Prim.Native.Nat.{ℕ}
use Rattle.types_rows.specs.Read.{mean_v, lower}
use Rattle.valid_typing.specs.operands.Operands.{operand_table}
use Rattle.valid_typing.proofs.operands.Filling.{not_no}
use Rattle.valid_typing.proofs.plain_components.Plain.{plain_none, plain_next, plain_all}
use Rattle.image.specs.Sections.{part}
use Rattle.valid_typing.proofs.plain_components.plain_parts.Goals as goal

pub loop-i-init : goal.loop-i-init
loop-i-init c = (omega arith, λ P Δ args h. plain_none P Δ _ (operand_table _ _ args) _ _ _ _ _ _)

pub loop-i-preserved : goal.loop-i-preserved
unfolding part
loop-i-preserved c =
    let a = c.args in (
      omega arith,
      λ P Δ args h. plain_next P Δ _ (operand_table _ _ args) _ _ _ _ _ _ _ _ (search) (search)
          (c.plain_fits.ensures (not_no (search)) P Δ args h) (c.row_of-t.ensures.0 _ _ c.requires.0.ready ∙ ap (mean_v _)
          (c.link.ensures ∙ ap (λ (y : ℕ). lower a.h y) c.at.ensures.0)) (c.loop-i.invariant.1 P Δ args h),
    )

pub returns : goal.returns
returns c =
    λ z P Δ args h. plain_all P Δ _ (operand_table _ _ args) _ _ _ _ _ _ _ (search) (c.loop-i.invariant.1 P Δ args h)
