use Rattle.valid_context.specs.Told.{answer}
use native.Mathlib.Omega.{arith}
use Rattle.valid_typing.proofs.bases.Bases.{kind_reg, kind_lit, kind_lab, of_kind_lem, lit_told}
use Rattle.image.specs.Sections.{part}
use mathlib.Core.Path.{refl}
use Rattle.valid_typing.proofs.Founds.{found_now}
use Rattle.valid_typing.proofs.bases.base_type.Goals as goal

pub returns-in-0 : goal.returns-in-0
returns-in-0 c =
    (λ P Δ h. of_kind_lem P Δ _ _ _ _ (kind_reg _ _ (search)) (c.register_type.ensures.0 _ _ _ P Δ (search)), c.register_type.ensures.1 _)

pub returns-in-1 : goal.returns-in-1
unfolding answer
returns-in-1 c =
    (λ P Δ h. of_kind_lem P Δ _ _ _ _ (kind_lit _ _ (search)) (lit_told P Δ _ _ _ _ _ _ (search)), found_now (search) (omega arith) refl)

pub returns-in_default : goal.returns-in_default
unfolding part
returns-in_default c =
    (λ P Δ h. of_kind_lem P Δ _ _ _ _ (kind_lab _ _ (search) (search)) (c.label_type.ensures.0 _ _ _ P Δ (search) h), c.label_type.ensures.1 _)
