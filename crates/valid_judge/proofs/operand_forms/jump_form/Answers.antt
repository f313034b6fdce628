use native.Mathlib.Omega.{arith}
use Rattle.valid_judge.proofs.Codes.{answered_as, answered_bop, is_jmp, short_jmp, short_bop, not_jump}
use Rattle.image.specs.Sections.{part}
use Rattle.valid_judge.proofs.operand_forms.jump_form.Goals as goal

pub jump-requires : goal.jump-requires
unfolding part
jump-requires c = (search, short_jmp _ _ _ _ c.requires.1 c.requires.2.code (search) (search), omega arith, search)

pub returns-then-x-eq21 : goal.returns-then-x-eq21
unfolding part
returns-then-x-eq21 c =
    λ P h. answered_as P _ _ _ _ (is_jmp _ _ _ _ c.requires.2.code (search) (search)) (c.jump.ensures P h)

pub branch-image-requires : goal.branch-image-requires
unfolding part
branch-image-requires c =
    (search, short_bop _ _ _ _ c.requires.1 c.requires.2.code (search) (search) (not_jump _ (search) (search)), omega arith, search)

pub returns : goal.returns
unfolding part
returns c =
    λ P h. answered_bop _ _ _ _ c.requires.2.code c.cell-v.ensures.0 (search) P _ _ _ _ (search) (not_jump _ (search) (search)) (λ o. c.branch-image.ensures P o h)
