use mathlib.Core.Path.{◌∙◌, sym}
use borrow.Author.Tests.{eqb-true}
use Rattle.valid_share.proofs.Renaming.{alike_tuple, alike_code, alike_number, alike_rest}
use Rattle.valid_share.proofs.alike_forms.Goals as goal

pub returns-then-b-y : goal.returns-then-b-y
returns-then-b-y c = λ z. alike_tuple _ _ _ _ _ _ _ (search) (search) (c.alike_parts.ensures z)

pub returns-in-2 : goal.returns-in-2
returns-in-2 c = λ z. alike_number _ _ _ _ _ _ _ c.in-2.is (eqb-true _ _ z)

pub returns-then-first_of : goal.returns-then-first_of
returns-then-first_of c =
    λ z. alike_code _ _ _ _ _ _ _ _ (search) (search) (sym c.first_of.ensures.0 ∙ c.if-first_of.true ∙ c.first_of-in-5.ensures.0) (c.alike_parts-then-first_of.ensures z)

pub returns-then-first_of-2 : goal.returns-then-first_of-2
returns-then-first_of-2 c =
    λ z. alike_rest _ _ _ _ _ _ _ (search) (search) (search) (sym c.first_of-in_default.ensures.0 ∙ c.if-first_of-2.true ∙ c.first_of-in_default-2.ensures.0) (sym c.first_of-then-first_of-2.ensures.0 ∙ eqb-true _ _ z ∙ c.first_of-then-first_of-2-2.ensures.0)
