use mathlib.Core.Logic.{inl, inr}
use mathlib.Core.Path.{◌∙◌, sym}
use native.Mathlib.Omega.{arith}
use Rattle.types_rows.proofs.Environments.{name_even, name_small, name_listed}
use Rattle.types_rows.proofs.variables.name.Goals as goal

pub returns-then-e-lt65536 : goal.returns-then-e-lt65536
returns-then-e-lt65536 c =
    let u = c.variable.ensures.1 in
    let l = c.requires.2 in
    elim c.if-e-lt65536.either [
      | inl z ↦ (c.variable.ensures.0 ∙ sym (name_even _ _ _ z), omega arith)
      | inr s ↦ (c.variable.ensures.0 ∙ sym (name_small _ _ _ s.1), omega arith)
    ]

pub returns-else-e-lt65536 : goal.returns-else-e-lt65536
returns-else-e-lt65536 c =
    let f = c.if-e-lt65536.false in
    (c.listed.ensures.0 ∙ sym (name_listed _ _ _ f.0 f.1), c.listed.ensures.1)
