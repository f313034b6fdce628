use native.Mathlib.Omega.{arith}
use mathlib.Core.Path.{sym, ap₂, ◌∙◌}
use Rattle.valid_context.specs.Context.{linked}
use Rattle.valid_context.proofs.Regs.{register_is, register_past}
use Rattle.valid_context.proofs.register.Goals as goal

pub returns-then-r-lt8 : goal.returns-then-r-lt8
returns-then-r-lt8 c =
    let e = c.cell-then-r-lt8.ensures.0 in (
      λ T. register_is T _ _ c.if-r-lt8.true ∙ ap₂ (linked T) (sym e) (sym c.cell.ensures.0),
      c.cell.ensures.1,
      c.cell-then-r-lt8.ensures.1,
      λ b g. rw e (g.low _ c.if-r-lt8.true),
    )

pub returns-else-r-lt8 : goal.returns-else-r-lt8
returns-else-r-lt8 c = (λ T. register_past T _ _ (search), omega arith, omega arith, λ b g. omega arith)
