use Rattle.valid_context.specs.Told.{answer}
use Rattle.types.specs.Types.{junk}
use Rattle.valid_context.specs.Context.{regs_of}
use Rattle.valid_typing.specs.Typing.{held_in}
use mathlib.Core.List.{[]}
use mathlib.Core.Path.{refl}
use Rattle.valid_typing.proofs.Founds.{found_now}
use Rattle.valid_typing.proofs.bases.Bases.{lab_none, lab_some}
use Rattle.valid_typing.proofs.bases.label_type.Goals as goal

pub returns-then-l-nb : goal.returns-then-l-nb
unfolding answer
returns-then-l-nb c =
    (λ rows parts regs P Δ r h. lab_none P Δ (regs_of (held_in rows parts _ _) regs) rows parts _ [] _ _ h _ junk (search), λ regs. tt)

pub returns : goal.returns
unfolding answer
returns c = (
  λ rows parts regs P Δ r h. lab_some P Δ (regs_of (held_in rows parts _ _) regs) rows parts _ _ _ _ h _ _ c.given_row.result r c.if-l-nb.false c.cell.ensures.0 c.given_row.ensures.0,
  λ regs. found_now (search) c.given_row.ensures.1 refl,
)
