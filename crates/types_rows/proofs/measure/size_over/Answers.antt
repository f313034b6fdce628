use mathlib.Core.Path.{sym, subst}
use Prim.Native.Nat.{ℕ}
use mathlib.Core.List.{List}
use Rattle.types_rows.specs.Read.{tab}
use Rattle.types_rows.specs.size.Size.{Measured}
use Rattle.types_rows.proofs.measure.Sizes.{is_over, not_over, measured_kept}
use Rattle.types_rows.proofs.measure.size_over.Goals as goal

pub returns-then-rest-eq0 : goal.returns-then-rest-eq0
returns-then-rest-eq0 c = (is_over _ _ _ c.spend_row-rest.ensures (search), search)

pub returns : goal.returns
returns c =
    (not_over _ _ _ c.spend_row-rest.ensures (search), subst (λ (l : List ℕ). Measured (tab c.args.rows.now c.args.parts.now) l) (sym c.put.ensures) (measured_kept _ c.args.sizes.now _ _ c.requires.1 c.spend_row-rest.ensures (search)))
