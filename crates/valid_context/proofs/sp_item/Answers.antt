use native.Mathlib.Omega.{arith}
use native.Mathlib.Numerals.{add-one}
use Prim.Native.Nat.{suc, ◌-◌, ◌<◌}
use mathlib.Core.Path.{◌≡◌, sym, ◌∙◌}
use mathlib.Core.Bool.{true, false}
use Rattle.valid_context.specs.Context.{are_values}
use Rattle.valid_context.proofs.Sp.{values_few, item_none, item_some, item_low}
use Rattle.valid_context.proofs.sp_item.Goals.{else-i-d-via-then-i-d+else-values, else-i-d-via-else-i-d}
use Rattle.valid_context.proofs.sp_item.Goals as goal

pub returns-then-values : goal.returns-then-values
returns-then-values c =
    let v : are_values c.args.sp.now c.args.d (suc c.args.i) ≡ true = rw (← (add-one _)) (sym c.values.ensures.0 ∙ c.if-values.true) in
    let e = c.cell.ensures.0 in
    let f = c.cell-then-values.ensures.0 in
    let k : c.args.d - c.args.i - 1 < c.args.d = omega arith in
    (item_some _ _ _ _ _ v e f, item_low _ _ _ _ v e, c.cell-then-values.ensures.1, λ b g. rw f (g.low _ k))

pub returns-else-i-d : goal.returns-else-i-d
returns-else-i-d c =
    let v : are_values c.args.sp.now c.args.d (suc c.args.i) ≡ false = elim c.else-i-d.branch [
      | else-i-d-via-then-i-d+else-values w ↦ rw (← (add-one _)) (sym w.values.ensures.0 ∙ w.if-values.false)
      | else-i-d-via-else-i-d w ↦ let h : c.args.d < suc c.args.i = omega (arith, w.if-i-d.false) in values_few _ _ _ h
    ] in
    (item_none _ _ _ v, omega arith, omega arith, λ b g. omega arith)
