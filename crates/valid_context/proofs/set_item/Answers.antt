use native.Mathlib.Omega.{arith}
use native.Mathlib.Numerals.{add-one}
use Prim.Native.Nat.{suc, ◌+◌, ◌-◌, ◌*◌, ◌<◌}
use lib.ListN.{length}
use Rattle.valid_context.proofs.Cells.{put_envs}
use mathlib.Core.Path.{◌≡◌, refl, sym, ◌∙◌}
use mathlib.Core.Bool.{true, false}
use Rattle.valid_context.specs.Context.{are_values}
use Rattle.valid_context.proofs.Sp.{values_few, put_none, put_some, above_set}
use Rattle.valid_context.proofs.set_item.Goals.{else-i-d-via-then-i-d+else-values, else-i-d-via-else-i-d}
use Rattle.valid_context.proofs.set_item.Goals as goal

pub returns-then-values : goal.returns-then-values
returns-then-values c =
    let v : are_values c.args.sp.now c.args.d (suc c.args.i) ≡ true = rw (← (add-one _)) (sym c.values.ensures.0 ∙ c.if-values.true) in
    let r : 2 * (c.args.d - c.args.i - 1) + 1 < length c.args.sp.now = omega arith in
    let e = c.put.ensures in
    (λ T. rw e (put_some _ _ _ _ _ (search) (search) v T), λ T k. rw e (above_set T _ _ k _ _ _ (omega arith)), λ b m q g. rw e (put_envs _ _ _ _ b m r q g))

pub returns-else-i-d : goal.returns-else-i-d
returns-else-i-d c =
    let v : are_values c.args.sp.now c.args.d (suc c.args.i) ≡ false = elim c.else-i-d.branch [
      | else-i-d-via-then-i-d+else-values w ↦ rw (← (add-one _)) (sym w.values.ensures.0 ∙ w.if-values.false)
      | else-i-d-via-else-i-d w ↦ let h : c.args.d < suc c.args.i = omega (arith, w.if-i-d.false) in values_few _ _ _ h
    ] in
    (put_none _ _ _ _ _ (search) (search) v, λ T k. refl, λ b m q g. g)
