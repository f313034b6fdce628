use Prim.Native.Nat.{◌+◌, ◌*◌, ◌<◌}
use native.Mathlib.Omega.{arith}
use mathlib.Core.Path.{◌≡◌, refl}
use lib.ListN.{length, length-set}
use Rattle.valid_context.proofs.Cells.{envs_less, envs_next}
use Rattle.valid_context.proofs.Sp.{junks_none, junks_next}
use Rattle.valid_context.proofs.push_junks.Goals as goal

pub loop-i-init : goal.loop-i-init
loop-i-init c = (refl, λ T j. junks_none T _ _, λ b g. envs_less (omega arith) (omega arith) g)

pub loop-i-preserved : goal.loop-i-preserved
loop-i-preserved c =
    let e = c.put.ensures in
    let h : 2 * (c.args.d + c.loop-i.i) + 1 < length c.loop-i.sp = omega arith in (
      rw e (simp length-set (search)),
      λ T j. rw e (junks_next T _ _ _ _ _ _ h (search) j (c.loop-i.invariant.1 T j)),
      λ b g. rw e (envs_next _ _ _ _ _ h (c.loop-i.invariant.2 b g)),
    )

pub returns : goal.returns
returns c =
    let e : c.loop-i.i ≡ c.args.k = omega arith in
    (λ T j. rw e at (c.loop-i.invariant.1 T j), λ b g. rw e at (c.loop-i.invariant.2 b g))
