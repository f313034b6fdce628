use Prim.Native.Nat.{◌+◌, ◌*◌, ◌<◌}
use native.Mathlib.Omega.{arith}
use lib.ListN.{length}
use Rattle.valid_context.proofs.Regs.{assign_is, regs_put_past}
use Rattle.valid_context.proofs.Cells.{put_envs}
use Rattle.valid_context.proofs.assign.Goals as goal

pub returns-then-d-lt8 : goal.returns-then-d-lt8
returns-then-d-lt8 c =
    let h : 2 * c.args.d + 1 < length c.args.regs.now = omega arith in
    (λ T. rw c.put.ensures (assign_is T _ _ _ _ (search) (search)), λ b q g. rw c.put.ensures (put_envs _ _ _ _ b 8 h q g))

pub returns-else-d-lt8 : goal.returns-else-d-lt8
returns-else-d-lt8 c = (λ T. regs_put_past T _ 0 8 _ _ (search), λ b q g. g)
