use Prim.Native.Nat.{◌+◌, ◌*◌, ◌<◌}
use native.Mathlib.Omega.{arith}
use lib.ListN.{length, length-set}
use Rattle.valid_context.proofs.put.Goals as goal

pub bounds-s-i-2 : goal.bounds-s-i-2
bounds-s-i-2 c =
    let h : 2 * c.args.i + 1 < length c.args.s.now = omega arith in
    simp length-set h
