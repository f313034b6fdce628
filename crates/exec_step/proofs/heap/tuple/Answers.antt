use Prim.Native.Nat.{ℕ, ◌+◌, ◌<◌, ◌≤◌}
use native.Mathlib.Omega.{arith}
use mathlib.Core.Bool.{Bool, true, false}
use mathlib.Core.Path.{◌≡◌, refl, ap, ap₂, ◌∙◌}
use lib.ListN.{get_or}
use Rattle.exec.specs.Machine.{put, puts, handle}
use Rattle.exec_words.specs.memory.Lent.{lent, operand_table, tuple_of}
use Rattle.exec_step.specs.declared.moved.Moved.TheVariants.{To}
use Rattle.exec_step.proofs.moved.Laws.{ended, to_tuple, moves, waits, spent, left, written, as_before}
use Rattle.exec_machine.proofs.Leaves.{tuple_full, tuple_done}
use Rattle.exec_step.proofs.heap.tuple.Goals as goal

pub returns-then-turn-count-gt2047 : goal.returns-then-turn-count-gt2047
returns-then-turn-count-gt2047 c = λ S p m j et lp. ended _ refl (tuple_full _ p _ _ _ (omega arith))

pub returns-then-not-turn : goal.returns-then-not-turn
returns-then-not-turn c =
    let e : ◌≡◌ {A = Bool} c.args.turn.more false = spent _ c.if-not-turn.true in
    let l : c.args.turn.used + (get_or c.args.plan.now (c.args.turn.at + 4) 0) + 1 ≤ 2048 = omega arith in
    λ S p m j et lp. to_tuple _ et lp (search) (search) l (tuple_done _ p _ _ _ l)
    (waits _ (c.args.turn.at + 8) c.args.turn.depth (c.args.turn.used + (get_or c.args.plan.now (c.args.turn.at + 4) 0) + 1) e)
    (as_before _ (put _ _ _) _ e) (as_before _ (puts _ _ _) _ e)

pub put_tuple-requires : goal.put_tuple-requires
put_tuple-requires c =
    let l : c.args.turn.used + get_or c.args.plan.now (c.args.turn.at + 4) 0 < 2048 = omega arith in
    (omega arith, search, rw (c.read.ensures, c.read-n.ensures) c.requires.3)

pub overflow_add-result : goal.overflow_add-result
overflow_add-result c = omega (arith, c.requires.0.whole, c.well_formed.0.0)

pub returns : goal.returns
returns c =
    let e : ◌≡◌ {A = Bool} c.args.turn.more true = left _ c.if-not-turn.false in
    let l : c.args.turn.used + (get_or c.args.plan.now (c.args.turn.at + 4) 0) + 1 ≤ 2048 = omega (arith, c.if-turn-count-gt2047.false, c.read-n.ensures) in
    let q : c.read-n.result ≡ (get_or c.args.plan.now (c.args.turn.at + 4) 0) = c.read-n.ensures in
    λ S p m j et lp. to_tuple _ et lp c.requires.0.depth c.requires.0.used l (tuple_done _ p _ _ _ l)
    (ap (λ (k : ℕ). To (c.args.turn.at + 8) c.args.turn.depth (c.args.turn.used + k + 1)) q ∙ moves _ _ _ _ e)
    (written _ _ (lent c.args.rk.now c.args.rn.now) e (c.set.ensures ∙ ap
    (λ (k : ℕ). put (lent c.args.rk.now c.args.rn.now) k (handle c.args.turn.used)) c.index.ensures.0))
    (written _ _ (lent c.args.hk.now c.args.hn.now) e (c.put_tuple.ensures ∙ ap₂
    (λ (i k : ℕ). puts (lent c.args.hk.now c.args.hn.now) c.args.turn.used
    (tuple_of (operand_table c.args.operands.now c.args.bases.now) (lent c.args.rk.now c.args.rn.now) i k))
    c.read.ensures c.read-n.ensures))

pub set-requires : goal.set-requires
set-requires c = omega (arith, c.requires)
