use Prim.Native.Nat.{ℕ, ◌+◌, ◌≤◌}
use native.Mathlib.Omega.{arith}
use mathlib.Core.Bool.{Bool, true, false}
use mathlib.Core.Path.{◌≡◌, refl, ap, ◌∙◌}
use lib.ListN.{get_or, replicate}
use Rattle.exec_words.specs.memory.Lent.{lent}
use Rattle.exec.specs.Machine.{puts, junk_word}
use Rattle.exec_step.specs.declared.moved.Moved.TheVariants.{To}
use Rattle.exec_step.proofs.moved.Laws.{ended, to_junk, moves, waits, spent, left, written, as_before}
use Rattle.exec_machine.proofs.Leaves.{push_full, push_done}
use Rattle.exec_step.proofs.stack.push.Goals as goal

pub returns-then-turn-n : goal.returns-then-turn-n
returns-then-turn-n c = λ ω R H p m j et lp. ended ω refl (push_full _ p _ (omega arith))

pub returns-then-not-turn : goal.returns-then-not-turn
returns-then-not-turn c =
    let e : ◌≡◌ {A = Bool} c.args.turn.more false = spent _ c.if-not-turn.true in
    let l : c.args.turn.depth + (get_or c.args.plan.now (c.args.turn.at + 3) 0) ≤ 256 = omega arith in
    λ ω R H p m j et lp. to_junk ω et lp (search) (search) l (push_done _ p _ l)
    (waits _ (c.args.turn.at + 8) (c.args.turn.depth + (get_or c.args.plan.now (c.args.turn.at + 3) 0)) c.args.turn.used e)
    (as_before _ (puts _ _ _) _ e)

pub returns : goal.returns
returns c =
    let e : ◌≡◌ {A = Bool} c.args.turn.more true = left _ c.if-not-turn.false in
    let l : c.args.turn.depth + (get_or c.args.plan.now (c.args.turn.at + 3) 0) ≤ 256 = omega arith in
    λ ω R H p m j et lp. to_junk ω et lp (search) (search) l (push_done _ p _ l)
    (ap (λ (k : ℕ). To (c.args.turn.at + 8) (c.args.turn.depth + k) c.args.turn.used) c.read-n.ensures ∙ moves _ _ _ _ e)
    (written _ _ (lent c.args.sk.now c.args.sn.now) e (c.put_junk.ensures ∙ ap
    (λ (k : ℕ). puts (lent c.args.sk.now c.args.sn.now) c.args.turn.depth (replicate k junk_word)) c.read-n.ensures))
