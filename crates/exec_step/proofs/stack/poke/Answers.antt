use Prim.Native.Nat.{ℕ, ◌+◌, ◌-◌}
use native.Mathlib.Omega.{arith}
use mathlib.Core.Path.{refl, ap, ◌∙◌}
use lib.ListN.{get_or}
use Rattle.exec.specs.Machine.{put}
use Rattle.exec_words.specs.memory.Lent.{word_is, lent}
use mathlib.Core.Bool.{cond}
use Rattle.exec_step.proofs.moved.Laws.{named, ended, to_stack}
use Rattle.exec_machine.proofs.Leaves.{write_past, write_done}
use Rattle.exec_step.proofs.stack.poke.Goals as goal

pub returns-then-top-i : goal.returns-then-top-i
returns-then-top-i c = λ ω H p m j et lp. ended ω c.stuck.ensures (write_past _ _ p _ _ refl (omega arith))

pub returns : goal.returns
returns c =
    λ ω H p m j et lp. to_stack ω et lp c.requires.0.depth c.requires.0.used
    (write_done (lent c.args.rk.now c.args.rn.now) c.args.turn.depth p (get_or c.args.plan.now (c.args.turn.at + 3) 0)
    (get_or c.args.plan.now (c.args.turn.at + 2) 0) c.get-x.result
    (omega (arith, c.if-top-i.false, c.index-i.ensures.0))
    (named (lent c.args.rk.now c.args.rn.now) c.get-x.ensures c.index.ensures.0)) c.write.ensures.0
    (c.write.ensures.1 ∙ ap (λ (k : ℕ). cond c.args.turn.more
    (put (lent c.args.sk.now c.args.sn.now) (c.args.turn.depth - k - 1) (word_is c.get-x.result)) (lent c.args.sk.now c.args.sn.now))
    c.index-i.ensures.0)
