use Prim.Native.Nat.{ℕ, ◌-◌}
use native.Mathlib.Omega.{arith}
use mathlib.Core.Path.{refl, ap, ◌∙◌}
use Rattle.exec.specs.Machine.{put}
use Rattle.exec_words.specs.memory.Lent.{word_is, lent}
use mathlib.Core.Bool.{cond}
use Rattle.exec_step.proofs.moved.Laws.{named, ended, to_stack}
use Rattle.exec_machine.proofs.Leaves.{into_kind, into_above, into_past, into_done}
use Rattle.exec_step.proofs.stack.poke_through.Goals as goal

pub returns-then-w-ne-HEIGHT : goal.returns-then-w-ne-HEIGHT
returns-then-w-ne-HEIGHT c =
    λ ω H p m j et lp. ended ω c.stuck.ensures (into_kind _ _ p _ _ _ _ (named _ c.get-w.ensures (search)) refl (search))

pub returns-then-turn-w : goal.returns-then-turn-w
returns-then-turn-w c =
    λ ω H p m j et lp. ended ω c.stuck-then-turn-w.ensures (into_above _ _ p _ _ _ _ (named _ c.get-w.ensures (search)) _ refl (search) refl
    (search))

pub returns-then-top-i : goal.returns-then-top-i
returns-then-top-i c =
    λ ω H p m j et lp. ended ω c.stuck-then-top-i.ensures (into_past _ _ p _ _ _ _ (named _ c.get-w.ensures (search)) _ refl
    (search) refl (omega arith) (omega arith))

pub returns : goal.returns
returns c =
    λ ω H p m j et lp. to_stack ω et lp c.requires.0.depth c.requires.0.used
    (into_done _ _ p _ _ _ _ (named _ c.get-w.ensures c.index.ensures.0) _ refl c.if-w-ne-HEIGHT.false _
    (omega (arith, c.if-turn-w.false)) (omega (arith, c.if-top-i.false, c.index-i.ensures.0))
    (named _ c.get-x.ensures c.index-2.ensures.0)) c.write.ensures.0
    (c.write.ensures.1 ∙ ap (λ (k : ℕ). cond c.args.turn.more (put (lent c.args.sk.now c.args.sn.now)
    (c.get-w.result.number - k - 1) (word_is c.get-x.result)) (lent c.args.sk.now c.args.sn.now)) c.index-i.ensures.0)
