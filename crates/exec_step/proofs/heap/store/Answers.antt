use Prim.Native.Nat.{ℕ, ◌+◌}
use native.Mathlib.Omega.{arith}
use mathlib.Core.Path.{refl, ap, ◌∙◌}
use Rattle.exec.specs.Machine.{put}
use Rattle.exec_words.specs.memory.Lent.{word_is, lent}
use mathlib.Core.Bool.{cond}
use Rattle.exec_step.proofs.moved.Laws.{named, ended, to_heap}
use Rattle.exec_machine.proofs.Leaves.{store_kind, store_past, store_done}
use Rattle.exec_step.proofs.heap.Laws.{start_lent, component_lent}
use Rattle.exec_step.proofs.heap.store.Goals as goal

pub returns-then-w-ne-TUPLE : goal.returns-then-w-ne-TUPLE
returns-then-w-ne-TUPLE c =
    λ ω S p m j et lp. ended ω c.stuck.ensures (store_kind _ _ p _ _ _ _ (named _ c.get-w.ensures (search)) refl (search))

pub get-length-requires : goal.get-length-requires
get-length-requires c =
    start_lent _ _ _ c.requires.3 c.requires.2 _ c.requires.0.low.first _ (named _ c.get-w.ensures (search)) (search) _ (search)

pub returns-then-length-i : goal.returns-then-length-i
returns-then-length-i c =
    λ ω S p m j et lp. ended ω c.stuck-then-length-i.ensures (store_past _ _ p _ _ _ _ (named _ c.get-w.ensures (search)) _ refl
    (search) _ c.get-length.ensures refl refl (omega arith))

pub overflow_add-turn : goal.overflow_add-turn
overflow_add-turn c = omega (arith, c.requires.0.whole, c.well_formed.0.0)

pub write-requires : goal.write-requires
write-requires c =
    component_lent _ _ _ c.requires.3 c.requires.2 _ c.requires.0.low.first _ (named _ c.get-w.ensures c.index.ensures.0)
    c.if-w-ne-TUPLE.false _ refl _ _ c.get-length.ensures (omega (arith, c.if-length-i.false))

pub returns : goal.returns
returns c =
    λ ω S p m j et lp. to_heap ω et lp c.requires.0.depth c.requires.0.used
    (store_done _ _ p _ _ _ _ (named _ c.get-w.ensures c.index.ensures.0) _ refl c.if-w-ne-TUPLE.false _
    c.get-length.ensures _ refl (omega (arith, c.if-length-i.false, c.index-i.ensures.0))
    (named _ c.get-x.ensures c.index-2.ensures.0)) c.write.ensures.0
    (c.write.ensures.1 ∙ ap (λ (k : ℕ). cond c.args.turn.more (put (lent c.args.hk.now c.args.hn.now)
    (c.get-w.result.number + k + 1) (word_is c.get-x.result)) (lent c.args.hk.now c.args.hn.now)) c.index-i.ensures.0)

pub get-x-requires : goal.get-x-requires
get-x-requires c = omega (arith, c.requires)
