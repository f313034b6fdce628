use mathlib.Core.Path.{refl, ◌∙◌}
use Rattle.exec_state.proofs.start.Laws.{length_first, all_written, one_written}
use Rattle.exec_state.proofs.start.set_tuple.Goals as goal

pub loop-i-preserved : goal.loop-i-preserved
loop-i-preserved c = one_written _ _ _ c.loop-i.invariant c.loop-i-test.true c.put-in-loop-i.ensures

pub returns : goal.returns
returns c =
    all_written _ _ _ c.loop-i.invariant c.loop-i-test.false ∙ length_first c.args.samples.now _ _ refl c.put.ensures
