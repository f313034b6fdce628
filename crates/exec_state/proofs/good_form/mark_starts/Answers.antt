use mathlib.Core.Path.{refl, ap}
use mathlib.Core.Bool.{Bool, cond}
use mathlib.Core.List.{List, []}
use Prim.Native.Nat.{◌<◌}
use native.Mathlib.Omega.{arith}
use lib.ListN.{length}
use lib.Dec.{eqb}
use Rattle.exec_state.proofs.good_form.Laws.{ends, no_tuple, goes_on, all_marked, one_marked}
use Rattle.exec_state.proofs.good_form.mark_starts.Goals as goal

pub returns-in-None : goal.returns-in-None
returns-in-None c =
    (no_tuple _ _ _ _ _ c.loop-i.invariant.rest (search) c.loop-i.invariant.few _ _ c.at.ensures refl c.in-None.ensures, refl)

pub loop-i-preserved : goal.loop-i-preserved
loop-i-preserved c =
    let g : c.loop-i.i < length c.loop-i.starts = omega (arith, c.requires, c.loop-i.auto.starts, c.loop-i-test.true) in
    record {
      few = c.in-Some.ensures.1;
      rest = goes_on _ _ _ _ _ c.loop-i.invariant.rest (search) c.loop-i.invariant.few _ _ c.at.ensures c.in-Some.ensures.0 c.in-Some.ensures.1;
      marks = one_marked _ _ _ _ _ _ c.loop-i.invariant.marks (search) g _ _ _ c.at.ensures c.in-Some.ensures.0 c.mark.ensures;
    }

pub returns : goal.returns
returns c =
    (ends _ _ _ _ _ c.loop-i.invariant.rest (search), ap (λ (x : List Bool). cond (eqb c.loop-i.k 0) x []) (all_marked _ _ _ _ _ _ c.loop-i.invariant.marks c.loop-i-test.false (search)))
