use native.Mathlib.Omega.{arith}
use Rattle.std.proofs.Common.{rules, tests}
use Rattle.std.proofs.lemmas.Iterator.{YieldsList-from_range}
use Rattle.std.proofs.lemmas.Iterator.Search.{all_from_yields_List}
use Prim.Native.Nat.{ℕ, ◌+◌}
use mathlib.Core.Path.{◌∙◌}
use lib.Dec.{eqb}
use lib.ListN.{get_or}
use Rattle.valid_scope.proofs.entry.Laws.{gaps_all}
use Rattle.valid_scope.proofs.entry.none_named.Goals as goal

pub returns : goal.returns
returns c =
    λ v h.
    let parts = c.args.parts.now in
    let test = λ (i : ℕ). eqb (get_or parts (c.args.p + i) 0) 0 in
    all_from_yields_List test _ _ _ c.all.ensures.ran (YieldsList-from_range 0 c.args.k c.args.k (cc) (omega arith)) (λ x b q k. search (rules, tests))
    ∙ gaps_all v parts h c.args.p c.args.k
