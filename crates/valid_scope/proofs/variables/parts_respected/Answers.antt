use native.Mathlib.Omega.{arith}
use Rattle.std.proofs.Common.{rules, tests}
use Rattle.std.proofs.lemmas.Iterator.{YieldsList-from_range}
use Rattle.std.proofs.lemmas.Iterator.Search.{all_from_yields_List}
use Prim.Native.Nat.{ℕ, ◌+◌}
use mathlib.Core.Path.{◌∙◌}
use lib.ListN.{get_or}
use Rattle.tables.specs.Tables.{known_of}
use Rattle.valid_scope.specs.variables.Uses.{part_respected}
use Rattle.valid_scope.proofs.variables.Laws.{respected_all}
use Rattle.valid_scope.proofs.variables.parts_respected.Goals as goal

pub returns : goal.returns
returns c =
    let test = λ (i : ℕ). part_respected c.args.tops.now (known_of (get_or c.args.parts.now (c.args.p + i) 0 + c.args.off)) in
    all_from_yields_List test _ _ _ c.all.ensures.ran (YieldsList-from_range 0 c.args.n c.args.n (cc) (omega arith)) (λ x b q k. search (rules, tests))
    ∙ respected_all c.args.tops.now c.args.parts.now c.args.p c.args.n c.args.off
