use native.Mathlib.Omega.{arith}
use Rattle.std.proofs.Common.{rules, tests}
use Rattle.std.proofs.lemmas.Iterator.{YieldsList-from_range}
use Rattle.std.proofs.lemmas.Iterator.Search.{all_from_yields_List}
use Prim.Native.Nat.{ℕ, ◌+◌}
use mathlib.Core.Path.{◌∙◌}
use lib.ListN.{get_or}
use Rattle.types.specs.Types.{int}
use Rattle.types.specs.Equal.{same}
use Rattle.types_rows.specs.Read.{tab, lower, mean_v}
use Rattle.valid_scope.proofs.entry.Laws.{ints_all}
use Rattle.valid_scope.proofs.entry.all_ints.Goals as goal

pub returns : goal.returns
returns c =
    let rows = c.args.rows.now in
    let parts = c.args.parts.now in
    let test = λ (i : ℕ). same (mean_v (tab rows parts) (lower c.args.h (get_or parts (c.args.p + i) 0))) int in
    all_from_yields_List test _ _ _ c.all.ensures.ran (YieldsList-from_range 0 c.args.c c.args.c (cc) (omega arith)) (λ x b q k. search (rules, tests))
    ∙ ints_all (mean_v (tab rows parts)) parts c.args.h c.args.p c.args.c
