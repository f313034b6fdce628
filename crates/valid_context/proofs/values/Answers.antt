use Prim.Native.Nat.{ℕ, ◌+◌, ◌-◌}
use native.Mathlib.Omega.{arith}
use mathlib.Core.Path.{◌≡◌, ap, ◌∙◌}
use lib.Dec.{ltb}
use Rattle.std.proofs.Common.{rules, tests}
use Rattle.std.proofs.lemmas.Iterator.{YieldsList-from_range}
use Rattle.std.proofs.lemmas.Iterator.Search.{all_from_yields_List}
use Rattle.tables.specs.Tables.{cell}
use Rattle.valid_context.specs.Context.{first_var, are_values}
use Rattle.valid_context.proofs.Sp.{values_few, values_list, values_told}
use Rattle.valid_context.proofs.values.Goals as goal

pub returns-then-k-d : goal.returns-then-k-d
returns-then-k-d c =
    let sp = c.args.sp.now in
    let d : ℕ = c.args.d in
    let k : ℕ = c.args.k in
    let e = all_from_yields_List (λ i. ltb (cell 2 sp i 0) first_var) _ _ _ c.all.ensures.ran (YieldsList-from_range (d - k) d k (cc) (omega arith)) (λ x b q k. search (rules, tests)) in
    let n : d - k + k ≡ d = omega arith in
    values_told _ _ _ (e ∙ values_list sp (d - k) k ∙ ap (λ (j : ℕ). are_values sp j k) n)

pub returns-else-k-d : goal.returns-else-k-d
returns-else-k-d c = values_told _ _ _ (rw (values_few c.args.sp.now c.args.d c.args.k c.if-k-d.false) (search (rules, tests)))
