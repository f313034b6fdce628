use mathlib.Core.Path.{ap, ◌∙◌}
use Prim.Native.Nat.{◌+◌}
use native.Mathlib.Omega.{arith}
use Rattle.types_rows.specs.Environments.{shifted, name_in}
use Rattle.types_rows.proofs.Environments.{free_none, free_not, free_low, free_named}
use Rattle.types_rows.proofs.variables.free_variable.Goals.{then-h-eq0-via-then-h-eq0, then-h-eq0-via-else-h-eq0+then-entry-kind}
use Rattle.types_rows.proofs.variables.free_variable.Goals as goal

pub returns-then-h-eq0 : goal.returns-then-h-eq0
returns-then-h-eq0 c =
    elim c.then-h-eq0.branch [
      | then-h-eq0-via-then-h-eq0 w ↦ free_none _ _ _ _ _ _ w.if-h-eq0.true
      | then-h-eq0-via-else-h-eq0+then-entry-kind w ↦ let z = w.if-h-eq0.false in free_not _ _ _ _ _ _ (omega arith) w.entry.ensures.0 w.if-entry-kind.true
    ]

pub returns-in_err-j : goal.returns-in_err-j
returns-in_err-j c =
    let z = c.if-h-eq0.false in
    let low = c.in_err-j.ensures in
    c.from_residual.ensures ∙ free_low _ _ _ _ _ _ (omega arith) c.entry.ensures.0 c.entry-2.ensures.0 c.if-entry-kind.false (omega arith)

pub returns : goal.returns
unfolding shifted
returns c =
    let z = c.if-h-eq0.false in
    let e = c.in_ok-j.ensures in
    free_named _ (shifted c.args.envs.now c.args.e c.args.by) _ _ _ _ (omega arith) c.entry.ensures.0 c.entry-2.ensures.0 c.if-entry-kind.false e.0
    (ap (λ x. (x + c.args.by) + c.args.d) (c.name.ensures.0 ∙ ap (name_in c.args.envs.now c.args.e) e.1))
