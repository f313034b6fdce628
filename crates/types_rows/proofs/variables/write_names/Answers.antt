use native.Mathlib.Omega.{arith}
use Rattle.types_rows.proofs.Environments.{naming_even, naming_odd, names_all}
use Rattle.types_rows.proofs.variables.write_names.Goals.{then-x-eq0, else-x-eq0}
use Rattle.types_rows.proofs.variables.write_names.Goals as goal

pub loop-j-preserved : goal.loop-j-preserved
loop-j-preserved c =
    let q = c.loop-j.invariant.1 in
    let i = c.loop-j.invariant.2 in
    let p = c.requires.2 in
    elim c.if-x-eq0.branch [
      | then-x-eq0 w ↦ let u = w.x-is in let v = w.k-is in (rw (w.x-is, w.k-is) (naming_even _ _ _ _ _ _ _ _ _ c.loop-j.invariant.0 (omega arith) c.variable.ensures.0 w.if-x-eq0.true), omega arith, omega arith)
      | else-x-eq0 w ↦ let u = w.x-is in let v = w.k-is in let a = w.at-x.ensures.1 in (rw (w.x-is, w.k-is) (naming_odd _ _ _ _ _ _ _ _ _ c.loop-j.invariant.0 (omega arith) c.variable.ensures.0 w.if-x-eq0.false w.at-x.ensures.0), omega arith, omega arith)
    ]

pub returns : goal.returns
returns c =
    let p = c.requires.2 in
    let w = names_all _ _ _ _ _ _ _ _ _ c.loop-j.invariant.0 (omega arith) c.variable-2.ensures.0 (omega arith) c.if-x-ne0.false in
    ((λ e. w.0), w.1)
