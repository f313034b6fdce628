use mathlib.Core.Path.{refl, ◌∙◌}
use Rattle.tables.specs.Tables.{rows_in}
use Rattle.types_rows.specs.Read.{tab}
use Rattle.types_pass_two.proofs.refs.Lines.{number_is, instrs_found, instrs_next, instrs_end}
use Rattle.types_pass_two.proofs.refs.instrs_fault.Goals as goal

pub returns-in-Some : goal.returns-in-Some
returns-in-Some c =
    λ ps. instrs_found (rows_in (tab _ ps) _) _ _ _ _ _ _ _ c.loop-i-test.true (c.in-Some.ensures ps) (number_is c.in-Some.fault) ∙ c.loop-i.invariant ps

pub loop-i-preserved : goal.loop-i-preserved
loop-i-preserved c =
    λ ps. instrs_next (rows_in (tab _ ps) _) _ _ _ _ _ _ _ c.loop-i-test.true (c.in_default.ensures ps) refl ∙ c.loop-i.invariant ps

pub returns : goal.returns
returns c = λ ps. instrs_end (rows_in (tab _ ps) _) _ _ _ _ _ _ c.loop-i-test.false ∙ c.loop-i.invariant ps
