use mathlib.Core.Path.{refl, sym, ◌∙◌}
use Rattle.tables.specs.Tables.{rows_in}
use Rattle.types_rows.specs.Read.{tab}
use Rattle.types_pass_two.specs.instr_refs.Instrs.{operand_table}
use Rattle.types_pass_two.proofs.refs.Lines.{number_is, blocks_start, block_found, body_found, block_next, blocks_end}
use Rattle.types_pass_two.proofs.refs.code_fault.Goals as goal

pub loop-b-init : goal.loop-b-init
loop-b-init c = λ ps. blocks_start (rows_in (tab _ ps) _) _ _ _ _ _ _ c.requires.rising

pub returns-in-Some : goal.returns-in-Some
returns-in-Some c =
    λ ps. block_found (rows_in (tab c.args.rows.now ps) c.args.n) c.args.nb c.args.blocks.now c.args.instrs.now
    (operand_table c.args.operands.now c.args.numbers.now c.args.args.now) c.args.ni c.args.n c.loop-b.b
    c.cell-s.result c.cell.result _ c.loop-b-test.true c.cell-s.ensures.0 c.cell.ensures.0 refl
    _ (c.in-Some.ensures ps) (number_is c.in-Some.fault) ∙ c.loop-b.invariant ps

pub returns-then-is_some : goal.returns-then-is_some
returns-then-is_some c =
    λ ps. body_found (rows_in (tab c.args.rows.now ps) c.args.n) c.args.nb c.args.blocks.now c.args.instrs.now
    (operand_table c.args.operands.now c.args.numbers.now c.args.args.now) c.args.ni c.args.n c.loop-b.b
    c.cell-s.result c.cell.result c.block_end-e.result c.loop-b-test.true c.cell-s.ensures.0
    c.cell.ensures.0 c.block_end-e.ensures.0 _ c.instrs_fault-found.result
    (c.in_default.ensures ps) refl (c.instrs_fault-found.ensures ps) (sym c.is_some.ensures ∙ c.if-is_some.true) ∙ c.loop-b.invariant ps

pub loop-b-preserved : goal.loop-b-preserved
loop-b-preserved c =
    λ ps. block_next (rows_in (tab c.args.rows.now ps) c.args.n) c.args.nb c.args.blocks.now c.args.instrs.now
    (operand_table c.args.operands.now c.args.numbers.now c.args.args.now) c.args.ni c.args.n c.loop-b.b
    c.cell-s.result c.cell.result c.block_end-e.result c.loop-b-test.true c.cell-s.ensures.0
    c.cell.ensures.0 c.block_end-e.ensures.0 c.requires.rising _ c.instrs_fault-found.result
    (c.in_default.ensures ps) refl (c.instrs_fault-found.ensures ps) (sym c.is_some.ensures ∙ c.if-is_some.false) ∙ c.loop-b.invariant ps

pub returns : goal.returns
returns c =
    λ ps. blocks_end (rows_in (tab c.args.rows.now ps) c.args.n) _ c.args.blocks.now c.args.instrs.now (operand_table _ _ _) c.args.ni _ _ c.loop-b-test.false ∙ c.loop-b.invariant ps
