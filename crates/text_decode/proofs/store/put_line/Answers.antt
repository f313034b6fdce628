use native.Mathlib.Omega.{arith}
use Rattle.image.specs.Sections.{part}
use Rattle.text_decode.proofs.store.PutLaws.{row_in, block_in, instr_in_lem, line_inside, line_last, line_behind}
use Rattle.text_decode.proofs.store.put_line.Goals as goal

pub put_entries-requires : goal.put_entries-requires
unfolding part
put_entries-requires c = omega arith

pub returns-then-code-lt11 : goal.returns-then-code-lt11
unfolding part
returns-then-code-lt11 c =
    row_in _ _ c.requires.0.ordered _ _ _ _ (search) c.put_entries.auto.table c.put_entries.ensures

pub put_entries-requires-then-code-eq11 : goal.put_entries-requires-then-code-eq11
unfolding part
put_entries-requires-then-code-eq11 c = omega arith

pub returns-then-code-eq11 : goal.returns-then-code-eq11
unfolding part
returns-then-code-eq11 c =
    block_in _ _ c.requires.0.ordered _ _ _ _ (search) c.put_entries-then-code-eq11.auto.table c.put_entries-then-code-eq11.ensures

pub put_entries-requires-2 : goal.put_entries-requires-2
unfolding part
put_entries-requires-2 c = omega arith

pub returns-in-33 : goal.returns-in-33
unfolding part
returns-in-33 c =
    instr_in_lem _ _ c.requires.0.ordered c.args.code _ _ _ (search) (search) c.put_entries-2.auto.table c.put_entries-2.ensures _ (line_last c.args.code (search) (search) _ _ _ c.from-operands.ensures (omega arith) (omega arith))

pub returns-in_default : goal.returns-in_default
unfolding part
returns-in_default c =
    instr_in_lem _ _ c.requires.0.ordered c.args.code _ _ _ (search) (search) c.put_entries-2.auto.table c.put_entries-2.ensures _ (line_inside c.args.code (search) (search) _ _ _ c.from-operands.ensures (omega arith))

pub returns-in_default-2 : goal.returns-in_default-2
unfolding part
returns-in_default-2 c =
    instr_in_lem _ _ c.requires.0.ordered c.args.code _ _ _ (search) (search) c.put_entries-2.auto.table c.put_entries-2.ensures _ (line_behind c.args.code (search) (search) _ _ _ c.from-operands.ensures (omega arith) (omega arith))
