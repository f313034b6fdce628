use Rattle.std.proofs.Common.{arith}
use Rattle.text_fields.proofs.names.Names.{Small, code_row, code_instr, code_too_long, instr_few}
use Rattle.text_fields.proofs.names.name_code.Goals as goal

pub returns-then-r-lt12 : goal.returns-then-r-lt12
returns-then-r-lt12 c =
    let f = c.args.f.now in
    let s : Small f = λ j. omega (arith, c.type_inv.f j) in
    code_row _ s _ _ c.pack-k.ensures (search) (search)

pub overflow_add-result : goal.overflow_add-result
overflow_add-result c = omega (arith, c.instr_name.ensures, instr_few c.pack-k.result)

pub returns-else-r-lt12 : goal.returns-else-r-lt12
returns-else-r-lt12 c =
    let f = c.args.f.now in
    let s : Small f = λ j. omega (arith, c.type_inv.f j) in
    code_instr _ s _ _ c.pack-k.ensures c.row_name-r.ensures (search) _ (search)

pub returns-then-f-gt6 : goal.returns-then-f-gt6
returns-then-f-gt6 c = code_too_long _ (search)
