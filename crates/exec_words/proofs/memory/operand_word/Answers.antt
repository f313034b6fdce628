use Rattle.exec_words.specs.memory.Lent.{lent}
use Rattle.exec_words.proofs.memory.Laws.{reg_kind, operand_reg, operand_lit, operand_lab}
use Rattle.std.proofs.Common.{refl, arith, ◌<◌, get_or}
use Rattle.exec_words.proofs.memory.operand_word.Goals as goal

pub get-requires : goal.get-requires
get-requires c =
    let z = reg_kind (lent c.args.rk.now c.args.rn.now) c.args.operands.now c.args.bases.now c.args.v c.from.ensures c.plain_kind.ensures c.in-0.is in
    let q : get_or c.args.bases.now c.args.v 0 < 8 = c.requires.1.low z in
    (omega (arith, q), omega (arith, q))

pub returns-in-0 : goal.returns-in-0
returns-in-0 c =
    operand_reg (lent c.args.rk.now c.args.rn.now) c.args.operands.now c.args.bases.now c.args.v c.from.ensures c.plain_kind.ensures c.in-0.is refl c.get.ensures

pub returns-in-1 : goal.returns-in-1
returns-in-1 c =
    operand_lit (lent c.args.rk.now c.args.rn.now) c.args.operands.now c.args.bases.now c.args.v c.from.ensures c.plain_kind.ensures c.in-1.is

pub returns-in_default : goal.returns-in_default
returns-in_default c =
    operand_lab (lent c.args.rk.now c.args.rn.now) c.args.operands.now c.args.bases.now c.args.v c.from.ensures c.plain_kind.ensures c.in_default.in_default-own.rest.0.1 c.in_default.in_default-own.rest.1
