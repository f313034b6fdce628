use native.Mathlib.Omega.{arith}
use Rattle.valid_judge.proofs.Codes.{there, is_unpack, short_unpack}
use Rattle.image.specs.Sections.{part, instr_section}
use Rattle.valid_typing.specs.Image.{operands_in}
use Rattle.valid_judge.specs.Image.{OpensAt}
use Rattle.valid_judge.proofs.operand_forms.open_form.Goals as goal

pub open-requires : goal.open-requires
unfolding part
open-requires c =
    (c.requires.0, short_unpack _ _ _ _ c.requires.1 c.requires.3.code (search) c.requires.3.is, omega arith, c.requires.2)

pub returns : goal.returns
unfolding part
returns c =
    let a = c.args in
    let l = a.image.now in
    there (OpensAt a.p l a.c a.envs.now a.w a.regs.now _ c.open.result)
    (is_unpack (instr_section a.p l) (operands_in a.p l a.literals.now) a.x.at _ c.requires.3.code c.cell-v.ensures.0 c.cell-d.ensures.0 c.requires.3.is)
    c.open.ensures
