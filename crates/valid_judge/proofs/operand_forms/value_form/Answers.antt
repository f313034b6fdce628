use native.Mathlib.Omega.{arith}
use mathlib.Core.Path.{ap, ◌∙◌}
use Rattle.syntax.specs.Syntax.{Instr}
use Rattle.valid.specs.PassThree.{judge}
use Rattle.valid_context.specs.Context.{regs_of}
use Rattle.valid_context.specs.Told.{told_of}
use Rattle.valid_judge.specs.heap.Forms.{held}
use Rattle.valid_judge.proofs.Codes.{told_aop, is_mov, is_malloc, short_aop, short_mov, short_malloc}
use Rattle.image.specs.Sections.{part, instr_section}
use Rattle.valid_typing.specs.Image.{read_at, operands_in, letters_in}
use Rattle.valid_judge.proofs.operand_forms.value_form.Goals as goal

pub compute-requires : goal.compute-requires
unfolding part
compute-requires c = (search, short_aop _ _ _ _ c.requires.1 c.requires.3.code (search) (search), omega arith, search)

pub returns-then-x-lt3 : goal.returns-then-x-lt3
unfolding part
returns-then-x-lt3 c =
    (λ P b h. told_aop _ _ _ _ c.requires.3.code (search) (search) P _ (held b _) (search) (search) (λ o. c.compute.ensures.0 o P b h), c.compute.ensures.1)

pub move_to-requires : goal.move_to-requires
unfolding part
move_to-requires c = (search, short_mov _ _ _ _ c.requires.1 c.requires.3.code (search) (search), omega arith, search)

pub returns-then-x-eq9 : goal.returns-then-x-eq9
unfolding part
returns-then-x-eq9 c =
    let a = c.args in
    let l = a.image.now in (
      λ P b h. ap (λ (x : Instr). told_of (judge P (letters_in a.p l a.w) (held b (regs_of (read_at a.p l a.c.rows a.envs.now)
          a.regs.now)) x)) (is_mov (instr_section a.p l) (operands_in a.p l a.literals.now) a.x.at _ c.requires.3.code
          c.cell-v.ensures.0 c.cell-a.ensures.0 (search)) ∙ c.move_to.ensures.0 P b h,
      c.move_to.ensures.1,
    )

pub make_tuple-requires : goal.make_tuple-requires
unfolding part
make_tuple-requires c =
    let t = short_malloc _ _ _ _ c.requires.1 (search) c.cell-v.ensures.0 c.cell-k.ensures.0 (c.requires.3.malloc (omega (arith, c.requires.3.no_branch (omega arith), c.if-x-eq9.false))) in
    (search, record { short = t.0; last = omega arith; few = t.1 }, search)

pub returns : goal.returns
unfolding part
returns c =
    let a = c.args in
    let l = a.image.now in (
      λ P b h. ap (λ (x : Instr). told_of (judge P (letters_in a.p l a.w) (held b (regs_of (read_at a.p l a.c.rows a.envs.now)
          a.regs.now)) x)) (is_malloc (instr_section a.p l) (operands_in a.p l a.literals.now) a.x.at _ c.requires.3.code
          c.cell-v.ensures.0 c.cell-a.ensures.0 c.cell-b.ensures.0 c.cell-k.ensures.0
          (c.requires.3.malloc (omega (arith, c.requires.3.no_branch (omega arith), c.if-x-eq9.false)))) ∙ c.make_tuple.ensures.0 P b h,
      c.make_tuple.ensures.1,
    )
