use native.Mathlib.Omega.{arith}
use mathlib.Core.Path.{ap, ◌∙◌}
use Rattle.syntax.specs.Syntax.{Instr}
use Rattle.valid.specs.PassThree.{judge}
use Rattle.valid_context.specs.Context.{regs_of}
use Rattle.valid_context.specs.Told.{told_of}
use Rattle.valid_judge.specs.heap.Forms.{held}
use Rattle.valid_judge.proofs.Codes.{is_ld, is_st, is_halt}
use Rattle.image.specs.Sections.{part, instr_section}
use Rattle.valid_typing.specs.Image.{read_at, letters_in}
use Rattle.valid_judge.proofs.plain_forms.heap_form.Goals as goal

pub load-requires : goal.load-requires
unfolding part
load-requires c = (c.requires.0.ready, c.requires.1.registers)

pub returns-in-10 : goal.returns-in-10
unfolding part
returns-in-10 c =
    let a = c.args in
    let l = a.image.now in (
      λ ω P z e. ap (λ (x : Instr). told_of (judge P (letters_in a.p l a.w) (held z (regs_of (read_at a.p l a.n a.envs.now) a.regs.now))
          x)) (is_ld (instr_section a.p l) ω a.x.at _ c.requires.2.code c.cell-a.ensures.0 c.cell-b.ensures.0
          c.cell-c.ensures.0 c.in-10.is) ∙ c.load.ensures.0 _ P z e,
      c.load.ensures.1,
    )

pub store-requires : goal.store-requires
unfolding part
store-requires c = record { ready = c.requires.0.ready; few = c.requires.1.few; room = c.requires.0.room }

pub returns-in-11 : goal.returns-in-11
unfolding part
returns-in-11 c =
    let a = c.args in
    let l = a.image.now in (
      λ ω P z e. ap (λ (x : Instr). told_of (judge P (letters_in a.p l a.w) (held z (regs_of (read_at a.p l a.n a.envs.now) a.regs.now))
          x)) (is_st (instr_section a.p l) ω a.x.at _ c.requires.2.code c.cell-a.ensures.0 c.cell-b.ensures.0
          c.cell-c.ensures.0 c.in-11.is) ∙ c.store.ensures _ P z e,
      λ k. k,
    )

pub stop-requires : goal.stop-requires
stop-requires c = (c.requires.0, c.requires.1.few)

pub returns-in_default : goal.returns-in_default
unfolding part
returns-in_default c =
    let a = c.args in
    let l = a.image.now in (
      λ ω P z e. ap (λ (x : Instr). told_of (judge P (letters_in a.p l a.w) (held z (regs_of (read_at a.p l a.n a.envs.now) a.regs.now))
          x)) (is_halt (instr_section a.p l) ω a.x.at _ c.requires.2.code c.cell-a.ensures.0
          (c.requires.2.halt (omega (arith, c.requires.2.from))) c.requires.2.no_unpack) ∙ c.stop.ensures P z e,
      λ k. k,
    )
