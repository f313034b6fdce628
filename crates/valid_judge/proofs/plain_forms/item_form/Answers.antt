use native.Mathlib.Omega.{arith}
use mathlib.Core.Path.{◌≡◌, ap, ◌∙◌}
use Rattle.syntax.specs.Syntax.{Instr}
use Rattle.valid.specs.PassThree.{judge}
use Rattle.valid_context.specs.Context.{context_of}
use Rattle.valid_context.specs.Told.{told_of}
use Rattle.valid_judge.proofs.Codes.{is_sld, is_sst, is_slp, is_ssp}
use Rattle.image.specs.Sections.{part, instr_section}
use Rattle.valid_typing.specs.Image.{read_at, letters_in}
use Rattle.valid_judge.proofs.plain_forms.item_form.Goals as goal

pub returns-in-17 : goal.returns-in-17
unfolding part
returns-in-17 c =
    let a = c.args in
    let l = a.image.now in (
      λ ω P e. ap (λ (x : Instr). told_of (judge P (letters_in a.p l a.w) (context_of (read_at a.p l a.n a.envs.now) a.regs.now
          a.sp.now a.m) x)) (is_sld (instr_section a.p l) ω a.x.at _ c.requires.3.code c.cell-a.ensures.0
          c.cell-b.ensures.0 c.in-17.is) ∙ c.load_item.ensures.0 _ P _,
      λ k. record { regs_in = c.load_item.ensures.1 _ k.sp_in k.regs_in; sp_in = k.sp_in },
    )

pub returns-in-18 : goal.returns-in-18
unfolding part
returns-in-18 c =
    let a = c.args in
    let l = a.image.now in (
      λ ω P e. ap (λ (x : Instr). told_of (judge P (letters_in a.p l a.w) (context_of (read_at a.p l a.n a.envs.now) a.regs.now
          a.sp.now a.m) x)) (is_sst (instr_section a.p l) ω a.x.at _ c.requires.3.code c.cell-a.ensures.0
          c.cell-b.ensures.0 c.in-18.is) ∙ c.store_item.ensures.0 _ _ _ _ c.requires.0.ready P e,
      λ k. record { regs_in = k.regs_in; sp_in = c.store_item.ensures.1 _ k.regs_in k.sp_in },
    )

pub load_through-requires : goal.load_through-requires
unfolding part
load_through-requires c =
    (record { ready = c.requires.0.ready; few = c.requires.2.few; room = c.requires.0.room }, c.requires.2)

pub returns-in-19 : goal.returns-in-19
unfolding part
returns-in-19 c =
    let a = c.args in
    let l = a.image.now in (
      λ ω P e. ap (λ (x : Instr). told_of (judge P (letters_in a.p l a.w) (context_of (read_at a.p l a.n a.envs.now) a.regs.now
          a.sp.now a.m) x)) (is_slp (instr_section a.p l) ω a.x.at _ c.requires.3.code c.cell-a.ensures.0
          c.cell-b.ensures.0 c.cell-c.ensures.0 c.in-19.is) ∙ c.load_through.ensures.0 _ P e,
      λ k. record { regs_in = c.load_through.ensures.1 k.regs_in; sp_in = k.sp_in },
    )

pub returns-in_default : goal.returns-in_default
unfolding part
returns-in_default c =
    let a = c.args in
    let l = a.image.now in
    let q : a.x.code ≡ 20 = omega (arith, c.requires.3.from, c.requires.3.to) in (
      λ ω P e. ap (λ (x : Instr). told_of (judge P (letters_in a.p l a.w) (context_of (read_at a.p l a.n a.envs.now) a.regs.now
          a.sp.now a.m) x)) (is_ssp (instr_section a.p l) ω a.x.at _ c.requires.3.code c.cell-a.ensures.0
          c.cell-b.ensures.0 c.cell-c.ensures.0 c.cell-t.ensures.0 q)
          ∙ c.store_through.ensures.0 P e,
      c.store_through.ensures.1,
    )

pub load_item-requires : goal.load_item-requires
load_item-requires c = (c.requires.2.registers, c.requires.2.depth)

pub store_item-requires : goal.store_item-requires
store_item-requires c = (c.requires.0.ready.few, omega (arith, c.requires.2.items, c.requires.2.depth), c.requires.2.depth)

pub store_through-requires : goal.store_through-requires
store_through-requires c = (c.requires.0, c.requires.1, c.requires.2)
