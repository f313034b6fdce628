use native.Mathlib.Omega.{arith}
use mathlib.Core.Path.{◌≡◌, ap, ◌∙◌}
use Rattle.std.specs.Prelude.{ℕ, List, ◌≤◌, ◌*◌, length, Result, Ok, Err, IfOk}
use Rattle.faults.specs.declared.Fault.{Fault}
use Rattle.valid_context.specs.Context.{EnvsIn}
use Rattle.valid_judge.specs.stack.Forms.{Kept}
use Rattle.valid_judge.proofs.Results.{if_ok_then}
use Rattle.syntax.specs.Syntax.{Instr}
use Rattle.valid.specs.PassThree.{judge}
use Rattle.valid_context.specs.Context.{context_of}
use Rattle.valid_context.specs.Told.{told_of}
use Rattle.valid_context.proofs.Cells.{envs_less}
use Rattle.valid_judge.proofs.Codes.{is_getsp, is_setsp, is_salloc, is_sfree}
use Rattle.image.specs.Sections.{part, instr_section}
use Rattle.valid_typing.specs.Image.{read_at, letters_in}
use Rattle.valid_judge.proofs.plain_forms.sp_form.Goals as goal

held_by : (r : Result ℕ Fault) (E γ σ : List ℕ) (d : ℕ) (σ' : List ℕ) → (EnvsIn (2 * length E) σ d → IfOk r (λ y. EnvsIn (2 * length E) σ' y)) → IfOk r (λ y. Kept E γ σ d γ σ' y)
held_by (Ok y) E γ σ d σ' h = λ k. record { regs_in = k.regs_in; sp_in = h k.sp_in }
held_by (Err f) E γ σ d σ' h = tt

pub returns-in_err-get_sp-in-13 : goal.returns-in_err-get_sp-in-13
unfolding part
returns-in_err-get_sp-in-13 c =
    let a = c.args in
    let l = a.image.now in
    let e : c.from_residual.result ≡ Err c.in_err-get_sp-in-13.field-0.0 = grind arith in
    rw e (
      λ ω P e. ap (λ (x : Instr). told_of (judge P (letters_in a.p l a.w) (context_of (read_at a.p l a.n a.envs.now) a.regs.now
          a.sp.now a.depth) x)) (is_getsp (instr_section a.p l) ω a.x.at _ c.requires.2.code c.cell-a.ensures.0
          c.cell-b.ensures.0 c.in-13.is) ∙ c.in_err-get_sp-in-13.ensures.0 P e,
      tt,
      tt,
    )

pub returns-in_ok-get_sp-in-13 : goal.returns-in_ok-get_sp-in-13
unfolding part
returns-in_ok-get_sp-in-13 c =
    let a = c.args in
    let l = a.image.now in (
      λ ω P e. ap (λ (x : Instr). told_of (judge P (letters_in a.p l a.w) (context_of (read_at a.p l a.n a.envs.now) a.regs.now
          a.sp.now a.depth) x)) (is_getsp (instr_section a.p l) ω a.x.at _ c.requires.2.code c.cell-a.ensures.0
          c.cell-b.ensures.0 c.in-13.is) ∙ c.in_ok-get_sp-in-13.ensures.0 P e,
      c.requires.1.depth,
      λ k. record { regs_in = c.in_ok-get_sp-in-13.ensures.1 k.regs_in; sp_in = k.sp_in },
    )

pub set_sp-requires : goal.set_sp-requires
unfolding part
set_sp-requires c = record { ready = c.requires.0.ready; few = c.requires.1.few; room = c.requires.0.room }

pub returns-in-14 : goal.returns-in-14
unfolding part
returns-in-14 c =
    let a = c.args in
    let l = a.image.now in (
      λ ω P e. ap (λ (x : Instr). told_of (judge P (letters_in a.p l a.w) (context_of (read_at a.p l a.n a.envs.now) a.regs.now
          a.sp.now a.depth) x)) (is_setsp (instr_section a.p l) ω a.x.at _ c.requires.2.code c.cell-a.ensures.0
          c.in-14.is) ∙ c.set_sp.ensures.0 _ P e,
      if_ok_then c.set_sp.result (λ y. y ≤ a.depth) (λ y. y ≤ 64) (λ y h. omega (arith, c.requires.1.depth)) c.set_sp.ensures.1,
      if_ok_then c.set_sp.result (λ y. y ≤ a.depth) (λ y. Kept a.envs.now a.regs.now a.sp.now a.depth a.regs.now a.sp.now y) (λ y h k. record { regs_in = k.regs_in; sp_in = envs_less (omega arith) h k.sp_in }) c.set_sp.ensures.1,
    )

pub returns-in-15 : goal.returns-in-15
unfolding part
returns-in-15 c =
    let a = c.args in
    let l = a.image.now in (
      λ ω P e. ap (λ (x : Instr). told_of (judge P (letters_in a.p l a.w) (context_of (read_at a.p l a.n a.envs.now) a.regs.now
          a.sp.now a.depth) x)) (is_salloc (instr_section a.p l) ω a.x.at _ c.requires.2.code c.cell-a.ensures.0
          c.in-15.is) ∙ c.allocate.ensures.0 _ _ _ _ _ c.requires.0.ready P e,
      c.allocate.ensures.1,
      held_by c.allocate.result _ _ _ _ _ (λ k. c.allocate.ensures.2 _ k),
    )

pub returns-in_default : goal.returns-in_default
unfolding part
returns-in_default c =
    let a = c.args in
    let l = a.image.now in
    let q : a.x.code ≡ 16 = omega (arith, c.requires.2.from, c.requires.2.to) in (
      λ ω P e. ap (λ (x : Instr). told_of (judge P (letters_in a.p l a.w) (context_of (read_at a.p l a.n a.envs.now) a.regs.now
          a.sp.now a.depth) x)) (is_sfree (instr_section a.p l) ω a.x.at _ c.requires.2.code c.cell-a.ensures.0 q)
          ∙ c.free.ensures.0 _ a.regs.now P _,
      if_ok_then c.free.result (λ y. y ≤ a.depth) (λ y. y ≤ 64) (λ y h. omega (arith, c.requires.1.depth)) c.free.ensures.1,
      if_ok_then c.free.result (λ y. y ≤ a.depth) (λ y. Kept a.envs.now a.regs.now a.sp.now a.depth a.regs.now a.sp.now y) (λ y h k. record { regs_in = k.regs_in; sp_in = envs_less (omega arith) h k.sp_in }) c.free.ensures.1,
    )

pub allocate-requires : goal.allocate-requires
allocate-requires c = (c.requires.0.ready.few, c.requires.1.items, c.requires.1.depth)

pub free-requires : goal.free-requires
free-requires c = c.requires.1.depth
