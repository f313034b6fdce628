use Prim.Native.Nat.{ℕ, ◌+◌, ◌<◌}
use native.Mathlib.Omega.{arith}
use mathlib.Core.Path.{refl, ap, sym, ◌∙◌}
use mathlib.Core.Option.{Option, some}
use mathlib.Core.List.{List, []}
use lib.ListN.{take}
use Rattle.image.specs.Sections.{instr_section}
use Rattle.valid_context.specs.Context.{context_of}
use Rattle.valid_typing.specs.Image.{read_at, operands_in, letters_in}
use Rattle.types_rows.proofs.Environments.{known_none}
use Rattle.valid_judge.specs.Image.{counting}
use Rattle.valid_pass_three.proofs.body.Arrays.{still}
use Rattle.valid_pass_three.proofs.body.Environments.{taken_few, taken_fits, noted}
use Rattle.faults.specs.Numbers.{number}
use Rattle.valid_verdict.specs.finding.Found.{item_named}
use Rattle.valid_pass_three.proofs.body.Lines.{same_item, lines_left, instr_next, instr_found, instrs_end}
use Rattle.valid_pass_three.proofs.body.body.Invariants.{left}
use Rattle.valid_pass_three.proofs.body.body.Goals as goal

pub loop-i-init : goal.loop-i-init
loop-i-init c =
    let a = c.args in
    let b = c.requires.3 in (
      record { registers = refl; items = refl; work = refl; pending = refl },
      record { long = refl; few = omega arith; depth = b.depth; known = known_none; held = record { regs_in = b.regs_in; sp_in = b.sp_in } },
      omega arith,
      λ P h. ap (λ (j : ℕ). left a.p a.image.now a.literals.now a.x P
          (letters_in a.p a.image.now (record { hidden = j; count = a.w.count; start = a.w.start })) a.x.first
          (context_of (read_at a.p a.image.now a.c.rows []) a.regs.now a.sp.now a.x.depth)) (sym b.hidden),
    )

pub slice_bounds-line-end : goal.slice_bounds-line-end
slice_bounds-line-end c = sym c.loop-i.invariant.1.long

pub line-requires : goal.line-requires
line-requires c =
    let t = c.requires.0.tables in
    let a = still c.requires.2 c.loop-i.invariant.0 in
    let u = c.loop-i.invariant.1 in (
      record { ordered = c.requires.0.ordered; ready = t.ready; scoped = t.scoped; room = a.pending },
      record { small = t.small; few = λ x k. t.few x (omega arith); room = a.work },
      c.requires.1.small c.loop-i.i c.loop-i.invariant.2 (search),
      record { fits = taken_fits u; force = record { room = record { few = taken_few u; registers = a.registers; items = a.items; depth = u.depth }; known = u.known; held = u.held; hidden = refl } },
    )

pub returns-in-Err : goal.returns-in-Err
unfolding lines_left
returns-in-Err c =
    let one_more_lem : c.loop-i.i < c.args.x.end = search in
    let a = c.args in
    let l = a.image.now in
    λ P h. ap (λ (j : Option ℕ). some (record { number = number c.in-Err.m.fault; line = a.x.base + c.loop-i.i; item = j })) (same_item c.in-Err.m.item)
    ∙ instr_found P (instr_section a.p l) (operands_in a.p l a.literals.now) a.x.end a.x.base
    (letters_in a.p l (counting a.w (take c.loop-i.h c.loop-i.envs))) c.loop-i.i
    (context_of (read_at a.p l a.c.rows (take c.loop-i.h c.loop-i.envs)) c.loop-i.regs c.loop-i.sp c.loop-i.depth) _
    c.in-Err.m one_more_lem (c.in-Err.ensures.0 P h) ∙ c.loop-i.invariant.3 P h

pub slice_bounds-note-end : goal.slice_bounds-note-end
slice_bounds-note-end c = sym c.loop-i.invariant.1.long

pub note-h-requires : goal.note-h-requires
note-h-requires c =
    let u = c.loop-i.invariant.1 in
    let e = c.in-Ok.ensures.2 in
    (omega (arith, e.few, u.long), taken_fits u, e.small)

pub loop-i-preserved : goal.loop-i-preserved
loop-i-preserved c =
    let one_more_lem : c.loop-i.i < c.args.x.end = search in
    let e = c.in-Ok.ensures.2 in
    let i = c.loop-i.invariant.0 in
    let u = c.loop-i.invariant.1 in
    let a = c.args in
    let l = a.image.now in (
      record { registers = c.line.auto.regs ∙ i.registers; items = c.line.auto.sp ∙ i.items; work = c.line.auto.work ∙ i.work; pending = c.line.auto.pending ∙ i.pending },
      noted u c.in-Ok.v.opened c.note-h.auto.envs c.note-h.ensures.0 c.note-h.ensures.1 c.in-Ok.ensures.1 e.few e.known e.held,
      omega (arith, c.loop-i.invariant.2),
      λ P h. ap (λ (E : List ℕ). left a.p l a.literals.now a.x P (letters_in a.p l (counting a.w E)) (c.loop-i.i + 1)
          (context_of (read_at a.p l a.c.rows E) c.line.new.regs c.line.new.sp c.in-Ok.v.depth)) c.note-h.ensures.0
          ∙ instr_next P (instr_section a.p l) (operands_in a.p l a.literals.now) a.x.end a.x.base
          (letters_in a.p l (counting a.w (take c.loop-i.h c.loop-i.envs))) _ c.loop-i.i
          (context_of (read_at a.p l a.c.rows (take c.loop-i.h c.loop-i.envs)) c.loop-i.regs c.loop-i.sp c.loop-i.depth) _
          one_more_lem (c.in-Ok.ensures.0 P h).told e.letters ∙ c.loop-i.invariant.3 P h,
    )

pub returns : goal.returns
unfolding lines_left
returns c =
    let a = c.args in
    let l = a.image.now in
    λ P h. instrs_end P (instr_section a.p l)
    (operands_in a.p l a.literals.now) a.x.end a.x.base (letters_in a.p l (counting a.w (take c.loop-i.h c.loop-i.envs))) c.loop-i.i
    (context_of (read_at a.p l a.c.rows (take c.loop-i.h c.loop-i.envs)) c.loop-i.regs c.loop-i.sp c.loop-i.depth) (search) ∙ c.loop-i.invariant.3 P h
