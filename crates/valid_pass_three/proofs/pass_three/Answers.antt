use Prim.Native.Nat.{◌<◌}
use native.Mathlib.Nat.{pos_of_ne-zero}
use native.Mathlib.Omega.{arith}
use mathlib.Core.Path.{ap, sym, refl, ◌∙◌}
use mathlib.Core.Option.{some}
use Rattle.image.specs.Sections.{block_section, instr_section}
use Rattle.valid_typing.specs.Image.{row_table, operands_in}
use Rattle.std.proofs.lemmas.Result.{err_from_is_err_and}
use Rattle.valid_verdict.specs.declared.finding.Finding.{Finding}
use Rattle.valid_verdict.specs.finding.Found.{refusal_of, refusal_said}
use Rattle.valid_verdict.proofs.finding.Laws.{on_line_said}
use Rattle.valid_pass_three.proofs.body.Arrays.{still}
use Rattle.valid_pass_three.proofs.Blocks.{block_next, block_found, blocks_end, whole, no_block, length_all}
use Rattle.valid_pass_three.proofs.pass_three.Invariants.{types}
use Rattle.valid_pass_three.proofs.pass_three.Goals as goal

pub overflow_add-c : goal.overflow_add-c
overflow_add-c c =
    let u = c.requires.0.tables.ready.few in
    omega arith

pub returns-then-c-eq0 : goal.returns-then-c-eq0
returns-then-c-eq0 c =
    let a = c.args in
    let l = a.image.now in
    λ P h e. on_line_said c.on_line.ensures ∙ no_block P (types a.p l a.c.rows)
    (block_section a.p l) (instr_section a.p l) (operands_in a.p l a.literals.now) a.c.instrs a.c.rows a.c.blocks
    (length_all (row_table a.p l) a.c.rows) h.types e (search)

pub loop-b-init : goal.loop-b-init
loop-b-init c =
    let a = c.args in
    let l = a.image.now in
    let z = pos_of_ne-zero c.if-c-eq0.false in (
      record { registers = refl; items = refl; work = refl; pending = refl },
      λ P h e. sym (whole P (types a.p l a.c.rows)
          (block_section a.p l) (instr_section a.p l) (operands_in a.p l a.literals.now) a.c.instrs a.c.rows a.c.blocks
          (length_all (row_table a.p l) a.c.rows) h.types e z (c.requires.1.first z)),
    )

pub block-requires : goal.block-requires
block-requires c =
    let w : c.loop-b.b < c.args.c.blocks = search in
    let q = c.requires.1 in (
      c.requires.0,
      record {
        small = q.small (pos_of_ne-zero c.if-c-eq0.false);
        instrs = q.instrs;
        number = omega arith;
        end = (q.ends c.loop-b.b w).1;
      },
      still c.requires.2 c.loop-b.invariant.0,
    )

pub returns-in_err-block : goal.returns-in_err-block
returns-in_err-block c =
    let one_more_lem : c.loop-b.b < c.args.c.blocks = search in
    let w = one_more_lem in
    let a = c.args in
    let l = a.image.now in
    let p = err_from_is_err_and c.from_residual.result c.from_residual.ensures.1 in
    λ P h e. ap refusal_said p.1 ∙ ap (λ (f : Finding). some (refusal_of f)) p.2 ∙ block_found P (types a.p l a.c.rows) (block_section a.p l)
    (instr_section a.p l) (operands_in a.p l a.literals.now) a.c.instrs a.c.rows a.c.blocks c.loop-b.b w
    (c.requires.1.ends c.loop-b.b w).0 (c.block.ensures P h) (ap refusal_said c.in_err-block.was) ∙ c.loop-b.invariant.1 P h e

pub loop-b-preserved : goal.loop-b-preserved
loop-b-preserved c =
    let one_more_lem : c.loop-b.b < c.args.c.blocks = search in
    let w = one_more_lem in
    let i = c.loop-b.invariant.0 in
    let a = c.args in
    let l = a.image.now in (
      record { registers = c.block.auto.regs ∙ i.registers; items = c.block.auto.sp ∙ i.items; work = cc; pending = cc },
      λ P h e. sym (block_next P (types a.p l a.c.rows) (block_section a.p l) (instr_section a.p l) (operands_in a.p l
          a.literals.now) a.c.instrs a.c.rows a.c.blocks c.loop-b.b w (c.requires.1.ends c.loop-b.b w).0
          (c.block.ensures P h) (ap refusal_said c.in_ok-block.was)) ∙ c.loop-b.invariant.1 P h e,
    )

pub returns : goal.returns
returns c =
    let a = c.args in
    let l = a.image.now in
    λ P h e. sym (blocks_end P (types a.p l a.c.rows) (block_section a.p l) (instr_section a.p l) (operands_in a.p l a.literals.now) a.c.instrs a.c.rows a.c.blocks c.loop-b.b (search)) ∙ c.loop-b.invariant.1 P h e
