use native.Mathlib.Omega.{arith}
use mathlib.Core.Path.{refl, ap, sym, ◌∙◌}
use mathlib.Core.List.{[]}
use Rattle.image.specs.Sections.{part, shared_section, slot_section, block_section, instr_section}
use Rattle.valid_scope.proofs.entry.Laws.{link_ok, code_low, code_in, other_fault, block_is}
use Rattle.valid_typing.specs.Image.{operands_in}
use Rattle.faults.specs.Numbers.{number, fault_number}
use Rattle.faults.proofs.Numbers.{number_above}
use Rattle.valid_verdict.proofs.finding.Laws.{on_line_said}
use Rattle.valid_pass_three.proofs.Blocks.{found_line, found_body, few_items, no_fault}
use Rattle.valid_pass_three.proofs.block.Goals as goal

pub read_value-v-requires : goal.read_value-v-requires
read_value-v-requires c =
    link_ok c.args.c.rows c.cell-r.result c.link-link.result c.link-link.ensures c.requires.0.tables.ready.few

pub returns-in_default : goal.returns-in_default
unfolding part
returns-in_default c =
    let a = c.args in
    let l = a.image.now in
    λ P g. on_line_said c.on_line.ensures ∙ found_line P (shared_section a.p l) (slot_section a.p l) (block_section a.p l) (instr_section a.p l) (operands_in a.p
    l a.literals.now) a.c.instrs a.c.rows a.c.blocks a.b c.cell-r.result c.cell-first.result _ c.cell-r.ensures.0
    c.cell-first.ensures.0 refl 7 (other_fault (shared_section a.p l) (slot_section a.p l) a.c.rows
    c.cell-r.result c.link-link.result c.link-link.ensures c.read_value-v.ensures.0 _ _ c.in_default.not-Code) (λ w. omega arith)

pub returns-in-Some : goal.returns-in-Some
unfolding part
returns-in-Some c =
    let a = c.args in
    let l = a.image.now in
    let k = number_above c.in-Some.f in
    λ P g. on_line_said c.on_line-in-Some.ensures ∙ found_line P (shared_section a.p l) (slot_section a.p l) (block_section a.p l) (instr_section a.p l) (operands_in a.p
    l a.literals.now) a.c.instrs a.c.rows a.c.blocks a.b c.cell-r.result c.cell-first.result _ c.cell-r.ensures.0
    c.cell-first.ensures.0 refl (number c.in-Some.f) (ap fault_number (sym c.in-Some.is) ∙ c.line_fault.ensures _) (λ z. omega (arith, k, z))

pub code_block-requires : goal.code_block-requires
unfolding part
code_block-requires c =
    let a = c.args in
    let l = a.image.now in
    let q = c.requires in
    let n = q.0.tables.ready.few in
    let e = c.block_end-end.ensures in
    let w = code_low (shared_section a.p l) (slot_section a.p l) a.c.rows c.cell-r.result c.link-link.result c.link-link.ensures c.read_value-v.ensures.0 c.in-Code.is c.read_value-v.ensures.1 in
    let i = code_in (shared_section a.p l) (slot_section a.p l) a.c.rows c.cell-r.result c.link-link.result c.link-link.ensures c.read_value-v.ensures.0 c.in-Code.is c.read_value-v.ensures.1 in
    let x = few_items (shared_section a.p l) (slot_section a.p l) a.c.rows c.cell-r.result c.link-link.result c.link-link.ensures c.read_value-v.ensures.0 c.in-Code.is _ _ [] (c.line_fault.ensures _) (no_fault _ c.in_default-line_fault.not-Some) in (
      q.0,
      record {
        small = λ j a b. q.1.small j (omega (arith, b, e, q.1.end));
        last = omega (arith, e, q.1.end, q.1.instrs);
        lines = omega (arith, n, q.1.number);
      },
      q.2,
      record { some = w.2; row = omega (arith, i.0, i.1); below = w.0; start = w.1; few = x },
    )

pub returns : goal.returns
unfolding part
returns c =
    let a = c.args in
    let l = a.image.now in
    λ P g. found_body P (shared_section a.p l) (slot_section a.p l) (block_section a.p l) (instr_section a.p l) (operands_in a.p
    l a.literals.now) a.c.instrs a.c.rows a.c.blocks a.b c.cell-r.result c.cell-first.result _ c.cell-r.ensures.0
    c.cell-first.ensures.0 refl _ c.link-link.result _ _ c.block_end-end.result _ _
    (c.line_fault.ensures _) (no_fault _ c.in_default-line_fault.not-Some) (block_is (shared_section a.p l) (slot_section a.p l) a.c.rows c.cell-r.result
    c.link-link.result c.link-link.ensures c.read_value-v.ensures.0 _ c.in-Code.is) c.block_end-end.ensures refl
    (c.code_block.ensures P g)

pub overflow_add-base : goal.overflow_add-base
overflow_add-base c = let q = c.requires in let n = q.0.tables.ready.few in omega (arith, q.1.number)

pub overflow_add-base-2 : goal.overflow_add-base-2
overflow_add-base-2 c = let q = c.requires in let n = q.0.tables.ready.few in omega (arith, q.1.number)
