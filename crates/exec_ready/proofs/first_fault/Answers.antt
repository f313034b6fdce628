use mathlib.Core.Path.{◌≡◌}
use Rattle.image.specs.Sections.{part, row_section, block_section, part_section}
use Rattle.faults.specs.Numbers.{fault_number}
use Rattle.exec_ready.proofs.Laws.{no_block, some_block_fault}
use Rattle.exec_ready.proofs.first_fault.Goals as goal

pub returns-then-nb-eq0 : goal.returns-then-nb-eq0
returns-then-nb-eq0 c = λ xs. no_block _ c.args.nb (search)

pub block_fault-requires : goal.block_fault-requires
unfolding part
block_fault-requires c = (c.requires.1, c.at-c.ensures.1, c.requires.2, c.requires.3)

pub returns : goal.returns
unfolding part
returns c =
    let some_of : c.args.nb ≡ 0 → ⊥ = search in
    let a = c.args in
    λ xs. some_block_fault (row_section a.p a.image.now) (part_section a.p a.image.now) a.n c.at-c.result (block_section a.p a.image.now) (fault_number c.block_fault.result) a.nb xs some_of c.at-c.ensures.0 (c.block_fault.ensures xs)
