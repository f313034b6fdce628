use Rattle.types_pass_two.proofs.row_refs.References.{part_component, part_gap, part_register, part_argument}
use Rattle.types_pass_two.proofs.row_refs.part_fault.Goals as goal

pub returns-in-Component : goal.returns-in-Component
returns-in-Component c = part_component _ _ _ _ (search) (search)

pub returns-else-x-eq0 : goal.returns-else-x-eq0
returns-else-x-eq0 c = part_register _ _ _ _ (search) (search) (search)

pub returns-in-Argument : goal.returns-in-Argument
returns-in-Argument c = part_argument _ _ _ _ (search) (search)

pub returns-then-x-eq0 : goal.returns-then-x-eq0
returns-then-x-eq0 c = part_gap _ _ _ _ (search) (search)
