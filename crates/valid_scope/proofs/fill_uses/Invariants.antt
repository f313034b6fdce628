use Rattle.types_rows.specs.Read.{tab}
use Rattle.image.specs.Sections.{row_section, part_section}
use Rattle.valid_scope.proofs.Sections.{Filling}
use Rattle.valid_scope.proofs.fill_uses.Given as goal

abbrev pub invariant-loop-k : goal.invariant-loop-k
invariant-loop-k l =
    Filling (tab (row_section l.p l.initial.image) (part_section l.p l.initial.image)) l.r l.limit l.p.uses l.p.tops l.initial.image l.image l.top l.k
