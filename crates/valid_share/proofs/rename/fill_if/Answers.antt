use Rattle.image.specs.Sections.{part}
use Rattle.image.proofs.Laws.{nothing}
use Rattle.valid_share.proofs.rename.Laws.{no_parts, some_parts}
use Rattle.valid_share.proofs.rename.fill_if.Goals as goal

pub returns-then-has_parts : goal.returns-then-has_parts
unfolding part
returns-then-has_parts c =
    let a = c.args in
    (some_parts _ _ _ _ _ _ _ c.cell-k.ensures.0 c.cell-a.ensures.0 c.cell-b.ensures.0 _ _ a.image.now c.fill_row.new.image c.fill_row.ensures.0, search)

pub returns-else-has_parts : goal.returns-else-has_parts
unfolding part
returns-else-has_parts c =
    (no_parts _ _ _ _ _ c.args.image.now c.cell-k.ensures.0 c.has_parts.ensures (search), nothing _ _ _)
