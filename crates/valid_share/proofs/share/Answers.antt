use Rattle.image.specs.Sections.{part}
use Rattle.valid_share.proofs.rename.Laws.{both}
use Rattle.valid_share.proofs.Renaming.{shared, lower_rows}
use Rattle.valid_share.proofs.share.Goals as goal

pub find_first-requires : goal.find_first-requires
unfolding part
find_first-requires c = (search, search, lower_rows _ _ (search), search)

pub returns : goal.returns
unfolding part
returns c =
    let t = both _ _ _ c.requires.ordered.0 c.fill_rows.ensures.0 (search) c.fill_parts.ensures.0 (search) in
    (shared _ _ _ _ _ _ t.0 t.1 (search) (search) c.find_first.ensures (search) (search) (search), t.2)
