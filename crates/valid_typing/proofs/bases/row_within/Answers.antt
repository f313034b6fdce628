use Rattle.valid_typing.proofs.Forms.{link_fits}
use Rattle.valid_typing.proofs.bases.Bases.{within}
use Rattle.valid_typing.proofs.bases.row_within.Goals as goal

pub row_of-requires : goal.row_of-requires
row_of-requires c = (search, link_fits _ _ _ c.link.ensures)

pub returns : goal.returns
returns c =
    (λ rows parts r. within rows parts _ _ _ _ (search) (c.row_of.ensures.0 rows parts r), c.row_of.ensures.1)
