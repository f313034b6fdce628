use Rattle.valid_context.specs.Told.{answer}
use Rattle.types.specs.Types.{junk}
use native.Mathlib.Omega.{arith}
use Rattle.valid_typing.proofs.Forms.{link_fits, form_hidden, not_hidden, hidden_low}
use Rattle.valid_typing.proofs.Founds.{inside_none, inside_some}
use Rattle.valid_typing.proofs.hidden_inside.Goals as goal

pub returns-in_default : goal.returns-in_default
unfolding answer
returns-in_default c =
    let n = not_hidden _ _ _ _ _ c.link-h.ensures c.read_value.ensures.0 in
    let h = inside_none _ _ _ _ (λ E e. n E e c.in_default.not-Hidden) in
    (h.0 junk, λ E e k q. h.1 E e junk, tt)

pub row_of-requires : goal.row_of-requires
row_of-requires c =
    let h = link_fits c.args.n c.args.t c.link-h.result c.link-h.ensures in
    let l = hidden_low c.link-h.result c.in-Hidden.is c.read_value.ensures.1 in
    (c.requires.0.few, omega arith)

pub returns : goal.returns
unfolding answer
returns c =
    let h = inside_some _ _ _ _ _ _ (form_hidden _ _ _ _ _ c.link-h.ensures c.read_value.ensures.0 c.in-Hidden.is) (c.row_of.ensures.0 _ _ c.requires.0) in
    (h.0, h.1, c.row_of.ensures.1)
