use Rattle.std.proofs.Common.{◌∙◌}
use Rattle.print_write.proofs.Laws.{same_decimal, text_put}
use Rattle.print_write.proofs.put_decimal.Goals as goal

pub returns : goal.returns
returns c =
    text_put 20 (c.as_bytes.ensures.value ∙ c.format.ensures.text ∙ same_decimal _ c.ranges.n.fits) (rw c.as_bytes.ensures.value c.format.ensures.fits) c.put.ensures
