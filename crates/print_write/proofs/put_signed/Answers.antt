use Rattle.std.proofs.Common.{◌∙◌, ◌≤◌, length, ap, arith, w64}
use Rattle.std.proofs.lemmas.Int.{to_z-of_z}
use Rattle.std.specs.Fmt as std
use Rattle.print_write.proofs.Laws.{same_signed, text_put}
use Rattle.print_write.proofs.put_signed.Goals as goal

pub returns : goal.returns
returns c =
    let a : length c.as_bytes.result.now ≤ 20 = rw c.as_bytes.ensures.value c.format.ensures.fits in
    let e = ap std.signed_decimal (to_z-of_z w64 c.args.n c.ranges.n) in
    text_put 21 (c.as_bytes.ensures.value ∙ c.format.ensures.text ∙ e ∙ same_signed c.args.n c.ranges.n.sfits) (omega arith) c.put.ensures
