use Rattle.std.proofs.Common.{◌∙◌, arith}
use Rattle.image.proofs.Laws.{nothing}
use Rattle.text_decode.proofs.line.FieldLaws.{form_slots, form_most}
use Rattle.text_decode.proofs.line.LineLaws.{most_few, plain_no_slots, plain_no_operands, plain_too_few, plain_is}
use Rattle.text_decode.proofs.line.read_plain.Goals as goal

pub returns-in_err-x : goal.returns-in_err-x
returns-in_err-x c =
    rw c.from_residual.ensures (plain_no_slots _ _ _ _ _ c.requires.1 _ (c.in_err-x.ensures ∙ form_slots _ _ _ c.form_at-f.ensures), tt, nothing _ _ _)

pub read_operands-requires : goal.read_operands-requires
read_operands-requires c =
    let m = most_few c.args.code in
    let w = form_most c.args.code c.form_at-f.result c.form_at-f.ensures in
    let r = c.requires.2 in
    (c.requires.0, record { kinds = omega (arith, r.kinds); bases = omega (arith, r.bases); rows = omega (arith, r.rows); small = omega (arith, r.small) }, omega arith, c.in_ok-x.ensures.stop)

pub returns-in_err-n : goal.returns-in_err-n
returns-in_err-n c =
    let e = c.in_err-n.ensures in
    let xs = c.in_ok-x.ensures.says ∙ form_slots _ _ _ c.form_at-f.ensures in
    rw c.from_residual-in_err-n.ensures (plain_no_operands _ _ _ _ _ c.requires.1 _ _ xs _ (form_most _ _ c.form_at-f.ensures) _ e.0, tt, e.2)

pub returns-then-n-fewest : goal.returns-then-n-fewest
returns-then-n-fewest c =
    let e = c.in_ok-n.ensures in
    let xs = c.in_ok-x.ensures.says ∙ form_slots _ _ _ c.form_at-f.ensures in
    (plain_too_few _ _ _ _ _ c.requires.1 _ _ xs _ (form_most _ _ c.form_at-f.ensures) _ _ e.0 _ c.fewest.ensures c.if-n-fewest.true, tt, e.2)

pub returns : goal.returns
returns c =
    let e = c.in_ok-n.ensures in
    let xs = c.in_ok-x.ensures.says ∙ form_slots _ _ _ c.form_at-f.ensures in
    (plain_is _ _ _ _ _ c.requires.1 _ _ xs _ (form_most _ _ c.form_at-f.ensures) _ _ e.0 _ c.fewest.ensures c.if-n-fewest.false, e.1, e.2)
