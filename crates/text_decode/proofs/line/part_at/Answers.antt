use Rattle.std.proofs.Common.{refl, sym, ◌∙◌, arith}
use Rattle.text_decode.specs.line.Fields.{part_number}
use Rattle.text_decode.proofs.line.StopLaws.{scan_to, read_to, part_plain, part_known, known_bad, known_small, known_is}
use Rattle.text_decode.proofs.line.part_at.Goals as goal

pub returns-then-not-known : goal.returns-then-not-known
returns-then-not-known c =
    scan_to _ _ _ _ c.number_at.ensures (part_number c.args.known _) (part_plain _ _ c.requires c.args.known c.if-not-known.true)

pub returns-then-rest-at-eq45 : goal.returns-then-rest-at-eq45
returns-then-rest-at-eq45 c =
    scan_to _ _ _ _ c.dash_at.ensures (part_number c.args.known _) (part_known _ _ c.requires c.args.known _ c.if-not-known.false refl)

pub returns-in_err-x : goal.returns-in_err-x
returns-in_err-x c =
    rw c.from_residual.ensures (sym (part_known _ _ c.requires c.args.known _ c.if-not-known.false refl) ∙ known_bad _ _ c.requires c.if-rest-at-eq45.false c.in_err-x.ensures)

pub overflow_add-result : goal.overflow_add-result
overflow_add-result c =
    let h = known_small _ _ c.requires c.if-rest-at-eq45.false _ c.in_ok-x.ensures in
    omega arith

pub returns : goal.returns
returns c =
    let g = known_is _ _ c.requires c.if-rest-at-eq45.false _ c.in_ok-x.ensures in
    read_to _ _ _ _ g (part_number c.args.known _) (part_known _ _ c.requires c.args.known _ c.if-not-known.false refl)
