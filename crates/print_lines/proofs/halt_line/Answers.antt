use Rattle.std.proofs.Common.{rules, arith, w32, w64}
use Rattle.std.proofs.lemmas.Int.{to_z-of_z}
use mir.Val.{SFits}
use Rattle.print.proofs.Casts.{signed_is}
use Rattle.text.specs.Bytes.{bytes}
use Rattle.print.specs.Lines.{answer_fields, answer_line}
use Rattle.print_lines.proofs.Laws.{halt_put, four_fields}
use Rattle.print_lines.proofs.halt_line.Goals as goal

pub returns : goal.returns
unfolding bytes answer_line answer_fields
returns c =
    let e : SFits w32 c.cast_signed.result = search rules in
    let f : SFits w64 c.from.result = search rules in
    let h = simp to_z-of_z at c.from.ensures in
    let n = rw (h, c.cast_signed.ensures, signed_is c.args.number) at (simp to_z-of_z at c.put_signed-n.ensures) in
    four_fields _ _ (bytes "halted") _ _ _ (halt_put c.put-i.ensures c.put_decimal-j.ensures c.put-k.ensures c.put_kind-l.ensures
    c.put-m.ensures n c.put.ensures (omega arith))
