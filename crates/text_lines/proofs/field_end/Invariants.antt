use Rattle.std.proofs.Common.{◌≡◌, ◌+◌, length}
use Rattle.text_lines.specs.Parts.{field_in, InLine}
use Rattle.text_lines.proofs.field_end.Given as goal

abbrev pub invariant-loop-i : goal.invariant-loop-i
invariant-loop-i l = InLine l.s l.i × (l.i + length (field_in l.s l.i) ≡ l.at + length (field_in l.s l.at))
