use Rattle.std.proofs.Common.{◌≡◌, ◌+◌, length, drop}
use Rattle.text_lines.specs.Parts.{first_part}
use Rattle.text_lines.proofs.part_end.Given as goal

abbrev pub invariant-loop-i : goal.invariant-loop-i
invariant-loop-i l =
    l.i + length (first_part l.c (drop l.i l.s)) ≡ l.at + length (first_part l.c (drop l.at l.s))
