use Rattle.std.proofs.Common.{◌≡◌, ◌≤◌, length, drop}
use Rattle.text.specs.Bytes.{lines_of}
use Rattle.text_lines.proofs.line_start.Given as goal

abbrev pub invariant-loop : goal.invariant-loop
invariant-loop l =
    (l.at ≤ length l.text) × (lines_of (drop l.at l.text) ≡ drop l.counter (lines_of l.text))
