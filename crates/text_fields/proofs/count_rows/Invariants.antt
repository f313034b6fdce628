use Rattle.std.proofs.Common.{◌≡◌, ◌≤◌, length, drop}
use Rattle.text.specs.Bytes.{split}
use Rattle.text_fields.specs.Pieces.{row_count}
use Rattle.text_fields.proofs.count_rows.Given as goal

abbrev pub invariant-loop-n : goal.invariant-loop-n
invariant-loop-n l =
    (l.i ≤ length l.s) × (row_count l.n (split 58 (drop l.i l.s)) ≡ row_count 0 (split 58 l.s))
