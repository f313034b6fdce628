use Rattle.std.proofs.Common.{◌≡◌, ◌≤◌, length, drop}
use lib.Seq.{sets}
use Rattle.text.specs.Bytes.{split}
use Rattle.text_fields.specs.Pieces.{rows_in}
use Rattle.text_fields.proofs.put_rows.Given as goal

abbrev pub invariant-loop-to : goal.invariant-loop-to
invariant-loop-to l =
    (l.i ≤ length l.s) × (length l.out ≡ length l.initial.out) × (sets l.out l.to (rows_in (split 58 (drop l.i l.s))) ≡ sets l.initial.out l.at (rows_in (split 58 l.s)))
