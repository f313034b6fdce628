use Rattle.std.proofs.Common.{◌≡◌, map, reverse, length, take}
use lib.Seq.{sets}
use Rattle.text_fields.specs.names.Pieces.{letter_code}
use Rattle.text_fields.proofs.names.put_letters.Given as goal

abbrev pub invariant-loop-i : goal.invariant-loop-i
invariant-loop-i l =
    (length l.out ≡ length l.initial.out) × (sets l.out l.to (map letter_code (reverse (take l.i l.f))) ≡ sets l.initial.out l.at (map letter_code (reverse l.f)))
