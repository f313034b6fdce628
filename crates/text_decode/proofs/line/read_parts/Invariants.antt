use Prim.Native.Nat.{◌+◌, ◌-◌}
use lib.ListN.{length}
use Rattle.text_lines.specs.Parts.{line_in, StopAt}
use Rattle.text_decode.proofs.line.PartLaws.{PartsGo}
use Rattle.text_decode.proofs.line.read_parts.Given as goal

abbrev pub invariant-loop-i : goal.invariant-loop-i
invariant-loop-i l =
    PartsGo (line_in l.rest) (l.at + 1) l.known l.most l.initial.parts l.p l.parts (l.i + 1) l.n × StopAt l.rest l.i

abbrev pub decreases-loop-i : goal.decreases-loop-i
decreases-loop-i l = length l.rest - l.i
