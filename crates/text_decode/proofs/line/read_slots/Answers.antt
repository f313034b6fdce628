use Rattle.text_decode.proofs.line.FieldLaws.{slots_bad, slots_none, slots_some, slots_end}
use Rattle.text_decode.proofs.line.read_slots.Goals as goal

pub returns-in_err-a : goal.returns-in_err-a
returns-in_err-a c = rw c.from_residual.ensures (slots_bad _ _ _ c.in_err-a.ensures)

pub returns-in_err-b : goal.returns-in_err-b
returns-in_err-b c =
    rw c.from_residual-in_err-b.ensures (slots_none _ _ _ _ _ c.in_ok-a.ensures.says (slots_bad _ _ _ c.in_err-b.ensures))

pub returns-in_err-c : goal.returns-in_err-c
returns-in_err-c c =
    rw c.from_residual-in_err-c.ensures (slots_none _ _ _ _ _ c.in_ok-a.ensures.says (slots_none _ _ _ _ _ c.in_ok-b.ensures.says (slots_bad _ _ _ c.in_err-c.ensures)))

pub returns-in_err-d : goal.returns-in_err-d
returns-in_err-d c =
    rw c.from_residual-in_err-d.ensures (slots_none _ _ _ _ _ c.in_ok-a.ensures.says (slots_none _ _ _ _ _ c.in_ok-b.ensures.says (slots_none _ _ _ _ _ c.in_ok-c.ensures.says (slots_bad _ _ _ c.in_err-d.ensures))))

pub returns : goal.returns
returns c = record {
  says =
      slots_some _ _ _ _ _ c.in_ok-a.ensures.says _ _ (slots_some _ _ _ _ _ c.in_ok-b.ensures.says _ _ (slots_some _ _ _ _ _ c.in_ok-c.ensures.says _ _ (slots_some _ _ _ _ _ c.in_ok-d.ensures.says _ _ (slots_end _))));
  stop = c.in_ok-d.ensures.stop;
}
