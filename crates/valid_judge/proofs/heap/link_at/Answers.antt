use native.Mathlib.Omega.{arith}
use mathlib.Core.Path.{◌∙◌}
use Rattle.valid_typing.specs.Typing.{held_in}
use Rattle.valid_judge.proofs.heap.Laws.{past_link}
use Rattle.valid_judge.proofs.heap.link_at.Goals as goal

pub returns-then-u-n : goal.returns-then-u-n
returns-then-u-n c =
    let e = c.register-u.ensures in
    (λ rows parts E r. e.0 (held_in rows parts _ E), omega arith, e.2, e.3)

pub returns-else-u-n : goal.returns-else-u-n
returns-else-u-n c =
    let e = c.register-u.ensures in
    (λ rows parts E r. e.0 (held_in rows parts _ E) ∙ past_link rows parts _ _ _ E r (omega arith), omega arith, e.2, e.3)
