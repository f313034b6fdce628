use native.Mathlib.Omega.{arith}
use Rattle.valid_context.specs.Told.{answer}
use Rattle.valid_typing.specs.Typing.{held_in}
use Rattle.valid_judge.proofs.stack.Laws.{full, grown, junk_type}
use Rattle.valid_judge.proofs.stack.allocate.Goals as goal

pub returns-then-depth-k : goal.returns-then-depth-k
unfolding answer
returns-then-depth-k c =
    (λ rows parts E regs Δ r P e. full P Δ (held_in rows parts _ E) regs _ _ _ 0 c.args.sp.now (search) (search), tt, λ b k. tt)

pub returns : goal.returns
unfolding answer
returns c =
    (λ rows parts E regs Δ r P e. grown P Δ (held_in rows parts _ E) regs _ _ _ _ (search) (search) (c.push_junks.ensures.0 (held_in rows parts _ E) (junk_type rows parts E _ r)), omega arith, c.push_junks.ensures.1)
