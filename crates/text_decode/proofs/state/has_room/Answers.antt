use Rattle.std.proofs.Common.{arith, sym, ◌∙◌}
use mathlib.Core.Bool.{true≢false}
use Rattle.std.proofs.lemmas.Bool.Decides.{nat_tests}
use Rattle.text_decode.proofs.state.Room.{by_plenty, holds, by_blocks}
use Rattle.text_decode.proofs.state.has_room.Goals as goal

pub returns-then-plenty : goal.returns-then-plenty
returns-then-plenty c = let a = c.args in rw c.if-plenty.true (by_plenty a.p a.numbers a.u (c.requires.2 c.if-plenty.true) c.requires.1)

pub returns-then-u-p-5 : goal.returns-then-u-p-5
returns-then-u-p-5 c =
    let a = c.args in
    by_blocks a.p a.numbers a.u (grind (arith, nat_tests)) (grind (arith, nat_tests)) (grind (arith, nat_tests)) (grind (arith, nat_tests)) (grind (arith, nat_tests)) (grind (arith, nat_tests)) c.requires.1.args

pub returns-else-u-p-5 : goal.returns-else-u-p-5
returns-else-u-p-5 c =
    λ l ns o e. (λ w. absurd (true≢false (sym w ∙ c.if-u-p-5.false)), λ r. let a = c.args in let h = holds a.p a.numbers a.u l ns o e r in grind (arith, nat_tests))
