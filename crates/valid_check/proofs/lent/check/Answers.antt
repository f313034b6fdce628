use mathlib.Core.Path.{◌≡◌, refl, sym, ◌∙◌}
use mathlib.Core.Bool.{true, true≢false}
use native.Mathlib.Omega.{arith}
use lib.ListN.{length}
use borrow.Author.Tests.{not-true, not-false}
use Rattle.image.specs.Enough.{enough_to_check}
use Rattle.image.proofs.Enough.{to_check_is}
use Rattle.valid_check.proofs.Laws.{lent_short, lent_long}
use Rattle.valid_check.proofs.lent.check.Goals as goal

pub returns-then-not-is_enough_to_check : goal.returns-then-not-is_enough_to_check
returns-then-not-is_enough_to_check c =
    (rw c.number.ensures (lent_short _ _ (sym c.is_enough_to_check.ensures ∙ not-true c.is_enough_to_check.result (search))), λ w. refl)

pub check_in-requires : goal.check_in-requires
check_in-requires c =
    let k = to_check_is _ _ _ _ (sym c.is_enough_to_check.ensures ∙ not-false c.is_enough_to_check.result (search)) in
    (k.3, omega (arith, k.2))

pub unwrap-requires : goal.unwrap-requires
unwrap-requires c =
    let k = to_check_is _ _ _ _ (sym c.is_enough_to_check.ensures ∙ not-false c.is_enough_to_check.result (search)) in
    c.check_in.ensures.fits (k.0, k.1)

pub returns : goal.returns
returns c =
    let long : enough_to_check (length c.args.image.now) (length c.args.numbers.now) (length c.args.plan.now) (length c.args.work.now) ≡ true = sym c.is_enough_to_check.ensures ∙ not-false c.is_enough_to_check.result (search) in
    (lent_long _ _ _ long (rw c.unwrap.ensures at c.check_in.ensures.answers), λ w. absurd (true≢false (sym long ∙ w)))
