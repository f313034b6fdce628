use mathlib.Core.Path.{sym, ◌∙◌}
use native.Mathlib.Omega.{arith}
use borrow.Author.Tests.{not-false}
use Rattle.load.proofs.Laws as load
use Rattle.image.proofs.Enough.{enough_is}
use Rattle.exec_call.proofs.Laws.{plan_large}
use Rattle.exec_call.proofs.lent.call.Goals as goal

pub call_in-requires : goal.call_in-requires
call_in-requires c =
    let k = enough_is _ _ _ (sym c.is_enough.ensures ∙ not-false c.is_enough.result (search)) in
    plan_large _ _ (omega (arith, k.0)) k.2

pub unwrap-requires : goal.unwrap-requires
unwrap-requires c =
    let k = enough_is _ _ _ (sym c.is_enough.ensures ∙ not-false c.is_enough.result (search)) in
    let a = c.args in
    c.call_in.ensures.fits (load.enough a.image.now a.numbers.now (omega (arith, k.0)) k.1)
