use native.Mathlib.Omega.{arith}
use Prim.Native.Nat.{ℕ}
use mathlib.Core.Path.{refl, ◌∙◌, ap}
use Rattle.types_rows.specs.Read.{mean_v, lower}
use Rattle.types_rows.proofs.Environments.{read_now}
use Rattle.valid_typing.proofs.operands.Filling.{not_yes, not_no}
use Rattle.valid_typing.proofs.components.Lists.{rest_first, rest_next, rest_fails, rest_done}
use Rattle.valid_typing.proofs.components.same_parts.Goals as goal

pub loop-i-init : goal.loop-i-init
loop-i-init c = (rest_first _ _ _ _ _ _ _, refl)

pub same_rows-requires : goal.same_rows-requires
same_rows-requires c =
    let f = c.requires.0.few in
    (record { ready = c.requires.0.ready; few = f; room = omega (arith, c.requires.0.room, c.loop-i.invariant.1) }, omega arith, c.cell-in-loop-i.ensures.1)

pub returns-then-not-same_rows : goal.returns-then-not-same_rows
returns-then-not-same_rows c =
    let a = c.args in
    rest_fails _ _ _ _ _ _ _ _ _ _ _ c.loop-i-test.true (search) c.cell.ensures.0 c.cell-in-loop-i.ensures.0
    (read_now _ _ ∙ c.row_of.ensures.0 _ _ c.requires.0.ready ∙ ap (mean_v _) (c.link.ensures ∙ ap (λ (y : ℕ). lower a.h y) c.at.ensures.0))
    c.same_rows.ensures (not_yes (search))

pub loop-i-preserved : goal.loop-i-preserved
loop-i-preserved c =
    let a = c.args in
    let l = c.loop-i in (
      rest_next _ _ _ _ _ _ _ _ _ _ _ c.loop-i-test.true (search) c.cell.ensures.0 c.cell-in-loop-i.ensures.0
          (read_now _ _ ∙ c.row_of.ensures.0 _ _ c.requires.0.ready
          ∙ ap (mean_v _) (c.link.ensures ∙ ap (λ (y : ℕ). lower a.h y) c.at.ensures.0)) c.same_rows.ensures
          (not_no (search)),
      c.same_rows.auto.pending ∙ l.invariant.1,
    )

pub returns : goal.returns
returns c = rest_done _ _ _ _ _ _ _ _ c.loop-i-test.false (search)
