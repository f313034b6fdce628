use native.Mathlib.Omega.{arith}
use mathlib.Core.Path.{refl, sym, ◌∙◌}
use borrow.Author.Tests.{not-true, not-false}
use Rattle.types_rows.specs.Read.{tab}
use Rattle.types_rows.proofs.Environments.{read_items}
use Rattle.valid_typing.proofs.Stacks.{item_now, counted_link, count_is, now_low, same_first, same_next, same_fails, same_count, same_done}
use Rattle.valid_typing.proofs.same_each.Goals as goal

pub returns-then-item_count-m : goal.returns-then-item_count-m
returns-then-item_count-m c =
    let a = c.args in
    same_count _ _ _ _ a.x.env _ _ a.x.row _
    (c.item_count.ensures.0 ∙ count_is _ _ _ _ c.requires.0.ready c.requires.1 ∙ sym (read_items _ _ _)) (search)

pub loop-i-init : goal.loop-i-init
loop-i-init c =
    let a = c.args in
    (same_first _ _ _ _ a.x.env _ _ a.x.row _, refl)

pub same_item-requires : goal.same_item-requires
same_item-requires c =
    let a = c.args in
    let e = item_now (tab _ _) _ a.x.env a.x.row c.loop-i.i c.item_in-it.result c.item_in-it.ensures in (
      record { ready = c.requires.0.ready; few = c.requires.0.few; room = omega (arith, c.requires.0.room, c.loop-i.invariant.1) },
      now_low _ _ _ _ c.requires.0.ready c.requires.1 _ _ _ c.loop-i.i c.item_in-it.result e,
      search,
      record { entry = c.cell-y.ensures.1; env = c.cell-f.ensures.1 },
    )

pub returns-then-not-same_item : goal.returns-then-not-same_item
returns-then-not-same_item c =
    let a = c.args in
    let e = item_now (tab _ _) _ a.x.env a.x.row c.loop-i.i c.item_in-it.result c.item_in-it.ensures in
    same_fails _ _ _ _ _ _ _ a.x.row _ _ _ _ _ c.loop-i-test.true e c.cell-y.ensures.0 c.cell-f.ensures.0 (search)
    c.same_item.ensures (not-true _ (search))

pub loop-i-preserved : goal.loop-i-preserved
loop-i-preserved c =
    let a = c.args in
    let e = item_now (tab _ _) _ a.x.env a.x.row c.loop-i.i c.item_in-it.result c.item_in-it.ensures in (
      same_next _ _ _ _ _ _ _ a.x.row _ _ _ _ _ c.loop-i-test.true e c.cell-y.ensures.0 c.cell-f.ensures.0 (search)
          c.same_item.ensures (not-false _ (search)),
      c.same_item.auto.pending ∙ c.loop-i.invariant.1,
    )

pub returns : goal.returns
returns c =
    let a = c.args in
    same_done _ _ _ _ a.x.env _ _ a.x.row _ _
    (c.item_count.ensures.0 ∙ count_is _ _ _ _ c.requires.0.ready c.requires.1 ∙ sym (read_items _ _ _)) (search) c.loop-i.auto.i-end (search)
    (search)

pub item_in-it-requires : goal.item_in-it-requires
item_in-it-requires c =
    let f = c.requires.0.ready.few in
    let g = c.requires.0.few in
    (search, omega arith, omega (arith, c.requires.1), counted_link _ _ _ _ c.requires.0.ready c.requires.1)
