use native.Mathlib.Omega.{arith}
use mathlib.Core.Path.{◌≡◌, refl}
use Rattle.types_rows.specs.Read.{tab}
use Rattle.valid_typing.proofs.Stacks.{item_read, item_asks, item_low, item_first, item_next, item_ends, item_last, link_read}
use Rattle.valid_typing.proofs.row_item.Goals as goal

pub loop-j-init : goal.loop-j-init
loop-j-init c = item_first c.args.rows.now c.args.parts.now c.args.n c.args.x _ _

pub item_at-requires : goal.item_at-requires
item_at-requires c = item_asks _ _ _ _ c.requires.0 (search)

pub link_of-requires : goal.link_of-requires
link_of-requires c =
    let e = item_read (tab _ _) c.args.x c.loop-j.j c.item_at.result c.item_at.ensures in
    (search, item_low _ _ _ _ c.requires.0 c.requires.1 _ c.loop-j.j c.item_at.result e)

pub returns-then-link_of-eq0 : goal.returns-then-link_of-eq0
returns-then-link_of-eq0 c =
    let e = item_read (tab _ _) c.args.x c.loop-j.j c.item_at.result c.item_at.ensures in
    (link_read _ _ _ _ _ _ (item_ends _ _ _ c.args.x _ _ _ c.item_at.result _ e c.link_of.ensures.0 c.loop-j.invariant c.if-link_of-eq0.true), omega arith)

pub loop-j-preserved : goal.loop-j-preserved
loop-j-preserved c =
    let e = item_read (tab _ _) c.args.x c.loop-j.j c.item_at.result c.item_at.ensures in
    item_next c.args.rows.now c.args.parts.now c.args.n c.args.x _ _ _ c.item_at.result _ e c.link_of.ensures.0 (search) c.if-link_of-eq0.false (search)

pub item_at-requires-2 : goal.item_at-requires-2
item_at-requires-2 c = item_asks _ _ _ _ c.requires.0 (search)

pub link_of-requires-2 : goal.link_of-requires-2
link_of-requires-2 c =
    let e = item_read (tab _ _) c.args.x c.args.i c.item_at-2.result c.item_at-2.ensures in
    (search, item_low _ _ _ _ c.requires.0 c.requires.1 _ c.args.i c.item_at-2.result e)

pub returns : goal.returns
returns c =
    let e = item_read (tab _ _) c.args.x c.args.i c.item_at-2.result c.item_at-2.ensures in
    let q : c.loop-j.j ≡ c.args.i = omega arith in
    (link_read _ _ _ _ _ _ (item_last _ _ _ c.args.x _ _ _ c.item_at-2.result _ e c.link_of-2.ensures.0 (rw q at c.loop-j.invariant) (search) refl), search)
