use Prim.Native.Nat.{◌*◌, ◌≤◌}
use native.Mathlib.Omega.{arith}
use mathlib.Core.Path.{refl, sym, ◌∙◌}
use lib.ListN.{length, length-set}
use Rattle.types_rows.specs.Read.{tab, mean_s}
use Rattle.valid_typing.proofs.Stacks.{item_read, item_asks, item_low, item_small, count_is, written_none, written_next, written_all, envs_none, envs_on, envs_all}
use Rattle.valid_typing.proofs.flatten.Goals as goal

pub loop-i-init : goal.loop-i-init
loop-i-init c = (refl, written_none _ _ _ _ c.args.x.row _ _ _, envs_none _ _ c.args.sp.now)

pub item_at-it-requires : goal.item_at-it-requires
item_at-it-requires c = item_asks _ _ _ _ c.requires.0 c.requires.1.row

pub entry_of-requires : goal.entry_of-requires
entry_of-requires c =
    let e = item_read (tab _ _) c.args.x.row c.loop-i.i c.item_at-it.result c.item_at-it.ensures in
    (search, item_low _ _ _ _ c.requires.0 c.requires.1.row _ c.loop-i.i c.item_at-it.result e, item_small (tab _ _) c.args.x.row (mean_s _ _) c.loop-i.i c.item_at-it.result c.requires.1.vars e)

pub put-requires : goal.put-requires
put-requires c =
    let k = c.item_count-m.ensures.0 ∙ count_is _ _ _ _ c.requires.0 c.requires.1.row in
    let r = c.requires.1.room in
    (omega arith, omega arith)

pub loop-i-preserved : goal.loop-i-preserved
loop-i-preserved c =
    let e = item_read (tab _ _) c.args.x.row c.loop-i.i c.item_at-it.result c.item_at-it.ensures in
    let k = c.item_count-m.ensures.0 ∙ count_is _ _ _ _ c.requires.0 c.requires.1.row in
    let r = c.requires.1.room in
    let h : 2 * c.item_count-m.result ≤ length c.loop-i.sp = omega arith in
    let q = c.put.ensures in (
      rw q (simp length-set (search)),
      rw q (written_next _ _ _ _ c.args.x.row _ _ _ _ _ c.item_at-it.result c.loop-i-test.true h (sym k) (search) e c.entry_of.ensures c.loop-i.invariant.1),
      rw q (envs_on _ _ c.loop-i.sp c.loop-i.i c.entry_of.result c.loop-i-test.true h c.loop-i.invariant.2),
    )

pub returns : goal.returns
returns c =
    let k = c.item_count-m.ensures.0 ∙ count_is _ _ _ _ c.requires.0 c.requires.1.row in
    (written_all _ _ _ _ c.args.x.row _ _ _ _ c.loop-i.auto.i-end (search) (sym k) (search), rw (← k) (envs_all _ _ _ _ (search) c.loop-i.invariant.2))
