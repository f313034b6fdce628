use mathlib.Core.Path.{sym}
use Rattle.types_rows.specs.Read.{tab, args_of}
use Rattle.types_rows.specs.Environments.{shifted}
use Rattle.types_equal.specs.declared.pending.Side.TheVariants.{Left, Right}
use Rattle.types_equal.specs.pending.Pending.{list_of}
use Rattle.types_equal.proofs.stack_pairs.Stacks.{misfit, duo_by}
use Rattle.types_equal.proofs.stack_pairs.next_pair.Goals as goal

pub returns-in_err-a : goal.returns-in_err-a
returns-in_err-a c =
    let e = rw c.left.ensures at (c.in_err-a.ensures {u = tt}).0 in
    λ ps. rw c.from_residual.ensures (misfit (tab c.args.rows.now ps) (args_of (tab c.args.rows.now ps) c.args.args.now c.args.k.m) (shifted c.args.envs.now c.args.k.env c.args.k.by) c.args.k.d
    (shifted c.args.envs.now c.args.k.env2 0) c.args.k.d2 (list_of Left c.args.pending.now) c.args.i (list_of Right c.args.pending.now) c.args.j (e ps).0)

pub returns : goal.returns
returns c =
    let e = rw c.left.ensures at c.next_item.ensures.0 in
    let f = rw c.right.ensures at c.next_item-2.ensures.0 in
    λ ps. duo_by (tab c.args.rows.now ps) c.args.args.now c.args.k.m (shifted c.args.envs.now c.args.k.env c.args.k.by) c.args.k.d
    (shifted c.args.envs.now c.args.k.env2 0) c.args.k.d2 (list_of Left c.args.pending.now) c.args.i (list_of Right c.args.pending.now) c.args.j
    (list_of Left c.next_item-2.new.pending) (list_of Right c.next_item-2.new.pending) _ c.requires.3.right
    c.in_ok-a.a c.in_ok-b.b c.two_items.result (rw c.next_item-2.ensures.1 (e ps))
    (rw (sym c.next_item.ensures.1) (f ps)) c.in_ok-a.was c.in_ok-b.was c.two_items.ensures
