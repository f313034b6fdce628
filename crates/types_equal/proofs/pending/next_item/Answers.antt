use native.Mathlib.Omega.{arith}
use mathlib.Core.List.{[]}
use mathlib.Core.Path.{refl, ap, ◌∙◌}
use Rattle.types_rows.specs.Read.{tab, args_of}
use Rattle.types_equal.specs.declared.pending.Form.TheVariants.{Skip, One, Two, Top, Var}
use Rattle.std.specs.Prelude.{Some, None}
use Rattle.types_equal.proofs.pending.Entries.{form_at_lem}
use Rattle.types_equal.proofs.pending.Lists.{kept_first, means_first, less_skip, kept_skip, less_one, kept_one, less_two, kept_two, means_skip, means_one, means_two, next_row, next_var, next_wrong, next_end, none_left, low_down}
use Rattle.types_equal.proofs.pending.Sides.{Spot, spot}
use Rattle.types_equal.proofs.pending.next_item.Goals as goal

pub loop-n-init : goal.loop-n-init
loop-n-init c = (kept_first _ _ _, (λ ps. means_first (tab _ ps) (args_of (tab _ ps) _ _) _ _ _ _), refl, refl)

pub entry-requires : goal.entry-requires
entry-requires c =
    let p : Spot c.args.side c.args.c.m c.args.pending.now c.args.top c.loop-n.pending c.loop-n.n = spot _ _ _ _ _ _ c.loop-n-test.true c.loop-n.invariant.0 c.requires.1.enough c.requires.1.short c.requires.2 in
    p.within

pub form_of-requires : goal.form_of-requires
form_of-requires c =
    let p : Spot c.args.side c.args.c.m c.args.pending.now c.args.top c.loop-n.pending c.loop-n.n = spot _ _ _ _ _ _ c.loop-n-test.true c.loop-n.invariant.0 c.requires.1.enough c.requires.1.short c.requires.2 in
    let t = c.entry.ensures in
    let q = p.most in
    (omega arith, search, search)

pub loop-n-smaller-in-Skip : goal.loop-n-smaller-in-Skip
loop-n-smaller-in-Skip c =
    let p : Spot c.args.side c.args.c.m c.args.pending.now c.args.top c.loop-n.pending c.loop-n.n = spot _ _ _ _ _ _ c.loop-n-test.true c.loop-n.invariant.0 c.requires.1.enough c.requires.1.short c.requires.2 in
    less_skip _ _ _ _ _ _ p.last p.kept

pub loop-n-preserved-in-Skip : goal.loop-n-preserved-in-Skip
loop-n-preserved-in-Skip c =
    let p : Spot c.args.side c.args.c.m c.args.pending.now c.args.top c.loop-n.pending c.loop-n.n = spot _ _ _ _ _ _ c.loop-n-test.true c.loop-n.invariant.0 c.requires.1.enough c.requires.1.short c.requires.2 in
    (kept_skip _ _ _ _ _ _ p.last p.kept, (λ ps. means_skip (tab _ ps) (args_of (tab _ ps) _ _) _ _ c.args.c.m _ _ _ _ _ p.last (c.loop-n.invariant.1 ps) (form_at_lem (tab _ ps) (args_of (tab _ ps) _ _) _ _ _ _ _ _ (Some Skip) c.entry.ensures (c.form_of.ensures ps) (c.in_ok-form.was ∙ ap Some c.in-Skip.is))), search, search)

pub store-requires : goal.store-requires
store-requires c =
    let p : Spot c.args.side c.args.c.m c.args.pending.now c.args.top c.loop-n.pending c.loop-n.n = spot _ _ _ _ _ _ c.loop-n-test.true c.loop-n.invariant.0 c.requires.1.enough c.requires.1.short c.requires.2 in
    let o = form_at_lem (tab _ []) (args_of (tab _ []) _ _) _ _ _ _ _ _ (Some (One c.in-One.x)) c.entry.ensures (c.form_of.ensures []) (c.in_ok-form.was ∙ ap Some c.in-One.is) in
    let q = p.lower c.in-One.x o.3 in
    (p.within, omega arith)

pub loop-n-smaller-in-One : goal.loop-n-smaller-in-One
loop-n-smaller-in-One c =
    let p : Spot c.args.side c.args.c.m c.args.pending.now c.args.top c.loop-n.pending c.loop-n.n = spot _ _ _ _ _ _ c.loop-n-test.true c.loop-n.invariant.0 c.requires.1.enough c.requires.1.short c.requires.2 in
    let o = form_at_lem (tab _ []) (args_of (tab _ []) _ _) _ _ _ _ _ _ (Some (One c.in-One.x)) c.entry.ensures (c.form_of.ensures []) (c.in_ok-form.was ∙ ap Some c.in-One.is) in
    rw c.store.ensures.0 (less_one _ _ _ _ _ _ p.last p.kept c.in-One.x p.inside o.2 o.3)

pub loop-n-preserved-in-One : goal.loop-n-preserved-in-One
loop-n-preserved-in-One c =
    let p : Spot c.args.side c.args.c.m c.args.pending.now c.args.top c.loop-n.pending c.loop-n.n = spot _ _ _ _ _ _ c.loop-n-test.true c.loop-n.invariant.0 c.requires.1.enough c.requires.1.short c.requires.2 in
    let o = form_at_lem (tab _ []) (args_of (tab _ []) _ _) _ _ _ _ _ _ (Some (One c.in-One.x)) c.entry.ensures (c.form_of.ensures []) (c.in_ok-form.was ∙ ap Some c.in-One.is) in (
      rw c.store.ensures.0 (kept_one _ _ _ _ _ _ p.last p.kept c.in-One.x p.inside o.2 o.3),
      (λ ps. rw c.store.ensures.0 (means_one (tab _ ps) (args_of (tab _ ps) _ _) _ _ _ _ _ _ _ _ p.last (c.loop-n.invariant.1 ps)
          c.in-One.x p.inside (form_at_lem (tab _ ps) (args_of (tab _ ps) _ _) _ _ _ _ _ _ (Some (One c.in-One.x)) c.entry.ensures (c.form_of.ensures ps) (c.in_ok-form.was ∙ ap Some c.in-One.is)))),
      c.store.ensures.1 ∙ c.loop-n.invariant.2,
      c.store.auto.pending ∙ c.loop-n.invariant.3,
    )

pub store-requires-in-Two : goal.store-requires-in-Two
store-requires-in-Two c =
    let p : Spot c.args.side c.args.c.m c.args.pending.now c.args.top c.loop-n.pending c.loop-n.n = spot _ _ _ _ _ _ c.loop-n-test.true c.loop-n.invariant.0 c.requires.1.enough c.requires.1.short c.requires.2 in
    let o = form_at_lem (tab _ []) (args_of (tab _ []) _ _) _ _ _ _ _ _ (Some (Two c.in-Two.x c.in-Two.y)) c.entry.ensures (c.form_of.ensures []) (c.in_ok-form.was ∙ ap Some c.in-Two.is) in
    let q = (p.two c.in-Two.y o.3).2 in
    (p.within, omega arith)

pub store-requires-in-Two-2 : goal.store-requires-in-Two-2
store-requires-in-Two-2 c =
    let p : Spot c.args.side c.args.c.m c.args.pending.now c.args.top c.loop-n.pending c.loop-n.n = spot _ _ _ _ _ _ c.loop-n-test.true c.loop-n.invariant.0 c.requires.1.enough c.requires.1.short c.requires.2 in
    let o = form_at_lem (tab _ []) (args_of (tab _ []) _ _) _ _ _ _ _ _ (Some (Two c.in-Two.x c.in-Two.y)) c.entry.ensures (c.form_of.ensures []) (c.in_ok-form.was ∙ ap Some c.in-Two.is) in
    let q = p.two c.in-Two.x o.2 in
    let q0 = q.0 in
    let q2 = q.2 in
    (omega arith, omega arith)

pub overflow_add-n : goal.overflow_add-n
overflow_add-n c =
    let p : Spot c.args.side c.args.c.m c.args.pending.now c.args.top c.loop-n.pending c.loop-n.n = spot _ _ _ _ _ _ c.loop-n-test.true c.loop-n.invariant.0 c.requires.1.enough c.requires.1.short c.requires.2 in
    let o = form_at_lem (tab _ []) (args_of (tab _ []) _ _) _ _ _ _ _ _ (Some (Two c.in-Two.x c.in-Two.y)) c.entry.ensures (c.form_of.ensures []) (c.in_ok-form.was ∙ ap Some c.in-Two.is) in
    let q = (p.two c.in-Two.x o.2).0 in
    let r = p.short in
    omega arith

pub loop-n-smaller : goal.loop-n-smaller
loop-n-smaller c =
    let p : Spot c.args.side c.args.c.m c.args.pending.now c.args.top c.loop-n.pending c.loop-n.n = spot _ _ _ _ _ _ c.loop-n-test.true c.loop-n.invariant.0 c.requires.1.enough c.requires.1.short c.requires.2 in
    let o = form_at_lem (tab _ []) (args_of (tab _ []) _ _) _ _ _ _ _ _ (Some (Two c.in-Two.x c.in-Two.y)) c.entry.ensures (c.form_of.ensures []) (c.in_ok-form.was ∙ ap Some c.in-Two.is) in
    rw (c.store-in-Two-2.ensures.0, c.store-in-Two.ensures.0) (less_two _ _ _ _ _ _ p.last p.kept c.in-Two.x c.in-Two.y (p.two c.in-Two.x o.2).1 o.2 o.3)

pub loop-n-preserved : goal.loop-n-preserved
loop-n-preserved c =
    let p : Spot c.args.side c.args.c.m c.args.pending.now c.args.top c.loop-n.pending c.loop-n.n = spot _ _ _ _ _ _ c.loop-n-test.true c.loop-n.invariant.0 c.requires.1.enough c.requires.1.short c.requires.2 in
    let o = form_at_lem (tab _ []) (args_of (tab _ []) _ _) _ _ _ _ _ _ (Some (Two c.in-Two.x c.in-Two.y)) c.entry.ensures (c.form_of.ensures []) (c.in_ok-form.was ∙ ap Some c.in-Two.is) in (
      rw (c.store-in-Two-2.ensures.0, c.store-in-Two.ensures.0) (kept_two _ _ _ _ _ _ p.last p.kept c.in-Two.x
          c.in-Two.y (p.two c.in-Two.x o.2).1 o.2 o.3),
      (λ ps. rw (c.store-in-Two-2.ensures.0, c.store-in-Two.ensures.0) (means_two (tab _ ps) (args_of (tab _ ps) _ _) _ _ _ _ _ _ _ _ p.last
          (c.loop-n.invariant.1 ps) c.in-Two.x c.in-Two.y (p.two c.in-Two.x o.2).1
          (form_at_lem (tab _ ps) (args_of (tab _ ps) _ _) _ _ _ _ _ _ (Some (Two c.in-Two.x c.in-Two.y)) c.entry.ensures (c.form_of.ensures ps) (c.in_ok-form.was ∙ ap Some c.in-Two.is)))),
      c.store-in-Two-2.ensures.1 ∙ c.store-in-Two.ensures.1
          ∙ c.loop-n.invariant.2,
      c.store-in-Two-2.auto.pending ∙ c.store-in-Two.auto.pending ∙ c.loop-n.invariant.3,
    )

pub store-requires-in-Top : goal.store-requires-in-Top
store-requires-in-Top c =
    let p : Spot c.args.side c.args.c.m c.args.pending.now c.args.top c.loop-n.pending c.loop-n.n = spot _ _ _ _ _ _ c.loop-n-test.true c.loop-n.invariant.0 c.requires.1.enough c.requires.1.short c.requires.2 in
    let o = form_at_lem (tab _ []) (args_of (tab _ []) _ _) _ _ _ _ _ _ (Some (Top c.in-Top.source c.in-Top.t c.in-Top.x)) c.entry.ensures (c.form_of.ensures []) (c.in_ok-form.was ∙ ap Some c.in-Top.is) in
    let q = p.lower c.in-Top.x (λ l j z. low_down _ l j c.in-Top.x (o.3.1 l j z)) in
    (p.within, omega arith)

pub shape_of-pending-in-Top : goal.shape_of-pending-in-Top
shape_of-pending-in-Top c = c.store-in-Top.auto.pending ∙ c.loop-n.invariant.3

pub returns-in-Top : goal.returns-in-Top
returns-in-Top c =
    let p : Spot c.args.side c.args.c.m c.args.pending.now c.args.top c.loop-n.pending c.loop-n.n = spot _ _ _ _ _ _ c.loop-n-test.true c.loop-n.invariant.0 c.requires.1.enough c.requires.1.short c.requires.2 in
    let o = form_at_lem (tab _ []) (args_of (tab _ []) _ _) _ _ _ _ _ _ (Some (Top c.in-Top.source c.in-Top.t c.in-Top.x)) c.entry.ensures (c.form_of.ensures []) (c.in_ok-form.was ∙ ap Some c.in-Top.is) in (
      (λ ps. rw c.store-in-Top.ensures.0 (next_row (tab _ ps) (args_of (tab _ ps) _ _) _ _ _ _ _ _ _ _ p.last (c.loop-n.invariant.1 ps)
          p.kept c.in-Top.source c.in-Top.t c.in-Top.x p.inside (form_at_lem (tab _ ps) (args_of (tab _ ps) _ _) _ _ _ _ _ _ (Some (Top c.in-Top.source c.in-Top.t c.in-Top.x)) c.entry.ensures (c.form_of.ensures ps) (c.in_ok-form.was ∙ ap Some c.in-Top.is)))),
      c.store-in-Top.ensures.1 ∙ c.loop-n.invariant.2,
    )

pub shape_of-pending-in-Var : goal.shape_of-pending-in-Var
shape_of-pending-in-Var c = c.loop-n.invariant.3

pub returns-in-Var : goal.returns-in-Var
returns-in-Var c =
    let p : Spot c.args.side c.args.c.m c.args.pending.now c.args.top c.loop-n.pending c.loop-n.n = spot _ _ _ _ _ _ c.loop-n-test.true c.loop-n.invariant.0 c.requires.1.enough c.requires.1.short c.requires.2 in
    ((λ ps. next_var (tab _ ps) (args_of (tab _ ps) _ _) _ _ _ _ _ _ _ _ p.last (c.loop-n.invariant.1 ps) p.kept c.in-Var.k (form_at_lem (tab _ ps) (args_of (tab _ ps) _ _) _ _ _ _ _ _ (Some (Var c.in-Var.k)) c.entry.ensures (c.form_of.ensures ps) (c.in_ok-form.was ∙ ap Some c.in-Var.is))), c.loop-n.invariant.2)

pub shape_of-pending : goal.shape_of-pending
shape_of-pending c = c.loop-n.invariant.3

pub returns : goal.returns
returns c =
    ((λ ps. next_end (tab _ ps) (args_of (tab _ ps) _ _) _ _ c.args.c.m _ _ _ _ (none_left _ (search)) (c.loop-n.invariant.1 ps)), search)

pub returns-in_err-form : goal.returns-in_err-form
returns-in_err-form c =
    let p : Spot c.args.side c.args.c.m c.args.pending.now c.args.top c.loop-n.pending c.loop-n.n = spot _ _ _ _ _ _ c.loop-n-test.true c.loop-n.invariant.0 c.requires.1.enough c.requires.1.short c.requires.2 in
    rw c.from_residual.ensures (
      (λ ps. next_wrong (tab _ ps) (args_of (tab _ ps) _ _) _ _ _ _ _ _ _ _ p.last (c.loop-n.invariant.1 ps) p.kept (form_at_lem (tab _ ps) (args_of (tab _ ps) _ _) _ _ _ _ _ _ None c.entry.ensures (c.form_of.ensures ps) c.in_err-form.was)),
      c.loop-n.invariant.2,
    )
