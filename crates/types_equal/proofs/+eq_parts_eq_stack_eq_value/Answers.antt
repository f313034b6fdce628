use borrow.Author.Rules.{rules}
use native.Mathlib.Omega.{arith}
use mathlib.Core.Path.{refl, ap, ◌∙◌, ◌≡◌}
use Rattle.std.specs.Prelude.{Some}
use mathlib.Core.Bool.{true, false}
use Rattle.types_equal.specs.declared.pending.Side.TheVariants.{Left, Right}
use Prim.Native.Nat.{◌-◌, ◌≤◌, ◌<◌}
use Rattle.types_rows.specs.Read.{tab, args_of}
use Rattle.types_equal.proofs.Items.{rows_room, tabled_low, spare_low, spare_kept, left_in, right_in, few_left, few_right, few_args}
use Rattle.types_equal.proofs.Values.{none_left, heads_low, parts_first, parts_last, parts_apart, parts_differ, parts_next, placed_form, pair_ok, value_pair, place_value}
use Rattle.types_equal.proofs.Stacks.{not_true, not_false, match_stored, match_over, match_onward, match_rows, rows_not, rows_low, length_part, pends_more}
use lib.ListN.{length}
use borrow.Rule.Slice.PartMut.{put_mid, same_len_mid}
use Rattle.types_rows.specs.Environments.{shifted}
use Rattle.types_equal.specs.pending.Pending.{list_of}
use Rattle.types_equal.specs.Bounds.{Spare}
use Rattle.types_equal.proofs.pending.Sides.{agree_back}
use Rattle.types_equal.proofs.Deeper.{rows_ask, rows_are, depths_in, inside_asks, stacks_ask, files_ask, span_in, inside_is, tuples_are, codes_are, codes_not}
use Rattle.types_equal.proofs.+eq_parts_eq_stack_eq_value.Goals as goal

pub eq_parts-loop-i-init : goal.eq_parts-loop-i-init
eq_parts-loop-i-init t c = (parts_first _ _ _ _ _ _ _ _ _ _ _ _, refl)

pub eq_parts-returns-in_default : goal.eq_parts-returns-in_default
eq_parts-returns-in_default t c =
    rw (← c.from-p.ensures, ← c.from-q.ensures, ← c.from-n.ensures) (
    parts_apart _ _ _ _ _ _ _ _ _ _ _ _ _ c.loop-i.invariant.0 c.loop-i-test.true c.part-x.ensures.0 c.part-y.ensures.0 c.two_slots.ensures (search))

pub eq_parts-eq_value-requires : goal.eq_parts-eq_value-requires
eq_parts-eq_value-requires t c =
    let hl = heads_low c.args.l c.args.r c.part-x.result c.part-y.result c.requires.1.left_row c.requires.1.right_row c.part-x.ensures.1 c.part-y.ensures.1 c.two_slots.ensures c.in-Some.is in
    let h0 = hl.0 in
    let h1 = hl.1 in
    let t0 = c.decreases in
    let rs = c.requires.1 in
    let ns = c.requires.2 in
    let k = c.loop-i-test.true in (
      omega arith,
      (
        tabled_low (tab c.args.rows.now c.args.parts.now) c.args.args.now c.in-Some.h.left
            c.in-Some.h.right c.requires.0 (omega arith) (omega arith),
        search rules,
        spare_kept c.args.k.m c.in-Some.h.left
            c.in-Some.h.right _ _ (spare_low c.args.k.m c.args.l c.args.r _ c.in-Some.h.left c.in-Some.h.right
            c.requires.3 (omega arith) (omega arith)) c.loop-i.invariant.1,
      ),
    )

pub eq_parts-returns-then-not-eq_value : goal.eq_parts-returns-then-not-eq_value
eq_parts-returns-then-not-eq_value t c =
    rw (← c.from-p.ensures, ← c.from-q.ensures, ← c.from-n.ensures) (
    parts_differ _ _ _ _ _ _ _ _ _ _ _ _ _ c.loop-i.invariant.0 c.loop-i-test.true c.part-x.ensures.0 c.part-y.ensures.0 c.two_slots.ensures c.in-Some.h c.in-Some.is c.eq_value.ensures (not_false (search)))

pub eq_parts-loop-i-preserved : goal.eq_parts-loop-i-preserved
eq_parts-loop-i-preserved t c = (
  parts_next _ _ _ _ _ _ _ _ _ _ _ _ _ c.loop-i.invariant.0 c.loop-i-test.true c.part-x.ensures.0 c.part-y.ensures.0
      c.two_slots.ensures c.in-Some.h c.in-Some.is c.eq_value.ensures (not_true (search)),
  c.eq_value.auto.pending ∙ c.loop-i.invariant.1,
)

pub eq_parts-returns : goal.eq_parts-returns
eq_parts-returns t c = rw (← c.from-p.ensures, ← c.from-q.ensures, ← c.from-n.ensures) (
    parts_last _ _ _ _ _ _ _ _ _ _ _ _ _ (search) c.loop-i.invariant.0)

pub eq_stack-returns-then-same_stack : goal.eq_stack-returns-then-same_stack
eq_stack-returns-then-same_stack t c = c.same_stack.ensures (search) _

pub eq_stack-store-requires : goal.eq_stack-store-requires
eq_stack-store-requires t c =
    let s0 = c.requires.2.0 in
    let f = few_left (tab c.args.rows.now c.args.parts.now) c.args.args.now c.requires.0 in
    (omega arith, omega arith)

pub eq_stack-store-requires-2 : goal.eq_stack-store-requires-2
eq_stack-store-requires-2 t c =
    let s0 = c.requires.2.0 in
    let f = few_right (tab c.args.rows.now c.args.parts.now) c.args.args.now c.requires.0 in
    (omega arith, omega arith)

pub eq_stack-loop-duo-init : goal.eq_stack-loop-duo-init
eq_stack-loop-duo-init t c =
    let s0 = c.requires.2.0 in (
      match_stored (tab c.args.rows.now c.args.parts.now) (args_of (tab c.args.rows.now c.args.parts.now)
          c.args.args.now c.args.k.m) c.args.k.m (shifted c.args.envs.now c.args.k.env c.args.k.by) c.args.k.d c.args.l (shifted c.args.envs.now c.args.k.env2 0) c.args.k.d2
          c.args.r c.args.pending.now c.store.new.pending c.store-2.new.pending
          (few_left (tab c.args.rows.now c.args.parts.now) c.args.args.now c.requires.0) (few_right (tab c.args.rows.now
          c.args.parts.now) c.args.args.now c.requires.0) (omega arith) c.store.ensures.0 c.store.ensures.1
          c.store-2.ensures.0 c.store-2.ensures.1,
      refl,
    )

pub eq_stack-next_pair-requires : goal.eq_stack-next_pair-requires
eq_stack-next_pair-requires t c =
    let s_long : length c.loop-duo.pending ≡ length c.args.pending.now = c.loop-duo.invariant.1 ∙ c.store-2.auto.pending ∙ c.store.auto.pending in
    let s0 = c.requires.2.0 in
    let s1 = c.requires.2.1 in
    let i1 = s_long in
    let rs = c.requires.1 in (
      left_in rs,
      right_in rs,
      record {
        given = few_args (tab c.args.rows.now c.args.parts.now) c.args.args.now
            c.requires.0;
        enough = omega arith;
        short = omega arith;
      },
      record {
        left = pends_more c.args.k.m c.args.l _ c.loop-duo.i
            (list_of Left c.loop-duo.pending) (omega arith) c.loop-duo.invariant.0.lefts;
        right = pends_more 0 c.args.r _ c.loop-duo.j
            (list_of Right c.loop-duo.pending) (omega arith) c.loop-duo.invariant.0.rights;
      },
    )

pub eq_stack-returns-in-Over : goal.eq_stack-returns-in-Over
eq_stack-returns-in-Over t c =
    match_over _ _ _ _ _ _ _ _ _ (list_of Left c.loop-duo.pending) _ (list_of Right c.loop-duo.pending) _ c.loop-duo.invariant.0 (list_of Left c.next_pair.new.pending) (list_of Right c.next_pair.new.pending) _ (c.next_pair.ensures _) (c.in-Some.is ∙ ap Some c.in-Over.is)

pub eq_stack-loop-duo-smaller-in-Onward : goal.eq_stack-loop-duo-smaller-in-Onward
eq_stack-loop-duo-smaller-in-Onward t c =
    (match_onward _ _ _ _ _ _ _ _ _ (list_of Left c.loop-duo.pending) _ (list_of Right c.loop-duo.pending) _ c.loop-duo.invariant.0
    (list_of Left c.next_pair.new.pending) (list_of Right c.next_pair.new.pending) _ c.in-Onward.a c.in-Onward.b (c.next_pair.ensures _) (c.in-Some.is ∙ ap Some c.in-Onward.is)).1

pub eq_stack-loop-duo-preserved-in-Onward : goal.eq_stack-loop-duo-preserved-in-Onward
eq_stack-loop-duo-preserved-in-Onward t c = (
  (match_onward _ _ _ _ _ _ _ _ _ (list_of Left c.loop-duo.pending) _ (list_of Right c.loop-duo.pending) _ c.loop-duo.invariant.0
      (list_of Left c.next_pair.new.pending) (list_of Right c.next_pair.new.pending) _ c.in-Onward.a c.in-Onward.b (c.next_pair.ensures _) (c.in-Some.is ∙ ap Some c.in-Onward.is)).0,
  c.next_pair.auto.pending ∙ c.loop-duo.invariant.1,
)

pub eq_stack-at_source-g-requires : goal.eq_stack-at_source-g-requires
eq_stack-at_source-g-requires t c =
    let rs = c.requires.1.envs in
    omega arith

pub eq_stack-offset_bounds-pending-max : goal.eq_stack-offset_bounds-pending-max
eq_stack-offset_bounds-pending-max t c =
    let long : length c.next_pair.new.pending ≡ length c.args.pending.now = c.next_pair.auto.pending ∙ c.loop-duo.invariant.1 ∙ c.store-2.auto.pending ∙ c.store.auto.pending in
    let spare : Spare c.args.k.m c.args.l c.args.r (length c.next_pair.new.pending) = spare_kept c.args.k.m c.args.l c.args.r _ _ c.requires.2 long in
    let low = rows_low _ _ _ _ _ _ _ _ _ (list_of Left c.loop-duo.pending) _ (list_of Right c.loop-duo.pending) _ c.loop-duo.invariant.0
    (list_of Left c.next_pair.new.pending) (list_of Right c.next_pair.new.pending) _ c.in-Rows.source c.in-Rows.t c.in-Rows.a c.in-Rows.u c.in-Rows.b (c.next_pair.ensures _) (c.in-Some.is ∙ ap Some c.in-Rows.is) in
    let w : (c.max.result < length c.next_pair.new.pending) × (length c.next_pair.new.pending ≤ 32768) = rows_room c.args.k.m c.args.l c.args.r _ c.in-Rows.a c.in-Rows.t c.in-Rows.b c.in-Rows.u c.max.ensures spare c.in-Rows.source low in
    let w0 = w.0 in
    let w1 = w.1 in
    record { fits = omega arith }

pub eq_stack-slice_bounds-behind-count : goal.eq_stack-slice_bounds-behind-count
eq_stack-slice_bounds-behind-count t c =
    let long : length c.next_pair.new.pending ≡ length c.args.pending.now = c.next_pair.auto.pending ∙ c.loop-duo.invariant.1 ∙ c.store-2.auto.pending ∙ c.store.auto.pending in
    let spare : Spare c.args.k.m c.args.l c.args.r (length c.next_pair.new.pending) = spare_kept c.args.k.m c.args.l c.args.r _ _ c.requires.2 long in
    let low = rows_low _ _ _ _ _ _ _ _ _ (list_of Left c.loop-duo.pending) _ (list_of Right c.loop-duo.pending) _ c.loop-duo.invariant.0
    (list_of Left c.next_pair.new.pending) (list_of Right c.next_pair.new.pending) _ c.in-Rows.source c.in-Rows.t c.in-Rows.a c.in-Rows.u c.in-Rows.b (c.next_pair.ensures _) (c.in-Some.is ∙ ap Some c.in-Rows.is) in
    let w : (c.max.result < length c.next_pair.new.pending) × (length c.next_pair.new.pending ≤ 32768) = rows_room c.args.k.m c.args.l c.args.r _ c.in-Rows.a c.in-Rows.t c.in-Rows.b c.in-Rows.u c.max.ensures spare c.in-Rows.source low in
    let w0 = w.0 in
    let w1 = w.1 in
    omega arith

pub eq_stack-slice_bounds-behind-start : goal.eq_stack-slice_bounds-behind-start
eq_stack-slice_bounds-behind-start t c =
    let long : length c.next_pair.new.pending ≡ length c.args.pending.now = c.next_pair.auto.pending ∙ c.loop-duo.invariant.1 ∙ c.store-2.auto.pending ∙ c.store.auto.pending in
    let spare : Spare c.args.k.m c.args.l c.args.r (length c.next_pair.new.pending) = spare_kept c.args.k.m c.args.l c.args.r _ _ c.requires.2 long in
    let low = rows_low _ _ _ _ _ _ _ _ _ (list_of Left c.loop-duo.pending) _ (list_of Right c.loop-duo.pending) _ c.loop-duo.invariant.0
    (list_of Left c.next_pair.new.pending) (list_of Right c.next_pair.new.pending) _ c.in-Rows.source c.in-Rows.t c.in-Rows.a c.in-Rows.u c.in-Rows.b (c.next_pair.ensures _) (c.in-Some.is ∙ ap Some c.in-Rows.is) in
    let w : (c.max.result < length c.next_pair.new.pending) × (length c.next_pair.new.pending ≤ 32768) = rows_room c.args.k.m c.args.l c.args.r _ c.in-Rows.a c.in-Rows.t c.in-Rows.b c.in-Rows.u c.max.ensures spare c.in-Rows.source low in
    let w0 = w.0 in
    let w1 = w.1 in
    omega arith

pub eq_stack-eq_value-requires : goal.eq_stack-eq_value-requires
eq_stack-eq_value-requires t c =
    let long : length c.next_pair.new.pending ≡ length c.args.pending.now = c.next_pair.auto.pending ∙ c.loop-duo.invariant.1 ∙ c.store-2.auto.pending ∙ c.store.auto.pending in
    let spare : Spare c.args.k.m c.args.l c.args.r (length c.next_pair.new.pending) = spare_kept c.args.k.m c.args.l c.args.r _ _ c.requires.2 long in
    let low = rows_low _ _ _ _ _ _ _ _ _ (list_of Left c.loop-duo.pending) _ (list_of Right c.loop-duo.pending) _ c.loop-duo.invariant.0
    (list_of Left c.next_pair.new.pending) (list_of Right c.next_pair.new.pending) _ c.in-Rows.source c.in-Rows.t c.in-Rows.a c.in-Rows.u c.in-Rows.b (c.next_pair.ensures _) (c.in-Some.is ∙ ap Some c.in-Rows.is) in
    let a = rows_ask (tab c.args.rows.now c.args.parts.now) c.args.args.now c.args.envs.now c.args.k c.args.l c.args.r _ c.requires.0 c.requires.1 spare c.in-Rows.source c.in-Rows.t c.in-Rows.u c.in-Rows.a c.in-Rows.b _ c.at_source-g.ensures c.max.ensures low (length_part c.max.result c.next_pair.new.pending) in
    let t0 = c.decreases in
    let a0 = a.0 in
    (omega arith, (a.1, a.2, a.3))

pub eq_stack-returns-then-not-eq_value : goal.eq_stack-returns-then-not-eq_value
eq_stack-returns-then-not-eq_value t c =
    rows_not _ _ _ _ _ _ _ _ _ (list_of Left c.loop-duo.pending) _ (list_of Right c.loop-duo.pending) _ c.loop-duo.invariant.0
    (list_of Left c.next_pair.new.pending) (list_of Right c.next_pair.new.pending) _ c.in-Rows.source c.in-Rows.t c.in-Rows.a c.in-Rows.u c.in-Rows.b (c.next_pair.ensures _) (c.in-Some.is ∙ ap Some c.in-Rows.is)
    (rows_are (tab c.args.rows.now c.args.parts.now) c.args.args.now c.args.envs.now c.args.k c.in-Rows.source c.in-Rows.t c.in-Rows.u c.at_source-g.ensures c.eq_value.ensures) (not_false (search))

pub eq_stack-loop-duo-smaller : goal.eq_stack-loop-duo-smaller
eq_stack-loop-duo-smaller t c =
    let long : length c.next_pair.new.pending ≡ length c.args.pending.now = c.next_pair.auto.pending ∙ c.loop-duo.invariant.1 ∙ c.store-2.auto.pending ∙ c.store.auto.pending in
    let spare : Spare c.args.k.m c.args.l c.args.r (length c.next_pair.new.pending) = spare_kept c.args.k.m c.args.l c.args.r _ _ c.requires.2 long in
    let low = rows_low _ _ _ _ _ _ _ _ _ (list_of Left c.loop-duo.pending) _ (list_of Right c.loop-duo.pending) _ c.loop-duo.invariant.0
    (list_of Left c.next_pair.new.pending) (list_of Right c.next_pair.new.pending) _ c.in-Rows.source c.in-Rows.t c.in-Rows.a c.in-Rows.u c.in-Rows.b (c.next_pair.ensures _) (c.in-Some.is ∙ ap Some c.in-Rows.is) in
    let w : (c.max.result < length c.next_pair.new.pending) × (length c.next_pair.new.pending ≤ 32768) = rows_room c.args.k.m c.args.l c.args.r _ c.in-Rows.a c.in-Rows.t c.in-Rows.b c.in-Rows.u c.max.ensures spare c.in-Rows.source low in
    let w0 = w.0 in
    let w1 = w.1 in
    let m = c.max.ensures in
    (match_rows _ _ _ _ _ _ _ _ _ (list_of Left c.loop-duo.pending) _ (list_of Right c.loop-duo.pending) _ c.loop-duo.invariant.0
    (list_of Left c.next_pair.new.pending) (list_of Right c.next_pair.new.pending) _ c.in-Rows.source c.in-Rows.t c.in-Rows.a c.in-Rows.u c.in-Rows.b (c.next_pair.ensures _) (c.in-Some.is ∙ ap Some c.in-Rows.is)
    (rows_are (tab c.args.rows.now c.args.parts.now) c.args.args.now c.args.envs.now c.args.k c.in-Rows.source c.in-Rows.t c.in-Rows.u c.at_source-g.ensures c.eq_value.ensures) (list_of Left (put_mid c.max.result (length c.next_pair.new.pending - c.max.result) c.next_pair.new.pending c.eq_value.new.pending)) (list_of Right (put_mid c.max.result (length c.next_pair.new.pending - c.max.result) c.next_pair.new.pending c.eq_value.new.pending))
    (agree_back Left c.in-Rows.a c.max.result (length c.next_pair.new.pending - c.max.result) c.next_pair.new.pending c.eq_value.new.pending (omega arith) (omega arith))
    (agree_back Right c.in-Rows.b c.max.result (length c.next_pair.new.pending - c.max.result) c.next_pair.new.pending c.eq_value.new.pending (omega arith) (omega arith)) (not_true (search))).1

pub eq_stack-loop-duo-preserved : goal.eq_stack-loop-duo-preserved
eq_stack-loop-duo-preserved t c =
    let long : length c.next_pair.new.pending ≡ length c.args.pending.now = c.next_pair.auto.pending ∙ c.loop-duo.invariant.1 ∙ c.store-2.auto.pending ∙ c.store.auto.pending in
    let spare : Spare c.args.k.m c.args.l c.args.r (length c.next_pair.new.pending) = spare_kept c.args.k.m c.args.l c.args.r _ _ c.requires.2 long in
    let low = rows_low _ _ _ _ _ _ _ _ _ (list_of Left c.loop-duo.pending) _ (list_of Right c.loop-duo.pending) _ c.loop-duo.invariant.0
    (list_of Left c.next_pair.new.pending) (list_of Right c.next_pair.new.pending) _ c.in-Rows.source c.in-Rows.t c.in-Rows.a c.in-Rows.u c.in-Rows.b (c.next_pair.ensures _) (c.in-Some.is ∙ ap Some c.in-Rows.is) in
    let w : (c.max.result < length c.next_pair.new.pending) × (length c.next_pair.new.pending ≤ 32768) = rows_room c.args.k.m c.args.l c.args.r _ c.in-Rows.a c.in-Rows.t c.in-Rows.b c.in-Rows.u c.max.ensures spare c.in-Rows.source low in
    let w0 = w.0 in
    let w1 = w.1 in
    let m = c.max.ensures in (
      (match_rows _ _ _ _ _ _ _ _ _ (list_of Left c.loop-duo.pending) _ (list_of Right c.loop-duo.pending) _ c.loop-duo.invariant.0
          (list_of Left c.next_pair.new.pending) (list_of Right c.next_pair.new.pending) _ c.in-Rows.source c.in-Rows.t c.in-Rows.a c.in-Rows.u c.in-Rows.b (c.next_pair.ensures _) (c.in-Some.is ∙ ap Some c.in-Rows.is)
          (rows_are (tab c.args.rows.now c.args.parts.now) c.args.args.now c.args.envs.now c.args.k c.in-Rows.source c.in-Rows.t c.in-Rows.u c.at_source-g.ensures c.eq_value.ensures) (list_of Left (put_mid c.max.result (length c.next_pair.new.pending - c.max.result) c.next_pair.new.pending c.eq_value.new.pending)) (list_of Right (put_mid c.max.result (length c.next_pair.new.pending - c.max.result) c.next_pair.new.pending c.eq_value.new.pending))
          (agree_back Left c.in-Rows.a c.max.result (length c.next_pair.new.pending - c.max.result) c.next_pair.new.pending c.eq_value.new.pending (omega arith) (omega arith))
          (agree_back Right c.in-Rows.b c.max.result (length c.next_pair.new.pending - c.max.result) c.next_pair.new.pending c.eq_value.new.pending (omega arith) (omega arith)) (not_true (search))).0,
      same_len_mid c.max.result (length c.next_pair.new.pending - c.max.result) c.next_pair.new.pending c.eq_value.new.pending c.eq_value.auto.pending ∙ c.next_pair.auto.pending ∙ c.loop-duo.invariant.1,
    )

pub eq_value-returns-then-same_place : goal.eq_value-returns-then-same_place
eq_value-returns-then-same_place t c = place_value _ _ c.args.envs.now c.args.k _ _ c.same_place.ensures (search)

pub eq_value-value_in-v-requires : goal.eq_value-value_in-v-requires
eq_value-value_in-v-requires t c =
    let fl = few_left (tab c.args.rows.now c.args.parts.now) c.args.args.now c.requires.0 in
    (omega arith, left_in c.requires.1)

pub eq_value-value_in-w-requires : goal.eq_value-value_in-w-requires
eq_value-value_in-w-requires t c =
    let fr = few_right (tab c.args.rows.now c.args.parts.now) c.args.args.now c.requires.0 in
    (omega arith, right_in c.requires.1)

pub eq_value-pair_up-requires : goal.eq_value-pair_up-requires
eq_value-pair_up-requires t c =
    (placed_form c.args.k.m c.args.l c.value_in-v.result c.value_in-v.ensures.1, placed_form 0 c.args.r c.value_in-w.result c.value_in-w.ensures.1)

pub eq_value-components-s-requires : goal.eq_value-components-s-requires
eq_value-components-s-requires t c =
    let ok = pair_ok (tab c.args.rows.now c.args.parts.now) c.args.args.now c.args.k.m c.args.l c.args.r
    c.value_in-v.result c.value_in-w.result c.value_in-v.ensures.1 c.value_in-w.ensures.1 c.pair_up.ensures (c.in-Some.is ∙ ap Some c.in-Tuples.is) in
    (ok.0, ok.1, ok.2)

pub eq_value-eq_parts-requires : goal.eq_value-eq_parts-requires
eq_value-eq_parts-requires t c =
    let ok = pair_ok (tab c.args.rows.now c.args.parts.now) c.args.args.now c.args.k.m c.args.l c.args.r
    c.value_in-v.result c.value_in-w.result c.value_in-v.ensures.1 c.value_in-w.ensures.1 c.pair_up.ensures (c.in-Some.is ∙ ap Some c.in-Tuples.is) in
    let t0 = c.decreases in
    let rs = c.requires.1 in
    let rl = rs.left in
    let rr = rs.right in
    (omega arith, (c.requires.0, record { left = omega arith; right = omega arith; left_row = ok.3; right_row = ok.4; envs = rs.envs; env = rs.env; env2 = rs.env2 }, span_in false _ _ _ c.components-s.ensures ok.0 ok.1 ok.2, c.requires.2))

pub eq_value-eq_stack-requires : goal.eq_value-eq_stack-requires
eq_value-eq_stack-requires t c =
    let ok = pair_ok (tab c.args.rows.now c.args.parts.now) c.args.args.now c.args.k.m c.args.l c.args.r
    c.value_in-v.result c.value_in-w.result c.value_in-v.ensures.1 c.value_in-w.ensures.1 c.pair_up.ensures (c.in-Some.is ∙ ap Some c.in-Pointers.is) in
    let t0 = c.decreases in
    let rs = c.requires.1 in
    let rl = rs.left in
    let rr = rs.right in
    let o0 = ok.0 in
    let o1 = ok.1 in (
      omega arith,
      (
        tabled_low (tab c.args.rows.now c.args.parts.now) c.args.args.now _ _ c.requires.0 (omega arith) (omega arith),
        record { left = omega arith; right = omega arith; envs = rs.envs; env = rs.env; env2 = rs.env2 },
        spare_low c.args.k.m c.args.l c.args.r _ _ _ c.requires.2 (omega arith) (omega arith),
      ),
    )

pub eq_value-under-t-requires : goal.eq_value-under-t-requires
eq_value-under-t-requires t c =
    let ok = pair_ok (tab c.args.rows.now c.args.parts.now) c.args.args.now c.args.k.m c.args.l c.args.r
    c.value_in-v.result c.value_in-w.result c.value_in-v.ensures.1 c.value_in-w.ensures.1 c.pair_up.ensures (c.in-Some.is ∙ ap Some c.in-Codes.is) in
    (depths_in c.requires.1, ok.1, ok.3)

pub eq_value-eq_stack-requires-in-Codes : goal.eq_value-eq_stack-requires-in-Codes
eq_value-eq_stack-requires-in-Codes t c =
    let ok = pair_ok (tab c.args.rows.now c.args.parts.now) c.args.args.now c.args.k.m c.args.l c.args.r
    c.value_in-v.result c.value_in-w.result c.value_in-v.ensures.1 c.value_in-w.ensures.1 c.pair_up.ensures (c.in-Some.is ∙ ap Some c.in-Codes.is) in
    let e = c.under-t.ensures in
    let a = stacks_ask (tab c.args.rows.now c.args.parts.now) c.args.args.now c.args.envs.now c.args.k c.args.l c.args.r _ c.requires.0 c.requires.1 c.requires.2 _ _ e.0 e.1 e.2 _ _ ok.0 ok.2 in
    let t0 = c.decreases in
    let a0 = a.0 in
    (omega arith, (a.1, a.2, a.3))

pub eq_value-returns-then-not-eq_stack : goal.eq_value-returns-then-not-eq_stack
eq_value-returns-then-not-eq_stack t c =
    codes_not (tab c.args.rows.now c.args.parts.now) c.args.args.now c.args.envs.now c.args.k c.args.l c.args.r _ _ _ _ c.under-t.ensures.0 c.eq_stack-in-Codes.ensures (not_false (search)) ∙ value_pair (tab c.args.rows.now c.args.parts.now) c.args.args.now c.args.k.m (shifted c.args.envs.now c.args.k.env c.args.k.by) c.args.k.d (shifted c.args.envs.now c.args.k.env2 0) c.args.k.d2
    c.args.l c.args.r c.value_in-v.ensures.0 c.value_in-v.ensures.1 c.value_in-w.ensures.0 c.value_in-w.ensures.1 c.pair_up.ensures (c.in-Some.is ∙ ap Some c.in-Codes.is)

pub eq_value-registers-s-requires : goal.eq_value-registers-s-requires
eq_value-registers-s-requires t c =
    let ok = pair_ok (tab c.args.rows.now c.args.parts.now) c.args.args.now c.args.k.m c.args.l c.args.r
    c.value_in-v.result c.value_in-w.result c.value_in-v.ensures.1 c.value_in-w.ensures.1 c.pair_up.ensures (c.in-Some.is ∙ ap Some c.in-Codes.is) in
    (ok.1, ok.3)

pub eq_value-eq_parts-requires-in-Codes : goal.eq_value-eq_parts-requires-in-Codes
eq_value-eq_parts-requires-in-Codes t c =
    let ok = pair_ok (tab c.args.rows.now c.args.parts.now) c.args.args.now c.args.k.m c.args.l c.args.r
    c.value_in-v.result c.value_in-w.result c.value_in-v.ensures.1 c.value_in-w.ensures.1 c.pair_up.ensures (c.in-Some.is ∙ ap Some c.in-Codes.is) in
    let o0 = ok.0 in
    let o2 = ok.2 in
    let f = c.under-t.ensures in
    let a = files_ask (tab c.args.rows.now c.args.parts.now) c.args.args.now c.args.envs.now c.args.k c.args.l c.args.r _ c.requires.0 c.requires.1 c.requires.2 _ _ f.0 f.1 f.2 (omega arith) (omega arith) in
    let t0 = c.decreases in
    let a0 = a.0 in
    (omega arith, (a.1, a.2, span_in true _ _ _ c.registers-s.ensures ok.1 ok.3 (omega arith), spare_kept c.under-t.result.m c.args.l c.args.r _ _ a.3 c.eq_stack-in-Codes.auto.pending))

pub eq_value-inside-t-requires : goal.eq_value-inside-t-requires
eq_value-inside-t-requires t c =
    let rs = c.requires.1 in
    let re = rs.envs in
    (depths_in rs, omega arith)

pub eq_value-eq_value-requires : goal.eq_value-eq_value-requires
eq_value-eq_value-requires t c =
    let a = inside_asks (tab c.args.rows.now c.args.parts.now) c.args.args.now c.args.envs.now c.args.k c.args.l c.args.r _ c.requires.0 c.requires.1 c.requires.2 c.in-Inside.within c.in-Inside.x c.in-Inside.y c.inside-t.ensures (pair_ok (tab c.args.rows.now c.args.parts.now) c.args.args.now c.args.k.m c.args.l c.args.r
    c.value_in-v.result c.value_in-w.result c.value_in-v.ensures.1 c.value_in-w.ensures.1 c.pair_up.ensures (c.in-Some.is ∙ ap Some c.in-Inside.is)) in
    let t0 = c.decreases in
    let a0 = a.0 in
    (omega arith, (a.1, a.2, a.3))

pub eq_value-returns-in-Same : goal.eq_value-returns-in-Same
eq_value-returns-in-Same t c =
    value_pair (tab c.args.rows.now c.args.parts.now) c.args.args.now c.args.k.m (shifted c.args.envs.now c.args.k.env c.args.k.by) c.args.k.d (shifted c.args.envs.now c.args.k.env2 0) c.args.k.d2
    c.args.l c.args.r c.value_in-v.ensures.0 c.value_in-v.ensures.1 c.value_in-w.ensures.0 c.value_in-w.ensures.1 c.pair_up.ensures (c.in-Some.is ∙ ap Some c.in-Same.is)

pub eq_value-returns-in_default : goal.eq_value-returns-in_default
eq_value-returns-in_default t c =
    value_pair (tab c.args.rows.now c.args.parts.now) c.args.args.now c.args.k.m
    (shifted c.args.envs.now c.args.k.env c.args.k.by) c.args.k.d (shifted c.args.envs.now c.args.k.env2 0)
    c.args.k.d2 c.args.l c.args.r c.value_in-v.ensures.0 c.value_in-v.ensures.1
    c.value_in-w.ensures.0 c.value_in-w.ensures.1 c.pair_up.ensures (none_left c.in_default.not-Some)

pub eq_value-returns-in-Tuples : goal.eq_value-returns-in-Tuples
eq_value-returns-in-Tuples t c =
    tuples_are (tab c.args.rows.now c.args.parts.now) c.args.args.now c.args.envs.now c.args.k c.args.l c.args.r _ _ _ c.components-s.ensures c.eq_parts.ensures ∙ value_pair (tab c.args.rows.now c.args.parts.now) c.args.args.now c.args.k.m (shifted c.args.envs.now c.args.k.env c.args.k.by) c.args.k.d (shifted c.args.envs.now c.args.k.env2 0) c.args.k.d2
    c.args.l c.args.r c.value_in-v.ensures.0 c.value_in-v.ensures.1 c.value_in-w.ensures.0 c.value_in-w.ensures.1 c.pair_up.ensures (c.in-Some.is ∙ ap Some c.in-Tuples.is)

pub eq_value-returns-in-Pointers : goal.eq_value-returns-in-Pointers
eq_value-returns-in-Pointers t c =
    c.eq_stack.ensures ∙ value_pair (tab c.args.rows.now c.args.parts.now) c.args.args.now c.args.k.m (shifted c.args.envs.now c.args.k.env c.args.k.by) c.args.k.d (shifted c.args.envs.now c.args.k.env2 0) c.args.k.d2
    c.args.l c.args.r c.value_in-v.ensures.0 c.value_in-v.ensures.1 c.value_in-w.ensures.0 c.value_in-w.ensures.1 c.pair_up.ensures (c.in-Some.is ∙ ap Some c.in-Pointers.is)

pub eq_value-returns-else-not-eq_stack : goal.eq_value-returns-else-not-eq_stack
eq_value-returns-else-not-eq_stack t c =
    codes_are (tab c.args.rows.now c.args.parts.now) c.args.args.now c.args.envs.now c.args.k c.args.l c.args.r _ _ _ _ c.under-t.ensures.0 c.eq_stack-in-Codes.ensures (not_true (search)) c.registers-s.ensures c.eq_parts-in-Codes.ensures ∙ value_pair (tab c.args.rows.now c.args.parts.now) c.args.args.now c.args.k.m (shifted c.args.envs.now c.args.k.env c.args.k.by) c.args.k.d (shifted c.args.envs.now c.args.k.env2 0) c.args.k.d2
    c.args.l c.args.r c.value_in-v.ensures.0 c.value_in-v.ensures.1 c.value_in-w.ensures.0 c.value_in-w.ensures.1 c.pair_up.ensures (c.in-Some.is ∙ ap Some c.in-Codes.is)

pub eq_value-returns-in-Inside : goal.eq_value-returns-in-Inside
eq_value-returns-in-Inside t c =
    inside_is (tab c.args.rows.now c.args.parts.now) c.args.args.now c.args.envs.now c.args.k c.args.l c.args.r c.in-Inside.within c.in-Inside.x c.in-Inside.y c.inside-t.ensures c.eq_value.ensures ∙ value_pair (tab c.args.rows.now c.args.parts.now) c.args.args.now c.args.k.m (shifted c.args.envs.now c.args.k.env c.args.k.by) c.args.k.d (shifted c.args.envs.now c.args.k.env2 0) c.args.k.d2
    c.args.l c.args.r c.value_in-v.ensures.0 c.value_in-v.ensures.1 c.value_in-w.ensures.0 c.value_in-w.ensures.1 c.pair_up.ensures (c.in-Some.is ∙ ap Some c.in-Inside.is)
