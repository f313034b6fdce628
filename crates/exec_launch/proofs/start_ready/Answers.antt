use native.Mathlib.Omega.{arith}
use Prim.Native.Nat.{◌≤◌}
use lib.ListN.{length}
use mathlib.Core.Path.{◌≡◌, ap, sym, ◌∙◌}
use Rattle.text.specs.Samples.{samples_of}
use Rattle.exec.specs.Run.{bodies}
use Rattle.exec_machine.specs.Step.{tables, state_of}
use Rattle.exec_outcome.specs.declared.Outcome.{Outcome}
use Rattle.exec_outcome.specs.Answers.{outcome_is}
use Rattle.exec_launch.proofs.Limits.{starts_enough, starts_place, starts_safe}
use Rattle.exec_launch.proofs.Laws.{taken_length, starts_15, starts_16, starts_run}
use borrow.Author.Rules.{rules}
use Rattle.exec_launch.proofs.start_ready.Goals as goal

pub returns-then-not-read_samples : goal.returns-then-not-read_samples
returns-then-not-read_samples c =
    λ args P rep w. ap (λ (o : Outcome). outcome_is o c.args.rk.now c.args.rn.now c.args.sk.now c.args.sn.now
    c.args.hk.now c.args.hn.now) c.refuse_for.ensures ∙ sym (starts_15 _ (samples_of _) c.read_samples.new.out
    c.read_samples.result c.read_samples.ensures P w c.args.m _ c.if-not-read_samples.true)

pub returns-then-not-long_enough : goal.returns-then-not-long_enough
returns-then-not-long_enough c =
    λ args P rep w. ap (λ (o : Outcome). outcome_is o c.args.rk.now c.args.rn.now c.args.sk.now c.args.sn.now
    c.args.hk.now c.args.hn.now) c.refuse_for-then-not-long_enough.ensures ∙ sym (starts_16 _ (samples_of _) c.read_samples.new.out
    c.read_samples.result c.read_samples.ensures P w c.args.m _ c.if-not-read_samples.false _ c.long_enough.ensures (search))

pub slice_bounds-set_start-end : goal.slice_bounds-set_start-end
slice_bounds-set_start-end c =
    let k : length c.read_samples.new.out ≡ 16 = c.read_samples.auto.out in
    let p : c.args.want ≤ 16 = c.requires.0 in
    let q = taken_length c.read_samples.new.out c.args.want (omega arith) in
    search (rules, q, sym q)

pub set_start-p-requires : goal.set_start-p-requires
set_start-p-requires c =
    let k : length c.read_samples.new.out ≡ 16 = c.read_samples.auto.out in
    let p : c.args.want ≤ 16 = c.requires.0 in
    let q = taken_length c.read_samples.new.out c.args.want (omega arith) in
    let e = starts_enough c.args.rk.now c.args.rn.now c.args.sk.now c.args.sn.now c.args.hk.now c.args.hn.now c.args.place c.long_enough.result c.long_enough.ensures c.if-not-long_enough.false in
    (omega arith, e.registers.kinds, e.registers.numbers)

pub run_from-requires : goal.run_from-requires
run_from-requires c =
    let k : length c.read_samples.new.out ≡ 16 = c.read_samples.auto.out in
    let w : c.args.want ≤ 16 = c.requires.0 in
    let q = taken_length c.read_samples.new.out c.args.want (omega arith) in
    let e = starts_enough c.args.rk.now c.args.rn.now c.args.sk.now c.args.sn.now c.args.hk.now c.args.hn.now c.args.place c.long_enough.result c.long_enough.ensures c.if-not-long_enough.false in
    let i = c.set_start-p.ensures c.args.sk.now c.args.sn.now c.args.place in
    let l = starts_place _ _ _ _ _ _ _ _ c.set_start-p.result c.args.count i (omega arith) in (
      record { fit = c.requires.1.fit; room = c.requires.1.room },
      omega (arith, c.set_start-p.auto, e),
      l,
      starts_safe (tables c.args.instrs.now
          c.args.operands.now c.args.bases.now c.args.blocks.now c.args.count c.args.labels) c.requires.1.unbarred
          _ (omega arith) (state_of c.args.rk.now c.args.rn.now c.args.sk.now c.args.sn.now c.args.hk.now
          c.args.hn.now c.args.place) c.long_enough.result c.long_enough.ensures c.if-not-long_enough.false i,
    )

pub returns : goal.returns
returns c =
    λ args P rep w. starts_run _ (samples_of _) _ c.read_samples.result c.read_samples.ensures P w _ _ c.if-not-read_samples.false _ c.long_enough.ensures c.if-not-long_enough.false _ _ (c.run_from.ensures args (bodies P) rep) (c.set_start-p.ensures _ _ _)
