use mathlib.Core.Path.{refl, sym, subst}
use mathlib.Core.List.{List}
use Prim.Native.Nat.{ℕ}
use native.Mathlib.Omega.{arith}
use lib.ListN.{length}
use Rattle.std.specs.Prelude.{Ok}
use Rattle.image.specs.declared.Places.{Places}
use Rattle.image.specs.Sections.{Ordered}
use Rattle.image.proofs.Laws.{ordered}
use Rattle.text_decode.specs.store.Store.{store_in}
use Rattle.exec_ready.specs.Ready.{ReadyIs}
use Rattle.exec_call.specs.Tries.{PlanFits}
use Rattle.exec_call.proofs.Laws.{unbarred, refused, ran, instrs_long}
use Rattle.exec_call.proofs.call_in.Goals as goal

pub returns-in-Err-Faulty-clause-answers : goal.returns-in-Err-Faulty-clause-answers
returns-in-Err-Faulty-clause-answers c =
    let h = rw c.in-Err-Faulty.field-0-is at c.in-Err-Faulty.ensures in
    rw c.refuse_for.ensures (refused (h.answered refl))

pub run_in-requires : goal.run_in-requires
run_in-requires c =
    let text : List ℕ = c.args.text.now in
    let image : List ℕ = c.make_ready.new.image in
    let numbers : List ℕ = c.make_ready.new.numbers in
    let in_order_lem : Ordered c.lay_out-p.result (length image) = subst (λ (q : Places). Ordered q (length image)) (sym c.lay_out-p.ensures) (ordered (length image)) in
    let d : ReadyIs text (store_in c.lay_out-p.result image numbers).instrs
    (store_in c.lay_out-p.result image numbers).operands numbers
    (store_in c.lay_out-p.result image numbers).blocks (Ok c.in-Ok.r) = subst (λ (q : Places). ReadyIs text (store_in q image numbers).instrs
    (store_in q image numbers).operands numbers (store_in q image
    numbers).blocks (Ok c.in-Ok.r)) (sym c.lay_out-p.ensures)
    (c.in-Ok.ensures.answered refl) in
    let s = d.startable c.in-Ok.r refl in
    let k : PlanFits (length image) (length c.args.plan.now) = rw c.make_ready.auto.image c.requires in
    let n = instrs_long c.lay_out-p.result image numbers c.lay_out-p.ensures in
    (in_order_lem, s.few, record { fit = s.fit; room = omega (arith, s.room, n, k); unbarred = unbarred d })

pub returns-clause-answers : goal.returns-clause-answers
returns-clause-answers c =
    let text : List ℕ = c.args.text.now in
    let image : List ℕ = c.make_ready.new.image in
    let numbers : List ℕ = c.make_ready.new.numbers in
    let d : ReadyIs text (store_in c.lay_out-p.result image numbers).instrs
    (store_in c.lay_out-p.result image numbers).operands numbers
    (store_in c.lay_out-p.result image numbers).blocks (Ok c.in-Ok.r) = subst (λ (q : Places). ReadyIs text (store_in q image numbers).instrs
    (store_in q image numbers).operands numbers (store_in q image
    numbers).blocks (Ok c.in-Ok.r)) (sym c.lay_out-p.ensures)
    (c.in-Ok.ensures.answered refl) in
    ran d c.run_in.ensures
