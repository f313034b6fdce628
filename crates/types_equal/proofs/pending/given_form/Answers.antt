use mathlib.Core.Logic.{inl, inr}
use native.Mathlib.Omega.{arith}
use Rattle.types_rows.specs.Read.{tab}
use Rattle.types_rows.specs.declared.Stk.TheVariants.{StkVar, Push, Join}
use Rattle.types_equal.proofs.pending.Entries.{given_form_lem, ok_push, ok_join, fill_none}
use Rattle.types_equal.proofs.pending.given_form.Goals as goal

pub overflow_add-result : goal.overflow_add-result
overflow_add-result c =
    let o = ok_push 0 _ c.in-Push.t c.in-Push.x c.read_stack.ensures.1 c.in-Push.is in
    let o0 = o.0 in
    let o1 = o.1 in
    let b = c.requires.0 in
    record { fits = omega arith }

pub overflow_add-result-in-Join : goal.overflow_add-result-in-Join
overflow_add-result-in-Join c =
    let o = ok_join 0 _ c.in-Join.x c.in-Join.y c.read_stack.ensures.1 c.in-Join.is in
    let o0 = o.0 in
    let o1 = o.1 in
    let b = c.requires.0 in
    record { fits = omega arith }

pub overflow_add-result-in-Join-2 : goal.overflow_add-result-in-Join-2
overflow_add-result-in-Join-2 c =
    let o = ok_join 0 _ c.in-Join.x c.in-Join.y c.read_stack.ensures.1 c.in-Join.is in
    let o0 = o.0 in
    let o1 = o.1 in
    let b = c.requires.0 in
    record { fits = omega arith }

pub returns-in-StkVar : goal.returns-in-StkVar
returns-in-StkVar c =
    λ ps args m by b. given_form_lem (tab _ ps) args m by _ _ b _ (StkVar c.in-StkVar.k) c.read_stack.ensures.0 c.read_stack.ensures.1 c.in-StkVar.is

pub returns-in-Push : goal.returns-in-Push
returns-in-Push c =
    λ ps args m by b. given_form_lem (tab _ ps) args m by _ _ b _ (Push c.in-Push.t c.in-Push.x) c.read_stack.ensures.0 c.read_stack.ensures.1 c.in-Push.is

pub returns-in-Join : goal.returns-in-Join
returns-in-Join c =
    λ ps args m by b. given_form_lem (tab _ ps) args m by _ _ b _ (Join c.in-Join.x c.in-Join.y) c.read_stack.ensures.0 c.read_stack.ensures.1 c.in-Join.is

pub returns-in-Nil : goal.returns-in-Nil
returns-in-Nil c =
    λ ps args m by b. elim c.in-Nil.is [
      | inl e ↦ given_form_lem (tab _ ps) args m by _ _ b _ _ c.read_stack.ensures.0 c.read_stack.ensures.1 e
      | inr (j, e) ↦ fill_none _ c.read_stack.ensures.1 e
    ]
