use Rattle.std.proofs.Common.{rules}
use borrow.Author.Tests.{tests}
use lib.Dec.{eqb}
use Rattle.std.proofs.lemmas.Fn.{always_returns_same}
use Rattle.report_stop.proofs.Laws.{cut_off, one_field, two_parts, three_parts, four_parts, more_parts}
use Rattle.report_stop.proofs.read_stop.Goals as goal

pub returns-in-Some-Some-None-default-default : goal.returns-in-Some-Some-None-default-default
returns-in-Some-Some-None-default-default c =
    let h0 = rw c.in-Some-Some-None-default-default.is-0 at c.next.ensures.steps in
    let h1 = rw c.in-Some-Some-None-default-default.is-1 at c.next-2.ensures.steps in
    let h2 = rw c.in-Some-Some-None-default-default.is-2 at c.next-3.ensures.steps in
    let e0 = cut_off _ _ _ _ h0.1 (h0.2 (λ b. eqb b 44) (always_returns_same _ _ _ (λ a r q k. search (rules, tests)))).1 in
    let e1 = cut_off _ _ _ _ h1.1 (h1.2 (λ b. eqb b 44) (always_returns_same _ _ _ (λ a r q k. search (rules, tests)))).1 in
    two_parts _ _ _ _ (rw c.split-fields.ensures.rest at e0) h1.0 _ _ _ e1 h2.0 c.plain.ensures

pub returns-in-Some-Some-Some-Some-None : goal.returns-in-Some-Some-Some-Some-None
returns-in-Some-Some-Some-Some-None c =
    let h0 = rw c.in-Some-Some-Some-Some-None.is-0 at c.next.ensures.steps in
    let h1 = rw c.in-Some-Some-Some-Some-None.is-1 at c.next-2.ensures.steps in
    let h2 = rw c.in-Some-Some-Some-Some-None.is-2 at c.next-3.ensures.steps in
    let h3 = rw c.in-Some-Some-Some-Some-None.is-3 at c.next-4.ensures.steps in
    let h4 = rw c.in-Some-Some-Some-Some-None.is-4 at c.next-5.ensures.steps in
    let e0 = cut_off _ _ _ _ h0.1 (h0.2 (λ b. eqb b 44) (always_returns_same _ _ _ (λ a r q k. search (rules, tests)))).1 in
    let e1 = cut_off _ _ _ _ h1.1 (h1.2 (λ b. eqb b 44) (always_returns_same _ _ _ (λ a r q k. search (rules, tests)))).1 in
    let e2 = cut_off _ _ _ _ h2.1 (h2.2 (λ b. eqb b 44) (always_returns_same _ _ _ (λ a r q k. search (rules, tests)))).1 in
    let e3 = cut_off _ _ _ _ h3.1 (h3.2 (λ b. eqb b 44) (always_returns_same _ _ _ (λ a r q k. search (rules, tests)))).1 in
    four_parts _ _ _ _ (rw c.split-fields.ensures.rest at e0) h1.0 _ _ _ e1 h2.0 _ _ _ e2 h3.0 _ _ _ e3 h4.0 c.halt.ensures

pub returns-in_default : goal.returns-in_default
returns-in_default c =
    let h0 = rw c.in_default.is-0 at c.next.ensures.steps in
    let h1 = rw c.in_default.is-1 at c.next-2.ensures.steps in
    let h2 = rw c.in_default.is-2 at c.next-3.ensures.steps in
    let h3 = rw c.in_default.is-3 at c.next-4.ensures.steps in
    let h4 = rw c.in_default.is-4 at c.next-5.ensures.steps in
    let e0 = cut_off _ _ _ _ h0.1 (h0.2 (λ b. eqb b 44) (always_returns_same _ _ _ (λ a r q k. search (rules, tests)))).1 in
    let e1 = cut_off _ _ _ _ h1.1 (h1.2 (λ b. eqb b 44) (always_returns_same _ _ _ (λ a r q k. search (rules, tests)))).1 in
    let e2 = cut_off _ _ _ _ h2.1 (h2.2 (λ b. eqb b 44) (always_returns_same _ _ _ (λ a r q k. search (rules, tests)))).1 in
    let e3 = cut_off _ _ _ _ h3.1 (h3.2 (λ b. eqb b 44) (always_returns_same _ _ _ (λ a r q k. search (rules, tests)))).1 in
    let e4 = cut_off _ _ _ _ h4.1 (h4.2 (λ b. eqb b 44) (always_returns_same _ _ _ (λ a r q k. search (rules, tests)))).1 in
    more_parts _ _ _ _ (rw c.split-fields.ensures.rest at e0) h1.0 _ _ _ e1 h2.0 _ _ _ e2 h3.0 _ _ _ e3 h4.0 e4

pub returns-in_default-2 : goal.returns-in_default-2
returns-in_default-2 c =
    let h0 = rw c.in_default.is-0 at c.next.ensures.steps in
    let h1 = rw c.in_default.is-1 at c.next-2.ensures.steps in
    let h2 = rw c.in_default.is-2 at c.next-3.ensures.steps in
    let h3 = rw c.in_default.is-3 at c.next-4.ensures.steps in
    let e0 = cut_off _ _ _ _ h0.1 (h0.2 (λ b. eqb b 44) (always_returns_same _ _ _ (λ a r q k. search (rules, tests)))).1 in
    let e1 = cut_off _ _ _ _ h1.1 (h1.2 (λ b. eqb b 44) (always_returns_same _ _ _ (λ a r q k. search (rules, tests)))).1 in
    let e2 = cut_off _ _ _ _ h2.1 (h2.2 (λ b. eqb b 44) (always_returns_same _ _ _ (λ a r q k. search (rules, tests)))).1 in
    three_parts _ _ _ _ (rw c.split-fields.ensures.rest at e0) h1.0 _ _ _ e1 h2.0 _ _ _ e2 h3.0

pub returns-in_default-3 : goal.returns-in_default-3
returns-in_default-3 c =
    let h0 = rw c.in_default.is-0 at c.next.ensures.steps in
    let h1 = rw c.in_default.is-1 at c.next-2.ensures.steps in
    let e0 = cut_off _ _ _ _ h0.1 (h0.2 (λ b. eqb b 44) (always_returns_same _ _ _ (λ a r q k. search (rules, tests)))).1 in
    one_field _ _ _ _ (rw c.split-fields.ensures.rest at e0) h1.0
