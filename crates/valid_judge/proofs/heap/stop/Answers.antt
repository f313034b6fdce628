use native.Mathlib.Omega.{arith}
use mathlib.Core.Path.{◌≡◌, ap, sym, ◌∙◌}
use Rattle.std.specs.Prelude.{Err}
use Rattle.syntax.proofs.Least.{least}
use Rattle.types.specs.Equal.{same}
use Rattle.faults.specs.Numbers.{number, refusal_number}
use Rattle.valid_context.proofs.Results.{some_fault, told_number, number_told}
use Rattle.valid_typing.proofs.Judging.{if_none, known_told, halt_stops, halt_goes}
use Rattle.valid_judge.specs.heap.Forms.{held}
use Rattle.valid_judge.proofs.heap.Laws.{renumber, link_number, given_same}
use Rattle.image.specs.Sections.{part}
use Rattle.valid_judge.proofs.heap.stop.Goals as goal

pub same_link-requires : goal.same_link-requires
unfolding part
same_link-requires c =
    (record { ready = c.requires.0.ready; few = c.requires.1; room = c.requires.0.room }, c.link_at-u.ensures.2, omega (arith, c.requires.1))

pub returns-in_err-both : goal.returns-in_err-both
returns-in_err-both c =
    let e : c.from_residual.result ≡ Err c.in_err-both.field-0.0 = grind arith in
    let f = c.in_err-both.field-0.0 in
    let k = c.formed_row.result in
    let n : number f ≡ least (refusal_number k) (if_none 9 c.link_at-u.result.link) = c.in_err-both.ensures ∙ ap (least (refusal_number k)) (c.holds_or.ensures ∙ link_number _) in
    rw e (λ P b q. halt_stops P _ (held b _) _ (refusal_number k) (if_none 9 c.link_at-u.result.link) _ (c.formed_row.ensures P q ∙ told_number tt k) (known_told P _ _ _ 0 _ _
    (c.link_at-u.ensures.0 _ _ _ (search))) (λ z. some_fault f (n ∙ z)) ∙ renumber f _ n)

pub returns : goal.returns
unfolding part
returns c =
    let k = c.formed_row.result in
    let z : 0 ≡ least (refusal_number k) (if_none 9 c.link_at-u.result.link) = c.in_ok-both.ensures ∙ ap (least (refusal_number k)) (c.holds_or.ensures ∙ link_number _) in
    λ P b q. halt_goes P _ (held b _) _ (refusal_number k) (if_none 9 c.link_at-u.result.link) _ c.same_link.result (c.formed_row.ensures P q ∙ told_number tt k) (known_told P _ _ _ 0 _ _
    (c.link_at-u.ensures.0 _ _ _ (search))) (sym z) (c.same_link.ensures ∙ ap (same _) (given_same _ _ _ _ P _ c.given_row.ensures.0 q
    c.requires.0.ready)) ∙ number_told _ c.holds_or-2.result c.holds_or-2.ensures
