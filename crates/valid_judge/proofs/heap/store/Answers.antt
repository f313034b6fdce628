use native.Mathlib.Omega.{arith}
use Prim.Native.Nat.{ℕ}
use mathlib.Core.Path.{◌≡◌, ap, sym, ◌∙◌}
use Rattle.std.specs.Prelude.{Err}
use Rattle.syntax.proofs.Least.{least}
use Rattle.types.specs.Types.{junk}
use Rattle.faults.specs.Numbers.{number, refusal_number}
use Rattle.valid_context.specs.Told.{answer}
use Rattle.valid_context.proofs.Results.{some_fault, told_ok, number_told}
use Rattle.valid_typing.specs.Typing.{held_in, held_type, Found}
use Rattle.valid_typing.proofs.Judging.{if_none, known_told, st_stops, st_goes}
use Rattle.valid_judge.specs.heap.Forms.{held}
use Rattle.valid_judge.proofs.Results.{told_pick, is_zero, at_ok}
use Rattle.valid_judge.proofs.heap.Laws.{renumber, least_swap, link_number}
use Rattle.valid_judge.proofs.heap.store.Goals as goal

pub link_at-u-requires : goal.link_at-u-requires
link_at-u-requires c = c.requires.ready.few

pub component-requires : goal.component-requires
component-requires c = c.requires.ready

pub returns-in_err-t : goal.returns-in_err-t
returns-in_err-t c =
    let e : c.from_residual.result ≡ Err c.in_err-t.field-0.0 = grind arith in
    let f = c.in_err-t.field-0.0 in
    let k = c.component.result in
    let n : number f ≡ least (refusal_number k) (if_none 9 c.link_at-u.result.link) = c.in_err-t.ensures.0 ∙ ap (λ (m : ℕ). least m (refusal_number k)) (c.holds_or.ensures ∙ link_number _) ∙ least_swap _ _ in
    rw e (λ Δ P s q. st_stops P Δ (held s _) _ _ _ (refusal_number k) (if_none 9 c.link_at-u.result.link) _ _ (c.component.ensures.0 _ P Δ ∙ told_pick _ junk k)
    (known_told P Δ _ _ _ _ _ (c.link_at-u.ensures.0 _ _ _ c.requires.ready)) (λ z. some_fault f (n ∙ z)) ∙ renumber f _ n)

pub same_link-requires : goal.same_link-requires
same_link-requires c = (c.requires, c.link_at-u.ensures.2, (at_ok (λ h. Found c.args.n c.args.envs.now c.args.regs.now h) c.in_ok-t.ensures.1.1 (c.component.ensures.1 c.args.envs.now)).small)

pub returns : goal.returns
returns c =
    let k = c.component.result in
    let z : 0 ≡ least (refusal_number k) (if_none 9 c.link_at-u.result.link) = c.in_ok-t.ensures.0 ∙ ap (λ (m : ℕ). least m (refusal_number k)) (c.holds_or.ensures ∙ link_number _) ∙ least_swap _ _ in
    λ Δ P s q. st_goes P Δ (held s _) _ _ _ (refusal_number k) (if_none 9 c.link_at-u.result.link) _ _ c.same_link.result (c.component.ensures.0 _ P Δ ∙ told_ok _ c.in_ok-t.ensures.1.1 ∙ ap (λ (m : ℕ). answer m (held_type (held_in c.args.rows.now c.args.parts.now c.args.n c.args.envs.now) c.in_ok-t.t)) (sym (is_zero c.in_ok-t.ensures.1.1)))
    (known_told P Δ _ _ _ _ _ (c.link_at-u.ensures.0 _ _ _ c.requires.ready)) (sym z) c.same_link.ensures ∙ number_told _ c.holds_or-2.result c.holds_or-2.ensures
