use native.Mathlib.Omega.{arith}
use mathlib.Core.Path.{◌≡◌, sym, ap, ◌∙◌}
use mathlib.Core.Bool.{cond}
use mathlib.Core.List.{List}
use Prim.Native.Nat.{ℕ}
use lib.ListN.{get_or}
use Rattle.syntax.specs.Syntax.{value, stack}
use Rattle.types.specs.Types.{kind_of}
use Rattle.image.specs.Sections.{part, arg_section, shared_section, slot_section}
use Rattle.std.specs.Prelude.{Err}
use Rattle.valid_context.proofs.Results.{number_told}
use Rattle.valid_typing.specs.Typing.{given_row, given_arg}
use Rattle.valid_typing.proofs.operands.Packing.{base_refused, inside_refused, row_told, stack_refused, packed_same}
use Rattle.valid_typing.proofs.operands.pack.Goals as goal

pub given_row-requires : goal.given_row-requires
given_row-requires c = c.requires.0.ready.few

pub hidden_inside-requires : goal.hidden_inside-requires
unfolding part
hidden_inside-requires c =
    let f = c.requires.0.ready.few in
    (c.requires.0.ready, omega (arith, c.given_row.ensures.1))

pub is_stack_row-requires : goal.is_stack_row-requires
is_stack_row-requires c = c.requires.0.ready.few

pub given_row-t-requires : goal.given_row-t-requires
given_row-t-requires c = c.requires.0.ready.few

pub overflow_add-n : goal.overflow_add-n
overflow_add-n c =
    let f = c.requires.0.ready.few in
    omega arith

pub returns-in_err-b : goal.returns-in_err-b
unfolding part
returns-in_err-b c =
    let e : c.from_residual.result ≡ Err c.in_err-b.field-0.0 = grind arith in
    λ P Δ f h n z. rw e (base_refused _ _ _ c.requires.0.ready P Δ h.types _ f _ _ _ (c.in_err-b.ensures.0 P Δ h))

pub returns-in_err-x : goal.returns-in_err-x
unfolding part
returns-in_err-x c =
    let e : c.from_residual-in_err-x.result ≡ Err c.in_err-x.field-0.0 = grind arith in
    λ P Δ f h n z. rw e (inside_refused _ _ _ c.requires.0.ready P Δ h.types _ f _ _ _ (row_told _ _ _ c.requires.0.ready P Δ h.types _ _ c.given_row.ensures.0 c.in_err-x.ensures.0))

pub returns-then-is_stack_row : goal.returns-then-is_stack_row
unfolding part
returns-then-is_stack_row c =
    let R : List ℕ = shared_section c.args.p c.args.image.now in
    let S : List ℕ = slot_section c.args.p c.args.image.now in
    let kind_is : kind_of (given_arg R S c.args.c.rows (get_or (arg_section c.args.p c.args.image.now) c.args.o.first 0)) ≡ cond c.is_stack_row.result stack value = ap (λ (y : ℕ). kind_of (given_arg R S c.args.c.rows y)) (sym c.at-a.ensures.0) ∙ c.is_stack_row.ensures S in
    λ P Δ f h n z. stack_refused R S _ c.requires.0.ready P Δ h.types _ f _ _ _ c.is_stack_row.result kind_is _ _ (c.in_ok-b.ensures.0 P Δ h)
    (row_told R S _ c.requires.0.ready P Δ h.types _ _ c.given_row.ensures.0 c.in_ok-x.ensures.0) c.if-is_stack_row.true

pub packs-requires : goal.packs-requires
unfolding part
packs-requires c =
    let f = c.requires.0.ready.few in
    (record { few = c.requires.2; env = c.in_ok-b.ensures.1.small; rows = omega arith }, omega (arith, c.given_row-t.ensures.1), c.requires.0.room)

pub returns : goal.returns
unfolding part
returns c =
    let R : List ℕ = shared_section c.args.p c.args.image.now in
    let S : List ℕ = slot_section c.args.p c.args.image.now in
    let kind_is : kind_of (given_arg R S c.args.c.rows (get_or (arg_section c.args.p c.args.image.now) c.args.o.first 0)) ≡ cond c.is_stack_row.result stack value = ap (λ (y : ℕ). kind_of (given_arg R S c.args.c.rows y)) (sym c.at-a.ensures.0) ∙ c.is_stack_row.ensures S in
    λ P Δ f h n z. packed_same R S _ c.requires.0.ready P Δ h.types _ f _ _ _ c.is_stack_row.result kind_is _ _ (c.in_ok-b.ensures.0 P Δ h)
    (row_told R S _ c.requires.0.ready P Δ h.types _ _ c.given_row.ensures.0 c.in_ok-x.ensures.0) c.if-is_stack_row.false z _ n (c.given_row-t.ensures.0 ∙ ap (given_row _) c.at-a.ensures.0) c.packs.ensures
    ∙ number_told tt c.holds_or.result c.holds_or.ensures
