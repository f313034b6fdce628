use native.Mathlib.Omega.{arith}
use Prim.Native.Nat.{ℕ}
use mathlib.Core.Path.{◌≡◌, ap, ◌∙◌}
use mathlib.Core.Bool.{true, false}
use mathlib.Core.List.{List, map}
use lib.ListN.{get_or}
use Rattle.std.specs.Prelude.{Err}
use Rattle.types.specs.Types.{Arg}
use Rattle.valid_context.proofs.Results.{number_told}
use Rattle.valid_typing.specs.Typing.{code_in, code_read, code_seen, letters_less}
use Rattle.valid_typing.proofs.OperandFaults.{applied_stops, applied_plain, applied_letters}
use Rattle.valid_typing.proofs.operands.Filling.{guarded_is, filled_told}
use Rattle.image.specs.Sections.{part}
use Rattle.valid_typing.specs.Image.{types_at}
use Rattle.valid_typing.proofs.operands.fill.Goals as goal

pub is_closed-closed-requires : goal.is_closed-closed-requires
is_closed-closed-requires c = (c.requires.0.ordered, c.requires.0.scoped)

pub given_row-r-requires : goal.given_row-r-requires
given_row-r-requires c = c.requires.0.ready.few

pub overflow_add-n : goal.overflow_add-n
overflow_add-n c =
    let f = c.requires.0.ready.few in
    omega arith

pub code-requires : goal.code-requires
unfolding part
code-requires c =
    let f = c.in_ok-b.ensures.1.row_in in
    let g = c.requires.0.ready.few in
    (search, omega arith)

pub returns-in_err-b : goal.returns-in_err-b
returns-in_err-b c =
    let a = c.args in
    let T : List Arg = types_at a.p a.image.now a.c.rows in
    let e : c.from_residual.result ≡ Err c.in_err-b.field-0.0 = grind arith in
    λ P Δ f h n. rw e (applied_stops P Δ _ f _ (map (λ (x : ℕ). get_or T x _) a.args.now) a.o.row (c.in_err-b.ensures.0 P Δ h))

pub returns-in_default : goal.returns-in_default
unfolding part
returns-in_default c =
    let a = c.args in
    let T : List Arg = types_at a.p a.image.now a.c.rows in
    λ P Δ f h n. applied_plain P Δ _ f _ (map (λ (x : ℕ). get_or T x _) a.args.now) a.o.row _ (c.in_ok-b.ensures.0 P Δ h) (c.code.ensures.0 _ _ ∙ ap (code_seen _ _ _ _) c.in_default.is)

pub returns-then-not-letters_fit : goal.returns-then-not-letters_fit
unfolding part
returns-then-not-letters_fit c =
    let a = c.args in
    let T : List Arg = types_at a.p a.image.now a.c.rows in
    λ P Δ f h n. applied_letters P Δ _ f _ (map (λ (x : ℕ). get_or T x _) a.args.now) a.o.row _ (c.in_ok-b.ensures.0 P Δ h) (code_read _ _ (code_in _ _ _ _ _))
    (c.code.ensures.0 _ _ ∙ ap (code_seen _ _ _ _) c.in-Some.is) (guarded_is c.letters_fit.result false (letters_less _ _ _) c.letters_fit.ensures c.if-not-letters_fit.true)

pub filled-requires : goal.filled-requires
unfolding part
filled-requires c =
    (record { few = c.requires.3; env = c.in_ok-b.ensures.1.small; rows = let f = c.requires.0.ready.few in omega arith }, search, search, search)

pub returns : goal.returns
unfolding part
returns c =
    let a = c.args in
    let T : List Arg = types_at a.p a.image.now a.c.rows in
    λ P Δ f h n. filled_told P Δ _ _ _ c.requires.0.ready h.types _ f _ (map (λ (x : ℕ). get_or T x _) a.args.now) _ c.given_row-r.result _ (code_read _ _ (code_in _ _ _ _ _)) (letters_less _ _ _) c.filled.result n
    (c.in_ok-b.ensures.0 P Δ h) (c.code.ensures.0 _ _ ∙ ap (code_seen _ _ _ _) c.in-Some.is) (guarded_is c.letters_fit.result true _ c.letters_fit.ensures c.if-not-letters_fit.false) c.given_row-r.ensures.0
    c.filled.ensures ∙ number_told tt c.holds_or.result c.holds_or.ensures
