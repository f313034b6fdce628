use native.Mathlib.Omega.{arith}
use mathlib.Core.Path.{◌≡◌, refl, ap, sym, subst, ◌∙◌}
use Prim.Native.Nat.{◌*◌, ◌≤◌}
use lib.ListN.{length}
use Rattle.std.specs.Prelude.{Err, Result, MatchResult}
use Rattle.faults.specs.declared.Fault.{Fault}
use Rattle.types_rows.specs.declared.Held.{Held}
use Rattle.valid.specs.Tests.{as_hidden}
use Rattle.valid.specs.PassThree.{or_fault}
use Rattle.valid_context.specs.Told.{told}
use Rattle.valid_context.proofs.Results.{lacks_then, gives_then}
use Rattle.valid_typing.specs.Typing.{held_in, held_type}
use Rattle.valid_judge.proofs.Results.{at_ok}
use Rattle.valid_judge.proofs.values.inside.Goals as goal

pub returns-in_err-k : goal.returns-in_err-k
returns-in_err-k c =
    let e : c.from_residual.result ≡ Err c.in_err-k.field-0.0 = grind arith in
    rw e (λ E J k l q. lacks_then J (λ u. or_fault 9 (as_hidden u)) (q ∙ ap (told (held_type (held_in _ _ _ E))) c.in_err-k.was), tt)

pub hidden_inside-requires : goal.hidden_inside-requires
hidden_inside-requires c = (c.requires.0, at_ok (λ h. h.row ≤ 65535) c.in_ok-k.was c.requires.1)

pub returns-in_err-row : goal.returns-in_err-row
returns-in_err-row c =
    let e : c.from_residual-in_err-row.result ≡ Err c.in_err-row.field-0.0 = grind arith in
    rw e (
      λ E J k l q. gives_then J (λ u. or_fault 9 (as_hidden u)) (q ∙ ap (told (held_type (held_in _ _ _ E))) c.in_ok-k.was)
          ∙ c.in_err-row.ensures.1 E _ k (at_ok (λ h. h.env ≤ 2 * length E) c.in_ok-k.was l),
      tt,
    )

pub returns : goal.returns
returns c = (
  λ E J k l q. gives_then J (λ u. or_fault 9 (as_hidden u)) (q ∙ ap (told (held_type (held_in _ _ _ E))) c.in_ok-k.was)
      ∙ c.in_ok-row.ensures.1 E _ k (at_ok (λ h. h.env ≤ 2 * length E) c.in_ok-k.was l),
  (c.in_ok-row.ensures.2, subst (λ (r : Result Held Fault). MatchResult r (λ k. c.in_ok-k.k.env ≡ k.env) (λ f. ⊥)) (sym c.in_ok-k.was) refl),
)
