use native.Mathlib.Omega.{arith}
use Prim.Native.Nat.{◌≤◌}
use mathlib.Core.Path.{◌≡◌, ap, ◌∙◌}
use Rattle.std.specs.Prelude.{Err}
use Rattle.valid.specs.Tests.{as_int}
use Rattle.valid.specs.PassThree.{or_fault}
use Rattle.valid_context.specs.Told.{told}
use Rattle.valid_context.proofs.Results.{lacks_then, number_told}
use Rattle.valid_typing.specs.Typing.{held_in, held_type}
use Rattle.valid_judge.proofs.Results.{at_ok}
use Rattle.valid_judge.proofs.values.Laws.{int_told}
use Rattle.valid_judge.proofs.values.integral.Goals as goal

pub returns-in_err-h : goal.returns-in_err-h
returns-in_err-h c =
    let e : c.from_residual.result ≡ Err c.in_err-h.field-0.0 = grind arith in
    rw e (λ E J q. lacks_then J (λ u. or_fault 9 (as_int u)) (q ∙ ap (told (held_type (held_in _ _ _ E))) c.in_err-h.was))

pub is_int-requires : goal.is_int-requires
is_int-requires c = (c.requires.0, at_ok (λ h. h.row ≤ 65535) c.in_ok-h.was c.requires.1)

pub returns : goal.returns
returns c =
    λ E J q. int_told J _ c.is_int.result (c.is_int.ensures E _) (q ∙ ap (told (held_type (held_in _ _ _ E))) c.in_ok-h.was) ∙ number_told tt c.holds_or.result c.holds_or.ensures
