use Rattle.valid_context.specs.Told.{answer}
use Rattle.types.specs.Types.{nil}
use native.Mathlib.Omega.{arith}
use Prim.Native.Nat.{◌-◌}
use mathlib.Core.Bool.{true, false}
use Rattle.valid_typing.proofs.Forms.{link_fits, pointer_unknown, pointer_is, is_pointer, not_pointer, pointer_low}
use Rattle.valid_typing.specs.Typing.{held_in}
use Rattle.valid_typing.proofs.pointer.Goals as goal

pub returns-then-u-eq0 : goal.returns-then-u-eq0
unfolding answer
returns-then-u-eq0 c =
    (λ E P Δ. pointer_unknown P Δ (held_in _ _ _ E) _ _ _ _ (c.register-u.ensures.0 (held_in _ _ _ E)) nil (search), λ E. tt)

pub returns-in_default : goal.returns-in_default
unfolding answer
returns-in_default c =
    (λ E P Δ. pointer_is P Δ (held_in _ _ _ E) _ _ _ _ (c.register-u.ensures.0 (held_in _ _ _ E)) false nil (search) (not_pointer _ _ _ _ _ c.link-h.ensures c.read_value.ensures.0 E _ c.in_default.not-Pointer), λ E. tt)

pub returns : goal.returns
unfolding answer
returns c =
    let h = link_fits c.args.n (c.register-u.result.link - 1) c.link-h.result c.link-h.ensures in
    let l = pointer_low c.link-h.result c.in-Pointer.is c.read_value.ensures.1 in (
      λ E P Δ. pointer_is P Δ (held_in _ _ _ E) _ _ _ _ (c.register-u.ensures.0 (held_in _ _ _ E)) true _ c.if-u-eq0.false
          (is_pointer _ _ _ _ _ c.link-h.ensures c.read_value.ensures.0 E _ c.in-Pointer.is),
      λ E. record { row_in = omega arith; small = c.register-u.ensures.2; exists = λ g. c.register-u.ensures.3 _ g },
    )
