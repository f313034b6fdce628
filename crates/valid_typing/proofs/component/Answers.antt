use Rattle.valid_context.specs.Told.{answer}
use Rattle.types.specs.Types.{junk}
use native.Mathlib.Omega.{arith}
use Prim.Native.Nat.{ℕ, ◌-◌}
use mathlib.Core.Bool.{true, false}
use mathlib.Core.Path.{◌∙◌, ap, sym}
use mathlib.Core.Option.{some}
use Rattle.types_rows.specs.Read.{mean_v, lower}
use Rattle.types_rows.proofs.Laws.{lower_low}
use Rattle.valid_typing.proofs.Forms.{link_fits, component_unknown, component_other, component_is, is_tuple, not_tuple, tuple_low, part_is, part_past}
use Rattle.valid_typing.specs.Typing.{held_in}
use Rattle.valid_typing.proofs.Reading.{read_part, read_past}
use Rattle.valid_typing.proofs.component.Goals as goal

pub returns-then-u-eq0 : goal.returns-then-u-eq0
unfolding answer
returns-then-u-eq0 c =
    (λ E P Δ. component_unknown P Δ (held_in _ _ _ E) _ _ _ _ (c.register-u.ensures.0 (held_in _ _ _ E)) _ junk (search), λ E. tt)

pub returns-in_default : goal.returns-in_default
unfolding answer
returns-in_default c =
    (λ E P Δ. component_other P Δ (held_in _ _ _ E) _ _ _ _ (c.register-u.ensures.0 (held_in _ _ _ E)) _ junk (search) (not_tuple _ _ _ _ _ c.link-h.ensures c.read_value.ensures.0 E _ c.in_default.not-Tuple), λ E. tt)

pub returns-then-i-c : goal.returns-then-i-c
unfolding answer
returns-then-i-c c =
    (λ E P Δ. component_is P Δ (held_in _ _ _ E) _ _ _ _ (c.register-u.ensures.0 (held_in _ _ _ E)) _ _ false junk (search) (is_tuple _ _ _ _ _ c.link-h.ensures (search) E _ c.in-Tuple.is) (read_past E _ _ _ (part_past _ _ _ c.in-Tuple.p c.in-Tuple.c _ (search))), λ E. tt)

pub overflow_add-p : goal.overflow_add-p
overflow_add-p c =
    let l = tuple_low _ c.in-Tuple.is c.read_value.ensures.1 in
    omega arith

pub row_of-requires : goal.row_of-requires
row_of-requires c =
    let h = link_fits c.args.n (c.register-u.result.link - 1) c.link-h.result c.link-h.ensures in
    let l = tuple_low c.link-h.result c.in-Tuple.is c.read_value.ensures.1 in
    let k = lower_low c.link-h.result c.at.result l.2 in
    (c.requires.few, omega (arith, c.link-t.ensures))

pub returns : goal.returns
unfolding answer
returns c =
    let e = c.link-t.ensures ∙ ap (λ (y : ℕ). lower c.link-h.result y) c.at.ensures.0 in (
      λ E P Δ. component_is P Δ (held_in _ _ _ E) _ _ _ _ (c.register-u.ensures.0 (held_in _ _ _ E)) _ _ true _ c.if-u-eq0.false (is_tuple _ _ _ _ _ c.link-h.ensures
          c.read_value.ensures.0 E _ c.in-Tuple.is) (read_part E _ _ _ (part_is _ _ _ c.in-Tuple.p c.in-Tuple.c _ c.if-i-c.false
          ∙ ap some (sym (c.row_of.ensures.0 _ _ c.requires ∙ ap (mean_v _) e)))),
      λ E. record { row_in = c.row_of.ensures.1; small = c.register-u.ensures.2; exists = λ g. c.register-u.ensures.3 _ g },
    )
