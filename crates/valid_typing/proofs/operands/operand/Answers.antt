use mathlib.Core.Path.{◌≡◌}
use Rattle.std.specs.Prelude.{Err}
use Rattle.valid_context.specs.Told.{gives}
use native.Mathlib.Omega.{arith}
use mathlib.Core.Path.{refl, sym, ap, ◌∙◌}
use Rattle.syntax.specs.Syntax.{value}
use Rattle.types.specs.Rows.{type_at}
use Rattle.types_rows.proofs.Environments.{read_now}
use Rattle.valid_typing.proofs.operands.Filling.{plain_at, carried_at, some_args, few_args, plain_told, same_told}
use Rattle.valid_typing.proofs.Founds.{found_now}
use Rattle.image.specs.Sections.{part}
use Rattle.valid_typing.proofs.operands.operand.Goals as goal

pub returns-then-is_plain : goal.returns-then-is_plain
unfolding part
returns-then-is_plain c = (
  λ P f h e. plain_told P _ f _ _ _ (plain_at _ _ _ _ _ c.cell-kind.ensures.0 c.cell-count.ensures.0 (search) c.is_plain.ensures (search))
      (c.base_type.ensures.0 P _ h),
  c.base_type.ensures.1,
)

pub carried-requires : goal.carried-requires
unfolding part
carried-requires c = (
  c.requires.0,
  record { number = c.number_at-number.ensures.1; first = c.cell-first.ensures.1; row = c.cell-row.ensures.1 },
  record {
    some = some_args _ _ c.is_plain.ensures c.if-is_plain.false;
    few = λ l. few_args _ _ _ _ c.cell-kind.ensures.0 c.cell-count.ensures.0 l (some_args _ _ c.is_plain.ensures c.if-is_plain.false l) c.requires.1;
  },
  c.requires.3,
)

pub given_row-requires : goal.given_row-requires
given_row-requires c = c.requires.0.ready.few

pub overflow_mul-result : goal.overflow_mul-result
overflow_mul-result c =
    let f = c.requires.3 in
    omega arith

pub returns-in_err-carried : goal.returns-in_err-carried
unfolding part
returns-in_err-carried c =
    let e : c.from_residual.result ≡ Err c.in_err-carried.field-0.0 = grind arith in
    rw e (
      λ P f h n. same_told P _ f _ _ _ (carried_at _ _ _ _ _ _ _ c.cell-kind.ensures.0 c.cell-count.ensures.0
          c.number_at-number.ensures.0 c.cell-row.ensures.0 c.cell-first.ensures.0) (c.in_err-carried.ensures P f h n),
      tt,
    )

pub returns : goal.returns
unfolding part
returns c = (
  λ P f h n. same_told P _ f _ _ _ (carried_at _ _ _ _ _ _ _ c.cell-kind.ensures.0 c.cell-count.ensures.0
      c.number_at-number.ensures.0 c.cell-row.ensures.0 c.cell-first.ensures.0) (c.in_ok-carried.ensures P f h n)
      ∙ ap gives (ap (type_at value _) (sym c.given_row.ensures.0) ∙ sym (read_now _ _)),
  found_now c.requires.3 c.given_row.ensures.1 refl,
)
