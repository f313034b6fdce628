use Rattle.std.proofs.Common.{◌≡◌, ◌-◌, ℕ, get_or, sym, ap, ◌∙◌, arith, rules}
use mathlib.Core.Option.{Option, some}
use Rattle.syntax.specs.Partial.{chain}
use Rattle.text.specs.Bytes.{number}
use Rattle.text_fields.specs.numbers.Numbers.{number_of}
use Rattle.text_fields.proofs.numbers.Laws.{register_first, register_other, no_first, number_bounds, part_from}
use Rattle.text_fields.proofs.numbers.register.Goals as goal

pub returns-in_err-number_in-in-114 : goal.returns-in_err-number_in-in-114
returns-in_err-number_in-in-114 c =
    let s = c.args.s.now in
    let b : get_or s 0 0 ≡ 114 = search rules in
    let n = sym (ap (number 1 8) (part_from s 1)) ∙ sym c.in_err-number_in-in-114.ensures in
    ap number_of c.from_residual.ensures ∙ sym (register_first s c.in-114.len_at_least b ∙ ap (λ (o : Option ℕ). chain o (λ v. some (v - 1))) n)

pub overflow_sub-result : goal.overflow_sub-result
overflow_sub-result c = (number_bounds _ _ _ _ (sym c.in_ok-number_in-in-114.ensures)).0

pub returns-in_ok-number_in-in-114 : goal.returns-in_ok-number_in-in-114
returns-in_ok-number_in-in-114 c =
    let s = c.args.s.now in
    let b : get_or s 0 0 ≡ 114 = search rules in
    let n = sym (ap (number 1 8) (part_from s 1)) ∙ sym c.in_ok-number_in-in-114.ensures in
    sym (register_first s c.in-114.len_at_least b ∙ ap (λ (o : Option ℕ). chain o (λ v. some (v - 1))) n)

pub returns-in_default : goal.returns-in_default
returns-in_default c =
    let s = c.args.s.now in
    sym (register_other s (λ e. omega (arith, no_first s c.in_default.len_below)))

pub returns-in_default-2 : goal.returns-in_default-2
returns-in_default-2 c = sym (register_other c.args.s.now (search rules))
