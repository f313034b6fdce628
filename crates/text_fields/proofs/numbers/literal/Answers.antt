use Rattle.std.proofs.Common.{◌≡◌, ◌-◌, ◌<◌, ◌≤◌, ℕ, length, get_or, sym, ap, ◌∙◌, arith, rules}
use mathlib.Core.Option.{Option, some}
use Rattle.syntax.specs.Bits.{modulus, half}
use Rattle.syntax.specs.Partial.{chain}
use Rattle.text.specs.Bytes.{number}
use Rattle.text_fields.specs.numbers.Numbers.{number_of}
use Rattle.text_fields.proofs.numbers.Laws.{literal_minus, literal_plus, no_first, number_bounds, part_from}
use Rattle.text_fields.proofs.numbers.literal.Goals as goal
use Rattle.text_fields.proofs.numbers.literal.Goals.{in_default-via-then-s-lt1, in_default-via-else-s-lt1+in_default-1}

pub returns-in_err-number_in-in-45 : goal.returns-in_err-number_in-in-45
returns-in_err-number_in-in-45 c =
    let s = c.args.s.now in
    let b : get_or s 0 0 ≡ 45 = search rules in
    let h : 1 ≤ length s = omega arith in
    let n = sym (ap (number 1 half) (part_from s 1)) ∙ sym c.in_err-number_in-in-45.ensures in
    ap number_of c.from_residual.ensures ∙ sym (literal_minus s h b ∙ ap (λ (o : Option ℕ). chain o (λ v. some (modulus - v))) n)

pub returns-in_ok-number_in-in-45 : goal.returns-in_ok-number_in-in-45
returns-in_ok-number_in-in-45 c =
    let s = c.args.s.now in
    let v = c.in_ok-number_in-in-45.field-0 in
    let b : get_or s 0 0 ≡ 45 = search rules in
    let h : 1 ≤ length s = omega arith in
    let n = sym (ap (number 1 half) (part_from s 1)) ∙ sym c.in_ok-number_in-in-45.ensures in
    let w = number_bounds _ _ _ _ n in
    let q : c.wrapping_neg.result ≡ modulus - v = omega arith in
    ap {B = Option ℕ} some q ∙ sym (literal_minus s h b ∙ ap (λ (o : Option ℕ). chain o (λ v. some (modulus - v))) n)

pub returns-in_default : goal.returns-in_default
returns-in_default c =
    let s = c.args.s.now in
    c.number_in-in_default.ensures ∙ literal_plus s (elim c.in_default.branch [
      | in_default-via-then-s-lt1 w ↦ (let h : length s < 1 = search rules in λ e. omega (arith, no_first s h))
      | in_default-via-else-s-lt1+in_default-1 w ↦ (search rules)
    ])
