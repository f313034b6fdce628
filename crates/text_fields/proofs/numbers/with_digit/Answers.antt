use Rattle.std.proofs.Common.{◌≡◌, ◌+◌, ◌*◌, ◌-◌, ◌≤◌, ℕ, sym, ap, ◌∙◌, arith}
use mathlib.Core.Option.{Option, some}
use Rattle.text_fields.proofs.numbers.Laws.{digit_none, digit_over, digit_some}
use Rattle.text_fields.proofs.numbers.with_digit.Goals as goal

pub returns-then-not-is_ascii_digit : goal.returns-then-not-is_ascii_digit
returns-then-not-is_ascii_digit c =
    digit_none _ _ _ (sym c.is_ascii_digit.ensures.value ∙ c.if-not-is_ascii_digit.true)

pub returns-then-m-from : goal.returns-then-m-from
returns-then-m-from c =
    let e : c.from.result * 10 + c.from-2.result ≡ c.args.n * 10 + (c.args.b - 48) = omega arith in
    let h : c.args.n * 10 + (c.args.b - 48) ≤ c.args.high = omega arith in
    ap {B = Option ℕ} some e ∙ digit_some _ _ _ (sym c.is_ascii_digit.ensures.value ∙ c.if-not-is_ascii_digit.false) h

pub returns-else-m-from : goal.returns-else-m-from
returns-else-m-from c =
    digit_over _ _ _ (sym c.is_ascii_digit.ensures.value ∙ c.if-not-is_ascii_digit.false) (omega arith)
