use Rattle.std.proofs.Common.{◌≡◌, ◌-◌, rules, arith}
use Rattle.syntax.specs.Bits.{modulus}
use Rattle.text_fields.proofs.numbers.Laws.{number_bounds}
use Rattle.text_fields.proofs.plain_operands.PlacedLaws.{ahead, register_placed, label_placed, minus_placed, digit_placed}
use Rattle.text_fields.proofs.plain_operands.plain_at.Goals as goal

pub number_at-requires : goal.number_at-requires
number_at-requires c = ahead _ _ c.requires 35 c.in-35.is (λ q. omega arith) (λ q. omega arith)

pub number_at-requires-in-45 : goal.number_at-requires-in-45
number_at-requires-in-45 c = ahead _ _ c.requires 45 c.in-45.is (λ q. omega arith) (λ q. omega arith)

pub returns-in_ok-x-in-114 : goal.returns-in_ok-x-in-114
returns-in_ok-x-in-114 c =
    rw c.plain_placed.ensures (register_placed _ _ c.requires c.in-114.is _ c.in_ok-x-in-114.ensures)

pub returns-in_ok-x-in-35 : goal.returns-in_ok-x-in-35
returns-in_ok-x-in-35 c =
    rw c.plain_placed-in-35.ensures (label_placed _ _ c.requires c.in-35.is _ c.in_ok-x-in-35.ensures)

pub returns-in_ok-x-in-45 : goal.returns-in_ok-x-in-45
returns-in_ok-x-in-45 c =
    let g = c.in_ok-x-in-45.ensures in
    let w = number_bounds _ _ _ _ g.says in
    let q : c.wrapping_neg.result ≡ modulus - c.in_ok-x-in-45.x.value = omega arith in
    rw c.plain_placed-in-45.ensures (minus_placed _ _ c.requires c.in-45.is _ g _ q)

pub returns-in_ok-x-in_default : goal.returns-in_ok-x-in_default
returns-in_ok-x-in_default c =
    rw c.plain_placed-in_default.ensures (digit_placed _ _ c.requires (search rules) _ c.in_ok-x-in_default.ensures)
