use Rattle.std.proofs.Common.{◌≡◌, ◌≤◌, drop}
use Rattle.text_fields.specs.numbers.Numbers.{up_to}
use Rattle.text_fields.proofs.numbers.digits.Given as goal

abbrev pub invariant-loop-b : goal.invariant-loop-b
invariant-loop-b l =
    (l.n ≤ l.high) × (up_to l.high l.n (drop l.b-index l.s) ≡ up_to l.high 0 l.s)
