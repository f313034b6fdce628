-- The lesser of two faults' numbers, none of which is 0.
use Rattle.std.proofs.Common.{◌≡◌, ℕ, suc, zero, ◌<◌, ◌≤◌, min, refl, arith}
use Rattle.syntax.proofs.Least.{least}
use Rattle.faults.specs.declared.Fault.{Fault}
use Rattle.faults.specs.declared.Fault.TheVariants.{Malformed, Misplaced, TooMany, Missing, WrongSort, TooLarge, Unbound, NoEntry, WrongType, Unequal, NoItem, NoTail, TooDeep, WrongLetter, BadSamples, BadState}
use Rattle.faults.specs.Numbers.{number}

-- no fault has the number 0
pub number_above : (f : Fault) → 0 < number f
number_above Malformed = omega arith
number_above Misplaced = omega arith
number_above TooMany = omega arith
number_above Missing = omega arith
number_above WrongSort = omega arith
number_above TooLarge = omega arith
number_above Unbound = omega arith
number_above NoEntry = omega arith
number_above WrongType = omega arith
number_above Unequal = omega arith
number_above NoItem = omega arith
number_above NoTail = omega arith
number_above TooDeep = omega arith
number_above WrongLetter = omega arith
number_above BadSamples = omega arith
number_above BadState = omega arith

-- the lower of two numbers above 0
pub least_above : (a b : ℕ) → 0 < a → 0 < b → least a b ≡ min a b
unfolding least
least_above zero b h k = absurd (omega arith)
least_above (suc a) zero h k = absurd (omega arith)
least_above (suc a) (suc b) h k = omega arith

pub least_right : (a : ℕ) → 0 < a → least a 0 ≡ a
unfolding least
least_right zero h = absurd (omega arith)
least_right (suc a) h = refl

pub least_left : (b : ℕ) → least 0 b ≡ b
unfolding least
least_left b = refl
