-- The number of each fault of the code (document 01, "Faults"), and that of a fault that there may be: 0 stands for none.
use Rattle.std.specs.Prelude.{ℕ, Option, Some, None, Result, Ok, Err}
use Rattle.faults.specs.declared.Fault.{Fault}
use Rattle.faults.specs.declared.Fault.TheVariants.{Malformed, Misplaced, TooMany, Missing, WrongSort, TooLarge, Unbound, NoEntry, WrongType, Unequal, NoItem, NoTail, TooDeep, WrongLetter, BadSamples, BadState}

-- a fault's number in the table of document 01
abbrev pub number : Fault → ℕ
number Malformed = 1
number Misplaced = 2
number TooMany = 3
number Missing = 4
number WrongSort = 5
number TooLarge = 6
number Unbound = 7
number NoEntry = 8
number WrongType = 9
number Unequal = 10
number NoItem = 11
number NoTail = 12
number TooDeep = 13
number WrongLetter = 14
number BadSamples = 15
number BadState = 16

-- the number of the fault that there is, 0 if there is none
abbrev pub fault_number : Option Fault → ℕ
fault_number None = 0
fault_number (Some f) = number f

-- the number of the fault for which something is refused, 0 if it is not
abbrev pub refusal_number : {A : Type 0} → Result A Fault → ℕ
refusal_number (Ok x) = 0
refusal_number (Err f) = number f
