-- What check's answer is (document 01, "Faults": "Check answers accepted with counts of blocks and instructions, or number and line";
-- document 02, point 2: "fault 10 at a jump or branch names the first" item that does not fit).
use Rattle.std.specs.Prelude.{ℕ, List}
use Rattle.std.proofs.Math.Option.{Option, none, some}
use Rattle.syntax.specs.Fault.{Refusal, lowest_line, or_else}
use Rattle.text.specs.PassOne.{pass_one}
use Rattle.valid.specs.Program.{program_of}
use Rattle.valid.specs.PassThree.{pass_three}
use Rattle.valid.specs.Verdict.{Verdict, accepted, refused, pass_two_of}
use Rattle.valid_verdict.specs.declared.Answer.{Answer}
use Rattle.valid_verdict.specs.declared.Answer.TheVariants.{Accepted, Refused, Unfit}

-- the verdict that the code's answer is; an item stands at fault 10 alone
unfoldable pub verdict_is : Answer → Verdict
verdict_is (Accepted b i) = accepted b i
verdict_is (Refused n l) = refused (record { number = n; line = l; item = none })
verdict_is (Unfit l i) = refused (record { number = 10; line = l; item = some i })

-- the refusal of passes one and two
abbrev pub low : List ℕ → Option Refusal
low text = or_else (lowest_line 0 (pass_one text)) (lowest_line 0 (pass_two_of text))

-- the refusal of pass three
abbrev pub third : List ℕ → Option Refusal
third text = lowest_line 0 (pass_three (program_of text))
