-- A day's report (document 02, point 1): "count of halted integers, count of all other stops (halted with another kind included), total,
-- smallest, largest, mean as whole quotient rounded down, remainder".
use Rattle.std.specs.Prelude.{ℕ, suc, ◌-◌, ◌/◌, ◌%◌, Bool, true, false, ◌||◌, cond, List, [], ◌∷◌, map, eqb, ltb, length, ℤ, pos, negsuc, ◌+ℤ◌}
use Rattle.std.proofs.Math.Option.{Option, none, some}
use Rattle.std.specs.Int.Signed.{le_z}
use Rattle.syntax.specs.Bits.{signed}
use Rattle.syntax.specs.Partial.{guarded}
use Rattle.text.specs.Bytes.{Line, ended, unended, lines_of, bytes}
use Rattle.exec.specs.Machine.{int_kind}
use Rattle.exec.specs.Run.{Answer, halted_after, paused_after, stack_full_after, heap_full_after, stuck_after}
use Rattle.exec.specs.Run as exec
use Rattle.print.specs.Decimal.{decimal, signed_decimal}
use Rattle.print.specs.Lines.{line_of, refusal}
use Rattle.report.specs.Stops.{stop_of}

-- ---- lists of values that may be missing
-- the values that are there
unfoldable pub values : {A : Type 0} → List (Option A) → List A
values [] = []
values (none ∷ os) = values os
values (some x ∷ os) = x ∷ values os

-- how many are missing
unfoldable pub missing : {A : Type 0} → List (Option A) → ℕ
missing [] = 0
missing (none ∷ os) = suc (missing os)
missing (some x ∷ os) = missing os

-- ---- the lines of a day
-- the stop that a line tells; a line "without its LF" tells none
unfoldable pub stop_at : Line → Option Answer
stop_at (ended s) = stop_of s
stop_at (unended s) = none

-- the stops that lines tell
unfoldable pub stops_of : List Line → List Answer
stops_of ls = values (map stop_at ls)

-- "up to 500 of the run program's stop lines"
abbrev pub most_lines : ℕ
most_lines = 500

-- nothing is there
abbrev pub is_none : {A : Type 0} → Option A → Bool
is_none none = true
is_none (some x) = false

-- "a line not of that form .. or without its LF, or a 501st line": line n may not stand there
unfoldable pub is_bad : ℕ → Line → Bool
is_bad n l = ltb most_lines n || is_none (stop_at l)

-- "the lowest such line", counted from n
unfoldable pub first_bad : ℕ → List Line → Option ℕ
first_bad n [] = none
first_bad n (l ∷ ls) = cond (is_bad n l) (some n) (first_bad (suc n) ls)

-- ---- its figures
-- the integer that a stop halted with
unfoldable pub integer_of : Answer → Option ℤ
integer_of (exec.refused n line) = none
integer_of (halted_after steps kind number) = guarded (eqb kind int_kind) (signed number)
integer_of (paused_after steps) = none
integer_of (stack_full_after steps) = none
integer_of (heap_full_after steps) = none
integer_of (stuck_after steps) = none

-- the integers that stops halted with
unfoldable pub integers_of : List Answer → List ℤ
integers_of stops = values (map integer_of stops)

-- how many stops are no halt with an integer
unfoldable pub others_of : List Answer → ℕ
others_of stops = missing (map integer_of stops)

-- the sum
unfoldable pub sum : List ℤ → ℤ
sum [] = pos 0
sum (z ∷ zs) = z +ℤ sum zs

-- the smallest of z and zs
unfoldable pub least : ℤ → List ℤ → ℤ
least z [] = z
least z (y ∷ ys) = least (cond (le_z z y) z y) ys

-- the largest of z and zs
unfoldable pub greatest : ℤ → List ℤ → ℤ
greatest z [] = z
greatest z (y ∷ ys) = greatest (cond (le_z z y) y z) ys

-- "whole quotient rounded down": -(n + 1) by c is -(n / c + 1)
unfoldable pub quotient_by : ℕ → ℤ → ℤ
quotient_by c (pos n) = pos (n / c)
quotient_by c (negsuc n) = negsuc (n / c)

-- "The remainder is 0 to count - 1."
unfoldable pub remainder_by : ℕ → ℤ → ℕ
remainder_by c (pos n) = n % c
remainder_by c (negsuc n) = c - suc (n % c)

-- the seven figures
pub record Figures : Type 0 where
  pub count : ℕ
  pub others : ℕ
  pub total : ℤ
  pub smallest : ℤ
  pub largest : ℤ
  pub quotient : ℤ
  pub remainder : ℕ

-- what a day comes to: refused with 17 at that line; so many stops and no integer; or the figures
pub data Report : Type 0 where
  refused no_integer : ℕ → Report
  figures : Figures → Report

-- the figures of the integers zs and so many other stops
unfoldable pub figures_of : List ℤ → ℕ → Report
figures_of [] others = no_integer others
figures_of (z ∷ zs) others =
    let n = length (z ∷ zs) in
    let t = sum (z ∷ zs) in
    figures (record { count = n; others = others; total = t; smallest = least z zs; largest = greatest z zs; quotient = quotient_by n t; remainder = remainder_by n t })

-- the report of stops
unfoldable pub report_of : List Answer → Report
report_of stops = figures_of (integers_of stops) (others_of stops)

-- the refusal at a line, if there is one; else the report of the stops
abbrev pub unless_bad : Option ℕ → List Answer → Report
unless_bad none stops = report_of stops
unless_bad (some n) stops = refused n

-- the report of lines
unfoldable pub report_lines : List Line → Report
report_lines ls = unless_bad (first_bad 1 ls) (stops_of ls)

-- a day's report
unfoldable pub report : List ℕ → Report
report text = report_lines (lines_of text)

-- ---- its line
-- "With no integers the last five are `-`."; "Refused, printed as the check program does: 17, at its line"
unfoldable pub report_fields : Report → List (List ℕ)
report_fields (refused line) = refusal 17 line
report_fields (no_integer others) = decimal 0 ∷ decimal others ∷ bytes "-" ∷ bytes "-" ∷ bytes "-" ∷ bytes "-" ∷ bytes "-" ∷ []
report_fields (figures f) = decimal f.count ∷ decimal f.others ∷ signed_decimal f.total ∷ signed_decimal f.smallest ∷ signed_decimal f.largest ∷ signed_decimal f.quotient ∷ decimal f.remainder ∷ []

-- the line that the report program prints
unfoldable pub report_line : Report → List ℕ
report_line r = line_of (report_fields r)
