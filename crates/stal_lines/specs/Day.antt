-- What the library tells of a day's report: a code, a line, and seven numbers at the start of lent memory.
use Rattle.std.specs.Prelude.{ℕ, ◌≤◌, ◌<◌, List, [], ◌∷◌, ◌++◌, length, drop}
use Rattle.std.specs.Int.{cast_unsigned, w64}
use Rattle.report.specs.Day as report
use Rattle.report.specs.Day.{Report, refused, no_integer, figures}
use Rattle.report_day.specs.declared.Figures.{Figures}
use Rattle.stal_lines.specs.Wide.{signed64}

-- seven numbers
pub record Seven : Type 0 where
  pub count : ℕ
  pub others : ℕ
  pub total : ℕ
  pub smallest : ℕ
  pub largest : ℕ
  pub quotient : ℕ
  pub remainder : ℕ

-- in the report's order
unfoldable pub seven : Seven → List ℕ
seven f = f.count ∷ f.others ∷ f.total ∷ f.smallest ∷ f.largest ∷ f.quotient ∷ f.remainder ∷ []

-- those of a day without integers: the last five are 0, as is the count
abbrev pub without : ℕ → Seven
without others = record { count = 0; others = others; total = 0; smallest = 0; largest = 0; quotient = 0; remainder = 0 }

-- the figures that they are: total, smallest, largest and quotient as 64 bits, read as signed
abbrev pub figures_read : Seven → report.Figures
figures_read f = record { count = f.count; others = f.others; total = signed64 f.total; smallest = signed64 f.smallest; largest = signed64 f.largest; quotient = signed64 f.quotient; remainder = f.remainder }

-- the numbers of the code's figures
abbrev pub bits_of : Figures → Seven
bits_of f = record {
  count = f.count;
  others = f.others;
  total = cast_unsigned w64 f.total;
  smallest = cast_unsigned w64 f.smallest;
  largest = cast_unsigned w64 f.largest;
  quotient = cast_unsigned w64 f.quotient;
  remainder = f.remainder;
}

-- Of a report the code, the line, and what the memory m holds then. 16 and line 0, whatever the report is, where it has fewer than seven
-- entries; else 17 and the line of a refusal; in both it is left as it was. Or 0, line 0, and in the first seven entries numbers that are
-- the figures (`figures_read`); those past them stay.
pub data TellsDay (m : List ℕ) : Report → ℕ → ℕ → List ℕ → Type 0 where
  short : {r : Report} → length m < 7 → TellsDay m r 16 0 m
  barred : {n : ℕ} → 7 ≤ length m → TellsDay m (refused n) 17 n m
  none_halted : {n : ℕ} → 7 ≤ length m → TellsDay m (no_integer n) 0 0 (seven (without n) ++ drop 7 m)
  tallied : (f : Seven) → 7 ≤ length m → TellsDay m (figures (figures_read f)) 0 0 (seven f ++ drop 7 m)
