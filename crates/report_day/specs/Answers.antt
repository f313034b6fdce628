-- The code's answer, as crate report has it.
use Rattle.std.specs.Prelude.{Result, Ok, Err}
use Rattle.report.specs.Day as report
use Rattle.report.specs.Day.{refused, no_integer, figures}
use Rattle.report_day.specs.declared.Figures.{Figures}
use Rattle.report_day.specs.declared.Day.{Day}
use Rattle.report_day.specs.declared.Day.TheVariants.{NoInteger, Tallied}
use Rattle.report_day.specs.declared.Refused.{Refused}

-- the seven figures
abbrev pub figures_is : Figures → report.Figures
figures_is f = record { count = f.count; others = f.others; total = f.total; smallest = f.smallest; largest = f.largest; quotient = f.quotient; remainder = f.remainder }

-- the code's answer
abbrev pub report_is : Result Day Refused → report.Report
report_is (Err r) = refused r.line
report_is (Ok (NoInteger others)) = no_integer others
report_is (Ok (Tallied f)) = figures (figures_is f)
