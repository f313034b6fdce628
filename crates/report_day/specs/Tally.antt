-- What the code keeps of the integers read so far, and the figures by it.
use Rattle.std.specs.Prelude.{ℕ, ◌+◌, ◌*◌, ◌≤◌, ℤ, pos, ◌+ℤ◌, ◌≤ℤ◌}
use Rattle.std.specs.Int.{int_min, int_max}
use Rattle.syntax.specs.Bits.{half}
use Rattle.report.specs.Day as report
use Rattle.report.specs.Day.{quotient_by, remainder_by}
use Rattle.report_stop.specs.declared.Stop.{Stop}
use Rattle.report_stop.specs.declared.Stop.TheVariants.{Integer, Other}
use Rattle.report_day.specs.declared.Tally.{Tally}

-- so many integers, their sum, the smallest and the largest
abbrev pub tally : ℕ → ℤ → ℤ → ℤ → Tally
tally c s l h = record { count = c; sum = s; low = l; high = h }

-- one integer more
unfoldable pub plus : Tally → ℤ → Tally
plus t z = tally (t.count + 1) (t.sum +ℤ z) (int_min t.low z) (int_max t.high z)

-- one stop more
unfoldable pub after : Tally → Stop → Tally
after t (Integer z) = plus t z
after t Other = t

-- at most 500 integers have been added, each from -2^31 to 2^31
pub record Small (t : Tally) : Type 0 where
  pub few : t.count ≤ 500
  pub from : pos 0 ≤ℤ (t.sum +ℤ pos (t.count * half))
  pub to : t.sum ≤ℤ pos (t.count * half)

-- the figures
unfoldable pub figures_by : Tally → ℕ → report.Figures
figures_by t others = record {
  count = t.count;
  others = others;
  total = t.sum;
  smallest = t.low;
  largest = t.high;
  quotient = quotient_by t.count t.sum;
  remainder = remainder_by t.count t.sum;
}
