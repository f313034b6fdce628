-- Worked days, computed together as one table: ten lorries, and the edges that document 02's point 1 names.
use Rattle.std.specs.Prelude.{◌≡◌, refl}
use Prim.Native.String.{String}
use Rattle.syntax.specs.Bits.{signed}
use Rattle.text.specs.Bytes.{bytes, same_bytes, split, lines_from, lines_of, fields_of, is_digit, all_digits, is_decimal, spelled, number, literal}
use Rattle.print.specs.Decimal.{digit, digits_in, decimal, signed_decimal}
use Rattle.print.specs.Lines.{parted, line_of, refusal}
use Rattle.report.specs.Stops.{word_fits, kind_of, plain_stop, halt_with, halt_of, stop_in, stop_of}
use Rattle.report.specs.Day.{values, missing, stop_at, stops_of, is_bad, first_bad, integer_of, integers_of, others_of, sum, least, greatest, quotient_by, remainder_by, figures_of, report_of, report_lines, report, report_fields, report_line}

-- the day's line
abbrev Prints : String → String → Type 0
Prints day line = report_line (report (bytes day)) ≡ bytes line

pub record Worked : Type 0 where
  -- examples/days/day.txt: eight weights, a pause, a tuple
  pub ten_lorries : Prints "halted,3,int,25600\nhalted,3,int,24180\nhalted,3,int,26040\npaused,1000000\nhalted,3,int,25320\nhalted,3,int,23960\nhalted,0,tuple,0\nhalted,3,int,26500\nhalted,3,int,24870\nhalted,3,int,25100\n" "8,2,201570,23960,26500,25196,2\n"
  -- "With no integers the last five are `-`."
  pub no_line : Prints "" "0,0,-,-,-,-,-\n"
  pub no_integer_lem : Prints "halted,0,tuple,0\nstuck,7\n" "0,2,-,-,-,-,-\n"
  -- "rounded down", below zero too: -7 by 2 is -4, and 1 remains
  pub negative : Prints "halted,3,int,-5\nhalted,3,int,-2\n" "2,0,-7,-5,-2,-4,1\n"
  -- "r1's number of 32 signed bits"
  pub all_bits : Prints "halted,3,int,-2147483648\nhalted,3,int,2147483647\n" "2,0,-1,-2147483648,2147483647,-1,1\n"
  pub past_bits : Prints "halted,3,int,2147483648\n" "refuse,17,1\n"
  -- "steps 0 to 1,000,000", "junk 0"
  pub all_steps : Prints "paused,1000000\nhalted,0,junk,0\n" "0,2,-,-,-,-,-\n"
  pub past_steps : Prints "paused,1000000\npaused,1000001\n" "refuse,17,2\n"
  pub junk_one : Prints "halted,3,junk,1\n" "refuse,17,1\n"
  -- "or without its LF"; "the lowest such line is named"
  pub no_end : Prints "stack,3\nheap,3" "refuse,17,2\n"
  pub lowest : Prints "stack,3\nrefuse,8,1\nheap,03\n" "refuse,17,2\n"

pub worked : Worked
unfolding signed bytes same_bytes split lines_from lines_of fields_of is_digit all_digits is_decimal spelled number literal digit digits_in decimal signed_decimal parted line_of refusal word_fits kind_of plain_stop halt_with halt_of stop_in stop_of values missing stop_at stops_of is_bad first_bad integer_of integers_of others_of sum least greatest quotient_by remainder_by figures_of report_of report_lines report report_fields report_line
worked =
    record {
      ten_lorries = refl;
      no_line = refl;
      no_integer_lem = refl;
      negative = refl;
      all_bits = refl;
      past_bits = refl;
      all_steps = refl;
      past_steps = refl;
      junk_one = refl;
      no_end = refl;
      lowest = refl;
    }
