use Rattle.std.proofs.Common.{sym, ap, ◌∙◌}
use Rattle.text.specs.Grammar.{row_number}
use Rattle.text_fields.specs.numbers.Numbers.{number_of}
use Rattle.text_fields.proofs.Stores.{fits_row}
use Rattle.text_fields.proofs.numbers.Laws.{number_bounds}
use Rattle.text_fields.proofs.numbers.row_number.Goals as goal

pub returns-in_err-number_in : goal.returns-in_err-number_in
unfolding row_number
returns-in_err-number_in c = ap number_of c.from_residual.ensures ∙ c.in_err-number_in.ensures

pub overflow_cast-result : goal.overflow_cast-result
overflow_cast-result c = fits_row (number_bounds _ _ _ _ (sym c.in_ok-number_in.ensures)).1

pub returns : goal.returns
unfolding row_number
returns c = c.in_ok-number_in.ensures
