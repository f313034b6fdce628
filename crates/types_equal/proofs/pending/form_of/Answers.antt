use Rattle.std.specs.Prelude.{Some}
use Rattle.types_rows.specs.Read.{tab, args_of}
use Rattle.types_equal.proofs.pending.Entries.{entry_given, given_low}
use Rattle.types_equal.proofs.pending.form_of.Goals as goal

pub returns-else-e-lt-GIVEN : goal.returns-else-e-lt-GIVEN
returns-else-e-lt-GIVEN c =
    λ ps. entry_given (tab _ ps) (args_of (tab _ ps) _ _) _ _ _ _ (Some c.given_form.result) (search) (c.given_form.ensures ps _ _ _ (given_low _ (search)))
