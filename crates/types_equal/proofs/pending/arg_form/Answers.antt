use Rattle.types_equal.proofs.pending.Entries.{arg_row}
use Rattle.types_equal.proofs.pending.arg_form.Goals as goal

pub returns : goal.returns
returns c = arg_row c.args.rows.now _ c.is_stack.ensures c.then_some.ensures
