use borrow.Author.Tests.{ne_eqb}
use Rattle.valid_typing.proofs.target.Items.{ten_is}
use Rattle.valid_typing.proofs.target.of_operand.Goals as goal

pub returns-in_default : goal.returns-in_default
returns-in_default c = rw (ne_eqb _ 10 (λ e. c.in_default.not-Unequal (ten_is c.args.f e))) c.of_no_item.ensures
