use mathlib.Core.Path.{◌∙◌}
use Rattle.types_rows.specs.Read.{lift}
use Rattle.types_rows.proofs.Environments.{stack_free, stack_other}
use Rattle.types_rows.proofs.stack_in.Goals as goal

pub returns-in-None : goal.returns-in-None
returns-in-None c =
    (c.read_stack.ensures.0 ∙ stack_other _ _ _ _ _ (lift c.args.by) c.free_variable.ensures (search), c.read_stack.ensures.1)

pub returns-in-Some : goal.returns-in-Some
returns-in-Some c = (stack_free _ _ _ _ _ c.free_variable.ensures c.in-Some.is, tt)
