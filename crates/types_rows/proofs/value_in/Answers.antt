use mathlib.Core.Path.{◌∙◌}
use Rattle.types_rows.specs.Read.{lift}
use Rattle.types_rows.proofs.Environments.{value_free, value_other}
use Rattle.types_rows.proofs.value_in.Goals as goal

pub returns-in-None : goal.returns-in-None
returns-in-None c =
    (c.read_value.ensures.0 ∙ value_other _ _ _ _ _ (lift c.args.by) c.free_variable.ensures (search), c.read_value.ensures.1)

pub returns-in-Some : goal.returns-in-Some
returns-in-Some c = (value_free _ _ _ _ _ c.free_variable.ensures c.in-Some.is, tt)
