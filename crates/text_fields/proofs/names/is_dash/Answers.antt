use Rattle.std.proofs.Common.{arith, rules}
use Rattle.text_fields.proofs.names.CodeRows.{dash_one, dash_not, dash_other}
use Rattle.text_fields.proofs.names.is_dash.Goals as goal

pub returns-in-45 : goal.returns-in-45
returns-in-45 c = dash_one _ (omega arith) (search rules)

pub returns-in_default : goal.returns-in_default
returns-in_default c = dash_other _ (λ e. omega arith)

pub returns-in_default-2 : goal.returns-in_default-2
returns-in_default-2 c = dash_not _ (omega arith) (search rules)

pub returns-in_default-3 : goal.returns-in_default-3
returns-in_default-3 c = dash_other _ (λ e. omega arith)
