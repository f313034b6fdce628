use Rattle.types_rows.specs.Read.{tab}
use Rattle.types_equal.proofs.Values.{int_alone}
use Rattle.types_equal.proofs.value_pairs.pair_up.Goals as goal

pub returns-in_default : goal.returns-in_default
returns-in_default c =
    rw c.in_default.is-0 (int_alone (tab c.args.rows.now c.args.parts.now) c.args.args.now c.args.r _ c.in_default.not-Int-1)
