use Rattle.types_rows.proofs.Environments.{shifted_now}
use Rattle.types_equal.proofs.filling.eq_filled.Goals as goal

pub returns-then-is_kept : goal.returns-then-is_kept
returns-then-is_kept c = rw (shifted_now c.args.envs.now 0, c.if-is_kept.true) (c.is_kept.ensures (search) _ _)
