use Rattle.types_rows.proofs.Environments.{shifted_as}
use Rattle.types_equal.proofs.names.eq_tabled.Goals as goal

pub returns : goal.returns
returns c =
    let b = (c.in-Some.ensures {u = tt}).2 in
    let v = c.requires.2 in
    rw (shifted_as c.args.envs.now _ _ _ c.args.k.by v.left b.left, shifted_as c.args.envs.now _ _ _ 0 v.right b.right) at c.eq_value-2.ensures
