use mathlib.Core.Path.{refl}
use Rattle.types_rows.proofs.Environments.{shifted_as}
use Rattle.types_equal.proofs.filling.fill_named.Goals as goal

pub returns : goal.returns
returns c =
    rw (shifted_as c.args.envs.now _ _ _ 0 c.requires.2.left ((c.in-Some.ensures {u = tt}).0.1 _ refl (λ i _. refl))) at c.fill_code-2.ensures
