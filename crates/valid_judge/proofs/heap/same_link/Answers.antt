use native.Mathlib.Omega.{arith}
use Prim.Native.Nat.{ℕ, ◌-◌}
use mathlib.Core.Path.{◌≡◌, ◌∙◌, ap}
use Rattle.types.specs.Equal.{same}
use Rattle.valid_typing.specs.Typing.{held_in}
use Rattle.valid_judge.proofs.heap.same_link.Goals as goal

pub returns-then-u-eq0 : goal.returns-then-u-eq0
returns-then-u-eq0 c =
    let a = c.args in
    let q : 0 ≡ a.u.link - 1 = omega arith in
    c.same_rows.ensures ∙ ap (λ (r : ℕ). same ((held_in a.rows.now a.parts.now a.n a.envs.now).type a.u.env r) ((held_in a.rows.now a.parts.now a.n a.envs.now).type a.t.env a.t.row)) q
