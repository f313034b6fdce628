use native.Mathlib.Omega.{arith}
use mathlib.Core.Path.{◌∙◌, ap}
use Prim.Native.Nat.{ℕ}
use Rattle.types_rows.specs.Read.{stack_at, place_s}
use Rattle.types_rows.proofs.Laws.{item_head, item_none}
use Rattle.types_rows.proofs.Environments.{shifted_plain}
use Rattle.types_rows.proofs.item_in.Goals as goal

pub stack_in-requires : goal.stack_in-requires
stack_in-requires c =
    let l = c.narrow-w.ensures.row_low in
    (omega arith, record { few = search; small = let e = c.requires.0 in omega arith })

pub returns-then-w-eq0 : goal.returns-then-w-eq0
returns-then-w-eq0 c =
    let a = c.args in
    item_head _ _ _ _ _ _ _ c.narrow-w.ensures (c.stack_in.ensures.0 ∙ ap (λ (ρ : ℕ → ℕ). stack_at a.rows.now (place_s 0 ρ 0) c.narrow-w.result.row) (shifted_plain a.envs.now a.e c.requires.0))
    (search) (search) c.head.ensures

pub returns-else-w-eq0 : goal.returns-else-w-eq0
returns-else-w-eq0 c = item_none _ _ _ _ _ _ _ c.narrow-w.ensures (search)
