use mathlib.Core.Path.{◌≡◌}
use Prim.Native.Nat.{ℕ, ◌<◌}
use Rattle.valid_share.specs.rename.Renamed.{new_part}
use Rattle.valid_share.proofs.alike_parts.Given as goal

abbrev pub invariant-loop-j : goal.invariant-loop-j
invariant-loop-j l =
    (i : ℕ) → i < l.j → new_part l.first l.parts l.k l.a l.b i ≡ new_part l.first l.parts l.k l.x l.y i
