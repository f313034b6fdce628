use Prim.Native.Nat.{ℕ, ◌+◌}
use mathlib.Core.Path.{◌≡◌}
use lib.ListN.{length}
use Rattle.types.specs.Types.{junk}
use Rattle.valid.specs.Rules.{junks}
use Rattle.valid_context.specs.Context.{Reading, sp_of, EnvsIn}
use Rattle.valid_context.proofs.push_junks.Given as goal

abbrev pub invariant-loop-i : goal.invariant-loop-i
invariant-loop-i l =
    (length l.sp ≡ length l.initial.sp) × ((T : Reading) → T.type 0 l.row ≡ junk → junks l.i (sp_of T l.initial.sp l.d) ≡ sp_of T l.sp (l.d + l.i)) × ((b : ℕ) → EnvsIn b l.initial.sp l.d → EnvsIn b l.sp (l.d + l.i))
