-- A load's samples, if they are as many as are wanted.
use Rattle.std.specs.Prelude.{ℕ, List, eqb, length}
use Rattle.std.proofs.Math.Option.{Option}
use Rattle.syntax.specs.Partial.{chain, guarded}

-- the samples, if there are n
abbrev pub exactly : ℕ → Option (List ℕ) → Option (List ℕ)
exactly n o = chain o (λ xs. guarded (eqb (length xs) n) xs)
