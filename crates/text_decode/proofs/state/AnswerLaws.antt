-- Laws of a test.
-- Assumes nothing.
use mathlib.Core.Path.{◌≡◌, sym}
use mathlib.Core.Bool.{true, false, true≢false}
use Prim.Native.Nat.{ℕ, ◌≤◌}
use lib.Dec.{leb}
use borrow.Author.Tests.{leb-true, le-leb}

-- ---- a test of P that has failed, and one that decides P
pub refuted : {P : Type 0} → (P → ⊥) → (false ≡ true → P) × (P → false ≡ true)
refuted n = (λ w. absurd (true≢false (sym w)), λ p. absurd (n p))

pub decided : {P : Type 0} (m n : ℕ) → (m ≤ n → P) → (P → m ≤ n) → (leb m n ≡ true → P) × (P → leb m n ≡ true)
decided m n f g = (λ w. f (leb-true m n w), λ p. le-leb m n (g p))
