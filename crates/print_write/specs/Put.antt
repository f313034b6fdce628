-- Bytes put behind one another into lent memory.
use Rattle.std.specs.Prelude.{ℕ, ◌+◌, ◌≡◌, List, ◌++◌, length, take, drop}

-- the bytes s are put into the memory l from `at` on, up to e, which makes it l': behind what it held before them, and what is past them stays
pub record Puts (l : List ℕ) (at : ℕ) (s : List ℕ) (l' : List ℕ) (e : ℕ) : Type 0 where
  pub end : e ≡ at + length s
  pub held : take e l' ≡ take at l ++ s
  pub kept : drop e l' ≡ drop e l
