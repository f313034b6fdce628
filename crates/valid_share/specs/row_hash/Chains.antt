-- How rows are chained by their hashes.
use Rattle.std.specs.Prelude.{ℕ, ◌+◌, ◌*◌, ◌%◌, cond, List, eqb, get_or, set}

-- the chain of row r, by its hash
abbrev pub chain_of : List ℕ → ℕ → ℕ
chain_of work r = get_or work (2 * r) 0 % 256

-- the chains with row r the last of its own, if it stands for itself: entry h is one more than the last row of chain h, and entry 256 + r
-- what was there before
abbrev pub chained : List ℕ → List ℕ → ℕ → ℕ → List ℕ
chained work chains c r = cond (eqb c r) (set (set chains (256 + r) (get_or chains (chain_of work r) 0)) (chain_of work r) (r + 1)) chains
