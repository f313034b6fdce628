-- Tables of names in the place of the environments of packages.
use Rattle.std.specs.Prelude.{ℕ, ◌<◌, ◌≡◌, List, length, get_or}
use Rattle.types_rows.specs.Environments.{var_in, name_in}

-- number c stands for environment e of E in N, and in each list as long whose first n entries are those of N
abbrev pub Stands : List ℕ → ℕ → List ℕ → ℕ → ℕ → Type 0
Stands E e N n c = (M : List ℕ) → length M ≡ length N → ((i : ℕ) → i < n → get_or M i 0 ≡ get_or N i 0) → (j : ℕ) → name_in M c j ≡ var_in E e j

-- the numbers a and b stand for environments e and f of E in N
pub record Both (E : List ℕ) (e f : ℕ) (N : List ℕ) (a b : ℕ) : Type 0 where
  pub left : (j : ℕ) → name_in N a j ≡ var_in E e j
  pub right : (j : ℕ) → name_in N b j ≡ var_in E f j
