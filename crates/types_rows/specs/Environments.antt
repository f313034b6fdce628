-- What an environment means: which variable now stands for a variable of a row that was read earlier. A block's unpacks make the
-- environments: 2 h is that of the rows that were read when h hidden variables were in force; 2 i - 1 that of the inside of the package that
-- unpack i opened: its variable 0 is hidden variable i, and its variable j + 1 is variable j in the package's own environment.
use Rattle.std.specs.Prelude.{ℕ, zero, suc, ◌+◌, ◌-◌, ◌*◌, ◌/◌, ◌%◌, ◌≤◌, ◌<◌, cond, List, [], eqb, ltb, length, get_or}
use Rattle.syntax.specs.Syntax.{Kind}
use Rattle.types.specs.Types.{Ty, walk}
use Rattle.types_rows.specs.Read.{acting}
use Rattle.tables.specs.Tables.{cell}
use Rattle.std.specs.Prelude.{Option, Some, None}

-- which variable now variable j of environment e is, E being the environments of the packages opened so far
unfoldable pub var_in : List ℕ → ℕ → ℕ → ℕ
var_in E e zero = length E - suc e / 2
var_in E e (suc j) = cond (eqb (e % 2) 0) (suc j + (length E - e / 2)) (var_in E (get_or E (e / 2) 0) j)

-- the type of a row that was read in environment e, as it counts now
unfoldable pub read_in : List ℕ → ℕ → {κ : Kind} → Ty κ → Ty κ
read_in E e t = walk (acting [] (var_in E e)) 0 t

-- entry j of the table of names that starts at f; from entry 64 on they go up by one each
unfoldable pub name_at : List ℕ → ℕ → ℕ → ℕ
name_at N f j = cond (ltb j 64) (get_or N (f + j) 0) (get_or N (f + 64) 0 + (j - 64))

-- `var_in`, and further environments, which are looked up: the odd numbers from 65537 on stand for the tables of names in E itself
unfoldable pub name_in : List ℕ → ℕ → ℕ → ℕ
name_in E e j = cond (eqb (e % 2) 0) (var_in E e j) (cond (ltb e 65536) (var_in E e j) (name_at E (e / 2 - 32768) j))

-- which variable stands for the free variable j of a row that was read in environment e, raised by `by`
unfoldable pub shifted : List ℕ → ℕ → ℕ → ℕ → ℕ
shifted E e by j = name_in E e j + by

-- the environments are those of packages that existed when they were opened
pub record Known (E : List ℕ) : Type 0 where
  pub exist : (i : ℕ) → i < length E → get_or E i 0 ≤ 2 * i

-- few environments, and a small number of one
pub record EnvironmentIn (E : List ℕ) (e : ℕ) : Type 0 where
  pub few : length E ≤ 65535
  pub small : e ≤ 131072

-- row h, if it is a variable of kind κ (2 a value, 8 a stack) past d binders and m arguments: which variable stands for it
unfoldable pub free_at : List ℕ → (ℕ → ℕ) → ℕ → ℕ → ℕ → ℕ → Option ℕ
free_at rows ρ κ m d zero = None
free_at rows ρ κ m d (suc r) = cond (eqb (cell 4 rows r 0) κ) (cond (ltb (cell 4 rows r 1) (d + m)) None (Some (ρ (cell 4 rows r 1 - (d + m)) + d))) None
