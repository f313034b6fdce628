-- What filling promises: the filled type is the other; and arguments that leave what they fill as it is.
use Rattle.std.specs.Prelude.{ℕ, zero, suc, ◌+◌, ◌-◌, ◌≤◌, ◌<◌, ◌≡◌, Bool, true, false, ◌&&◌, List, [], ◌∷◌, leb, length, get_or, take}
use Rattle.std.proofs.Math.Option.{Option, none, some}
use Rattle.syntax.specs.Syntax.{value}
use Rattle.types.specs.Types.{Ty, int, junk, var, tuple, pointer, hidden, code, Arg, fill, walk, meets, a_stack, Wf, filled}
use Rattle.types.specs.Equal.{same}
use Rattle.tables.specs.Tables.{RowTable, cell, letters_at}
use Rattle.types_rows.specs.declared.Held.{Held}
use Rattle.types_rows.specs.Read.{mean_s, acting, code_of, args_of}

-- ---- filling
-- u is the type, if there is one
unfoldable pub is_full : Ty value → Option (Ty value) → Bool
is_full u none = false
is_full u (some t) = same u t

-- t is a code type with a letter for each argument of A, and u is that type, its first variables filled by A
unfoldable pub fills_to : List Arg → Ty value → Ty value → Bool
fills_to A int u = false
fills_to A junk u = false
fills_to A (var k) u = false
fills_to A (tuple a) u = false
fills_to A (pointer a) u = false
fills_to A (hidden t) u = false
fills_to A (code l a r) u = leb (length A) (length l) && is_full u (filled A (take (length l - length A) l) a r)

-- the same of two code rows by their parts; ρ says which variables stand for those of the left one
unfoldable pub fill_codes : RowTable → List ℕ → (ℕ → ℕ) → ℕ → ℕ → ℕ → ℕ → ℕ → ℕ → Bool
fill_codes τ args ρ l x p r y q = fills_to (args_of τ args (length args)) (walk (acting [] ρ) 0 (code_of τ l x p)) (code_of τ r y q)

-- t, its variable 0 filled by a, is u, and a is of the right kind where it fills
unfoldable pub packs_to : Arg → Ty value → Ty value → Bool
packs_to a t u = same (fill 0 (a ∷ []) t) u && meets (a ∷ []) 0 t

-- few environments, a small one, and few rows
pub record FillsIn (E : List ℕ) (e n : ℕ) : Type 0 where
  pub few : length E ≤ 64
  pub env : e ≤ 65535
  pub rows : n ≤ 514

-- ---- arguments that leave what they fill as it is
-- the kind of a row that is a variable of letter x
unfoldable pub variable_kind : ℕ → ℕ
variable_kind zero = 2
variable_kind (suc x) = 8

-- row a is variable j, of letter x
pub record Itself (rows : List ℕ) (x a j : ℕ) : Type 0 where
  pub kind : cell 4 rows a 0 ≡ variable_kind x
  pub number : cell 4 rows a 1 ≡ j

-- the left one of two code types: its a letters behind the registers at p, at least m, and its stack x, closed where it is called so
pub record LeftCode (τ : RowTable) (closed : Bool) (p a x m : ℕ) : Type 0 where
  pub place : p ≤ 65535
  pub small : a ≤ 65535
  pub letters : a ≡ get_or τ.parts (p + 8) 0
  pub enough : m ≤ a
  pub formed : closed ≡ true → Wf (letters_at τ.parts p) a_stack (mean_s τ x)

-- the same of the code row l, read in its environment, of which there are few
pub record CodeIn (τ : RowTable) (E : List ℕ) (closed : Bool) (l : Held) (x p : ℕ) : Type 0 where
  pub few : length E ≤ 256
  pub env : l.env ≤ 131072
  pub formed : closed ≡ true → Wf [] a_stack (code_of τ l.row x p)

-- few environments, a small one, and few letters of the right one
pub record LettersIn (E : List ℕ) (e b : ℕ) : Type 0 where
  pub few : length E ≤ 256
  pub env : e ≤ 131072
  pub letters : b ≤ 65535

-- each of the first m rows of args is the variable of its place, of its letter at p
abbrev pub Themselves : List ℕ → List ℕ → ℕ → List ℕ → ℕ → Type 0
Themselves rows ps p args m = (j : ℕ) → j < m → Itself rows (get_or ps (p + j) 0) (get_or args j 0) j
