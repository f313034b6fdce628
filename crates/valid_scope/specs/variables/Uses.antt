-- How a variable is free in a row, and whether the variables bound inside it are of their letters, by the tables of the rows that it names.
use Rattle.std.specs.Prelude.{ℕ, suc, ◌+◌, ◌*◌, Bool, true, ◌&&◌, not, cond, List, [], ◌∷◌, map, reverse, eqb, ltb, length, get_or, Option as Maybe, Some, None}
use Rattle.std.proofs.Math.Option.{Option, none, some}
use Rattle.syntax.specs.Syntax.{value, Row, row_i, row_n, row_e, row_v, row_x, row_p, row_h, row_u, row_k, row_a, row_c}
use Rattle.tables.specs.Tables.{span, known_of}
use Rattle.valid_scope.specs.variables.Free.{both, fits, fit_to}

-- the n parts from p on: components, which are rows (off 1), or registers, one more than a row or 0 (off 0)
unfoldable pub parts_at : List ℕ → ℕ → ℕ → ℕ → List (Option ℕ)
parts_at ps p n off = map (λ x. known_of (x + off)) (span ps p n)

-- the row that is named, if one is
abbrev pub row_named : Maybe ℕ → Option ℕ
row_named None = none
row_named (Some t) = some t

-- ---- what the entries of a row are, by those of the rows that it names
-- how variable k is free in row t; no variable past 63 is
unfoldable pub use_at : List ℕ → ℕ → ℕ → ℕ
use_at uses k t = cond (ltb k 64) (get_or uses (64 * t + k) 0) 0

-- how variable k is free in a part; in none it is not
unfoldable pub part_use : List ℕ → ℕ → Option ℕ → ℕ
part_use uses k none = 0
part_use uses k (some t) = use_at uses k t

-- how variable k is free in parts
unfoldable pub parts_use : List ℕ → ℕ → List (Option ℕ) → ℕ
parts_use uses k [] = 0
parts_use uses k (o ∷ os) = both (part_use uses k o) (parts_use uses k os)

-- in a stack and in registers
unfoldable pub code_use : List ℕ → ℕ → List (Option ℕ) → ℕ → ℕ
code_use uses s rs k = both (use_at uses k s) (parts_use uses k rs)

-- how variable k is free in a row; inside a C row it is the variable k past the letters, inside an H row the next
unfoldable pub row_use : List ℕ → ℕ → Row → ℕ
row_use uses k row_i = 0
row_use uses k row_n = 0
row_use uses k (row_v j) = cond (eqb j k) 1 0
row_use uses k (row_u ts) = parts_use uses k (map some ts)
row_use uses k (row_p s) = use_at uses k s
row_use uses k (row_c q s rs) = code_use uses s rs (length q + k)
row_use uses k (row_h t) = use_at uses (suc k) t
row_use uses k row_e = 0
row_use uses k (row_x j) = cond (eqb j k) 2 0
row_use uses k (row_k t s) = both (use_at uses k t) (use_at uses k s)
row_use uses k (row_a s₁ s₂) = both (use_at uses k s₁) (use_at uses k s₂)

-- row t has no variable that is bound inside it by a letter of the other kind
unfoldable pub respected_at : List ℕ → ℕ → Bool
respected_at tops t = not (eqb (get_or tops t 0) 255)

-- each variable that is bound inside a part is of its letter
unfoldable pub part_respected : List ℕ → Option ℕ → Bool
part_respected tops none = true
part_respected tops (some t) = respected_at tops t

-- each variable that is bound inside any of the parts is of its letter
unfoldable pub parts_respected : List ℕ → List (Option ℕ) → Bool
parts_respected tops [] = true
parts_respected tops (o ∷ os) = part_respected tops o && parts_respected tops os

-- each variable that is bound inside the row is of its letter
unfoldable pub row_respected : List ℕ → List ℕ → Row → Bool
row_respected uses tops row_i = true
row_respected uses tops row_n = true
row_respected uses tops (row_v j) = true
row_respected uses tops (row_u ts) = parts_respected tops (map some ts)
row_respected uses tops (row_p s) = respected_at tops s
row_respected uses tops (row_c q s rs) =
    (respected_at tops s && parts_respected tops rs) && fit_to (reverse q) (code_use uses s rs) (length q)
row_respected uses tops (row_h t) = respected_at tops t && fits (use_at uses 0 t) (some value)
row_respected uses tops row_e = true
row_respected uses tops (row_x j) = true
row_respected uses tops (row_k t s) = respected_at tops t && respected_at tops s
row_respected uses tops (row_a s₁ s₂) = respected_at tops s₁ && respected_at tops s₂
