-- What the comparisons promise: the two types are equal, and no argument of the wrong kind fills a variable of the left one.
use Rattle.std.specs.Prelude.{ℕ, ◌+◌, ◌≤◌, ◌≡◌, Bool, true, false, ◌&&◌, List, [], Option, Some, None}
use Rattle.types.specs.Types.{Arg, meets}
use Rattle.types.specs.Equal.{same}
use Rattle.tables.specs.Tables.{RowTable}
use Rattle.types_rows.specs.Read.{parts_of, mean_v, mean_s, lift, value_under, stack_under, parts_under}
use Rattle.types_equal.specs.pending.Pending.{pending_type, pending_meets, Pends, Rest, RowLow}
use Rattle.types_equal.specs.declared.stack_pairs.Context.{Context}
use Rattle.types_equal.specs.declared.stack_pairs.Duo.{Duo}
use Rattle.types_equal.specs.declared.stack_pairs.Duo.TheVariants.{Over, Onward, Rows}
use Rattle.types_equal.specs.declared.pending.Source.{Source}
use Rattle.types_equal.specs.declared.pending.Source.TheVariants.{Own, Given}

-- the two sides are the same row in the same context, with no arguments
pub record AtSame (k : Context) (l r : ℕ) : Type 0 where
  pub row : l ≡ r
  pub no_args : k.m ≡ 0
  pub place : k.env ≡ k.env2
  pub raised : k.by ≡ 0
  pub depth : k.d ≡ k.d2

-- ---- the left row with arguments A, the right row raised only
module _ (τ : RowTable) (A : List Arg) (ρ : ℕ → ℕ) (d : ℕ) where
  -- value row l in its context has the type of value row r, and no argument is of the wrong kind
  unfoldable pub fit_values : ℕ → (ℕ → ℕ) → ℕ → ℕ → Bool
  fit_values l ρ₂ d₂ r = same (value_under τ A ρ d l) (value_under τ [] ρ₂ d₂ r) && meets A d (mean_v τ l)

  -- the same of n parts from p and from q on
  unfoldable pub fit_parts : Bool → ℕ → ℕ → (ℕ → ℕ) → ℕ → ℕ → ℕ → ℕ → Bool
  fit_parts file l p ρ₂ d₂ r q n = same (parts_under τ A ρ d file l p n) (parts_under τ [] ρ₂ d₂ file r q n) && meets A d (parts_of (mean_v τ) τ.parts file l p n)

  -- the two are equal
  unfoldable pub same_stacks : ℕ → (ℕ → ℕ) → ℕ → ℕ → Bool
  same_stacks l ρ₂ d₂ r = same (stack_under τ A ρ d l) (stack_under τ [] ρ₂ d₂ r) && meets A d (mean_s τ l)

-- ---- stacks under way: i entries pending on the left, j on the right
module _ (τ : RowTable) (A : List Arg) (ρ : ℕ → ℕ) (d : ℕ) (ρ₂ : ℕ → ℕ) (d₂ : ℕ) where
  -- what is pending on both sides has the same items, and no argument is of the wrong kind
  unfoldable pub fit_pending : List ℕ → ℕ → List ℕ → ℕ → Bool
  fit_pending ls i rs j = same (pending_type τ A ρ d ls i) (pending_type τ [] ρ₂ d₂ rs j) && pending_meets τ A d ls i

-- two value rows, the left one of a source
module _ (τ : RowTable) (A : List Arg) (ρ : ℕ → ℕ) (d : ℕ) (ρ₂ : ℕ → ℕ) (d₂ : ℕ) where
  -- they fit
  abbrev pub fit_rows : Source → ℕ → ℕ → Bool
  fit_rows Own t u = fit_values τ A ρ d t ρ₂ d₂ u
  fit_rows Given t u = fit_values τ [] (lift d) 0 t ρ₂ d₂ u

-- what is said of them by the next items; ls₂ and rs₂ are the entries then
module _ (τ : RowTable) (A : List Arg) (m : ℕ) (ρ : ℕ → ℕ) (d : ℕ) (ρ₂ : ℕ → ℕ) (d₂ : ℕ) (ls : List ℕ) (i : ℕ) (rs : List ℕ) (j : ℕ) (ls₂ rs₂ : List ℕ) where
  -- by each answer of the code
  abbrev pub DuoIs : Option Duo → Type 0
  DuoIs None = fit_pending τ A ρ d ρ₂ d₂ ls i rs j ≡ false
  DuoIs (Some Over) = fit_pending τ A ρ d ρ₂ d₂ ls i rs j ≡ true
  DuoIs (Some (Onward n o)) = (fit_pending τ A ρ d ρ₂ d₂ ls i rs j ≡ fit_pending τ A ρ d ρ₂ d₂ ls₂ n rs₂ o) × Rest m ls i ls₂ n × Rest 0 rs j rs₂ o
  DuoIs (Some (Rows s t n u o)) =
      (fit_pending τ A ρ d ρ₂ d₂ ls i rs j ≡ fit_rows τ A ρ d ρ₂ d₂ s t u && fit_pending τ A ρ d ρ₂ d₂ ls₂ n rs₂ o) × Rest m ls i ls₂ n × Rest 0 rs j rs₂ o
      × ((l : ℕ) → Pends m l ls i → RowLow m s l n t) × ((r : ℕ) → Pends 0 r rs j → o + u ≤ r)
