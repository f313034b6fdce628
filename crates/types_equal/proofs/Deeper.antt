-- Laws of the contexts in which two value rows are compared further: a comparison there asks for nothing that was not there, and what it
-- comes to.
use mathlib.Core.Path.{◌≡◌, refl, ◌∙◌}
use mathlib.Core.Bool.{Bool, true, false}
use mathlib.Core.List.{List, []}
use Prim.Native.Nat.{ℕ, suc, ◌+◌, ◌-◌, ◌*◌, ◌≤◌, ◌<◌}
use native.Mathlib.Omega.{arith}
use lib.ListN.{get_or}
use Rattle.tables.specs.Tables.{RowTable}
use Rattle.types_rows.specs.Read.{args_of, lift}
use Rattle.types_rows.specs.Environments.{shifted}
use Rattle.types_rows.proofs.Environments.{shifted_now}
use Rattle.types_equal.specs.declared.stack_pairs.Context.{Context}
use Rattle.types_equal.specs.declared.value_pairs.Span.{Span}
use Rattle.types_equal.specs.declared.value_pairs.Pair.{Pair}
use Rattle.types_equal.specs.declared.value_pairs.Pair.TheVariants.{Tuples, Codes, Inside}
use Rattle.types_equal.specs.declared.value_pairs.Within.{Within}
use Rattle.types_equal.specs.declared.value_pairs.Within.TheVariants.{Argument, Package}
use Rattle.std.specs.Prelude.{Option, Some}
use Rattle.types_equal.specs.value_pairs.Pairs.{span_of}
use Rattle.types_equal.specs.stack_pairs.Fit.{fit_values, fit_rows, fit_parts, same_stacks}
use Rattle.types_equal.specs.Bounds.{source_of, big, Tabled, Rooms, PartRooms, SpanIn, Depths, Spare, given_of, under_of, inside_of}
use Rattle.types_equal.specs.declared.pending.Source.{Source}
use Rattle.types_equal.specs.declared.pending.Source.TheVariants.{Own, Given}
use Rattle.types_equal.specs.pending.Pending.{RowLow}
use Rattle.std.proofs.Common.{max}
use Rattle.types_equal.proofs.pending.Meets.{no_args}
use Rattle.types_equal.proofs.Items.{tabled_low, tabled_given, spare_own, spare_given, tabled_arg, few_arg, spare_low, spare_arg}
use Rattle.types_equal.proofs.Values.{big_of, Filler, OkInside, on_pair, both_same, one_differs}

pub depths_in : {E : List ℕ} {k : Context} {l r : ℕ} → Rooms E k l r → Depths k
depths_in h = let a = h.left in let b = h.right in record { left = omega arith; right = omega arith }

module _ (τ : RowTable) (args E : List ℕ) (k : Context) (l r n : ℕ) (T : Tabled τ args k.m l r) (R : Rooms E k l r) (S : Spare k.m l r n) where
  -- what a comparison of rows x and y in context t asks for
  abbrev pub Asks : Context → ℕ → ℕ → Type 0
  Asks t x y = (big t.m + 131072 * x + 131072 ≤ big k.m + 131072 * l) × Tabled τ args t.m x y × Rooms E t x y × Spare t.m x y n

  given_asks : (x y : ℕ) → Filler args k.m r x y → Asks (given_of E k) x y
  given_asks x y f =
      let rl = R.left in
      let rr = R.right in
      let re = R.envs in
      let e = f.row in
      let q = f.beside in
      let b = big_of f.j k.m f.low in
      let w = few_arg τ args f.j T f.low in
      let t : Tabled τ args 0 (get_or args f.j 0 + 1) r = tabled_arg τ args f.j (get_or args f.j 0) r T f.low refl (omega arith) in
      let s : Spare 0 (get_or args f.j 0 + 1) r n = spare_arg k.m l r n (get_or args f.j 0 + 1) f.j S f.low (omega arith) in (
        omega arith,
        rw (e, q) t,
        record { left = omega arith; right = omega arith; envs = R.envs; env = omega arith; env2 = R.env2 },
        rw (e, q) s,
      )

  -- two value rows, the left one of a source, each with what is pending behind it: x words are left
  pub rows_ask : (f : Source) (t u a b x : ℕ) {e : ℕ} {g : Context} → g ≡ source_of E k f → e ≡ max a b → RowLow k.m f l a t × (b + u ≤ r) → x ≡ n - e
      → (big g.m + 131072 * t + 70000 < big k.m + 131072 * l + 70001) × Tabled τ args g.m t u × Rooms E g t u × Spare g.m t u x
  rows_ask Own t u a b x i j w y =
      let rl = R.left in
      let rr = R.right in
      let w0 = w.0 in
      let w1 = w.1 in
      rw i (
        omega arith,
        tabled_low τ args t u T (omega arith) (omega arith),
        record { left = omega arith; right = omega arith; envs = R.envs; env = R.env; env2 = R.env2 },
        spare_own k.m l r n a t b u j S x w y,
      )
  rows_ask Given t u a b x i j w y =
      let rl = R.left in
      let rr = R.right in
      let re = R.envs in
      let w1 = w.0.1 in
      let w2 = w.0.2 in
      let w3 = w.1 in
      let c = big_of 0 k.m w.0.0 in
      rw i (
        omega arith,
        tabled_given τ args t u T (omega arith) (omega arith),
        record { left = omega arith; right = omega arith; envs = R.envs; env = omega arith; env2 = R.env2 },
        spare_given k.m l r n a t b u j S x w.0 w.1 y,
      )

  pub inside_asks : (b : Within) (x y : ℕ) {t : Context} → t ≡ inside_of E k b → OkInside args k.m l r b x y → Asks t x y
  inside_asks Argument x y e f = rw e (given_asks x y f)
  inside_asks Package x y e f =
      let rl = R.left in
      let rr = R.right in
      let f0 = f.0 in
      let f1 = f.1 in
      rw e (
        omega arith,
        tabled_low τ args x y T (omega arith) (omega arith),
        record { left = omega arith; right = omega arith; envs = R.envs; env = R.env; env2 = R.env2 },
        spare_low k.m l r n x y S (omega arith) (omega arith),
      )

  module _ (p q : ℕ) {t : Context} (e : t ≡ under_of τ.parts k p q) (u : t.d ≤ k.d + 65535) (v : t.d2 ≤ k.d2 + 65535) where
    -- the stacks of two code rows
    pub stacks_ask : (x y : ℕ) → x < l → y < r → Asks t x y
    stacks_ask x y f g =
        let rl = R.left in
        let rr = R.right in
        let a : get_or τ.parts (p + 8) 0 + k.d ≤ k.d + 65535 = rw e at u in
        let b : get_or τ.parts (q + 8) 0 + k.d2 ≤ k.d2 + 65535 = rw e at v in
        rw e (
          omega arith,
          tabled_low τ args x y T (omega arith) (omega arith),
          record { left = omega arith; right = omega arith; envs = R.envs; env = R.env; env2 = R.env2 },
          spare_low k.m l r n x y S (omega arith) (omega arith),
        )

    -- their registers
    pub files_ask : 0 < l → 0 < r → (big t.m ≡ big k.m) × Tabled τ args t.m l r × PartRooms E t l r × Spare t.m l r n
    files_ask f g =
        let rl = R.left in
        let rr = R.right in
        let a : get_or τ.parts (p + 8) 0 + k.d ≤ k.d + 65535 = rw e at u in
        let b : get_or τ.parts (q + 8) 0 + k.d2 ≤ k.d2 + 65535 = rw e at v in
        rw e (refl, T, record { left = omega arith; right = omega arith; left_row = f; right_row = g; envs = R.envs; env = R.env; env2 = R.env2 }, S)

pub span_in : (file : Bool) (p q n : ℕ) {s : Span} → s ≡ span_of file p q n → p ≤ 65535 → q ≤ 65535 → n ≤ 65535 → SpanIn s
span_in file p q n e a b c = rw e (record { few = c; left = omega arith; right = omega arith })

-- ---- what it comes to
module _ (τ : RowTable) (args E : List ℕ) (k : Context) where
  -- as code compares in context t
  abbrev fit_in : Context → ℕ → ℕ → Bool
  fit_in t x y = fit_values τ (args_of τ args t.m) (shifted E t.env t.by) t.d x (shifted E t.env2 0) t.d2 y

  abbrev fit_parts_in : Context → Span → ℕ → ℕ → Bool
  fit_parts_in t s l r = fit_parts τ (args_of τ args t.m) (shifted E t.env t.by) t.d s.file l s.p (shifted E t.env2 0) t.d2 r s.q s.n

  abbrev same_stacks_in : Context → ℕ → ℕ → Bool
  same_stacks_in t x y = same_stacks τ (args_of τ args t.m) (shifted E t.env t.by) t.d x (shifted E t.env2 0) t.d2 y

  abbrev on_pair_in : ℕ → ℕ → Option Pair → Bool
  on_pair_in l r p = on_pair τ (args_of τ args k.m) (shifted E k.env k.by) k.d (shifted E k.env2 0) k.d2 l r p

  given_is : (x y : ℕ) {t : Context} {o : Bool} → t ≡ given_of E k → o ≡ fit_in t x y → o ≡ fit_values τ [] (lift k.d) 0 x (shifted E k.env2 0) k.d2 y
  given_is x y {t} {o} e f = (rw e at f) ∙ rw (no_args τ args 0 refl, shifted_now E k.d) refl

  pub rows_are : (f : Source) (x y : ℕ) {t : Context} {o : Bool} → t ≡ source_of E k f → o ≡ fit_in t x y → o ≡ fit_rows τ (args_of τ args k.m) (shifted E k.env k.by) k.d (shifted E k.env2 0) k.d2 f x y
  rows_are Own x y e f = rw e at f
  rows_are Given x y e f = given_is x y e f

  pub inside_is : (l r : ℕ) (b : Within) (x y : ℕ) {t : Context} {o : Bool} → t ≡ inside_of E k b → o ≡ fit_in t x y → o ≡ on_pair_in l r (Some (Inside b x y))
  inside_is l r Argument x y e f = given_is x y e f
  inside_is l r Package x y e f =
      let q : 1 + k.d ≡ suc k.d = omega arith in
      let q2 : 1 + k.d2 ≡ suc k.d2 = omega arith in
      (rw e at f) ∙ rw (q, q2) refl

  pub tuples_are : (l r p q n : ℕ) {s : Span} {o : Bool} → s ≡ span_of false p q n → o ≡ fit_parts_in k s l r → o ≡ on_pair_in l r (Some (Tuples p q n))
  tuples_are l r p q n e f = rw e at f

  module _ (l r x p y q : ℕ) {t : Context} {v : Bool} (e : t ≡ under_of τ.parts k p q) (f : v ≡ same_stacks_in t x y) where
    pub codes_are : {s : Span} {o : Bool} → v ≡ true → s ≡ span_of true p q 8 → o ≡ fit_parts_in t s l r → o ≡ on_pair_in l r (Some (Codes x p y q))
    codes_are g h i = both_same g (rw e at f) (rw (h, e) at i)

    pub codes_not : v ≡ false → false ≡ on_pair_in l r (Some (Codes x p y q))
    codes_not g = one_differs _ g (rw e at f)
