-- The figures of a report: the mean, the smallest and the largest, and the counts, by the integers that they are of.
use Prim.Native.Nat.{ℕ, suc, ◌+◌}
use native.Mathlib.Omega.{arith}
use native.Mathlib.Nat.{le_trans}
use mathlib.Core.Path.{◌≡◌, refl, ap, sym, ◌∙◌}
use mathlib.Core.Bool.{Bool, true, false, cond}
use mathlib.Core.Option.{Option, none, some}
use mathlib.Core.List.{List, [], ◌∷◌, ◌++◌, map}
use lib.Dec.{T, leb→le, le→leb}
use lib.ListN.{length, length-append, length-map}
use lib.IntN.{ℤ, pos, negsuc, ◌+ℤ◌, +ℤ_idl, +ℤ_assoc}
use lib.Signed.{le_z, ◌≤ℤ◌, ≤ℤ_refl}
use borrow.Author.Tests.{leb-false, le-leb}
use Rattle.report.specs.Day.{values, missing, integer_of, integers_of, others_of, sum, least, greatest, Figures, no_integer, figures, figures_of, report_of}
use Rattle.report.specs.Claims.{Mean, Among, first, later, Between, FiguresHold, Adds}
use Rattle.report.proofs.Mean.{divides, remainder_small}

-- ---- the order of ℤ
le_trans_so : (a b c : ℤ) → T (le_z a b) → T (le_z b c) → T (le_z a c)
le_trans_so (pos a) (pos b) (pos c) h k = le→leb a c (le_trans (leb→le a b h) (leb→le b c k))
le_trans_so (pos a) (pos b) (negsuc c) h k = k
le_trans_so (pos a) (negsuc b) c h k = absurd h
le_trans_so (negsuc a) (pos b) (pos c) h k = tt
le_trans_so (negsuc a) (pos b) (negsuc c) h k = absurd k
le_trans_so (negsuc a) (negsuc b) (pos c) h k = tt
le_trans_so (negsuc a) (negsuc b) (negsuc c) h k = le→leb c a (le_trans (leb→le c b k) (leb→le b a h))

≤ℤ-trans : {a b c : ℤ} → a ≤ℤ b → b ≤ℤ c → a ≤ℤ c
≤ℤ-trans {a} {b} {c} h k = record { le = le_trans_so a b c h.le k.le }

test_le : (a b : ℤ) → le_z a b ≡ true → a ≤ℤ b
test_le a b e = record { le = rw e tt }

not_so : (a b : ℤ) → le_z a b ≡ false → le_z b a ≡ true
not_so (pos a) (pos b) e = let h = leb-false a b e in le-leb b a (omega arith)
not_so (pos a) (negsuc b) e = refl
not_so (negsuc a) (pos b) e = sym e
not_so (negsuc a) (negsuc b) e = let h = leb-false b a e in le-leb a b (omega arith)

test_ge : (a b : ℤ) → le_z a b ≡ false → b ≤ℤ a
test_ge a b e = test_le b a (not_so a b e)

-- ---- the smallest and the largest
-- what is among a head's list stays there with one more behind the head
put_second : {x z y : ℤ} {zs : List ℤ} → Among x (z ∷ zs) → Among x (z ∷ y ∷ zs)
put_second first = first
put_second (later m) = later (later m)

-- the best of a list, by a choice between two that is before both
record Best (Before : ℤ → ℤ → Type 0) (choose : ℤ → ℤ → ℤ) (best : ℤ → List ℤ → ℤ) : Type 0 where
  same : (z : ℤ) → Before z z
  onward : {a b c : ℤ} → Before a b → Before b c → Before a c
  left : (z y : ℤ) → Before (choose z y) z
  right : (z y : ℤ) → Before (choose z y) y
  one_of : (x z y : ℤ) (zs : List ℤ) → Among x (choose z y ∷ zs) → Among x (z ∷ y ∷ zs)
  alone : (z : ℤ) → best z [] ≡ z
  next : (z y : ℤ) (ys : List ℤ) → best z (y ∷ ys) ≡ best (choose z y) ys

-- it is one of the list, and before each of it
module _ {Before : ℤ → ℤ → Type 0} {choose : ℤ → ℤ → ℤ} {best : ℤ → List ℤ → ℤ} (k : Best Before choose best) where
  best_among : (z : ℤ) (zs : List ℤ) → Among (best z zs) (z ∷ zs)
  best_among z [] = rw (k.alone z) first
  best_among z (y ∷ ys) = rw (k.next z y ys) (k.one_of (best (choose z y) ys) z y ys (best_among (choose z y) ys))

  best_head : (z : ℤ) (zs : List ℤ) → Before (best z zs) z
  best_head z [] = rw (k.alone z) (k.same z)
  best_head z (y ∷ ys) = rw (k.next z y ys) (k.onward (best_head (choose z y) ys) (k.left z y))

  best_tail : {x : ℤ} (z : ℤ) {zs : List ℤ} → Among x zs → Before (best z zs) x
  best_tail {x = x} z (first {zs = ys}) = rw (k.next z x ys) (k.onward (best_head (choose z x) ys) (k.right z x))
  best_tail z (later {y = y} {zs = ys} m) = rw (k.next z y ys) (best_tail (choose z y) m)

  best_before : (z : ℤ) (zs : List ℤ) (x : ℤ) → Among x (z ∷ zs) → Before (best z zs) x
  best_before z zs x first = best_head z zs
  best_before z zs x (later m) = best_tail z m

smallest : Best (λ a b. a ≤ℤ b) (λ z y. cond (le_z z y) z y) least
unfolding least
smallest = record {
  same = ≤ℤ_refl;
  onward = λ h k. ≤ℤ-trans h k;
  left = λ z y. left z y (le_z z y) refl;
  right = λ z y. right z y (le_z z y) refl;
  one_of = λ x z y zs. one_of x z y zs (le_z z y);
  alone = λ z. refl;
  next = λ z y ys. refl;
}
  where
    left : (z y : ℤ) (t : Bool) → le_z z y ≡ t → cond t z y ≤ℤ z
    left z y true e = ≤ℤ_refl z
    left z y false e = test_ge z y e

    right : (z y : ℤ) (t : Bool) → le_z z y ≡ t → cond t z y ≤ℤ y
    right z y true e = test_le z y e
    right z y false e = ≤ℤ_refl y

    one_of : (x z y : ℤ) (zs : List ℤ) (t : Bool) → Among x (cond t z y ∷ zs) → Among x (z ∷ y ∷ zs)
    one_of x z y zs true m = put_second m
    one_of x z y zs false m = later m

largest : Best (λ a b. b ≤ℤ a) (λ z y. cond (le_z z y) y z) greatest
unfolding greatest
largest = record {
  same = ≤ℤ_refl;
  onward = λ h k. ≤ℤ-trans k h;
  left = λ z y. left z y (le_z z y) refl;
  right = λ z y. right z y (le_z z y) refl;
  one_of = λ x z y zs. one_of x z y zs (le_z z y);
  alone = λ z. refl;
  next = λ z y ys. refl;
}
  where
    left : (z y : ℤ) (t : Bool) → le_z z y ≡ t → z ≤ℤ cond t y z
    left z y true e = test_le z y e
    left z y false e = ≤ℤ_refl z

    right : (z y : ℤ) (t : Bool) → le_z z y ≡ t → y ≤ℤ cond t y z
    right z y true e = ≤ℤ_refl y
    right z y false e = test_ge z y e

    one_of : (x z y : ℤ) (zs : List ℤ) (t : Bool) → Among x (cond t y z ∷ zs) → Among x (z ∷ y ∷ zs)
    one_of x z y zs true m = later m
    one_of x z y zs false m = put_second m

-- ---- the counts
-- each value is there or missing
pub all_counted : {A : Type 0} (os : List (Option A)) → length (values os) + missing os ≡ length os
unfolding values missing
all_counted [] = refl
all_counted (none ∷ os) = omega (arith, all_counted os)
all_counted (some x ∷ os) = omega (arith, all_counted os)

-- ---- the claim
no_figures : {n : ℕ} {f : Figures} → ¬ (no_integer n ≡ figures f)
no_figures e = let z : ◌≡◌ {A = ℕ} 0 1 = cc in absurd (omega arith)

figures_inj : {f g : Figures} → figures f ≡ figures g → f ≡ g
figures_inj e = cc

-- what holds of figures, by the integers and the number of other stops
record Of (zs : List ℤ) (n : ℕ) (f : Figures) : Type 0 where
  mean : Mean f
  between : Between f zs
  count : f.count ≡ length zs
  others : f.others ≡ n
  total : f.total ≡ sum zs

-- where there is an integer there are figures
has_figures : (z : ℤ) (zs : List ℤ) (n : ℕ) → (f : Figures) × (figures_of (z ∷ zs) n ≡ figures f)
unfolding figures_of
has_figures z zs n = (_, refl)

-- and all of that holds of them
figures_of_lem : (zs : List ℤ) (n : ℕ) (f : Figures) → figures_of zs n ≡ figures f → Of zs n f
unfolding figures_of
figures_of_lem [] n f e = absurd (no_figures e)
figures_of_lem (z ∷ zs) n f e = rw (← (figures_inj e)) (record {
  mean = record {
    whole = divides (suc (length zs)) (sum (z ∷ zs)) (omega arith);
    small = remainder_small (suc (length zs)) (sum (z ∷ zs)) (omega arith);
  };
  between = record {
    low = best_among smallest z zs;
    high = best_among largest z zs;
    above = best_before smallest z zs;
    under = best_before largest z zs;
  };
  count = refl;
  others = refl;
  total = refl;
})

-- the figures are the mean, the bounds and the counts of the integers that stops halted with
pub figures_hold : FiguresHold
unfolding report_of integers_of others_of
figures_hold stops f e =
    let h : Of (integers_of stops) (others_of stops) f = figures_of_lem (integers_of stops) (others_of stops) f e in
    let n : length (integers_of stops) + others_of stops ≡ length stops = all_counted (map integer_of stops) ∙ length-map stops integer_of in
    (h.mean, h.between, h.count, omega (arith, n, h.count, h.others))

-- ---- of two lists
sum_append : (zs ys : List ℤ) → sum (zs ++ ys) ≡ sum zs +ℤ sum ys
unfolding sum
sum_append [] ys = sym (+ℤ_idl (sum ys))
sum_append (z ∷ zs) ys = ap (◌+ℤ◌ z) (sum_append zs ys) ∙ sym (+ℤ_assoc z (sum zs) (sum ys))

-- the figures of two lists add up to those of both one after the other
pub figures_add : (zs ys : List ℤ) (m n : ℕ) (f g : Figures) → figures_of zs m ≡ figures f → figures_of ys n ≡ figures g
    → (h : Figures) × (figures_of (zs ++ ys) (m + n) ≡ figures h) × Adds f g h
unfolding figures_of
figures_add [] ys m n f g e d = absurd (no_figures e)
figures_add (z ∷ zs) ys m n f g e d =
    let k = has_figures z (zs ++ ys) (m + n) in
    let a : Of (z ∷ zs) m f = figures_of_lem (z ∷ zs) m f e in
    let b : Of ys n g = figures_of_lem ys n g d in
    let c : Of (z ∷ (zs ++ ys)) (m + n) k.0 = figures_of_lem (z ∷ (zs ++ ys)) (m + n) k.0 k.1 in (
      k.0,
      k.1,
      record {
        count = omega (arith, a.count, b.count, c.count, length-append zs ys);
        others = omega (arith, a.others, b.others, c.others);
        total = rw (a.total, b.total) (c.total ∙ sum_append (z ∷ zs) ys);
      },
    )
