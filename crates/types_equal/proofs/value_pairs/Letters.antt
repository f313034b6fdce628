-- Laws of letters.
use mathlib.Core.Path.{◌≡◌, refl, ap, ◌∙◌}
use mathlib.Core.Bool.{Bool, true, false, beq, cond}
use mathlib.Core.List.{List, [], ◌∷◌, map}
use Prim.Native.Nat.{ℕ, zero, suc, ◌+◌, ◌-◌, ◌<◌, ◌≤◌}
use native.Mathlib.Omega.{arith}
use native.Mathlib.Numerals.{add-one}
use lib.Dec.{eqb}
use lib.ListN.{get_or}
use borrow.Author.Tests.{ne_eqb}
use Rattle.syntax.specs.Syntax.{Kind, value, stack}
use Rattle.types.specs.Equal.{same_letters}
use Rattle.tables.specs.Tables.{span, letter_of}
use Rattle.types_equal.specs.value_pairs.Pairs.{letters_from}

-- ---- letters
pub letter_same : (x y : ℕ) → beq (eqb x 0) (eqb y 0) ≡ same_letters (letter_of x ∷ []) (letter_of y ∷ [])
unfolding same_letters letter_of
letter_same zero zero = refl
letter_same zero (suc y) = rw (ne_eqb (suc y) 0 (λ z. omega arith)) refl
letter_same (suc x) zero = rw (ne_eqb (suc x) 0 (λ z. omega arith)) refl
letter_same (suc x) (suc y) = rw (ne_eqb (suc x) 0 (λ z. omega arith), ne_eqb (suc y) 0 (λ z. omega arith)) refl

letters_cons : (κ μ : Kind) (p q : List Kind) → same_letters (κ ∷ p) (μ ∷ q) ≡ cond (same_letters (κ ∷ []) (μ ∷ [])) (same_letters p q) false
unfolding same_letters
letters_cons value value p q = refl
letters_cons value stack p q = refl
letters_cons stack value p q = refl
letters_cons stack stack p q = refl

module _ (ps : List ℕ) where
  -- as many letters as others, or not the same
  pub letters_unlike : (p q a b : ℕ) → (a ≡ b → ⊥) → false ≡ same_letters (letters_from ps p a) (letters_from ps q b)
  unfolding same_letters letters_from span
  letters_unlike p q zero zero h = absurd (h refl)
  letters_unlike p q zero (suc b) h = refl
  letters_unlike p q (suc a) zero h = refl
  letters_unlike p q (suc a) (suc b) h =
      rw (letters_cons (letter_of (get_or ps p 0)) (letter_of (get_or ps q 0)) (map letter_of (span ps (suc p) a)) (map letter_of (span ps (suc q) b)), ← letters_unlike (suc p) (suc q) a b (λ e. h (ap suc e)))
      (go (same_letters (letter_of (get_or ps p 0) ∷ []) (letter_of (get_or ps q 0) ∷ [])))
    where
      go : (c : Bool) → false ≡ cond c false false
      go true = refl
      go false = refl

  letters_step : (p q n : ℕ) → 0 < n
      → same_letters (letters_from ps p n) (letters_from ps q n) ≡ cond (same_letters (letter_of (get_or ps p 0) ∷ []) (letter_of (get_or ps q 0) ∷ [])) (same_letters (letters_from ps (p + 1) (n - 1)) (letters_from ps (q + 1) (n - 1))) false
  unfolding letters_from span
  letters_step p q zero h = absurd (omega arith)
  letters_step p q (suc a) h =
      let x : suc a - 1 ≡ a = omega arith in
      rw (x, add-one p, add-one q) (letters_cons (letter_of (get_or ps p 0)) (letter_of (get_or ps q 0)) (map letter_of (span ps (suc p) a)) (map letter_of (span ps (suc q) a)))

  -- the first i of n letters are the same: what is left says whether all are
  abbrev pub LettersLeft : ℕ → ℕ → ℕ → ℕ → Type 0
  LettersLeft p q n i = same_letters (letters_from ps (p + i) (n - i)) (letters_from ps (q + i) (n - i)) ≡ same_letters (letters_from ps p n) (letters_from ps q n)

  module _ (p q n : ℕ) where
    pub left_first : LettersLeft p q n 0
    left_first =
        let a : p + 0 ≡ p = omega arith in
        let b : q + 0 ≡ q = omega arith in
        let c : n - 0 ≡ n = omega arith in
        rw (a, b, c) refl

    module _ (i x y : ℕ) {v : Bool} (k : i < n) (e : x ≡ get_or ps (p + i) 0) (f : y ≡ get_or ps (q + i) 0) (g : v ≡ same_letters (letter_of x ∷ []) (letter_of y ∷ [])) (l : LettersLeft p q n i) where
      pub left_next : v ≡ true → LettersLeft p q n (i + 1)
      left_next t =
          let a : p + (i + 1) ≡ (p + i) + 1 = omega arith in
          let b : q + (i + 1) ≡ (q + i) + 1 = omega arith in
          let c : n - (i + 1) ≡ (n - i) - 1 = omega arith in
          rw (a, b, c) ((rw (letters_step (p + i) (q + i) (n - i) (omega arith), ← e, ← f, ← g, t) refl) ∙ l)

      pub left_off : v ≡ false → false ≡ same_letters (letters_from ps p n) (letters_from ps q n)
      left_off t = (rw (letters_step (p + i) (q + i) (n - i) (omega arith), ← e, ← f, ← g, t) refl) ∙ l

    pub left_last : (i : ℕ) → n ≤ i → LettersLeft p q n i → true ≡ same_letters (letters_from ps p n) (letters_from ps q n)
    unfolding same_letters letters_from span
    left_last i h l = let e : n - i ≡ 0 = omega arith in (rw e at l)
