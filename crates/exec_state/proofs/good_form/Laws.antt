-- Laws of the walk over the heap, of the marks that it makes, and of words that are tested by them.
use mathlib.Core.Path.{◌≡◌, refl, ap, ap₂, sym, ◌∙◌, subst}
use Rattle.std.specs.Prelude.{Option}
use mathlib.Core.Bool.{Bool, true, false, ◌&&◌, cond}
use mathlib.Core.List.{List, [], ◌∷◌, ◌++◌, append-nil}
use Prim.Native.Nat.{ℕ, zero, suc, ◌+◌, ◌-◌, ◌<◌, ◌≤◌}
use native.Mathlib.Nat.{not-suc-le-zero, le_of_suc-le-suc}
use native.Mathlib.Omega.{arith}
use lib.Dec.{leb, ltb, eqb}
use lib.ListN.{length, get_or, take, set}
use borrow.Author.Tests.{leb-true, le-leb, lt-leb, eq-eqb, ne_eqb}
use Rattle.exec.specs.Machine.{Word, Memory, at, State, Bodies, flat}
use Rattle.exec.specs.Run.{words_from, tuple_length, end_to_end, starts_at, good_word, good_words, in_use, good_form, long_enough}
use Rattle.exec_machine.specs.declared.Place.{Place}
use Rattle.exec_machine.specs.Step.{state_of}
use Rattle.exec_state.specs.good_form.Marks.{in_limits, Few, mark_of, left_after, marks_from, good_by, all_good_by}

-- ---- one test after another
pub and_is : (c a b : Bool) {v : Bool} → a ≡ c → v ≡ (c && b) → v ≡ (a && b)
and_is c a b e h = h ∙ ap (λ (x : Bool). x && b) (sym e)

-- ---- one word
abbrev word : ℕ → ℕ → Word
word k n = record { kind = k; number = n }

pub no_length : (k n : ℕ) → (k ≡ 0 → ⊥) → 16 < tuple_length (word k n)
unfolding tuple_length
no_length k n h = rw (ne_eqb k 0 h) (omega arith)

pub too_long : (k n : ℕ) → 16 < n → 16 < tuple_length (word k n)
unfolding tuple_length
too_long k n h = rw (lt-leb n 16 h) (pick (eqb k 0))
  where
    pick : (b : Bool) → 16 < cond (b && false) n 17
    pick true = omega arith
    pick false = omega arith

pub its_length : (k n : ℕ) → k ≡ 0 → n ≤ 16 → n ≡ tuple_length (word k n)
unfolding tuple_length
its_length k n e h = simp (eq-eqb k 0 e, le-leb n 16 h)

pub at_start : (k : ℕ) (w : Word) (o : Option ℕ) → k ≡ 0 → Few (tuple_length w) o → Few (left_after k w) o
unfolding left_after
at_start k w o e h = subst (λ (j : ℕ). Few (left_after j w) o) (sym e) h

pub within : (k : ℕ) (w : Word) → (k ≡ 0 → ⊥) → k - 1 ≡ left_after k w
unfolding left_after
within zero w h = absurd (h refl)
within (suc k) w h = omega arith

pub marked : (k : ℕ) → eqb k 0 ≡ mark_of k
unfolding mark_of
marked zero = refl
marked (suc k) = ne_eqb (suc k) 0 (λ e. omega arith)

-- ---- the walk
-- the walk is before word i of those used, with k components left; what it found so far is in `starts`
pub record Marking (m : Memory) (used : ℕ) (starts : List Bool) (k i : ℕ) : Type 0 where
  pub few : k ≤ 16
  pub rest : end_to_end (words_from m i (used - i)) k ≡ end_to_end (words_from m 0 used) 0
  pub marks : take i starts ++ marks_from (words_from m i (used - i)) k ≡ marks_from (words_from m 0 used) 0

-- a word of the walk, with k components left before it
walked : (w : Word) (ws : List Word) (k : ℕ) → k ≤ 16 → end_to_end (w ∷ ws) k ≡ leb (left_after k w) 16 && end_to_end ws (left_after k w)
unfolding end_to_end left_after
walked w ws zero h = refl
walked w ws (suc k) h = simp (le-leb k 16 (omega arith))

pub at_end : (k : ℕ) → eqb k 0 ≡ end_to_end [] k
unfolding end_to_end
at_end zero = refl
at_end (suc k) = ne_eqb (suc k) 0 (λ e. omega arith)

-- what the table has up to here, one entry more
more_marked : (l : List Bool) (i : ℕ) (v : Bool) (vs : List Bool) → i < length l → take (suc i) (set l i v) ++ vs ≡ take i l ++ (v ∷ vs)
more_marked [] i v vs h = absurd (not-suc-le-zero h)
more_marked (x ∷ l) zero v vs h = refl
more_marked (x ∷ l) (suc i) v vs h = ap (λ (t : List Bool). x ∷ t) (more_marked l i v vs (le_of_suc-le-suc h))

one_more_lem : (m : Memory) (i n : ℕ) → i < n → words_from m i (n - i) ≡ at m i ∷ words_from m (i + 1) (n - (i + 1))
unfolding words_from
one_more_lem m i n h =
    let q : n - i ≡ suc (n - (i + 1)) = omega arith in
    let s : suc i ≡ i + 1 = omega arith in
    ap (words_from m i) q ∙ ap (λ (j : ℕ). at m i ∷ words_from m j (n - (i + 1))) s

no_more : (m : Memory) (i n : ℕ) → n ≤ i → words_from m i (n - i) ≡ []
unfolding words_from
no_more m i n h =
    let q : n - i ≡ 0 = omega arith in
    ap (words_from m i) q

module _ (m : Memory) (used : ℕ) where
  abbrev left : ℕ → List Word
  left i = words_from m i (used - i)

  module _ (i k : ℕ) (H : Bool) (inv : end_to_end (left i) k ≡ H) where
    pub ends : used ≤ i → eqb k 0 ≡ H
    ends h = at_end k ∙ ap (λ (ws : List Word). end_to_end ws k) (sym (no_more m i used h)) ∙ inv

    module _ (h : i < used) (b : k ≤ 16) (k' : ℕ) (w : Word) (ew : w ≡ at m i) (ek : k' ≡ left_after k w) where
      next_k : left_after k (at m i) ≡ k'
      next_k = ap (left_after k) (sym ew) ∙ sym ek

      turn : leb k' 16 && end_to_end (left (i + 1)) k' ≡ H
      turn = ap (λ (j : ℕ). leb j 16 && end_to_end (left (i + 1)) j) (sym next_k) ∙ sym (walked (at m i) (left (i + 1)) k b) ∙ ap (λ (ws : List Word). end_to_end ws k) (sym (one_more_lem m i used h)) ∙ inv

      pub no_tuple : 16 < k' → false ≡ H
      no_tuple l = ap (λ (t : Bool). t && end_to_end (left (i + 1)) k') (sym (lt-leb k' 16 l)) ∙ turn

      pub goes_on : k' ≤ 16 → end_to_end (left (i + 1)) k' ≡ H
      goes_on l = ap (λ (t : Bool). t && end_to_end (left (i + 1)) k') (sym (le-leb k' 16 l)) ∙ turn

  -- the table so far, and the marks that are left
  module _ (l : List Bool) (i k : ℕ) (M : List Bool) (inv : take i l ++ marks_from (left i) k ≡ M) where
    pub all_marked : used ≤ i → i ≤ used → take used l ≡ M
    unfolding marks_from
    all_marked h g =
        let e : used ≡ i = omega arith in
        ap (λ (j : ℕ). take j l) e ∙ sym (append-nil (take i l)) ∙ ap (λ (ws : List Word). take i l ++ marks_from ws k) (sym (no_more m i used h)) ∙ inv

    pub one_marked : i < used → i < length l → (k' : ℕ) (v : Bool) (w : Word) → w ≡ at m i → k' ≡ left_after k w → v ≡ mark_of k → take (i + 1) (set l i v) ++ marks_from (left (i + 1)) k' ≡ M
    unfolding marks_from
    one_marked h g k' v w ew ek ev =
        let s : i + 1 ≡ suc i = omega arith in
        let n : k' ≡ left_after k (at m i) = ek ∙ ap (left_after k) ew in
        ap (λ (j : ℕ). take j (set l i v) ++ marks_from (left (i + 1)) k') s
        ∙ more_marked l i v (marks_from (left (i + 1)) k') g
        ∙ ap₂ (λ (x : Bool) (j : ℕ). take i l ++ (x ∷ marks_from (left (i + 1)) j)) ev n
        ∙ ap (λ (ws : List Word). take i l ++ marks_from ws k) (sym (one_more_lem m i used h))
        ∙ inv

-- the marks are the tuples' starts
pub starts_are : (ws : List Word) (k a : ℕ) → starts_at ws k a ≡ get_or (marks_from ws k) a false
unfolding starts_at marks_from mark_of left_after
starts_are [] k a = refl
starts_are (w ∷ ws) zero zero = refl
starts_are (w ∷ ws) zero (suc a) = starts_are ws (tuple_length w) a
starts_are (w ∷ ws) (suc k) zero = refl
starts_are (w ∷ ws) (suc k) (suc a) = starts_are ws k a

-- the words from i on are left, of n
module _ (M : List Bool) (m : Memory) (i n : ℕ) (G : Bool) (inv : all_good_by M (words_from m i (n - i)) ≡ G) where
  pub all_good : n ≤ i → true ≡ G
  unfolding all_good_by
  all_good h = ap (all_good_by M) (sym (no_more m i n h)) ∙ inv

  module _ (h : i < n) (w : Word) (ew : w ≡ at m i) where
    turned : good_by M w && all_good_by M (words_from m (i + 1) (n - (i + 1))) ≡ G
    unfolding all_good_by
    turned = ap (λ (v : Word). good_by M v && all_good_by M (words_from m (i + 1) (n - (i + 1)))) ew ∙ ap (all_good_by M) (sym (one_more_lem m i n h)) ∙ inv

    pub not_good : good_by M w ≡ false → false ≡ G
    not_good e = ap (λ (t : Bool). t && all_good_by M (words_from m (i + 1) (n - (i + 1)))) (sym e) ∙ turned

    pub still_good : good_by M w ≡ true → all_good_by M (words_from m (i + 1) (n - (i + 1))) ≡ G
    still_good e = ap (λ (t : Bool). t && all_good_by M (words_from m (i + 1) (n - (i + 1)))) (sym e) ∙ turned

-- ---- by the marks, as by the heap
good_is : (H : List Word) (w : Word) → good_by (marks_from H 0) w ≡ good_word H w
unfolding good_by good_word
good_is H w = rw (starts_are H 0 w.number)

all_good_is : (H ws : List Word) → all_good_by (marks_from H 0) ws ≡ good_words H ws
unfolding all_good_by good_words
all_good_is H [] = refl
all_good_is H (w ∷ ws) = ap₂ ◌&&◌ (good_is H w) (all_good_is H ws)

pub by_marks : (M : List Bool) (H ws : List Word) {r : Bool} → M ≡ marks_from H 0 → r ≡ all_good_by M ws → r ≡ good_words H ws
by_marks M H ws e h = h ∙ ap (λ (l : List Bool). all_good_by l ws) e ∙ all_good_is H ws

no : {X : Type 0} → false ≡ true → X
no e = absurd (zero_one (ap number e))
  where
    number : Bool → ℕ
    number false = 0
    number true = 1

    zero_one : ◌≡◌ {A = ℕ} 0 1 → ⊥
    zero_one h = omega arith

three_of : (a b c d e f g : Bool) → (a && b && c) ≡ true → (a && b && c && d && e && f && g) ≡ (d && e && f && g)
three_of true true true d e f g h = refl
three_of true true false d e f g h = no h
three_of true false c d e f g h = no h
three_of false b c d e f g h = no h

not_three : (a b c d e f g : Bool) → (a && b && c) ≡ false → false ≡ (a && b && c && d && e && f && g)
not_three true true true d e f g h = no (sym h)
not_three true true false d e f g h = refl
not_three true false c d e f g h = refl
not_three false b c d e f g h = refl

second_of : (a b c : Bool) → (a && b && c) ≡ true → b ≡ true
second_of true true c e = refl
second_of true false c e = no e
second_of false b c e = no e

pub use_within : (count : ℕ) (p : Place) → in_limits count p ≡ true → p.used ≤ 2048
unfolding in_limits
use_within count p e = leb-true p.used 2048 (second_of (leb p.depth 256) (leb p.used 2048) (ltb p.position count) e)

pub marks_are : (r : Bool) (x y : List Bool) → r ≡ true → cond r x [] ≡ cond r y [] → x ≡ y
marks_are true x y e h = h
marks_are false x y e h = no e

-- ---- the whole, test by test
module _ (rk rn sk sn hk hn : List ℕ) (p : Place) (P : Bodies) (count : ℕ) (ec : length (flat P) ≡ count) where
  abbrev σ : State
  σ = state_of rk rn sk sn hk hn p

  abbrev H : List Word
  H = in_use σ.heap σ.used

  abbrev Whole : Bool
  Whole = long_enough σ && good_form P σ

  pub not_long : long_enough σ ≡ false → false ≡ Whole
  not_long e = rw e

  module _ (el : long_enough σ ≡ true) where
    abbrev rest : Bool
    rest = end_to_end H 0 && good_words H (in_use σ.registers 8) && good_words H (in_use σ.stack σ.depth) && good_words H H

    pub out_of_limits : in_limits count p ≡ false → false ≡ Whole
    unfolding in_limits good_form
    out_of_limits e = rw (el, ec) (not_three (leb p.depth 256) (leb p.used 2048) (ltb p.position count) (end_to_end H 0) (good_words H (in_use σ.registers 8)) (good_words H (in_use σ.stack σ.depth)) (good_words H H) e)

    module _ (ei : in_limits count p ≡ true) where
      whole_is : Whole ≡ rest
      unfolding in_limits good_form
      whole_is = rw (el, ec) (three_of (leb p.depth 256) (leb p.used 2048) (ltb p.position count) (end_to_end H 0) (good_words H (in_use σ.registers 8)) (good_words H (in_use σ.stack σ.depth)) (good_words H H) ei)

      pub not_tuples : end_to_end H 0 ≡ false → false ≡ Whole
      not_tuples e = sym (whole_is ∙ rw e)

      module _ (ee : end_to_end H 0 ≡ true) where
        abbrev before_heap : Bool
        before_heap = good_words H (in_use σ.registers 8) && good_words H (in_use σ.stack σ.depth)

        words_are : Whole ≡ before_heap && good_words H H
        words_are = whole_is ∙ rw ee

        -- v says whether the registers and the stack are good
        module _ (v : Bool) (e : v ≡ before_heap) where
          pub bad_before : v ≡ false → v ≡ Whole
          bad_before t = t ∙ ap (λ (b : Bool). b && good_words H H) (sym t ∙ e) ∙ sym words_are

          pub and_heap : {r : Bool} → v ≡ true → r ≡ good_words H H → r ≡ Whole
          and_heap t h = h ∙ ap (λ (b : Bool). b && good_words H H) (sym t ∙ e) ∙ sym words_are
