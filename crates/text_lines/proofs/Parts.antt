-- Laws of a text's parts and lines: what a loop that goes from one to the next by its end needs.
-- Throughout, e is the end that `part_end` gives for the part that starts at `at`.
-- Assumes nothing.
use mathlib.Core.Path.{◌≡◌, refl, ap, sym, ◌∙◌}
use mathlib.Core.Bool.{Bool, true, false, cond}
use mathlib.Core.List.{List, [], ◌∷◌, map}
use Prim.Native.Nat.{ℕ, zero, suc, ◌+◌, ◌-◌, ◌<◌, ◌≤◌, zero-le, suc-le-suc}
use native.Mathlib.Omega.{arith}
use native.Mathlib.Nat.{not-suc-le-zero, le_refl}
use native.Mathlib.Numerals.{add-one}
use lib.Dec.{eqb, ltb}
use lib.ListN.{length, get_or, take, drop, drop_of_length-le, length-drop}
use lib.Seq.{drop-cons, drop-drop, take_all, take-nil}
use borrow.Author.Tests.{eq-eqb, ne_eqb, ltb-true, ltb-false}
use Rattle.text.specs.Bytes.{split, Line, ended, unended, lines_from, lines_of}
use Rattle.text_lines.specs.Parts.{first_of, first_part, contents, line_at, NextLine}

abbrev pub others_of : List (List ℕ) → List (List ℕ)
others_of [] = []
others_of (p ∷ ps) = ps

module _ (c : ℕ) where
  -- there is always a first part
  pub split_is : (s : List ℕ) → split c s ≡ first_part c s ∷ others_of (split c s)
  unfolding first_part split
  split_is [] = refl
  split_is (b ∷ s) = go (split_is s) (eqb b c) refl
    where
      go : split c s ≡ first_part c s ∷ others_of (split c s) → (t : Bool) → eqb b c ≡ t → split c (b ∷ s) ≡ first_part c (b ∷ s) ∷ others_of (split c (b ∷ s))
      go h true e = simp e
      go h false e = rw (h, e)

  -- the first part ends before a byte c, and goes on past any other
  pub split_at : (b : ℕ) (s : List ℕ) → eqb b c ≡ true → split c (b ∷ s) ≡ [] ∷ split c s
  unfolding split
  split_at b s e = simp e

  pub split_past : (b : ℕ) (s : List ℕ) → eqb b c ≡ false → split c (b ∷ s) ≡ (b ∷ first_part c s) ∷ others_of (split c s)
  unfolding split
  split_past b s e = rw (split_is s, e)

  pub first_at : (b : ℕ) (s : List ℕ) → eqb b c ≡ true → first_part c (b ∷ s) ≡ []
  unfolding first_part
  first_at b s e = ap first_of (split_at b s e)

  pub first_past : (b : ℕ) (s : List ℕ) → eqb b c ≡ false → first_part c (b ∷ s) ≡ b ∷ first_part c s
  unfolding first_part
  first_past b s e = ap first_of (split_past b s e)

  pub first_none : first_part c [] ≡ []
  unfolding first_part split
  first_none = refl

  -- the first part's length cuts it off
  pub cut : (s : List ℕ) → take (length (first_part c s)) s ≡ first_part c s
  cut [] = simp first_none
  cut (b ∷ s) = go (cut s) (eqb b c) refl
    where
      go : take (length (first_part c s)) s ≡ first_part c s → (t : Bool) → eqb b c ≡ t → take (length (first_part c (b ∷ s))) (b ∷ s) ≡ first_part c (b ∷ s)
      go h true e = simp (first_at b s e)
      go h false e = simp (first_past b s e, h)

  pub within : (s : List ℕ) → length (first_part c s) ≤ length s
  within [] = simp first_none zero-le
  within (b ∷ s) = go (within s) (eqb b c) refl
    where
      go : length (first_part c s) ≤ length s → (t : Bool) → eqb b c ≡ t → length (first_part c (b ∷ s)) ≤ suc (length s)
      go h true e = simp (first_at b s e) zero-le
      go h false e = simp (first_past b s e) (suc-le-suc h)

  -- past it and its c stand the others; with no c it is the only one
  pub more : (s : List ℕ) → length (first_part c s) < length s → split c s ≡ first_part c s ∷ split c (drop (suc (length (first_part c s))) s)
  more [] h = absurd (not-suc-le-zero h)
  more (b ∷ s) h = go (more s) (eqb b c) refl
    where
      go : (length (first_part c s) < length s → split c s ≡ first_part c s ∷ split c (drop (suc (length (first_part c s))) s)) → (t : Bool) → eqb b c ≡ t → split c (b ∷ s) ≡ first_part c (b ∷ s) ∷ split c (drop (length (first_part c (b ∷ s))) s)
      go r true e = simp (split_at b s e, first_at b s e)
      go r false e =
          let q : length (first_part c s) < length s = omega (arith, ap length (first_past b s e)) in
          simp (split_past b s e, first_past b s e) (ap (λ (ps : List (List ℕ)). (b ∷ first_part c s) ∷ others_of ps) (r q))

  alone : (s : List ℕ) → length s ≤ length (first_part c s) → others_of (split c s) ≡ []
  unfolding split
  alone [] h = refl
  alone (b ∷ s) h = go (alone s) (eqb b c) refl
    where
      go : (length s ≤ length (first_part c s) → others_of (split c s) ≡ []) → (t : Bool) → eqb b c ≡ t → others_of (split c (b ∷ s)) ≡ []
      go r true e = let q = ap length (first_at b s e) in absurd (omega arith)
      go r false e =
          let q : length s ≤ length (first_part c s) = omega (arith, ap length (first_past b s e)) in
          ap others_of (split_past b s e) ∙ r q

  pub only : (s : List ℕ) → length s ≤ length (first_part c s) → split c s ≡ s ∷ []
  only s h =
      let f : first_part c s ≡ s = sym (cut s) ∙ take_all (length (first_part c s)) s h in
      split_is s ∙ ap (λ (ps : List (List ℕ)). first_part c s ∷ ps) (alone s h) ∙ ap (λ (p : List ℕ). p ∷ []) f

  -- ---- from a place on
  module _ (s : List ℕ) (at : ℕ) where
    pub first_end : length s ≤ at → first_part c (drop at s) ≡ []
    first_end h = ap (first_part c) (drop_of_length-le s h) ∙ first_none

    pub first_here : at < length s → get_or s at 0 ≡ c → first_part c (drop at s) ≡ []
    first_here h e = ap (first_part c) (drop-cons s at 0 h) ∙ first_at (get_or s at 0) (drop (suc at) s) (eq-eqb (get_or s at 0) c e)

    pub first_on : at < length s → (get_or s at 0 ≡ c → ⊥) → length (first_part c (drop at s)) ≡ suc (length (first_part c (drop (at + 1) s)))
    first_on h e =
        ap (λ (l : List ℕ). length (first_part c l)) (drop-cons s at 0 h)
        ∙ ap length (first_past (get_or s at 0) (drop (suc at) s) (ne_eqb (get_or s at 0) c e))
        ∙ ap (λ (n : ℕ). suc (length (first_part c (drop n s)))) (sym (add-one at))

    module _ (e : ℕ) (is : e ≡ at + length (first_part c (drop at s))) where
      pub end_from_lem : at ≤ e
      end_from_lem = omega arith

      pub end_within : at ≤ length s → e ≤ length s
      end_within h = omega (arith, within (drop at s), length-drop at s)

      -- the part, as `&s[at..e]` has it
      pub part_is : take (e - at) (drop at s) ≡ first_part c (drop at s)
      part_is =
          let q : e - at ≡ length (first_part c (drop at s)) = omega arith in
          ap (λ (m : ℕ). take m (drop at s)) q ∙ cut (drop at s)

      -- the part and the others: some if it ends before the end, else none
      pub split_part : split c (drop at s) ≡ take (e - at) (drop at s) ∷ others_of (split c (drop at s))
      split_part = split_is (drop at s) ∙ ap (λ (p : List ℕ). p ∷ others_of (split c (drop at s))) (sym part_is)

      pub split_more : e < length s → split c (drop at s) ≡ take (e - at) (drop at s) ∷ split c (drop (e + 1) s)
      split_more h =
          let n : ℕ = length (first_part c (drop at s)) in
          let q : n < length (drop at s) = omega (arith, length-drop at s) in
          let k : at + suc n ≡ e + 1 = omega arith in
          more (drop at s) q
          ∙ ap (λ (l : List ℕ). first_part c (drop at s) ∷ split c l) (drop-drop (suc n) at s ∙ ap (λ (m : ℕ). drop m s) k)
          ∙ ap (λ (p : List ℕ). p ∷ split c (drop (e + 1) s)) (sym part_is)

      pub split_last : length s ≤ e → split c (drop at s) ≡ take (e - at) (drop at s) ∷ []
      split_last h =
          let q : length (drop at s) ≤ length (first_part c (drop at s)) = omega (arith, length-drop at s) in
          let k : length (drop at s) ≤ e - at = omega (arith, length-drop at s) in
          only (drop at s) q ∙ ap (λ (p : List ℕ). p ∷ []) (sym (take_all (e - at) (drop at s) k))

-- ---- lines
from_cons : (p : List ℕ) (s : List ℕ) → lines_from (p ∷ split 10 s) ≡ ended p ∷ lines_from (split 10 s)
unfolding lines_from
from_cons p s = rw (split_is 10 s)

from_last : (p : List ℕ) → 0 < length p → lines_from (p ∷ []) ≡ unended p ∷ []
unfolding lines_from
from_last [] h = absurd (not-suc-le-zero h)
from_last (b ∷ p) h = refl

pub lines_none : (text : List ℕ) (at : ℕ) → length text ≤ at → lines_of (drop at text) ≡ []
unfolding lines_of lines_from split
lines_none text at h = ap lines_of (drop_of_length-le text h)

module _ (text : List ℕ) (at : ℕ) where
  module _ (e : ℕ) (is : e ≡ at + length (first_part 10 (drop at text))) where
    pub line_ended : e < length text → lines_of (drop at text) ≡ ended (take (e - at) (drop at text)) ∷ lines_of (drop (e + 1) text)
    unfolding lines_of
    line_ended h = ap lines_from (split_more 10 text at e is h) ∙ from_cons (take (e - at) (drop at text)) (drop (e + 1) text)

    pub line_unended : at < length text → length text ≤ e → lines_of (drop at text) ≡ unended (take (e - at) (drop at text)) ∷ []
    unfolding lines_of
    line_unended a h =
        let k : length (drop at text) ≤ e - at = omega (arith, length-drop at text) in
        let q : 0 < length (take (e - at) (drop at text)) = omega (arith, ap length (take_all (e - at) (drop at text) k), length-drop at text) in
        ap lines_from (split_last 10 text at e is h) ∙ from_last (take (e - at) (drop at text)) q

    pub line_is : at < length text → lines_of (drop at text) ≡ cond (ltb e (length text)) (ended (take (e - at) (drop at text))) (unended (take (e - at) (drop at text))) ∷ lines_of (drop (e + 1) text)
    line_is a = go (ltb e (length text)) refl
      where
        go : (t : Bool) → ltb e (length text) ≡ t → lines_of (drop at text) ≡ cond t (ended (take (e - at) (drop at text))) (unended (take (e - at) (drop at text))) ∷ lines_of (drop (e + 1) text)
        go true q = line_ended (ltb-true e (length text) q)
        go false q =
            let le : length text ≤ e = ltb-false e (length text) q in
            let k : length text ≤ e + 1 = omega arith in
            line_unended a le ∙ ap (λ (ls : List Line). unended (take (e - at) (drop at text)) ∷ ls) (sym (lines_none text (e + 1) k))

    pub next_ended : e < length text → NextLine text at (e + 1)
    next_ended h =
        let q : e + 1 ≤ length text = omega arith in
        record { within = q; moves = λ a. omega arith; others = sym (ap (drop 1) (line_ended h)) }

    pub next_last : length text ≤ e → NextLine text at (length text)
    next_last h = record { within = le_refl (length text); moves = λ a. a; others = lines_none text (length text) (le_refl (length text)) ∙ go (ltb at (length text)) refl }
      where
        go : (t : Bool) → ltb at (length text) ≡ t → [] ≡ drop 1 (lines_of (drop at text))
        go true q = sym (ap (drop 1) (line_unended (ltb-true at (length text) q) h))
        go false q = sym (ap (drop 1) (lines_none text at (ltb-false at (length text) q)))

    some_line : at < length text → 0 < length (lines_of (drop at text))
    some_line a = omega (arith, ap length (line_is a))

    -- the contents of the line at `at`, if there is one
    here : at ≤ length text → take (e - at) (drop at text) ≡ get_or (map contents (lines_of (drop at text))) 0 []
    unfolding contents
    here a = go (ltb at (length text)) (ltb e (length text)) refl refl
      where
        go : (t u : Bool) → ltb at (length text) ≡ t → ltb e (length text) ≡ u → take (e - at) (drop at text) ≡ get_or (map contents (lines_of (drop at text))) 0 []
        go t true q w = simp (line_ended (ltb-true e (length text) w))
        go true false q w = simp (line_unended (ltb-true at (length text) q) (ltb-false e (length text) w))
        go false false q w =
            let h : length text ≤ at = ltb-false at (length text) q in
            simp (drop_of_length-le text h, take-nil, lines_none [] 0 zero-le)

pub one_more_lem : (text : List ℕ) (at r : ℕ) → at < length text → NextLine text at r → length (lines_of (drop at text)) ≡ suc (length (lines_of (drop r text)))
one_more_lem text at r a n =
    omega (arith, some_line text at (at + length (first_part 10 (drop at text))) refl a, ap length n.others, length-drop 1 (lines_of (drop at text)))

from_there : (ls : List Line) (n : ℕ) → get_or (map contents ls) n [] ≡ get_or (map contents (drop n ls)) 0 []
from_there ls zero = refl
from_there [] (suc n) = refl
from_there (l ∷ ls) (suc n) = from_there ls n

pub line_here : (text : List ℕ) (n at e : ℕ) → at ≤ length text → lines_of (drop at text) ≡ drop n (lines_of text) → e ≡ at + length (first_part 10 (drop at text)) → take (e - at) (drop at text) ≡ line_at text n
unfolding line_at
line_here text n at e a h is =
    here text at e is a ∙ ap (λ (ls : List Line). get_or (map contents ls) 0 []) h ∙ sym (from_there (lines_of text) n)
