-- Laws of a reader's places: the line at a place, the place after it, and that reading from the start gives line after line.
-- Assumes nothing.
use mathlib.Core.Path.{◌≡◌, refl, ap, sym, subst, ◌∙◌}
use mathlib.Core.Bool.{Bool, true, false}
use mathlib.Core.List.{List, [], ◌∷◌, ◌++◌, map}
use Prim.Native.Nat.{ℕ, zero, suc, ◌+◌, ◌-◌, ◌<◌, ◌≤◌, zero-le}
use native.Mathlib.Omega.{arith}
use native.Mathlib.Nat.{le_of_lt}
use native.Mathlib.Numerals.{add-one}
use denote.Ref.{Bor}
use lib.Dec.{ltb, leb}
use lib.ListN.{length, get_or, set, take, drop, length-drop, length-set, length-map}
use lib.Seq.{drop-drop, take_all, take-nil, take-suc, take-suc-set, take-take, drop-set-lt, set_out, length-take-le}
use borrow.Author.Tests.{lt-ltb, le-ltb, le-leb, lt-leb, ltb-true, ltb-false, leb-true, leb-false}
use Rattle.text.specs.Bytes.{Line, lines_of}
use Rattle.text_lines.specs.Parts.{first_part, contents, line_at, NextLine}
use Rattle.text_lines.proofs.Parts.{end_within, line_is, lines_none, line_here, next_ended, next_last}
use Rattle.text_reader.specs.Reading.{end_from, past_lf, line_from, next_from, ended_at, place_after, all_lines, ReadAll}

pub ended_is : (text : List ℕ) (at : ℕ) → leb (length text) at ≡ ended_at text at
unfolding ended_at end_from first_part
ended_is text at = go (ltb at (length text)) refl
  where
    go : (t : Bool) → ltb at (length text) ≡ t → leb (length text) at ≡ ended_at text at
    go true q = simp (lt-leb (length text) at (ltb-true at (length text) q), line_is text at (end_from text at) refl (ltb-true at (length text) q))
    go false q = simp (le-leb (length text) at (ltb-false at (length text) q), lines_none text at (ltb-false at (length text) q))

pub past_more : (text : List ℕ) (e : ℕ) → e < length text → e + 1 ≡ past_lf text e
unfolding past_lf
past_more text e h = simp (lt-ltb e (length text) h)

pub past_end : (text : List ℕ) (e : ℕ) → length text ≤ e → e ≡ past_lf text e
unfolding past_lf
past_end text e h = simp (le-ltb e (length text) h)

-- the lesser of two numbers
lesser_first : (m n k : ℕ) → k ≡ m - (m - n) → m ≤ n → k ≡ m
lesser_first m n k e h = omega arith

lesser_second : (m n k : ℕ) → k ≡ m - (m - n) → n ≤ m → k ≡ n
lesser_second m n k e h = omega arith

-- a part with both bounds brought within the text is the part
module _ (s : List ℕ) (at e : ℕ) where
  within : (x : Bool) → ltb e (length s) ≡ x → (to : ℕ) → to ≡ e - (e - length s) → take (to - at) (drop at s) ≡ take (e - at) (drop at s)
  within true p to t =
      let q = lesser_first e (length s) to t (le_of_lt (ltb-true e (length s) p)) in
      ap (λ (n : ℕ). take (n - at) (drop at s)) q
  within false p to t =
      let q = lesser_second e (length s) to t (ltb-false e (length s) p) in
      let a = ltb-false e (length s) p in
      let u : length (drop at s) ≤ to - at = omega (arith, length-drop at s) in
      let v : length (drop at s) ≤ e - at = omega (arith, length-drop at s) in
      take_all (to - at) (drop at s) u ∙ sym (take_all (e - at) (drop at s) v)

  pub part_is : (to from : ℕ) → to ≡ e - (e - length s) → from ≡ at - (at - to) → take (to - from) (drop from s) ≡ take (e - at) (drop at s)
  part_is to from t f = go (ltb at to) refl ∙ within (ltb e (length s)) refl to t
    where
      go : (y : Bool) → ltb at to ≡ y → take (to - from) (drop from s) ≡ take (to - at) (drop at s)
      go true p = ap (λ (n : ℕ). take (to - n) (drop n s)) (lesser_first at to from f (le_of_lt (ltb-true at to p)))
      go false p =
          let a = ltb-false at to p in
          let q = lesser_second at to from f a in
          let k : to - from ≡ 0 = omega arith in
          let m : to - at ≡ 0 = omega arith in
          ap (λ (n : ℕ). take n (drop from s)) k ∙ sym (ap (λ (n : ℕ). take n (drop at s)) m)

-- the line at `at`, by its end, and the place after it
pub line_from_lem : (text : List ℕ) (at e : ℕ) → e ≡ at + length (first_part 10 (drop at text)) → take (e - at) (drop at text) ≡ line_from text at
unfolding line_from
line_from_lem text at e is =
    let q : e - at ≡ 0 + length (first_part 10 (drop at text)) = omega arith in
    let k : e - at - 0 ≡ e - at = omega arith in
    sym (ap (λ (n : ℕ). take n (drop at text)) k) ∙ line_here (drop at text) 0 0 (e - at) zero-le refl q

pub next_from_lem : (text : List ℕ) (at e : ℕ) → e ≡ at + length (first_part 10 (drop at text)) → past_lf text e ≡ next_from text at
unfolding next_from end_from
next_from_lem text at e is = ap (past_lf text) is

-- ---- from line to line
-- a reader in the text stays in it and moves on, and past the line at `at` stand the others
pub next_is : (text : List ℕ) (at : ℕ) → at ≤ length text → NextLine text at (next_from text at)
unfolding next_from end_from
next_is text at a = go (ltb (end_from text at) (length text)) refl
  where
    go : (t : Bool) → ltb (end_from text at) (length text) ≡ t → NextLine text at (next_from text at)
    go true q =
        let h = ltb-true (end_from text at) (length text) q in
        subst (NextLine text at) (past_more text (end_from text at) h) (next_ended text at (end_from text at) refl h)
    go false q =
        let h = ltb-false (end_from text at) (length text) q in
        let w = end_within 10 text at (end_from text at) refl a in
        let k : length text ≡ end_from text at = omega arith in
        subst (NextLine text at) (k ∙ past_end text (end_from text at) h) (next_last text at (end_from text at) refl h)

-- the same of any place
pub others_from : (text : List ℕ) (at : ℕ) → lines_of (drop (next_from text at) text) ≡ drop 1 (lines_of (drop at text))
unfolding next_from end_from
others_from text at = go (leb at (length text)) refl
  where
    go : (t : Bool) → leb at (length text) ≡ t → lines_of (drop (next_from text at) text) ≡ drop 1 (lines_of (drop at text))
    go true q = (next_is text at (leb-true at (length text) q)).others
    go false q =
        let h = leb-false at (length text) q in
        let k : length text ≤ end_from text at = omega arith in
        let m : length text ≤ next_from text at = omega (arith, past_end text (end_from text at) k) in
        lines_none text (next_from text at) m ∙ sym (ap (drop 1) (lines_none text at (le_of_lt h)))

from_there : (ls : List Line) (n : ℕ) → get_or (map contents (drop n ls)) 0 [] ≡ get_or (map contents ls) n []
from_there ls zero = refl
from_there [] (suc n) = refl
from_there (l ∷ ls) (suc n) = from_there ls n

-- a reader that has read n lines from the start hands back line n
pub reads_from : (text : List ℕ) (n : ℕ) → lines_of (drop (place_after text n) text) ≡ drop n (lines_of text)
unfolding place_after
reads_from text zero = refl
reads_from text (suc n) = others_from text (place_after text n) ∙ ap (drop 1) (reads_from text n) ∙ drop-drop 1 n (lines_of text) ∙ ap (λ (k : ℕ). drop k (lines_of text)) (add-one n)

pub line_there : (text : List ℕ) (at n : ℕ) → lines_of (drop at text) ≡ drop n (lines_of text) → line_from text at ≡ line_at text n
unfolding line_from line_at
line_there text at n h = ap (λ (ls : List Line). get_or (map contents ls) 0 []) h ∙ from_there (lines_of text) n

pub reads_line : (text : List ℕ) (n : ℕ) → line_from text (place_after text n) ≡ line_at text n
reads_line text n = line_there text (place_after text n) n (reads_from text n)

-- ---- all lines
abbrev pub Parts : Type 0
Parts = List (Bor (List ℕ))

-- a reader at `at` has read n lines, and `after` holds those that there was room for
pub record ReadTo (text : List ℕ) (before after : Parts) (at n : ℕ) : Type 0 where
  pub from : n ≤ at
  pub within : at ≤ length text
  pub long : length after ≡ length before
  pub stands : lines_of (drop at text) ≡ drop n (lines_of text)
  pub some : n ≤ length (all_lines text)
  pub held : map (λ x. x.now) (take n after) ≡ take (length before) (take n (all_lines text))
  pub others : drop n after ≡ drop n before

map_snoc : (ps : Parts) (p : Bor (List ℕ)) → map (λ x. x.now) (ps ++ (p ∷ [])) ≡ map (λ x. x.now) ps ++ (p.now ∷ [])
map_snoc [] p = refl
map_snoc (x ∷ ps) p = ap (λ (ls : List (List ℕ)). x.now ∷ ls) (map_snoc ps p)

pub all_long : (text : List ℕ) → length (all_lines text) ≡ length (lines_of text)
unfolding all_lines
all_long text = length-map (lines_of text) contents

module _ (text : List ℕ) (before : Parts) where
  pub none_read : ReadTo text before before 0 0
  none_read = record { from = zero-le; within = zero-le; long = refl; stands = refl; some = zero-le; held = sym (take-nil (length before)); others = refl }

  line_in_lem : (n : ℕ) → line_at text n ≡ get_or (all_lines text) n []
  unfolding line_at all_lines
  line_in_lem n = refl

  module _ (after : Parts) (at n : ℕ) (i : ReadTo text before after at n) where
    more_there : at < length text → n < length (all_lines text)
    more_there h =
        let q = ap length (line_is text at (at + length (first_part 10 (drop at text))) refl h) in
        omega (arith, ap length i.stands, length-drop n (lines_of text), all_long text)

    -- line n is put in place n, if there is one
    put_there : (line : Bor (List ℕ)) → n < length (all_lines text) → line.now ≡ get_or (all_lines text) n [] → map (λ x. x.now) (take (suc n) (set after n line)) ≡ take (length before) (take (suc n) (all_lines text))
    put_there line m e = go (ltb n (length before)) refl
      where
        go : (t : Bool) → ltb n (length before) ≡ t → map (λ x. x.now) (take (suc n) (set after n line)) ≡ take (length before) (take (suc n) (all_lines text))
        go true q =
            let h = ltb-true n (length before) q in
            let k : n < length after = omega (arith, i.long) in
            let a : length (take n (all_lines text)) ≤ length before = omega (arith, length-take-le n (all_lines text) i.some) in
            let b : length (take (suc n) (all_lines text)) ≤ length before = omega (arith, length-take-le (suc n) (all_lines text) m) in
            ap (map (λ x. x.now)) (take-suc-set after n line k) ∙ map_snoc (take n after) line
            ∙ ap (λ (ls : List (List ℕ)). ls ++ (line.now ∷ [])) (i.held ∙ take_all (length before) (take n (all_lines text)) a)
            ∙ ap (λ (l : List ℕ). take n (all_lines text) ++ (l ∷ [])) e
            ∙ sym (take-suc (all_lines text) n [] m)
            ∙ sym (take_all (length before) (take (suc n) (all_lines text)) b)
        go false q =
            let h = ltb-false n (length before) q in
            let k : length after ≤ n = omega (arith, i.long) in
            let k' : length after ≤ suc n = omega arith in
            let h' : length before ≤ suc n = omega arith in
            ap (λ (ps : Parts). map (λ x. x.now) (take (suc n) ps)) (set_out after n line k)
            ∙ ap (map (λ x. x.now)) (take_all (suc n) after k' ∙ sym (take_all n after k))
            ∙ i.held ∙ take-take (length before) n (all_lines text) h ∙ sym (take-take (length before) (suc n) (all_lines text) h')

    pub one_read : (line : Bor (List ℕ)) → ended_at text at ≡ false → line.now ≡ line_from text at → ReadTo text before (set after n line) (next_from text at) (n + 1)
    one_read line t e =
        let h : at < length text = leb-false (length text) at (ended_is text at ∙ t) in
        let m : n < length (all_lines text) = more_there h in
        let x = next_is text at i.within in
        let f = i.from in
        let g = x.moves h in
        record {
          from = omega arith;
          within = x.within;
          long = length-set after n line ∙ i.long;
          stands = x.others ∙ ap (drop 1) i.stands ∙ drop-drop 1 n (lines_of text);
          some = omega arith;
          held =
              ap (λ (j : ℕ). map (λ x. x.now) (take j (set after n line))) (add-one n)
              ∙ put_there line m (e ∙ line_there text at n i.stands ∙ line_in_lem n)
              ∙ ap (λ (j : ℕ). take (length before) (take j (all_lines text))) (sym (add-one n));
          others = drop-set-lt (n + 1) after n line (omega arith) ∙ sym (drop-drop 1 n after) ∙ ap (drop 1) i.others ∙ drop-drop 1 n before;
        }

    pub nearer : ended_at text at ≡ false → length text - next_from text at < length text - at
    nearer t =
        let h : at < length text = leb-false (length text) at (ended_is text at ∙ t) in
        let x = next_is text at i.within in
        let g = x.moves h in
        omega arith

    pub room_for_one : ended_at text at ≡ false → n + 1 ≤ length text
    room_for_one t =
        let h : at < length text = leb-false (length text) at (ended_is text at ∙ t) in
        let f = i.from in
        omega arith

    pub all_read : ended_at text at ≡ true → ReadAll text before after n
    all_read t =
        let h : length text ≤ at = leb-true (length text) at (ended_is text at ∙ t) in
        let q = ap length (sym i.stands ∙ lines_none text at h) in
        let m = i.some in
        let w : n ≡ length (all_lines text) = omega (arith, length-drop n (lines_of text), all_long text) in
        let b : length (all_lines text) ≤ n = omega arith in
        record { count = w; lines = i.held ∙ ap (take (length before)) (take_all n (all_lines text) b); others = i.others }
