-- Which lines are bad, and what lines tell: the tests of specs/Day.antt find what specs/Claims.antt says.
use Prim.Native.Nat.{ℕ, zero, suc, ◌+◌, ◌-◌, ◌≤◌, ◌<◌}
use native.Mathlib.Omega.{arith}
use mathlib.Core.Path.{◌≡◌, refl, ap, sym, ◌∙◌}
use mathlib.Core.Bool.{Bool, true, false, ◌||◌}
use mathlib.Core.Option.{Option, none, some}
use mathlib.Core.List.{List, [], ◌∷◌, ◌++◌}
use lib.Dec.{ltb}
use lib.ListN.{length, get_elem?}
use borrow.Author.Tests.{ltb-true, ltb-false, lt-ltb, le-ltb}
use Rattle.text.specs.Bytes.{Line, ended, unended}
use Rattle.types.proofs.Equal.{none_true}
use Rattle.valid.proofs.Reading.{none_some, some_inj}
use Rattle.exec.specs.Run.{Answer}
use Rattle.report.specs.Stops.{Tells, stop_of}
use Rattle.report.specs.Day.{values, stop_at, stops_of, most_lines, is_none, is_bad, first_bad}
use Rattle.report.specs.Claims.{Bad, too_many, no_end, no_stop, BadAt, LowestBad, TellAll, nothing, one_more}
use Rattle.report.proofs.Stops.{stop_exactly, stop_short}
use Rattle.report.proofs.Lines.{AllEnded}

-- ---- a bad line
or_right : (t : Bool) → (t || true) ≡ true
or_right true = refl
or_right false = refl

-- a line that tells nothing is bad, whatever its number
pub bad_untold : (n : ℕ) (l : Line) → stop_at l ≡ none → is_bad n l ≡ true
unfolding is_bad
bad_untold n l e = rw e (or_right (ltb most_lines n))

-- so is every line past the 500th
pub bad_late : (n : ℕ) (l : Line) → most_lines < n → is_bad n l ≡ true
unfolding is_bad
bad_late n l h = rw (lt-ltb most_lines n h)

-- and no other
pub good_told : (n : ℕ) (s : List ℕ) (a : Answer) → n ≤ most_lines → stop_of s ≡ some a → is_bad n (ended s) ≡ false
unfolding is_bad stop_at
good_told n s a h e = rw (le-ltb most_lines n h, e)

-- the test finds what is bad
bad_is : (n : ℕ) (l : Line) → is_bad n l ≡ true → Bad n l
unfolding is_bad stop_at
bad_is n l e = go (ltb most_lines n) refl l e
  where
    unread : (s : List ℕ) (o : Option Answer) → stop_of s ≡ o → is_none o ≡ true → (a : Answer) → ¬ Tells s a
    unread s none q e a h = none_some (sym q ∙ (stop_exactly s a).1 h)
    unread s (some b) q e a h = none_true e

    go : (t : Bool) → ltb most_lines n ≡ t → (l : Line) → (t || is_none (stop_at l)) ≡ true → Bad n l
    go true q l e = too_many (ltb-true most_lines n q)
    go false q (unended s) e = no_end
    go false q (ended s) e = no_stop (unread s (stop_of s) refl e)

is_bad_lem : {n : ℕ} {l : Line} → Bad n l → is_bad n l ≡ true
unfolding stop_at
is_bad_lem {n} {l} (too_many h) = bad_late n l h
is_bad_lem {n} (no_end {s}) = bad_untold n (unended s) refl
is_bad_lem {n} (no_stop {s} f) = bad_untold n (ended s) (go (stop_of s) refl)
  where
    go : (o : Option Answer) → stop_of s ≡ o → o ≡ none
    go none e = refl
    go (some a) e = absurd (f a ((stop_exactly s a).0 e))

-- ---- the lowest
-- a bad line stops the search, any other does not
pub stops_at : (n : ℕ) (l : Line) (ls : List Line) → is_bad n l ≡ true → first_bad n (l ∷ ls) ≡ some n
unfolding first_bad
stops_at n l ls e = rw e

pub goes_on : (n : ℕ) (l : Line) (ls : List Line) → is_bad n l ≡ false → first_bad n (l ∷ ls) ≡ first_bad (suc n) ls
unfolding first_bad
goes_on n l ls e = rw e

-- the lowest bad line, counted from n, stands i lines on
record Lowest (n i : ℕ) (ls : List Line) : Type 0 where
  line : Line
  there : get_elem? ls i ≡ some line
  bad : Bad (n + i) line
  before : (j : ℕ) (l : Line) → j < i → get_elem? ls j ≡ some l → ¬ Bad (n + j) l

moved : {n m : ℕ} {l : Line} → n ≡ m → Bad n l → Bad m l
moved e b = rw e at b

lowest_here : {n : ℕ} {l : Line} {ls : List Line} → Bad n l → Lowest n 0 (l ∷ ls)
lowest_here {n} {l} b = record { line = l; there = refl; bad = moved (omega arith) b; before = λ j k h. absurd (omega arith) }

lowest_later : {n i : ℕ} {l : Line} {ls : List Line} → ¬ Bad n l → Lowest (suc n) i ls → Lowest n (suc i) (l ∷ ls)
lowest_later {n} {i} {l} {ls} f b = record { line = b.line; there = b.there; bad = moved (omega arith) b.bad; before = before }
  where
    before : (j : ℕ) (k : Line) → j < suc i → get_elem? (l ∷ ls) j ≡ some k → ¬ Bad (n + j) k
    before zero k h e z = f (rw (some_inj e) (moved (omega arith) z))
    before (suc j) k h e z = b.before j k (omega arith) e (moved (omega arith) z)

lowest_behind : {n i : ℕ} {l : Line} {ls : List Line} → Lowest n (suc i) (l ∷ ls) → Lowest (suc n) i ls
lowest_behind {n} b = record {
  line = b.line;
  there = b.there;
  bad = moved (omega arith) b.bad;
  before = λ j k h e z. b.before (suc j) k (omega arith) e (moved (omega arith) z);
}

-- the search finds it, and nothing else
found : (n m : ℕ) (ls : List Line) → first_bad n ls ≡ some m → (i : ℕ) × (m ≡ n + i) × Lowest n i ls
unfolding first_bad
found n m [] e = none_some e
found n m (l ∷ ls) e = go (λ q. found (suc n) m ls q) (is_bad n l) refl
  where
    go : (first_bad (suc n) ls ≡ some m → (i : ℕ) × (m ≡ suc n + i) × Lowest (suc n) i ls) → (t : Bool) → is_bad n l ≡ t
        → (i : ℕ) × (m ≡ n + i) × Lowest n i (l ∷ ls)
    go r true q =
        let k : n ≡ m = some_inj (sym (stops_at n l ls q) ∙ e) in
        (0, omega arith, lowest_here (bad_is n l q))
    go r false q =
        let k = r (sym (goes_on n l ls q) ∙ e) in
        (suc k.0, omega (arith, k.1), lowest_later (λ b. none_true (sym q ∙ is_bad_lem b)) k.2)

lowest_found : (n i : ℕ) (ls : List Line) → Lowest n i ls → first_bad n ls ≡ some (n + i)
lowest_found n i [] b = none_some b.there
lowest_found n zero (l ∷ ls) b =
    let q : is_bad n l ≡ true = is_bad_lem (rw (some_inj b.there) (moved (omega arith) b.bad)) in
    let k : n ≡ n + 0 = omega arith in
    stops_at n l ls q ∙ ap some k
lowest_found n (suc i) (l ∷ ls) b = go (lowest_found (suc n) i ls (lowest_behind b)) (is_bad n l) refl
  where
    go : first_bad (suc n) ls ≡ some (suc n + i) → (t : Bool) → is_bad n l ≡ t → first_bad n (l ∷ ls) ≡ some (n + suc i)
    go r true q = absurd (b.before 0 l (omega arith) refl (moved (omega arith) (bad_is n l q)))
    go r false q =
        let k : suc n + i ≡ n + suc i = omega arith in
        goes_on n l ls q ∙ r ∙ ap some k

-- the search from the first line on names the lowest bad line
pub first_bad_lem : (ls : List Line) (n : ℕ) → (first_bad 1 ls ≡ some n → LowestBad ls n) × (LowestBad ls n → first_bad 1 ls ≡ some n)
first_bad_lem ls n = (named, finds)
  where
    named : first_bad 1 ls ≡ some n → LowestBad ls n
    named e =
        let k = found 1 n ls e in
        let b = k.2 in
        let here : BadAt ls n = (k.0, b.line, omega (arith, k.1), b.there, moved (sym k.1) b.bad) in
        (here, λ m h z. b.before z.0 z.1 (omega (arith, h, z.2, k.1)) z.3 (moved (omega (arith, z.2)) z.4))

    finds : LowestBad ls n → first_bad 1 ls ≡ some n
    finds z =
        let k : 1 + z.0.0 ≡ n = omega (arith, z.0.2) in
        lowest_found 1 z.0.0 ls (record {
          line = z.0.1;
          there = z.0.3;
          bad = moved (sym k) z.0.4;
          before = λ j l h e y. z.1 (1 + j) (omega (arith, h, k)) (j, l, omega arith, e, y);
        }) ∙ ap some k

-- ---- lines that are all good
-- where lines tell stops, these are the stops found
pub stops_told : {ls : List Line} {stops : List Answer} → TellAll ls stops → stops_of ls ≡ stops
unfolding stops_of values stop_at
stops_told nothing = refl
stops_told (one_more {s} {a} t ts) = rw ((stop_exactly s a).1 t) (ap (◌∷◌ a) (stops_told ts))

-- none is bad, if they are not too many
pub told_good : {ls : List Line} {stops : List Answer} (n : ℕ) → TellAll ls stops → n + length stops ≤ suc most_lines → first_bad n ls ≡ none
unfolding first_bad
told_good n nothing h = refl
told_good n (one_more {s} {a} {ls} t ts) h =
    goes_on n (ended s) ls (good_told n s a (omega arith) ((stop_exactly s a).1 t)) ∙ told_good (suc n) ts (omega arith)

-- all have their LF
pub told_ended : {ls : List Line} {stops : List Answer} → TellAll ls stops → AllEnded ls
told_ended nothing = tt
told_ended (one_more t ts) = told_ended ts

-- there is a line for each stop
pub told_length : {ls : List Line} {stops : List Answer} → TellAll ls stops → length ls ≡ length stops
told_length nothing = refl
told_length (one_more t ts) = ap suc (told_length ts)

-- one after the other they tell both lists
pub told_append : {ls ms : List Line} {xs ys : List Answer} → TellAll ls xs → TellAll ms ys → TellAll (ls ++ ms) (xs ++ ys)
told_append nothing us = us
told_append (one_more t ts) us = one_more t (told_append ts us)

-- a line that is not bad tells a stop
data Good (n : ℕ) : Line → Type 0 where
  good : {s : List ℕ} {a : Answer} → n ≤ most_lines → stop_of s ≡ some a → Good n (ended s)

good_is : (n : ℕ) (l : Line) → is_bad n l ≡ false → Good n l
unfolding is_bad stop_at
good_is n l e = go (ltb most_lines n) refl l e
  where
    told : n ≤ most_lines → (s : List ℕ) (o : Option Answer) → stop_of s ≡ o → is_none o ≡ false → Good n (ended s)
    told h s none q e = none_true (sym e)
    told h s (some a) q e = good h q

    go : (t : Bool) → ltb most_lines n ≡ t → (l : Line) → (t || is_none (stop_at l)) ≡ false → Good n l
    go true q l e = none_true (sym e)
    go false q (unended s) e = none_true (sym e)
    go false q (ended s) e = told (ltb-false most_lines n q) s (stop_of s) refl e

-- and is short
pub good_short : (n : ℕ) (s : List ℕ) → is_bad n (ended s) ≡ false → length s ≤ 33
good_short n s e = go (good_is n (ended s) e)
  where
    go : Good n (ended s) → length s ≤ 33
    go (good {a = a} h q) = stop_short s a q

-- lines from line n on that tell the stops found, and are not too many
abbrev Told : ℕ → List Line → Type 0
Told n ls = TellAll ls (stops_of ls) × (length ls ≤ suc most_lines - n)

one_told : {n : ℕ} {l : Line} {ls : List Line} → Good n l → Told (suc n) ls → Told n (l ∷ ls)
unfolding stops_of values stop_at
one_told (good {s} {a} h t) k = (rw t (one_more ((stop_exactly s a).0 t) k.0), omega (arith, k.1))

-- such are lines of which none is bad
pub good_tell : (n : ℕ) (ls : List Line) → first_bad n ls ≡ none → Told n ls
unfolding stops_of values
good_tell n [] e = (nothing, omega arith)
good_tell n (l ∷ ls) e = go (λ q. good_tell (suc n) ls q) (is_bad n l) refl
  where
    go : (first_bad (suc n) ls ≡ none → Told (suc n) ls) → (t : Bool) → is_bad n l ≡ t → Told n (l ∷ ls)
    go r true q = none_some (sym e ∙ stops_at n l ls q)
    go r false q = one_told (good_is n l q) (r (sym (goes_on n l ls q) ∙ e))
