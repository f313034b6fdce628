-- Laws of a text's lines: cut at the first LF, read byte by byte, and of texts and lists written one after the other.
use Prim.Native.Nat.{ℕ, zero, suc, ◌+◌}
use Prim.Native.Char.{code}
use native.Mathlib.Omega.{arith}
use mathlib.Core.Path.{◌≡◌, refl, ap, ◌∙◌}
use mathlib.Core.Bool.{Bool, true, false, not}
use mathlib.Core.Option.{Option, none, some}
use mathlib.Core.List.{List, [], ◌∷◌, ◌++◌}
use lib.Dec.{eqb}
use lib.ListN.{take}
use borrow.Author.Tests.{eqb-true}
use Rattle.text.specs.Bytes.{split, Line, ended, unended, lines_from, lines_of}
use Rattle.types.proofs.Equal.{and_inv}
use Rattle.report.specs.Day.{values, missing}
use Rattle.report.proofs.Fields.{lacks, alone, some_part}
use Rattle.report.proofs.Stops.{line_behind}

-- ---- the first line
-- a part before the parts of a text is a line
from_cons : (p t : List ℕ) → lines_from (p ∷ split (code "\n") t) ≡ ended p ∷ lines_of t
unfolding lines_of lines_from
from_cons p t = rw (some_part (code "\n") t).2

-- what stands before the first LF is the first line
pub line_ended : (s t : List ℕ) → lacks (code "\n") s ≡ true → lines_of (s ++ (code "\n" ∷ t)) ≡ ended s ∷ lines_of t
unfolding lines_of
line_ended s t h = ap lines_from (line_behind s t h) ∙ from_cons s t

-- without LF there is one line at most
pub line_unended : (b : ℕ) (s : List ℕ) → lacks (code "\n") (b ∷ s) ≡ true → lines_of (b ∷ s) ≡ unended (b ∷ s) ∷ []
unfolding lines_of lines_from
line_unended b s h = ap lines_from (alone (code "\n") (b ∷ s) h)

pub lines_none : lines_of [] ≡ []
unfolding lines_of lines_from split
lines_none = refl

-- ---- a text cut at its first LF
-- it has none; or a first line and the rest
pub data Cut : List ℕ → Type 0 where
  plain : (s : List ℕ) → lacks (code "\n") s ≡ true → Cut s
  broken : (s t : List ℕ) → lacks (code "\n") s ≡ true → Cut (s ++ (code "\n" ∷ t))

pub cut : (s : List ℕ) → Cut s
unfolding lacks
cut [] = plain [] refl
cut (b ∷ s) = go (cut s) (eqb b (code "\n")) refl
  where
    go : {r : List ℕ} → Cut r → (t : Bool) → eqb b (code "\n") ≡ t → Cut (b ∷ r)
    go {r} k true e = rw (eqb-true b (code "\n") e) (broken [] r refl)
    go (plain p h) false e = plain (b ∷ p) (rw e h)
    go (broken p t h) false e = broken (b ∷ p) t (rw e h)

-- what is taken of a text without LF has none
pub lacks_take : (c n : ℕ) (s : List ℕ) → lacks c s ≡ true → lacks c (take n s) ≡ true
unfolding lacks
lacks_take c zero s h = refl
lacks_take c (suc n) [] h = refl
lacks_take c (suc n) (b ∷ s) h = let j = and_inv (not (eqb b c)) (lacks c s) h in rw j.0 (lacks_take c n s j.1)

-- ---- one text after the other
-- the lines, with a byte before the first
unfoldable grown : ℕ → List Line → List Line
grown b [] = unended (b ∷ []) ∷ []
grown b (ended p ∷ ls) = ended (b ∷ p) ∷ ls
grown b (unended p ∷ ls) = unended (b ∷ p) ∷ ls

grown_part : (b : ℕ) (p : List ℕ) (ps : List (List ℕ)) → lines_from ((b ∷ p) ∷ ps) ≡ grown b (lines_from (p ∷ ps))
unfolding lines_from grown
grown_part b [] [] = refl
grown_part b (c ∷ p) [] = refl
grown_part b p (q ∷ ps) = refl

lines_byte : (b : ℕ) (s : List ℕ) → eqb b (code "\n") ≡ false → lines_of (b ∷ s) ≡ grown b (lines_of s)
unfolding lines_of split
lines_byte b s e = let q = some_part (code "\n") s in rw (e, q.2) (grown_part b q.0 q.1)

lines_break : (b : ℕ) (s : List ℕ) → eqb b (code "\n") ≡ true → lines_of (b ∷ s) ≡ ended [] ∷ lines_of s
unfolding lines_of split
lines_break b s e = rw e (from_cons [] s)

-- every line has its LF
abbrev pub AllEnded : List Line → Type 0
AllEnded [] = Unit
AllEnded (ended s ∷ ls) = AllEnded ls
AllEnded (unended s ∷ ls) = ⊥

grown_append : (b : ℕ) (ls ms : List Line) → AllEnded (grown b ls) → AllEnded ls × (grown b (ls ++ ms) ≡ grown b ls ++ ms)
unfolding grown
grown_append b [] ms h = absurd h
grown_append b (ended p ∷ ls) ms h = (h, refl)
grown_append b (unended p ∷ ls) ms h = absurd h

-- where every line of the first has its LF, the lines are those of both
pub lines_append : (s t : List ℕ) → AllEnded (lines_of s) → lines_of (s ++ t) ≡ lines_of s ++ lines_of t
lines_append [] t h = rw lines_none
lines_append (b ∷ s) t h = go (lines_append s t) (eqb b (code "\n")) refl
  where
    go : (AllEnded (lines_of s) → lines_of (s ++ t) ≡ lines_of s ++ lines_of t) → (q : Bool) → eqb b (code "\n") ≡ q
        → lines_of (b ∷ (s ++ t)) ≡ lines_of (b ∷ s) ++ lines_of t
    go r true e = rw (lines_break b (s ++ t) e, lines_break b s e, r (rw (lines_break b s e) at h))
    go r false e =
        let k = grown_append b (lines_of s) (lines_of t) (rw (lines_byte b s e) at h) in
        rw (lines_byte b (s ++ t) e, lines_byte b s e, r k.0) k.1

-- ---- lists of values that may be missing
pub values_append : {A : Type 0} (os qs : List (Option A)) → values (os ++ qs) ≡ values os ++ values qs
unfolding values
values_append [] qs = refl
values_append (none ∷ os) qs = values_append os qs
values_append (some x ∷ os) qs = ap (◌∷◌ x) (values_append os qs)

pub missing_append : {A : Type 0} (os qs : List (Option A)) → missing (os ++ qs) ≡ missing os + missing qs
unfolding missing
missing_append [] qs = omega arith
missing_append (none ∷ os) qs = omega (arith, missing_append os qs)
missing_append (some x ∷ os) qs = missing_append os qs
