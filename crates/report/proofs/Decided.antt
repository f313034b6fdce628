-- The first bytes of a text decide its report: lines before the lowest bad one are short, and so are 500 that are good.
use Prim.Native.Nat.{ℕ, zero, suc, ◌+◌, ◌*◌, ◌-◌, ◌≤◌, ◌<◌}
use Prim.Native.Char.{code}
use native.Mathlib.Omega.{arith}
use mathlib.Core.Path.{◌≡◌, refl, ap, ◌∙◌}
use mathlib.Core.Bool.{Bool, true, false}
use mathlib.Core.Option.{some}
use mathlib.Core.List.{List, [], ◌∷◌, ◌++◌}
use lib.Dec.{ltb}
use lib.ListN.{length, take}
use lib.Seq.{take-nil, take-append-le, take-append-add}
use borrow.Author.Tests.{ltb-true, ltb-false}
use Rattle.text.specs.Bytes.{ended, unended, lines_of}
use Rattle.report.specs.Day.{stop_at, most_lines, is_bad, first_bad}
use Rattle.report.proofs.Fields.{lacks}
use Rattle.report.proofs.Lines.{line_ended, line_unended, Cut, plain, broken, cut, lacks_take}
use Rattle.report.proofs.Told.{bad_untold, bad_late, good_short, stops_at, goes_on}

-- what the lines of a text from line n on come to is decided by its first b bytes: they are all of it, or a bad line is in them
pub data Settled (n b : ℕ) (text : List ℕ) : Type 0 where
  whole : take b text ≡ text → Settled n b text
  stopped : (m : ℕ) → first_bad n (lines_of (take b text)) ≡ some m → first_bad n (lines_of text) ≡ some m → Settled n b text

-- ---- the first line
-- without LF it is bad
unended_bad : (n b : ℕ) (s : List ℕ) → lacks (code "\n") (b ∷ s) ≡ true → first_bad n (lines_of (b ∷ s)) ≡ some n
unfolding stop_at
unended_bad n b s h = rw (line_unended b s h) (stops_at n (unended (b ∷ s)) [] (bad_untold n (unended (b ∷ s)) refl))

-- with it, it stops the search if it is bad
ended_bad : (n : ℕ) (s t : List ℕ) → lacks (code "\n") s ≡ true → is_bad n (ended s) ≡ true
    → first_bad n (lines_of (s ++ (code "\n" ∷ t))) ≡ some n
ended_bad n s t h e = rw (line_ended s t h) (stops_at n (ended s) (lines_of t) e)

-- else the lines behind it decide
ended_good : (n : ℕ) (s t : List ℕ) → lacks (code "\n") s ≡ true → is_bad n (ended s) ≡ false
    → first_bad n (lines_of (s ++ (code "\n" ∷ t))) ≡ first_bad (suc n) (lines_of t)
ended_good n s t h e = rw (line_ended s t h) (goes_on n (ended s) (lines_of t) e)

-- ---- what is taken
-- of a text without LF
plain_taken : (n b : ℕ) (s : List ℕ) → 0 < b → 0 < length s → lacks (code "\n") s ≡ true → first_bad n (lines_of (take b s)) ≡ some n
plain_taken n b [] h l e = absurd (omega arith)
plain_taken n zero (c ∷ s) h l e = absurd (omega arith)
plain_taken n (suc b) (c ∷ s) h l e = unended_bad n c (take b s) (lacks_take (code "\n") (suc b) (c ∷ s) e)

plain_settled : (n b : ℕ) (s : List ℕ) → 0 < b → lacks (code "\n") s ≡ true → Settled n b s
plain_settled n b [] h e = whole (take-nil b)
plain_settled n b (c ∷ s) h e = stopped n (plain_taken n b (c ∷ s) h (omega arith) e) (unended_bad n c s e)

-- of a first line, its LF, and what is behind it
take_behind : (b : ℕ) (s t : List ℕ) → length s < b → take b (s ++ (code "\n" ∷ t)) ≡ s ++ (code "\n" ∷ take (b - suc (length s)) t)
take_behind b s t h =
    let k : b ≡ length s + suc (b - suc (length s)) = omega arith in
    ap (λ (n : ℕ). take n (s ++ (code "\n" ∷ t))) k ∙ take-append-add s (code "\n" ∷ t) (suc (b - suc (length s)))

bad_settled : (n b : ℕ) (s t : List ℕ) → 0 < b → lacks (code "\n") s ≡ true → is_bad n (ended s) ≡ true → Settled n b (s ++ (code "\n" ∷ t))
bad_settled n b s t h p e = stopped n (go (ltb (length s) b) refl) (ended_bad n s t p e)
  where
    go : (q : Bool) → ltb (length s) b ≡ q → first_bad n (lines_of (take b (s ++ (code "\n" ∷ t)))) ≡ some n
    go true q = rw (take_behind b s t (ltb-true (length s) b q)) (ended_bad n s (take (b - suc (length s)) t) p e)
    go false q =
        let l : b ≤ length s = ltb-false (length s) b q in
        rw (take-append-le b s (code "\n" ∷ t) l) (plain_taken n b s h (omega arith) p)

good_settled : (n b : ℕ) (s t : List ℕ) → lacks (code "\n") s ≡ true → is_bad n (ended s) ≡ false → length s < b
    → Settled (suc n) (b - suc (length s)) t → Settled n b (s ++ (code "\n" ∷ t))
good_settled n b s t p e h (whole q) = whole (take_behind b s t h ∙ ap (λ (u : List ℕ). s ++ (code "\n" ∷ u)) q)
good_settled n b s t p e h (stopped m q r) =
    stopped m (rw (take_behind b s t h) (ended_good n s (take (b - suc (length s)) t) p e ∙ q)) (ended_good n s t p e ∙ r)

-- ---- line by line
-- k lines may follow the first, and the bytes reach past it and as many good ones
by_line : (k n b : ℕ) {text : List ℕ} → n + k ≡ most_lines → 34 * suc k < b → ((c : ℕ) (t : List ℕ) → 34 * k < c → Settled (suc n) c t)
    → Cut text → Settled n b text
by_line k n b e h r (plain s p) = plain_settled n b s (omega arith) p
by_line k n b e h r (broken s t p) = go (is_bad n (ended s)) refl
  where
    go : (q : Bool) → is_bad n (ended s) ≡ q → Settled n b (s ++ (code "\n" ∷ t))
    go true q = bad_settled n b s t (omega arith) p q
    go false q =
        let l : length s ≤ 33 = good_short n s q in
        good_settled n b s t p q (omega arith) (r (b - suc (length s)) t (omega arith))

-- past the 500th line every line is bad
late : (n b : ℕ) {text : List ℕ} → most_lines < n → 0 < b → Cut text → Settled n b text
late n b h l (plain s p) = plain_settled n b s l p
late n b h l (broken s t p) = bad_settled n b s t l p (bad_late n (ended s) h)

-- so the first bytes decide
pub settled : (k n b : ℕ) (text : List ℕ) → n + k ≡ suc most_lines → 34 * k < b → Settled n b text
settled zero n b text e h = late n b (omega arith) (omega arith) (cut text)
settled (suc k) n b text e h = by_line k n b (omega arith) h (λ c t l. settled k (suc n) c t (omega arith) l) (cut text)
