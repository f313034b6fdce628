-- A day's lines walked one by one give its report.
use Rattle.std.proofs.Common.{◌≡◌, ℕ, suc, ◌+◌, ◌-◌, ◌<◌, ◌≤◌, Bool, true, false, cond, List, [], ◌∷◌, length, take, drop, sym, refl, ap, ◌∙◌, add-zero, zero-add, arith}
use mathlib.Core.Option.{Option, none, some}
use Rattle.std.specs.Prelude as code
use Rattle.std.specs.Prelude.{Some, None}
use Rattle.std.proofs.lemmas.Int.{ints}
use Rattle.text.specs.Bytes.{Line, ended, unended, lines_of}
use Rattle.text_lines.specs.Parts.{first_part}
use Rattle.text_lines.proofs.Parts.{line_ended, line_unended, lines_none}
use Rattle.types.proofs.Equal.{none_true}
use Rattle.exec.specs.Run.{Answer}
use Rattle.report.specs.Stops.{stop_of}
use Rattle.report.specs.Day.{values, stop_at, stops_of, is_bad, first_bad, Report, refused, unless_bad, report_lines, report}
use Rattle.report.proofs.Told.{bad_untold, bad_late, good_told}
use Rattle.report_stop.specs.Told.{counted, told}
use Rattle.report_stop.specs.declared.Stop.{Stop}
use Rattle.report_stop.specs.declared.Stop.TheVariants.{Integer, Other}
use Rattle.report_day.specs.declared.Tally.{Tally}
use Rattle.report_day.specs.Tally.{plus, after, Small}
use Rattle.report_day.proofs.Tallies.{folded, finished, untouched, tallied}

-- ---- line by line
-- a line that tells a stop, or none
abbrev after_line : code.Option Stop → Tally → Tally
after_line None t = t
after_line (Some s) t = after t s

pub after_count : (t : Tally) (s : Stop) → (after t s).count ≤ t.count + 1
unfolding after plus
after_count t (Integer z) = omega arith
after_count t Other = omega arith

-- the report, where n lines have been read and their tally is t, and the lines ls are left
unfoldable pub goes : ℕ → Tally → List Line → Report
goes n t [] = finished n t
goes n t (l ∷ ls) = cond (is_bad (suc n) l) (refused (suc n)) (goes (suc n) (after_line (told (stop_at l)) t) ls)

-- the same by the lowest bad line
abbrev whole : Option ℕ → ℕ → Tally → List Answer → Report
whole none n t stops = finished (n + length stops) (folded t stops)
whole (some m) n t stops = refused m

-- a line that is not bad tells a stop
good_stop : (n : ℕ) (l : Line) → is_bad n l ≡ false → (a : Answer) × (stop_at l ≡ some a)
good_stop n l b = go (stop_at l) refl
  where
    go : (o : Option Answer) → stop_at l ≡ o → (a : Answer) × (stop_at l ≡ some a)
    go none e = none_true (sym b ∙ bad_untold n l e)
    go (some a) e = (a, e)

one_on : (o : Option ℕ) (n : ℕ) (t : Tally) (a : Answer) (stops : List Answer) → whole o (suc n) (after t (counted a)) stops ≡ whole o n t (a ∷ stops)
unfolding folded
one_on none n t a stops = ap (λ (k : ℕ). finished k (folded (after t (counted a)) stops)) (omega arith)
one_on (some m) n t a stops = refl

goes_is : (ls : List Line) (n : ℕ) (t : Tally) → goes n t ls ≡ whole (first_bad (suc n) ls) n t (stops_of ls)
unfolding goes first_bad stops_of values folded told
goes_is [] n t = rw (add-zero n)
goes_is (l ∷ ls) n t = go (is_bad (suc n) l) refl (λ u. goes_is ls (suc n) u)
  where
    go : (b : Bool) → is_bad (suc n) l ≡ b → ((u : Tally) → goes (suc n) u ls ≡ whole (first_bad (suc (suc n)) ls) (suc n) u (stops_of ls)) → goes n t (l ∷ ls) ≡ whole (first_bad (suc n) (l ∷ ls)) n t (stops_of (l ∷ ls))
    go true e h = rw e
    go false e h = let g = good_stop (suc n) l e in rw (e, g.1) (h (after t (counted g.0)) ∙ one_on (first_bad (suc (suc n)) ls) n t g.0 (stops_of ls))

-- from the first line on
pub at_first : (text : List ℕ) → goes 0 untouched (lines_of (drop 0 text)) ≡ report text
unfolding report report_lines
at_first text = goes_is (lines_of text) 0 untouched ∙ go (first_bad 1 (lines_of text)) refl
  where
    go : (o : Option ℕ) → first_bad 1 (lines_of text) ≡ o → whole o 0 untouched (stops_of (lines_of text)) ≡ unless_bad o (stops_of (lines_of text))
    go none e =
        let stops = stops_of (lines_of text) in
        ap (λ (k : ℕ). finished k (folded untouched stops)) (zero-add (length stops)) ∙ tallied stops
    go (some m) e = refl

-- ---- one turn of the walk
module _ (text : List ℕ) (at n : ℕ) (t : Tally) (inv : goes n t (lines_of (drop at text)) ≡ report text) where
  pub at_end : length text ≤ at → finished n t ≡ report text
  unfolding goes
  at_end h = sym (ap (goes n t) (lines_none text at h)) ∙ inv

  -- the line at `at` is l, and ls are behind it
  module _ (l : Line) (ls : List Line) (here : lines_of (drop at text) ≡ l ∷ ls) where
    bad_line : is_bad (suc n) l ≡ true → refused (n + 1) ≡ report text
    unfolding goes
    bad_line b =
        let e : n + 1 ≡ suc n = omega arith in
        let i : goes n t (l ∷ ls) ≡ report text = sym (ap (goes n t) here) ∙ inv in
        rw e (rw b at i)

    good_line : is_bad (suc n) l ≡ false → goes (n + 1) (after_line (told (stop_at l)) t) ls ≡ report text
    unfolding goes
    good_line b =
        let e : n + 1 ≡ suc n = omega arith in
        let i : goes n t (l ∷ ls) ≡ report text = sym (ap (goes n t) here) ∙ inv in
        rw e (rw b at i)

  module _ (e : ℕ) (a : at < length text) (is : e ≡ at + length (first_part 10 (drop at text))) where
    pub not_ended : length text ≤ e → refused (n + 1) ≡ report text
    unfolding stop_at
    not_ended h = let u = take (e - at) (drop at text) in bad_line (unended u) [] (line_unended text at e is a h) (bad_untold (suc n) (unended u) refl)

    module _ (h : e < length text) where
      abbrev line : List ℕ
      line = take (e - at) (drop at text)

      pub too_many : 500 ≤ n → refused (n + 1) ≡ report text
      too_many k = bad_line (ended line) (lines_of (drop (e + 1) text)) (line_ended text at e is h) (bad_late (suc n) (ended line) (omega arith))

      pub no_stop : None ≡ told (stop_of line) → refused (n + 1) ≡ report text
      unfolding stop_at told
      no_stop q = go (stop_of line) refl q
        where
          go : (o : Option Answer) → stop_of line ≡ o → None ≡ told o → refused (n + 1) ≡ report text
          go none z i = bad_line (ended line) (lines_of (drop (e + 1) text)) (line_ended text at e is h) (bad_untold (suc n) (ended line) z)
          go (some a) z i = let y : ◌≡◌ {A = ℕ} 0 1 = cc in absurd (omega arith)

      pub one_stop : (s : Stop) → Some s ≡ told (stop_of line) → n < 500 → goes (n + 1) (after t s) (lines_of (drop (e + 1) text)) ≡ report text
      unfolding stop_at told
      one_stop s q k = go (stop_of line) refl q
        where
          go : (o : Option Answer) → stop_of line ≡ o → Some s ≡ told o → goes (n + 1) (after t s) (lines_of (drop (e + 1) text)) ≡ report text
          go none z i = let y : ◌≡◌ {A = ℕ} 0 1 = cc in absurd (omega arith)
          go (some b) z i =
              let y : s ≡ counted b = cc in
              let g = good_line (ended line) (lines_of (drop (e + 1) text)) (line_ended text at e is h) (good_told (suc n) line b (omega arith) z) in
              rw y (rw z at g)

-- ---- the walk
-- the lines up to `at` have been read, and what is left gives the report
pub record Walked (text : List ℕ) (at lines : ℕ) (t : Tally) : Type 0 where
  pub within : at ≤ length text
  pub few : lines ≤ 500
  pub fewer : t.count ≤ lines
  pub small : Small t
  pub left : goes lines t (lines_of (drop at text)) ≡ report text

pub walk_starts : (text : List ℕ) → Walked text 0 0 untouched
walk_starts text =
    record {
      within = omega arith;
      few = omega arith;
      fewer = omega arith;
      small = record { few = omega arith; from = omega (arith, ints); to = omega (arith, ints) };
      left = at_first text;
    }

pub walk_on : (text : List ℕ) (at lines : ℕ) (t : Tally) → Walked text at lines t → (e : ℕ) → at < length text → e ≡ at + length (first_part 10 (drop at text)) → e < length text → lines < 500
    → (s : Stop) → Some s ≡ told (stop_of (take (e - at) (drop at text))) → Small (after t s) → Walked text (e + 1) (lines + 1) (after t s)
walk_on text at lines t g e a is h k s r small =
    let f = g.fewer in
    let c = after_count t s in
    record { within = omega arith; few = omega arith; fewer = omega arith; small = small; left = one_stop text at lines t g.left e a is h s r k }
