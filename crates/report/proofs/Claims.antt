-- The claims of specs/Claims.antt about every day's report; those about its figures are in Figures.antt.
use Prim.Native.Nat.{ℕ, ◌≤◌}
use Prim.Native.Char.{code}
use native.Mathlib.Omega.{arith}
use mathlib.Core.Path.{◌≡◌, refl, ap, ◌∙◌}
use mathlib.Core.Option.{Option, none, some}
use mathlib.Core.List.{List, [], ◌∷◌, ◌++◌, map, map-append, append_assoc}
use lib.ListN.{length, length-append, take}
use Rattle.text.specs.Bytes.{Line, lines_of}
use Rattle.exec.specs.Run.{Answer}
use Rattle.print.specs.Lines.{parted, line_of, answer_fields, answer_line}
use Rattle.report.specs.Stops.{Tells}
use Rattle.report.specs.Day.{stops_of, most_lines, first_bad, integer_of, integers_of, others_of, Figures, Report, refused, figures, report_of, unless_bad, report_lines, report}
use Rattle.report.specs.Claims.{TellAll, nothing, one_more, Reported, taken, barred, ReportIs, Adds, TotalsAdd, day_of, AllPermitted, ReadBack, decisive, Decided}
use Rattle.report.proofs.Stops.{no_break}
use Rattle.report.proofs.Figures.{figures_add}
use Rattle.report.proofs.Lines.{line_ended, lines_none, lines_append, values_append, missing_append}
use Rattle.report.proofs.Told.{first_bad_lem, stops_told, told_good, told_ended, told_length, told_append, good_tell}
use Rattle.report.proofs.Decided.{Settled, whole, stopped, settled}

-- ---- what is read
reported : (ls : List Line) (r : Report) → report_lines ls ≡ r → Reported ls r
unfolding report_lines
reported ls r e = go (first_bad 1 ls) refl e
  where
    go : (o : Option ℕ) → first_bad 1 ls ≡ o → unless_bad o (stops_of ls) ≡ r → Reported ls r
    go none q e = let k = good_tell 1 ls q in rw (← e) (taken k.0 (omega (arith, k.1, told_length k.0)))
    go (some n) q e = rw (← e) (barred ((first_bad_lem ls n).0 q))

reported_only : {ls : List Line} {r : Report} → Reported ls r → report_lines ls ≡ r
unfolding report_lines
reported_only (taken ts h) = rw (told_good 1 ts (omega arith), stops_told ts)
reported_only {ls} (barred {n} b) = rw ((first_bad_lem ls n).1 b)

-- a text's report is that of the stops that its lines tell, or the refusal at the lowest bad line; and it is no other
pub report_is_lem : ReportIs
unfolding report
report_is_lem text r = (reported (lines_of text) r, reported_only)

-- ---- totals
not_refused : {n : ℕ} {f : Figures} → ¬ (refused n ≡ figures f)
not_refused e = let z : ◌≡◌ {A = ℕ} 0 1 = cc in absurd (omega arith)

-- lines whose report has figures tell stops
has_stops : (ls : List Line) (f : Figures) → report_lines ls ≡ figures f → TellAll ls (stops_of ls) × (report_of (stops_of ls) ≡ figures f)
unfolding report_lines
has_stops ls f e = go (first_bad 1 ls) refl e
  where
    go : (o : Option ℕ) → first_bad 1 ls ≡ o → unless_bad o (stops_of ls) ≡ figures f
        → TellAll ls (stops_of ls) × (report_of (stops_of ls) ≡ figures f)
    go none q e = ((good_tell 1 ls q).0, e)
    go (some n) q e = absurd (not_refused e)

stops_add : (xs ys : List Answer) (f g : Figures) → report_of xs ≡ figures f → report_of ys ≡ figures g
    → (h : Figures) × (report_of (xs ++ ys) ≡ figures h) × Adds f g h
unfolding report_of integers_of others_of
stops_add xs ys f g e d =
    rw (map-append integer_of xs ys, values_append (map integer_of xs), missing_append (map integer_of xs))
    (figures_add (integers_of xs) (integers_of ys) (others_of xs) (others_of ys) f g e d)

-- the totals of two texts add up to the total of both written one after the other
pub totals_add : TotalsAdd
unfolding report
totals_add s t f g e d h =
    let a = has_stops (lines_of s) f e in
    let b = has_stops (lines_of t) g d in
    let k = stops_add (stops_of (lines_of s)) (stops_of (lines_of t)) f g a.1 b.1 in
    let n = length-append (stops_of (lines_of s)) (stops_of (lines_of t)) in
    let l : length (stops_of (lines_of s) ++ stops_of (lines_of t)) ≤ most_lines = omega (arith, n, told_length a.0, told_length b.0) in
    (k.0, rw (lines_append s t (told_ended a.0)) (reported_only (taken (told_append a.0 b.0) l) ∙ k.1), k.2)

-- ---- what was printed is read
day_tells : (stops : List Answer) → AllPermitted stops → TellAll (lines_of (day_of stops)) stops
unfolding day_of answer_line line_of
day_tells [] h = rw lines_none nothing
day_tells (a ∷ stops) h =
    let s : List ℕ = parted (answer_fields a) in
    let t : Tells s a = (refl, h.0) in
    rw (append_assoc s (code "\n" ∷ []) (day_of stops), line_ended s (day_of stops) (no_break s a t)) (one_more t (day_tells stops h.1))

-- reading back what was printed for up to 500 stops gives their report
pub read_back : ReadBack
unfolding report
read_back stops h l = reported_only (taken (day_tells stops h) l)

-- ---- how much is read
-- the first 17,001 bytes decide
pub decided : Decided
unfolding report report_lines
decided text = go (settled 500 1 decisive text refl (omega arith))
  where
    go : Settled 1 decisive text → report_lines (lines_of (take decisive text)) ≡ report_lines (lines_of text)
    go (whole e) = ap (λ (s : List ℕ). report_lines (lines_of s)) e
    go (stopped m p q) = rw (p, q)
