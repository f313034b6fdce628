-- What holds of every day's report, whatever the text (document 02, point 1). Proved in proofs/: `report_is_lem`, `totals_add`,
-- `read_back` and `decided` (Claims.antt), `figures_hold` (Figures.antt), `starts_permitted` (Starts.antt).
use Rattle.std.specs.Prelude.{ℕ, suc, ◌+◌, ◌≤◌, ◌<◌, ◌≡◌, true, List, [], ◌∷◌, ◌++◌, length, take, ℤ, pos, ◌+ℤ◌, ◌*ℤ◌, ◌≤ℤ◌}
use Rattle.std.proofs.Math.Option.{some}
use Rattle.std.proofs.Math.ListN.{get_elem?}
use Rattle.text.specs.Bytes.{Line, ended, unended, lines_of}
use Rattle.exec.specs.Machine.{State}
use Rattle.exec.specs.Run.{Answer, IsRefused, starting}
use Rattle.print.specs.Lines.{answer_line}
use Rattle.report.specs.Stops.{Tells, permitted}
use Rattle.report.specs.Day.{most_lines, integers_of, Figures, Report, refused, figures, report_of, report}

-- ---- what is read
-- line n may not stand there: "a line not of that form .. or without its LF, or a 501st line"
pub data Bad (n : ℕ) : Line → Type 0 where
  too_many : {l : Line} → most_lines < n → Bad n l
  no_end : {s : List ℕ} → Bad n (unended s)
  no_stop : {s : List ℕ} → ((a : Answer) → ¬ Tells s a) → Bad n (ended s)

-- line n, counted from 1, is there, and is bad
abbrev pub BadAt : List Line → ℕ → Type 0
BadAt ls n = (i : ℕ) × (l : Line) × (n ≡ suc i) × (get_elem? ls i ≡ some l) × Bad n l

-- "the lowest such line is named"
abbrev pub LowestBad : List Line → ℕ → Type 0
LowestBad ls n = BadAt ls n × ((m : ℕ) → m < n → ¬ BadAt ls m)

-- each line tells its stop
pub data TellAll : List Line → List Answer → Type 0 where
  nothing : TellAll [] []
  one_more : {s : List ℕ} {a : Answer} {ls : List Line} {stops : List Answer} → Tells s a → TellAll ls stops → TellAll (ended s ∷ ls) (a ∷ stops)

-- the report is that of the stops that the lines tell, at most 500, or 17 at the lowest bad line
pub data Reported (ls : List Line) : Report → Type 0 where
  taken : {stops : List Answer} → TellAll ls stops → length stops ≤ most_lines → Reported ls (report_of stops)
  barred : {n : ℕ} → LowestBad ls n → Reported ls (refused n)

-- every report is such a one, and no other is
abbrev pub ReportIs : Type 0
ReportIs = (text : List ℕ) (r : Report) → (report text ≡ r → Reported (lines_of text) r) × (Reported (lines_of text) r → report text ≡ r)

-- ---- the figures
-- "mean as whole quotient rounded down, remainder. The remainder is 0 to count - 1."
pub record Mean (f : Figures) : Type 0 where
  pub whole : f.total ≡ pos f.count *ℤ f.quotient +ℤ pos f.remainder
  pub small : f.remainder < f.count

-- z is one of the list
pub data Among (z : ℤ) : List ℤ → Type 0 where
  first : {zs : List ℤ} → Among z (z ∷ zs)
  later : {y : ℤ} {zs : List ℤ} → Among z zs → Among z (y ∷ zs)

-- the smallest and the largest are among the integers and bound them
pub record Between (f : Figures) (zs : List ℤ) : Type 0 where
  pub low : Among f.smallest zs
  pub high : Among f.largest zs
  pub above : (z : ℤ) → Among z zs → f.smallest ≤ℤ z
  pub under : (z : ℤ) → Among z zs → z ≤ℤ f.largest

-- the claim, of every report that has figures, by the stops that it is of
abbrev pub FiguresHold : Type 0
FiguresHold = (stops : List Answer) (f : Figures) → report_of stops ≡ figures f → Mean f × Between f (integers_of stops) × (f.count ≡ length (integers_of stops)) × (f.count + f.others ≡ length stops)

-- "The totals of two lists add up to the total of both written one after the other, if each holds an integer and both together have at
-- most 500 lines", and so do the counts
pub record Adds (f g h : Figures) : Type 0 where
  pub count : h.count ≡ f.count + g.count
  pub others : h.others ≡ f.others + g.others
  pub total : h.total ≡ f.total +ℤ g.total

-- the claim, of two texts
abbrev pub TotalsAdd : Type 0
TotalsAdd = (s t : List ℕ) (f g : Figures) → report s ≡ figures f → report t ≡ figures g → length (lines_of s) + length (lines_of t) ≤ most_lines → (h : Figures) × (report (s ++ t) ≡ figures h) × Adds f g h

-- ---- what was printed is read
-- the text of lines printed one after the other
unfoldable pub day_of : List Answer → List ℕ
day_of [] = []
day_of (a ∷ stops) = answer_line a ++ day_of stops

-- every stop is permitted
abbrev pub AllPermitted : List Answer → Type 0
AllPermitted [] = Unit
AllPermitted (a ∷ stops) = (permitted a ≡ true) × AllPermitted stops

-- reading back what was printed for up to 500 stops gives their report
abbrev pub ReadBack : Type 0
ReadBack = (stops : List Answer) → AllPermitted stops → length stops ≤ most_lines → report (day_of stops) ≡ report_of stops

-- every stop that a start can answer, of whatever text, samples, budget and lent state, is permitted
abbrev pub StartsPermitted : Type 0
StartsPermitted = (text samples : List ℕ) (m : ℕ) (σ : State) → ¬ IsRefused (starting text samples m σ) → permitted (starting text samples m σ).answer ≡ true

-- ---- how much is read
-- the longest stop line has 34 bytes with its LF: one byte more than 500 of them decides every report
abbrev pub decisive : ℕ
decisive = 17001

-- so input of any length is answered from its first bytes
abbrev pub Decided : Type 0
Decided = (text : List ℕ) → report (take decisive text) ≡ report text
