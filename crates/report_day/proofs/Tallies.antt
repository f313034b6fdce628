-- The tally of a day's stops has its figures.
use Rattle.std.proofs.Common.{◌≡◌, ℕ, suc, ◌+◌, ◌-◌, ◌^◌, ◌<◌, Bool, true, false, cond, eqb, ltb, List, [], ◌∷◌, map, length, ℤ, pos, negsuc, ◌+ℤ◌, ◌≤ℤ◌, sym, refl, ap, ◌∙◌, add-zero, add_comm, add-one, arith, eq-eqb, ne_eqb, ltb-true, ltb-false, lt-ltb, le-ltb}
use Rattle.std.specs.Int.{int_min, int_max, int_div_euclid, int_rem_euclid}
use Rattle.std.specs.Int.Signed.{le_z}
use Rattle.std.proofs.lemmas.Int.{ints}
use mir.Syntax.{w32, w64}
use mir.Val.{SFits}
use lib.IntN.{nat_abs}
use lib.ListN.{length-map}
use Rattle.syntax.specs.Bits.{modulus, half, signed}
use Rattle.syntax.specs.Partial.{guarded}
use Rattle.exec.specs.Machine.{int_kind}
use Rattle.exec.specs.Run.{Answer, refused, halted_after, paused_after, stack_full_after, heap_full_after, stuck_after}
use Rattle.report.specs.Day as report
use Rattle.report.specs.Day.{values, integer_of, integers_of, others_of, sum, least, greatest, quotient_by, remainder_by, no_integer, figures, figures_of, report_of, Report}
use Rattle.report.proofs.Figures.{all_counted}
use Rattle.report_stop.specs.Told.{counted}
use Rattle.report_stop.specs.declared.Stop.{Stop}
use Rattle.report_stop.specs.declared.Stop.TheVariants.{Integer, Other}
use Rattle.report_day.specs.declared.Tally.{Tally}
use Rattle.report_day.specs.Tally.{tally, plus, after, Small, figures_by}

-- ---- one integer more
pub plus_small : (t : Tally) (z : ℤ) → Small t → t.count < 500 → pos 0 ≤ℤ (z +ℤ pos half) → z ≤ℤ pos half → Small (plus t z)
unfolding plus
plus_small t z g l h k =
    let a = g.from in
    let b = g.to in
    record { few = omega arith; from = omega (arith, ints); to = omega (arith, ints) }

pub with_is : (t : Tally) {z r l h : ℤ} → r ≡ z → l ≡ int_min t.low r → h ≡ int_max t.high r → tally (t.count + 1) (t.sum +ℤ r) l h ≡ plus t z
unfolding plus
with_is t e f g = rw (f, g, e) refl

pub short_bounds : (z : ℤ) → SFits w32 z → (pos 0 ≤ℤ (z +ℤ pos half)) × (z ≤ℤ pos half)
short_bounds z h = (omega (arith, ints), omega (arith, ints))

fits_between : (y : ℤ) → pos 0 ≤ℤ (y +ℤ pos (2 ^ 62)) → y ≤ℤ pos (2 ^ 62) → SFits w64 y
fits_between (pos n) h k = record { sfits = omega (arith, ints) }
fits_between (negsuc n) h k = record { sfits = omega (arith, ints) }

-- the new sum fits
pub sum_fits : (t : Tally) (z : ℤ) → Small t → t.count < 500 → SFits w32 z → SFits w64 (t.sum +ℤ z)
sum_fits t z g l h =
    let a = g.from in
    let b = g.to in
    let c = short_bounds z h in
    fits_between (t.sum +ℤ z) (let d = c.0 in omega (arith, ints)) (let d = c.1 in omega (arith, ints))

-- division of the sum by the count
pub quotient_is : (c : ℕ) (z : ℤ) → int_div_euclid z (pos c) ≡ quotient_by c z
unfolding quotient_by
quotient_is c (pos n) = refl
quotient_is c (negsuc n) = refl

pub remainder_is : (c : ℕ) (z : ℤ) → int_rem_euclid z (pos c) ≡ pos (remainder_by c z)
unfolding remainder_by
remainder_is c (pos n) = refl
remainder_is c (negsuc n) = ap pos (omega arith)

pub figures_are : (t : Tally) (others : ℕ) {q r : ℤ} → q ≡ int_div_euclid t.sum (pos t.count) → r ≡ int_rem_euclid t.sum (pos t.count)
    → ◌≡◌ {A = report.Figures} (record { count = t.count; others = others; total = t.sum; smallest = t.low; largest = t.high; quotient = q; remainder = nat_abs r }) (figures_by t others)
unfolding figures_by
figures_are t others e f = rw (e ∙ quotient_is t.count t.sum, f ∙ remainder_is t.count t.sum) refl

-- ---- the integers of stops
abbrev with_integer : Stop → List ℤ → List ℤ
with_integer (Integer z) zs = z ∷ zs
with_integer Other zs = zs

unfoldable counted_all : List Answer → List ℤ
counted_all [] = []
counted_all (a ∷ stops) = with_integer (counted a) (counted_all stops)

-- the tally after stops, one by one
unfoldable pub folded : Tally → List Answer → Tally
folded t [] = t
folded t (a ∷ stops) = folded (after t (counted a)) stops

unfoldable plus_all : Tally → List ℤ → Tally
plus_all t [] = t
plus_all t (z ∷ zs) = plus_all (plus t z) zs

folded_is : (t : Tally) (stops : List Answer) → folded t stops ≡ plus_all t (counted_all stops)
unfolding folded plus_all counted_all after
folded_is t [] = refl
folded_is t (a ∷ stops) = folded_is (after t (counted a)) stops ∙ go (counted a)
  where
    go : (s : Stop) → plus_all (after t s) (counted_all stops) ≡ plus_all t (with_integer s (counted_all stops))
    go (Integer z) = refl
    go Other = refl

-- those are the integers that the stops halted with
integers_are : (stops : List Answer) → integers_of stops ≡ counted_all stops
unfolding integers_of values counted_all integer_of counted
integers_are [] = refl
integers_are (refused n line ∷ stops) = integers_are stops
integers_are (halted_after steps k n ∷ stops) = go (eqb k int_kind) (integers_are stops)
  where
    go : (t : Bool) → values (map integer_of stops) ≡ counted_all stops → values (guarded t (signed n) ∷ map integer_of stops) ≡ with_integer (cond t (Integer (signed n)) Other) (counted_all stops)
    go true e = ap (λ (zs : List ℤ). signed n ∷ zs) e
    go false e = e
integers_are (paused_after steps ∷ stops) = integers_are stops
integers_are (stack_full_after steps ∷ stops) = integers_are stops
integers_are (heap_full_after steps ∷ stops) = integers_are stops
integers_are (stuck_after steps ∷ stops) = integers_are stops

-- ---- the smallest and the largest
min_is : (y z : ℤ) → int_min y z ≡ cond (le_z y z) y z
min_is y z = grind (arith, ints)

max_is : (y z : ℤ) → int_max y z ≡ cond (le_z y z) z y
max_is y z = grind (arith, ints)

all_added : (zs : List ℤ) (c : ℕ) (s l h : ℤ) → plus_all (tally c s l h) zs ≡ tally (c + length zs) (s +ℤ sum zs) (least l zs) (greatest h zs)
unfolding plus_all plus sum least greatest
all_added [] c s l h = let e : s +ℤ pos 0 ≡ s = omega (arith, ints) in rw (add-zero c, e)
all_added (z ∷ zs) c s l h =
    let e : c + 1 + length zs ≡ c + suc (length zs) = omega arith in
    let f : s +ℤ z +ℤ sum zs ≡ s +ℤ (z +ℤ sum zs) = omega (arith, ints) in
    all_added zs (c + 1) (s +ℤ z) (int_min l z) (int_max h z) ∙ rw (e, f, min_is l z, max_is h z)

-- the tally of no stops
abbrev pub untouched : Tally
untouched = tally 0 (pos 0) (pos (2 ^ 63 - 1)) (negsuc (2 ^ 63 - 1))

-- an integer of 32 bits is between the two that it begins with
first_least : (n : ℕ) → int_min (pos (2 ^ 63 - 1)) (signed n) ≡ signed n
unfolding signed
first_least n = go (ltb n half) refl
  where
    go : (t : Bool) → ltb n half ≡ t → int_min (pos (2 ^ 63 - 1)) (signed n) ≡ signed n
    go true e = let h = ltb-true n half e in rw (e, lt-ltb n (2 ^ 63 - 1) (omega arith)) refl
    go false e = rw e refl

first_greatest : (n : ℕ) → int_max (negsuc (2 ^ 63 - 1)) (signed n) ≡ signed n
unfolding signed
first_greatest n = go (ltb n half) refl
  where
    go : (t : Bool) → ltb n half ≡ t → int_max (negsuc (2 ^ 63 - 1)) (signed n) ≡ signed n
    go true e = rw e refl
    go false e = let h = ltb-false n half e in rw (e, le-ltb (2 ^ 63 - 1) (modulus - suc n) (omega arith)) refl

-- every integer is of 32 bits
data AllShort : List ℤ → Type 0 where
  nothing : AllShort []
  one_more : (n : ℕ) {zs : List ℤ} → AllShort zs → AllShort (signed n ∷ zs)

all_short : (stops : List Answer) → AllShort (counted_all stops)
unfolding counted_all counted
all_short [] = nothing
all_short (refused n line ∷ stops) = all_short stops
all_short (halted_after steps k n ∷ stops) = go (eqb k int_kind) (all_short stops)
  where
    go : (t : Bool) → AllShort (counted_all stops) → AllShort (with_integer (cond t (Integer (signed n)) Other) (counted_all stops))
    go true e = one_more n e
    go false e = e
all_short (paused_after steps ∷ stops) = all_short stops
all_short (stack_full_after steps ∷ stops) = all_short stops
all_short (heap_full_after steps ∷ stops) = all_short stops
all_short (stuck_after steps ∷ stops) = all_short stops

-- ---- the report
-- the report by a tally of n stops
unfoldable pub finished : ℕ → Tally → Report
finished n t = cond (eqb t.count 0) (no_integer n) (figures (figures_by t (n - t.count)))

pub finished_none : (n : ℕ) (t : Tally) → t.count ≡ 0 → no_integer n ≡ finished n t
unfolding finished
finished_none n t e = rw (eq-eqb t.count 0 e)

pub finished_some : (n : ℕ) (t : Tally) → (t.count ≡ 0 → ⊥) → figures (figures_by t (n - t.count)) ≡ finished n t
unfolding finished
finished_some n t e = rw (ne_eqb t.count 0 e)

-- the tally of integers, the first of which is the smallest and the largest so far
first_added : (n : ℕ) (zs : List ℤ) → plus_all untouched (signed n ∷ zs) ≡ tally (suc (length zs)) (sum (signed n ∷ zs)) (least (signed n) zs) (greatest (signed n) zs)
unfolding sum plus_all plus
first_added n zs =
    let z = signed n in
    let e : pos 0 +ℤ z +ℤ sum zs ≡ z +ℤ sum zs = omega (arith, ints) in
    all_added zs (0 + 1) (pos 0 +ℤ z) (int_min (pos (2 ^ 63 - 1)) z) (int_max (negsuc (2 ^ 63 - 1)) z) ∙ rw (e, first_least n, first_greatest n, ← add-one (length zs)) (rw (add_comm 1 (length zs)) refl)

by_integers : (zs : List ℤ) (others n : ℕ) → AllShort zs → length zs + others ≡ n → finished n (plus_all untouched zs) ≡ figures_of zs others
unfolding finished figures_of plus_all figures_by
by_integers [] others n g e = ap no_integer (omega arith)
by_integers (z ∷ zs) others n (one_more k g) e =
    let f : n - suc (length zs) ≡ others = omega arith in
    ap (finished n) (first_added k zs) ∙ rw (f, ne_eqb (suc (length zs)) 0 (λ x. omega arith)) refl

pub tallied : (stops : List Answer) → finished (length stops) (folded untouched stops) ≡ report_of stops
unfolding report_of others_of integers_of
tallied stops =
    let i = integers_are stops in
    let k = all_counted (map integer_of stops) in
    let m = length-map stops integer_of in
    let j = ap length i in
    ap (finished (length stops)) (folded_is untouched stops) ∙ by_integers (counted_all stops) (others_of stops) (length stops) (all_short stops) (omega arith) ∙ ap (λ (zs : List ℤ). figures_of zs (others_of stops)) (sym i)
