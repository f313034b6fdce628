-- Every stop that a start can answer is permitted, of whatever text, samples, budget and lent state.
use Prim.Native.Nat.{ℕ, zero, suc, ◌≤◌, ◌<◌}
use native.Mathlib.Nat.{min-le_right}
use native.Mathlib.Omega.{arith}
use mathlib.Core.Path.{◌≡◌}
use mathlib.Core.Bool.{true, false}
use mathlib.Core.List.{List}
use lib.Dec.{eqb}
use borrow.Author.Tests.{lt-ltb, le-leb, ne_eqb}
use Rattle.syntax.specs.Bits.{modulus}
use Rattle.exec.specs.Machine.{Word, State, Bodies, halted, stack_full, heap_full, stuck}
use Rattle.exec.specs.Run.{good_word, End, paused, stopped, run, budget, answer_of, outcome, initial}
use Rattle.exec.proofs.Budgets.{within}
use Rattle.exec.proofs.Calls.{started, start_runs}
use Rattle.calls.proofs.Form.{Good, heap_of, Form}
use Rattle.calls.proofs.Kept.{use_all}
use Rattle.calls.proofs.Bits.{Low, start_low}
use Rattle.report.specs.Stops.{most_steps, word_fits, permitted}
use Rattle.report.specs.Claims.{StartsPermitted}

-- ---- r1
-- a word of good form has one of the five kinds, and number 0 if it is junk
word_fits_lem : (H : List Word) (k n : ℕ) → Good H (record { kind = k; number = n }) → n < modulus → word_fits k n ≡ true
unfolding good_word word_fits
word_fits_lem H zero n g l = rw (lt-ltb n modulus l)
word_fits_lem H (suc zero) n g l = rw (lt-ltb n modulus l)
word_fits_lem H (suc (suc zero)) n g l = rw (lt-ltb n modulus l)
word_fits_lem H (suc (suc (suc zero))) n g l = rw (lt-ltb n modulus l)
word_fits_lem H (suc (suc (suc (suc zero)))) n g l = rw (lt-ltb n modulus l) g
word_fits_lem H (suc (suc (suc (suc (suc k))))) n g l =
    let none : (c : ℕ) → c ≤ 4 → eqb (suc (suc (suc (suc (suc k))))) c ≡ false = λ c h. ne_eqb _ c (λ e. omega arith) in
    let f : false ≡ true = rw (none 0 (omega arith), none 1 (omega arith), none 2 (omega arith), none 3 (omega arith), none 4 (omega arith)) at g in
    let z : ◌≡◌ {A = ℕ} 0 1 = cc in
    absurd (omega arith)

-- ---- answers
budget_most : (m : ℕ) → budget m ≤ most_steps
unfolding budget
budget_most m = min-le_right m 1000000

answer_permitted : (e : End) (n : ℕ) (w : Word) → n ≤ most_steps → word_fits w.kind w.number ≡ true → permitted (answer_of e n w) ≡ true
unfolding permitted answer_of
answer_permitted paused n w l h = le-leb n most_steps l
answer_permitted (stopped halted) n w l h = rw (le-leb n most_steps l) h
answer_permitted (stopped stack_full) n w l h = le-leb n most_steps l
answer_permitted (stopped heap_full) n w l h = le-leb n most_steps l
answer_permitted (stopped stuck) n w l h = le-leb n most_steps l

-- of a run that ends in a state whose words have 32 bits
run_permitted : (P : Bodies) (m : ℕ) (σ : State) → Form Low P (run P (budget m) σ).state → permitted (outcome (run P (budget m) σ)).answer ≡ true
unfolding outcome
run_permitted P m σ f =
    let r = run P (budget m) σ in
    let b = budget_most m in
    let s = within P (budget m) σ in
    let w = use_all (Low (heap_of r.state)) r.state.registers 8 f.registers 0 (omega arith) in
    answer_permitted r.end r.steps _ (omega arith) (word_fits_lem (heap_of r.state) _ _ w.0 w.1)

-- the claim
pub starts_permitted : StartsPermitted
starts_permitted text samples m σ f =
    let s = started text samples m σ f in
    rw (start_runs text s m) (run_permitted _ m (initial s.xs σ) (start_low text s (budget m)))
