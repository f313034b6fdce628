-- From one step by the table's rows to the run.
use mathlib.Core.Path.{◌≡◌, refl, ap, ap₂, sym, ◌∙◌, subst}
use mathlib.Core.Bool.{Bool}
use mathlib.Core.List.{List}
use Prim.Native.Nat.{ℕ, suc, ◌+◌, ◌-◌, ◌*◌, ◌/◌, ◌<◌, ◌≤◌}
use native.Mathlib.Nat.{zero-add, add-zero}
use native.Mathlib.Omega.{arith}
use lib.Dec.{ltb}
use lib.ListN.{length, get_or}
use borrow.Author.Tests.{ltb-true, ltb-false}
use Rattle.exec.specs.Machine.{Memory, State, Bodies, Stop, Result, go, stop, step}
use Rattle.exec.specs.Run.{Ran, paused, stopped, ended, after, runs, run}
use Rattle.exec.proofs.Budgets.{run_stops, run_pauses, run_goes}
use Rattle.tables.specs.Tables.{cell}
use Rattle.exec_words.specs.memory.Lent.{lent, Sourced}
use Rattle.exec_machine.specs.declared.Place.{Place}
use Rattle.exec_machine.specs.declared.Stop.{Stop as Reason}
use Rattle.exec_machine.specs.Step.{Tables, stop_is, state_of, step_at}
use Rattle.exec_machine.specs.Represents.{Represents, Fit}
use Rattle.exec_machine.proofs.Exec.{step_is}
use Rattle.exec_plan.specs.Plan.{reads_operand, form_in, Plan}
use Rattle.exec_plan.proofs.Rows.{class_low, other_low, low_first, low_second, low_operand, tuple_operands}
use Rattle.exec_step.specs.declared.moved.Moved.{Moved}
use Rattle.exec_step.specs.declared.moved.Moved.TheVariants as moved
use Rattle.exec_step.specs.moved.Stepped.{held, Still, Stepped, RowAt, Inside}
use Rattle.exec_step.specs.Rows.{form_of, FitRow}
use Rattle.exec_run.specs.Runs.{later, Safe, Planned, PlaceIn}

-- ---- runs
none_before : (r : Ran State) → later 0 r ≡ r
none_before r = λ i. record { end = r.end; steps = zero-add r.steps i; state = r.state }

-- no step made
first_state : (P : Bodies) (σ : State) → (run P 0 σ).state ≡ σ
unfolding run runs after
first_state P σ = by (step P σ)
  where
    by : (r : Result State) → (after σ r (λ σ'. ended paused σ)).state ≡ σ
    by (go τ) = refl
    by (stop s) = refl

-- ---- handles at tuples' starts
abbrev InsideAt : State → Type 0
InsideAt σ = Inside σ.registers σ.heap

module _ (T : Tables) (σ : State) (safe : Safe T σ) where
  safe_now : InsideAt σ
  safe_now = subst InsideAt (first_state safe.program σ) (safe.inside 0)

  safe_next : (τ : State) → step_at T σ ≡ go τ → Safe T τ
  safe_next τ e =
      let P = safe.program in
      let q : step P σ ≡ go τ = sym (step_is T safe.args P safe.represents σ) ∙ e in
      record { args = safe.args; program = P; represents = safe.represents; inside = λ n. subst InsideAt (ap (λ (r : Ran State). r.state) (run_goes P n σ q)) (safe.inside (suc n)) }

-- ---- one turn: n steps of b are left
module _ (T : Tables) (args : List ℕ) (P : Bodies) (rep : Represents T args P) (σ : State) (b n : ℕ) where
  turn_to : (τ : State) → n ≤ b → 0 < n → step_at T σ ≡ go τ → later (b - (n - 1)) (run P (n - 1) τ) ≡ later (b - n) (run P n σ)
  turn_to τ l h e =
      let m : ℕ = n - 1 in
      let q : suc m ≡ n = omega arith in
      let r : Ran State = run P m τ in
      let k : b - m + r.steps ≡ b - n + suc r.steps = omega arith in
      (λ i. record { end = r.end; steps = k i; state = r.state })
      ∙ ap (later (b - n)) (sym (run_goes P m σ (sym (step_is T args P rep σ) ∙ e)) ∙ ap (λ (m : ℕ). run P m σ) q)

  turn_waits : (τ : State) → n ≡ 0 → step_at T σ ≡ go τ → ◌≡◌ {A = Ran State} (record { end = paused; steps = b - n; state = σ }) (later (b - n) (run P n σ))
  turn_waits τ q e =
      (λ i. record { end = paused; steps = sym (add-zero (b - n)) i; state = σ })
      ∙ ap (later (b - n)) (sym (run_pauses P (sym (step_is T args P rep σ) ∙ e)) ∙ ap (λ (m : ℕ). run P m σ) (sym q))

  turn_stops : (s : Stop) → step_at T σ ≡ stop s → ◌≡◌ {A = Ran State} (record { end = stopped s; steps = b - n; state = σ }) (later (b - n) (run P n σ))
  turn_stops s e =
      (λ i. record { end = stopped s; steps = sym (add-zero (b - n)) i; state = σ })
      ∙ ap (later (b - n)) (sym (run_stops P n (sym (step_is T args P rep σ) ∙ e)))

-- ---- the loop: n steps of b are left at the row at `at`, and the rest of the run from there is the rest of the run from σ₀
pub record Running (T : Tables) (b : ℕ) (σ₀ : State) (R S H : Memory) (n at h u : ℕ) : Type 0 where
  pub position : ℕ
  pub place : at ≡ 8 * position
  pub within : position ≤ T.count
  pub depth : h ≤ 256
  pub used : u ≤ 2048
  pub left : n ≤ b
  pub safe : Safe T (held R S H h u position)
  pub ran : (args : List ℕ) (P : Bodies) → Represents T args P → later (b - n) (run P n (held R S H h u position)) ≡ run P b σ₀

-- the place's row, and the position from it
abbrev pub start : List ℕ → List ℕ → List ℕ → List ℕ → List ℕ → List ℕ → ℕ → ℕ → ℕ → State
start rk rn sk sn hk hn at h u = held (lent rk rn) (lent sk sn) (lent hk hn) h u (at / 8)

pub at_first : {T : Tables} {b : ℕ} {rk rn sk sn hk hn : List ℕ} {p : Place} → PlaceIn p T.count → Safe T (state_of rk rn sk sn hk hn p) → Running T b (start rk rn sk sn hk hn (8 * p.position) p.depth p.used) (lent rk rn) (lent sk sn) (lent hk hn) b (8 * p.position) p.depth p.used
at_first {b = b} {rk} {rn} {sk} {sn} {hk} {hn} {p} within safe =
    let σ : State = state_of rk rn sk sn hk hn p in
    let z : b - b ≡ 0 = omega arith in
    let q : p.position ≡ 8 * p.position / 8 = omega arith in
    record {
      position = p.position;
      place = refl;
      within = within.position;
      depth = within.depth;
      used = within.used;
      left = omega arith;
      safe = safe;
      ran = λ args P rep. ap (λ (k : ℕ). later k (run P b σ)) z ∙ none_before (run P b σ) ∙ ap (λ (k : ℕ). run P b (held (lent rk rn) (lent sk sn) (lent hk hn) p.depth p.used k)) q;
    }

pub from_start : (P : Bodies) (b : ℕ) (rk rn sk sn hk hn : List ℕ) (p : Place) → run P b (start rk rn sk sn hk hn (8 * p.position) p.depth p.used) ≡ run P b (state_of rk rn sk sn hk hn p)
from_start P b rk rn sk sn hk hn p =
    let q : 8 * p.position / 8 ≡ p.position = omega arith in
    ap (λ (k : ℕ). run P b (held (lent rk rn) (lent sk sn) (lent hk hn) p.depth p.used k)) q

-- what is told of `step`
module _ {T : Tables} {b : ℕ} {σ₀ : State} {R S H : Memory} {n at h u : ℕ} (g : Running T b σ₀ R S H n at h u) {more : Bool} (em : more ≡ ltb 0 n)
    {r : Moved} {R' S' H' : Memory} (t : Stepped T more (held R S H h u g.position) r R' S' H') where
  abbrev σ : State
  σ = held R S H h u g.position

  pub budget_left : {to d w : ℕ} → r ≡ moved.To to d w → 0 < n
  budget_left e = ltb-true 0 n (sym em ∙ (t.reached _ _ _ e).budget)

  pub goes : {to d w : ℕ} → r ≡ moved.To to d w → Running T b σ₀ R' S' H' (n - 1) to d w
  goes e =
      let m = t.reached _ _ _ e in
      let l : 0 < n = budget_left e in
      record {
        position = m.position;
        place = m.place;
        within = m.within;
        depth = m.depth;
        used = m.used;
        left = omega (arith, g.left);
        safe = safe_next T σ g.safe _ m.result;
        ran = λ args P rep. turn_to T args P rep σ b n _ g.left l m.result ∙ g.ran args P rep;
      }

  still : Still σ R' S' H' → (p : Place) → p ≡ record { depth = h; used = u; position = g.position } → ◌≡◌ {A = State} (record { registers = R'; stack = S'; heap = H'; depth = p.depth; used = p.used; position = p.position }) σ
  still s p e = λ i. record { registers = s.registers i; stack = s.stack i; heap = s.heap i; depth = (e i).depth; used = (e i).used; position = (e i).position }

  module _ {args : List ℕ} {P : Bodies} (rep : Represents T args P) {k : ℕ} (ek : k ≡ b - n) {p : Place} (ep : (j : ℕ) → at ≡ 8 * j → p ≡ record { depth = h; used = u; position = j }) where
    pub waits : r ≡ moved.Paused → ◌≡◌ {A = Ran State} (record { end = paused; steps = k; state = record { registers = R'; stack = S'; heap = H'; depth = p.depth; used = p.used; position = p.position } }) (run P b σ₀)
    waits e =
        let m = t.waits e in
        let z : n ≤ 0 = ltb-false 0 n (sym em ∙ m.budget) in
        let q : n ≡ 0 = omega arith in
        (λ i. record { end = paused; steps = ek i; state = still m.still p (ep g.position g.place) i })
        ∙ turn_waits T args P rep σ b n m.next q m.result ∙ g.ran args P rep

    pub stops : {s : Reason} → r ≡ moved.Ended s → ◌≡◌ {A = Ran State} (record { end = stopped (stop_is s); steps = k; state = record { registers = R'; stack = S'; heap = H'; depth = p.depth; used = p.used; position = p.position } }) (run P b σ₀)
    stops {s} e =
        let m = t.stops s e in
        (λ i. record { end = stopped (stop_is s); steps = ek i; state = still m.still p (ep g.position g.place) i })
        ∙ turn_stops T args P rep σ b n (stop_is s) m.result ∙ g.ran args P rep

-- ---- the row at `at`
module _ (T : Tables) (φ : List ℕ) (pl : Plan T φ) (fit : Fit T) (j at : ℕ) (e : at ≡ 8 * j) (h : j ≤ T.count) (σ : State) (ej : σ.position ≡ j) where
  within : σ.position ≤ T.count
  within = omega arith

  entry : (k : ℕ) → cell 8 φ σ.position k ≡ get_or φ (at + k) 0
  entry k = let q : 8 * σ.position + k ≡ at + k = omega arith in ap (λ (i : ℕ). get_or φ i 0) q

  head : cell 8 φ σ.position 0 ≡ get_or φ at 0
  head = let q : 8 * σ.position + 0 ≡ at = omega arith in ap (λ (i : ℕ). get_or φ i 0) q

  form : form_in (cell 8 φ σ.position 0) (cell 8 φ σ.position 5) ≡ form_of φ at
  form = ap₂ form_in head (entry 5)

  sourced : form_of φ at ≡ 2 → Sourced T.operands T.bases (get_or φ (at + 3) 0) (get_or φ (at + 4) 0)
  sourced q =
      let t = tuple_operands T φ pl σ within fit (form ∙ q) in
      let s : Sourced T.operands T.bases (cell 8 φ σ.position 3) (cell 8 φ σ.position 4) = record { bases = t.0; operands = t.1; low = t.2 } in
      subst (λ (n : ℕ). Sourced T.operands T.bases (get_or φ (at + 3) 0) n) (entry 4) (subst (λ (v : ℕ). Sourced T.operands T.bases v (cell 8 φ σ.position 4)) (entry 3) s)

  fit_row : FitRow φ T.operands T.bases at
  fit_row = record {
    class = subst (λ (i : ℕ). i < 16) head (class_low T φ pl σ within);
    other = λ q. subst (λ (i : ℕ). 15 ≤ i) (entry 5) (other_low T φ pl σ within (head ∙ q));
    columns = record {
      first = subst (λ (i : ℕ). i < 8) (entry 1) (low_first T φ pl σ within fit);
      second = subst (λ (i : ℕ). i < 8) (entry 2) (low_second T φ pl σ within fit);
    };
    operand = λ r. subst (λ (i : ℕ). i < 8) (entry 4) (low_operand T φ pl σ within fit (ap reads_operand form ∙ r));
    tuple = sourced;
  }

pub row_fit : {T : Tables} {φ : List ℕ} {b : ℕ} {σ₀ : State} {R S H : Memory} {n at h u : ℕ} → Planned T φ → Running T b σ₀ R S H n at h u → FitRow φ T.operands T.bases at
row_fit {R = R} {S} {H} {h = h} {u} p g = fit_row _ _ p.plan p.fit g.position _ g.place g.within (held R S H h u g.position) refl

pub row_inside : {T : Tables} {b : ℕ} {σ₀ : State} {R S H : Memory} {n at h u : ℕ} → Running T b σ₀ R S H n at h u → Inside R H
row_inside g = safe_now _ (held _ _ _ _ _ g.position) g.safe

pub row_at : {T : Tables} {φ : List ℕ} {b : ℕ} {σ₀ : State} {R S H : Memory} {n at h u : ℕ} → Planned T φ → Running T b σ₀ R S H n at h u → RowAt φ at h u
row_at p g = record { whole = omega (arith, p.room, g.place, g.within); depth = g.depth; used = g.used }

-- words as many as before
pub record AsLong (ks ns ks₀ ns₀ : List ℕ) : Type 0 where
  pub kinds : length ks ≡ length ks₀
  pub numbers : length ns ≡ length ns₀

pub place_at : (at h u j : ℕ) → at ≡ 8 * j → ◌≡◌ {A = Place} (record { depth = h; used = u; position = at / 8 }) (record { depth = h; used = u; position = j })
place_at at h u j e = let q : at / 8 ≡ j = omega arith in ap (λ (i : ℕ). record { depth = h; used = u; position = i }) q
