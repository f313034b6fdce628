-- What a run asks, from what was tested before it: words enough, a place within the limits, and handles at tuples' starts all along.
use Prim.Native.Nat.{ℕ, suc, ◌≤◌}
use native.Mathlib.Omega.{arith}
use mathlib.Core.Path.{◌≡◌, ap, sym, subst, ◌∙◌}
use mathlib.Core.Bool.{Bool, true, ◌&&◌}
use mathlib.Core.List.{List}
use lib.ListN.{length}
use Rattle.types.proofs.Equal.{and_inv}
use Rattle.valid.specs.Program.{program_of}
use Rattle.exec.specs.Machine.{State, Bodies, flat}
use Rattle.exec.specs.Run.{run, bodies, initial, long_enough, good_form}
use Rattle.sound.proofs.GoodForm.{true_long}
use Rattle.calls.proofs.Form.{to_form}
use Rattle.calls.proofs.Kept.{handle_fits}
use Rattle.calls.proofs.GoodForm.{WellFormed, first_form, run_form}
use Rattle.exec_machine.specs.declared.Place.{Place}
use Rattle.exec_machine.specs.Step.{Tables, state_of}
use Rattle.exec_step.specs.moved.Stepped.{Words, Inside}
use Rattle.exec_run.specs.Runs.{Safe, PlaceIn}
use Rattle.exec_launch.specs.Startable.{Unbarred}
use Rattle.exec_launch.proofs.Laws.{flat_length}

-- ---- handles
-- in a state of good form each is at a tuple's start
inside : (text : List ℕ) (σ : State) → WellFormed text σ → Inside σ.registers σ.heap
inside text σ w =
    let P = bodies (program_of text) in
    let f = to_form P σ w.1 w.0 in
    let m = f.used in
    record { start = λ r l k. let h = handle_fits P σ f r l k in omega arith; component = λ r i l k n. let h = handle_fits P σ f r l k in omega arith }

-- a run of a text that nothing bars from starting, from a state of good form
safe_from : (T : Tables) (u : Unbarred T) (σ : State) → WellFormed u.text σ → Safe T σ
safe_from T u σ w = record { args = u.args; program = bodies (program_of u.text); represents = u.represents; inside = λ n. inside u.text (run (bodies (program_of u.text)) n σ).state (run_form u.text u.free n σ w) }

-- ---- words
module _ (rk rn sk sn hk hn : List ℕ) (p : Place) where
  abbrev σ : State
  σ = state_of rk rn sk sn hk hn p

  enough : long_enough σ ≡ true → Words rk rn sk sn hk hn
  enough e =
      let l = true_long σ e in
      omega arith

  -- what `long_enough` answers
  pub starts_enough : (t : Bool) → t ≡ long_enough σ → t ≡ true → Words rk rn sk sn hk hn
  starts_enough t et h = enough (sym et ∙ h)

  -- what `good_form` answers
  module _ (T : Tables) (u : Unbarred T) (t : Bool) (et : (Q : Bodies) → length (flat Q) ≡ T.count → t ≡ long_enough σ && good_form Q σ) (h : t ≡ true) where
    abbrev P : Bodies
    P = bodies (program_of u.text)

    count_is : length (flat P) ≡ T.count
    count_is = flat_length T u.args P u.represents

    formed : WellFormed u.text σ
    formed = let b = and_inv (long_enough σ) (good_form P σ) (sym (et P count_is) ∙ h) in (b.1, b.0)

    pub resumes_enough : Words rk rn sk sn hk hn
    resumes_enough = enough formed.1

    pub resumes_place : PlaceIn p T.count
    resumes_place =
        let f = to_form P σ formed.1 formed.0 in
        let e = count_is in
        record { depth = f.depth; used = f.used; position = omega arith }

    pub resumes_safe : Safe T σ
    resumes_safe = safe_from T u σ formed

-- ---- at the start
pub starts_place : (xs : List ℕ) (τ : State) (rk rn sk sn hk hn : List ℕ) (p : Place) (n : ℕ) → state_of rk rn sk sn hk hn p ≡ initial xs τ → length xs ≤ 16 → PlaceIn p n
unfolding initial
starts_place xs τ rk rn sk sn hk hn p n e h =
    let d : p.depth ≡ 0 = ap (λ (x : State). x.depth) e in
    let u : p.used ≡ suc (length xs) = ap (λ (x : State). x.used) e in
    let z : p.position ≡ 0 = ap (λ (x : State). x.position) e in
    omega arith

pub starts_safe : (T : Tables) → Unbarred T → (xs : List ℕ) → length xs ≤ 16 → (τ : State) (t : Bool) → t ≡ long_enough τ → t ≡ true → {σ : State} → σ ≡ initial xs τ → Safe T σ
starts_safe T u xs l τ t et h e = subst (Safe T) (sym e) (safe_from T u (initial xs τ) (first_form u.text u.free xs l τ (sym et ∙ h)))
