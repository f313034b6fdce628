-- The ways through a start and a continuation.
use Prim.Native.Nat.{ℕ, ◌≤◌}
use native.Mathlib.Omega.{arith}
use mathlib.Core.Path.{◌≡◌, refl, ap, sym, ◌∙◌}
use mathlib.Core.Bool.{Bool, true, false, ◌&&◌, cond}
use mathlib.Core.Option.{Option, none, some}
use mathlib.Core.List.{List, []}
use lib.Dec.{eqb}
use lib.ListN.{length, take}
use lib.Seq.{length-take-le}
use Rattle.syntax.specs.Partial.{guarded}
use Rattle.tables.proofs.Steps.{length_instrs}
use Rattle.valid.specs.Program.{Program}
use Rattle.exec.specs.Machine.{State, Bodies, flat}
use Rattle.exec.specs.Run.{Outcome, outcome, refuse, run, budget, bodies, wanted, initial, long_enough, good_form, start_on, continue_unless}
use Rattle.exec_machine.specs.Step.{Tables}
use Rattle.exec_machine.specs.Represents.{Represents}
use Rattle.exec_state.specs.samples.Counted.{exactly}

-- ---- samples
-- as many entries as are taken
pub taken_length : (xs : List ℕ) (n : ℕ) → n ≤ length xs → length (take n xs) ≡ n
taken_length xs n h = length-take-le n xs h

some_none : {X : Type 0} {l : List ℕ} → ◌≡◌ {A = Option (List ℕ)} none (some l) → X
some_none e = let z : ◌≡◌ {A = ℕ} 0 1 = ap tag e in absurd (omega arith)
  where
    tag : Option (List ℕ) → ℕ
    tag none = 0
    tag (some l) = 1

inside : Option (List ℕ) → List ℕ
inside none = []
inside (some l) = l

module _ (n : ℕ) where
  -- none, or another count
  miscounted : (o : Option (List ℕ)) → none ≡ exactly n o → (P : Program) → n ≡ wanted P.blocks → (m : ℕ) (σ : State) → start_on P o m σ ≡ refuse σ 15 0
  miscounted none e P w m σ = refl
  miscounted (some xs) e P w m σ = go (eqb (length xs) n) refl e
    where
      go : (b : Bool) → eqb (length xs) n ≡ b → none ≡ guarded b xs → cond (eqb (length xs) (wanted P.blocks)) (cond (long_enough σ) (outcome (run (bodies P) (budget m) (initial xs σ))) (refuse σ 16 0)) (refuse σ 15 0) ≡ refuse σ 15 0
      go true q f = some_none f
      go false q f = let k : eqb (length xs) (wanted P.blocks) ≡ false = ap (eqb (length xs)) (sym w) ∙ q in rw k refl

  -- these samples
  counted : (l : List ℕ) (o : Option (List ℕ)) → some l ≡ exactly n o → (o ≡ some l) × (eqb (length l) n ≡ true)
  unfolding inside
  counted l none e = some_none (sym e)
  counted l (some xs) e = go (eqb (length xs) n) refl e
    where
      go : (b : Bool) → eqb (length xs) n ≡ b → some l ≡ guarded b xs → (some xs ≡ some l) × (eqb (length l) n ≡ true)
      go true q f = (sym f, ap (λ (o : Option (List ℕ)). eqb (length (inside o)) n) f ∙ q)
      go false q f = some_none (sym f)

-- ---- starting
module _ (want : ℕ) (o : Option (List ℕ)) (xs : List ℕ) (b : Bool) (e : guarded b (take want xs) ≡ exactly want o) (P : Program) (w : want ≡ wanted P.blocks) (m : ℕ) (σ : State) where
  pub starts_15 : b ≡ false → start_on P o m σ ≡ refuse σ 15 0
  starts_15 h = miscounted want o (ap (λ (x : Bool). guarded x (take want xs)) (sym h) ∙ e) P w m σ

  module _ (h : b ≡ true) where
    abbrev l : List ℕ
    l = take want xs

    on_samples : start_on P o m σ ≡ cond (long_enough σ) (outcome (run (bodies P) (budget m) (initial (take want xs) σ))) (refuse σ 16 0)
    on_samples =
        let k = counted want l o (ap (λ (x : Bool). guarded x l) (sym h) ∙ e) in
        let q : eqb (length l) (wanted P.blocks) ≡ true = ap (eqb (length l)) (sym w) ∙ k.1 in
        ap (λ (x : Option (List ℕ)). start_on P x m σ) k.0 ∙ ap (λ (x : Bool). cond x (cond (long_enough σ) (outcome (run (bodies P) (budget m) (initial l σ))) (refuse σ 16 0)) (refuse σ 15 0)) q

    pub starts_16 : (t : Bool) → t ≡ long_enough σ → t ≡ false → start_on P o m σ ≡ refuse σ 16 0
    starts_16 t et ht = on_samples ∙ ap (λ (x : Bool). cond x (outcome (run (bodies P) (budget m) (initial l σ))) (refuse σ 16 0)) (sym et ∙ ht)

    pub starts_run : (t : Bool) → t ≡ long_enough σ → t ≡ true → (out : Outcome) (τ : State) → out ≡ outcome (run (bodies P) (budget m) τ) → τ ≡ initial (take want xs) σ → out ≡ start_on P o m σ
    starts_run t et ht out τ eo eτ =
        eo ∙ ap (λ (x : State). outcome (run (bodies P) (budget m) x)) eτ
        ∙ sym (on_samples ∙ ap (λ (x : Bool). cond x (outcome (run (bodies P) (budget m) (initial l σ))) (refuse σ 16 0)) (sym et ∙ ht))

-- ---- continuing
pub flat_length : (T : Tables) (args : List ℕ) (P : Bodies) → Represents T args P → length (flat P) ≡ T.count
flat_length T args P rep = ap length rep.instructions ∙ length_instrs T.instrs (record { operands = T.operands; numbers = T.bases; args = args }) 0 T.count

module _ (T : Tables) (args : List ℕ) (P : Program) (rep : Represents T args (bodies P)) (m : ℕ) (σ : State) (t : Bool) (et : (Q : Bodies) → length (flat Q) ≡ T.count → t ≡ long_enough σ && good_form Q σ) where
  good_is : t ≡ long_enough σ && good_form (bodies P) σ
  good_is = et (bodies P) (flat_length T args (bodies P) rep)

  pub resumes_16 : t ≡ false → continue_unless none P m σ ≡ refuse σ 16 0
  resumes_16 h = ap (λ (x : Bool). cond x (outcome (run (bodies P) (budget m) σ)) (refuse σ 16 0)) (sym good_is ∙ h)

  pub resumes_run : t ≡ true → (out : Outcome) → out ≡ outcome (run (bodies P) (budget m) σ) → out ≡ continue_unless none P m σ
  resumes_run h out eo = eo ∙ sym (ap (λ (x : Bool). cond x (outcome (run (bodies P) (budget m) σ)) (refuse σ 16 0)) (sym good_is ∙ h))
