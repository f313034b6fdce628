-- What follows from demand 3, from the claim alone: `Demand3` is a premise here, and its proof is not looked at.
use Prim.Native.Nat.{ℕ, zero, suc, ◌-◌, ◌≤◌, ◌<◌}
use native.Mathlib.Omega.{arith}
use mathlib.Core.Path.{◌≡◌, ap, sym, ◌∙◌}
use mathlib.Core.Option.{some}
use mathlib.Core.List.{List, [], ◌∷◌}
use lib.ListN.{length, get_or, get_elem?}
use Rattle.syntax.specs.Syntax.{Kind, value, stack, row_i}
use Rattle.text.specs.PassOne.{entries_of, rows_of}
use Rattle.text.specs.Samples.{samples_of}
use Rattle.types.specs.Types.{Ty, int, of_kind, walk, filling, fill}
use Rattle.types.specs.Rows.{type_at, meaning}
use Rattle.types.proofs.Filling.{get_lt}
use Rattle.types.proofs.Meaning.{type_before}
use Rattle.valid.specs.Program.{Program, type_of, program_from, program_of}
use Rattle.valid.specs.Rules.{At}
use Rattle.valid.proofs.Reading.{none_some, some_inj}
use Rattle.exec.specs.Machine.{height, at, State, fetch, stuck, Result, go, stop, step}
use Rattle.exec.specs.Run.{Answer, refused, halted_after, paused_after, stack_full_after, heap_full_after, stuck_after, steps_of, bodies, initial, starting, continuing}
use Rattle.exec.specs.Steps.{iterate}
use Rattle.sound.specs.Values.{Label, Has}
use Rattle.sound.specs.Claim.{Witness, TypedState, Walk, here, onward, Ends, Starts, Call, starts, Story, ended, start_refused, started, continued, Demand3}
use Rattle.sound.specs.Consequences.{outcome_of, Each, Reached, in_start, in_continue, in_later, Premises, Sound, NeverStuck, HaltsWithIntegers, TellsInteger, AlwaysIntegers, AsTyped, ReachedAsTyped}
use Rattle.sound.proofs.Memory.{use_length, use_at_lem, top_length, top_at}
use Rattle.sound.proofs.Words.{Is, is, fits_at, walk_at}
use Rattle.sound.proofs.Heaps.{heap_read}

-- a label's block is one of the program's
label_known : (P : Program) {l : ℕ} {q : List Kind} {a r : Ty stack} → Label P l q a r → l < length P.blocks
label_known P {l} x = get_lt P.blocks l x.B x.block

-- ---- what a well-typed state holds
module _ (P : Program) (σ : State) (ω : Witness) (t : TypedState P σ ω) where
  -- a register holds its type, filled by the picks
  register : {r : ℕ} {τ : Ty value} → At t.Γ.regs r τ → Has P ω.Ψ (at σ.registers r) (fill 0 ω.Θ τ)
  unfolding fill
  register {r} x =
      let k = fits_at P ω.Ψ _ (walk_at (filling ω.Θ) 0 x) t.registers in
      let l : r < 8 = rw (use_length σ.registers 8) at k.lt in
      rw (use_at_lem σ.registers 8 r l) at k.has

  holds : {r : ℕ} {τ : Ty value} → At t.Γ.regs r τ → Is P ω.Ψ (at σ.registers r) (fill 0 ω.Θ τ)
  holds x = is P ω.Ψ (register x)

  -- so does a stack item
  item : {j : ℕ} {τ : Ty value} → At t.Γ.sp j τ → (j < σ.depth) × Has P ω.Ψ (at σ.stack (σ.depth - suc j)) (fill 0 ω.Θ τ)
  unfolding fill
  item {j} x =
      let k = fits_at P ω.Ψ _ (walk_at (filling ω.Θ) 0 x) t.stack in
      let l : j < σ.depth = rw (top_length σ.stack σ.depth) at k.lt in
      (l, rw (top_at σ.stack σ.depth j (σ.depth - suc j) (omega arith)) at k.has)

  pub as_typed : AsTyped P σ
  unfolding fill walk
  as_typed = record {
    l = ω.l;
    i = ω.i;
    B = ω.B;
    Δ = t.Δ;
    Γ = t.Γ;
    block = t.block;
    place = t.place;
    rules = t.rules;
    filled = record { Θ = ω.Θ; closed = t.picks; closed_sp = t.closed_sp; closed_regs = t.closed_regs; depth = t.depth };
    heap = record { Ψ = ω.Ψ; closed = t.closed_tuples; holds = t.heap };
    register = λ x. holds x;
    item = λ x. let h = item x in (h.0, is P ω.Ψ h.1);
    component = λ {r} x y. is P ω.Ψ ((heap_read P ω.Ψ σ.heap σ.used (holds x).1 t.heap).component (walk_at (filling ω.Θ) 0 y));
    label = λ x. let h = holds x in (h.0, label_known P h.1);
    top = λ x. holds x ∙ ap height t.depth;
  }

-- ---- the states of a walk
-- a step that goes on is not stuck
goes_on : {r : Result State} {σ : State} → r ≡ go σ → ¬ (r ≡ stop stuck)
goes_on e f = let z : ◌≡◌ {A = ℕ} 0 1 = cc in absurd (omega arith)

record Met (P : Program) (σ : State) : Type 0 where
  not_stuck : ¬ (step (bodies P) σ ≡ stop stuck)
  as_typed : AsTyped P σ

met : (P : Program) {σ σ'' : State} {ω ω'' : Witness} {n : ℕ} → Walk P σ ω n σ'' ω'' → (k : ℕ) → k ≤ n → (σ' : State) → iterate (step (bodies P)) k σ ≡ some σ' → Met P σ'
unfolding iterate
met P (here {σ} {ω} t f) zero l σ' e = rw (← (some_inj e)) (record { not_stuck = f; as_typed = as_typed P σ ω t })
met P (here t f) (suc k) l σ' e = absurd (omega arith)
met P (onward {σ} {ω = ω} t s p m w) zero l σ' e = rw (← (some_inj e)) (record { not_stuck = goes_on s; as_typed = as_typed P σ ω t })
met P (onward t s p m w) (suc k) l σ' e = met P w k (omega arith) σ' (rw s at e)

-- ---- ends
ends_sound : (P : Program) (σ : State) (ω : Witness) (c : Call) (a : Answer) → Ends P σ ω a → Sound c a
ends_sound P σ ω c (refused n line) e = absurd e
ends_sound P σ ω c (halted_after n kind number) e = tt
ends_sound P σ ω c (paused_after n) e = tt
ends_sound P σ ω c (stack_full_after n) e = tt
ends_sound P σ ω c (heap_full_after n) e = tt
ends_sound P σ ω c (stuck_after n) e = absurd e

-- a row `I` is of type int
get_default : {A : Type 0} (xs : List A) (n : ℕ) (x d : A) → get_elem? xs n ≡ some x → get_or xs n d ≡ x
get_default [] n x d e = none_some e
get_default (y ∷ xs) zero x d e = some_inj e
get_default (y ∷ xs) (suc n) x d e = get_default xs n x d e

int_row : (text : List ℕ) (t : ℕ) → get_elem? (rows_of (entries_of text)) t ≡ some row_i → type_of (program_of text) t ≡ int
unfolding program_of program_from type_at of_kind meaning
int_row text t e =
    let rows = rows_of (entries_of text) in
    rw (type_before rows t row_i (get_lt rows t row_i e), get_default rows t row_i row_i e)

ends_integer : (text : List ℕ) → HaltsWithIntegers text → (σ : State) (ω : Witness) (c : Call) (a : Answer) → Ends (program_of text) σ ω a → TellsInteger c a
ends_integer text h σ ω c (refused n line) e = tt
ends_integer text h σ ω c (halted_after n kind number) e =
    let t = int_row text e.t (h σ.position e.t (unfold fetch in e.at_halt)) in
    let h : Has (program_of text) ω.Ψ (record { kind = kind; number = number }) int = unfold fill walk in rw t at e.result in
    is (program_of text) ω.Ψ h
ends_integer text h σ ω c (paused_after n) e = tt
ends_integer text h σ ω c (stack_full_after n) e = tt
ends_integer text h σ ω c (heap_full_after n) e = tt
ends_integer text h σ ω c (stuck_after n) e = tt

-- ---- the calls of a story
module _ (text : List ℕ) (Q : Call → Answer → Type 0) (of_end : (σ : State) (ω : Witness) (c : Call) (a : Answer) → Ends (program_of text) σ ω a → Q c a) (of-refusal : (samples : List ℕ) (m n line : ℕ) → Q (starts samples m) (refused n line)) where
  each : {cs : List Call} {σ : State} {ω : Witness} → Story text cs σ ω → Each Q text cs σ
  unfolding outcome_of
  each ended = tt
  each (start_refused {samples} {m} r e s) = (rw r.2 (of-refusal samples m r.0 r.1), rw e (each s))
  each (started {samples} {m} {σ = σ} {ω' = ω'} x s) = (of_end (starting text samples m σ).state ω' _ _ x.runs.end, each s)
  each (continued {m} {σ = σ} {ω' = ω'} x s) = (of_end (continuing text m σ).state ω' _ _ x.end, each s)

  each_of : Demand3 → (samples : List ℕ) (m : ℕ) (σ : State) → Premises text samples m σ → (cs : List Call) → Each Q text (starts samples m ∷ cs) σ
  unfolding outcome_of
  each_of d samples m σ p cs =
      let s = d text p.blocks p.instructions p.accepts samples m σ p.runs cs in
      (of_end (starting text samples m σ).state s.0 _ _ s.1.runs.end, each s.2)

pub never_stuck_of : Demand3 → NeverStuck
never_stuck_of d text samples m σ p cs = each_of text Sound (ends_sound (program_of text)) (λ samples m n line. tt) d samples m σ p cs

pub always_integers_of : Demand3 → AlwaysIntegers
always_integers_of d text samples m σ p h cs = each_of text TellsInteger (ends_integer text h) (λ samples m n line. tt) d samples m σ p cs

-- ---- the states of a story
module _ (text : List ℕ) where
  met_start : {samples xs : List ℕ} {m : ℕ} {σ σ' : State} {ω : Witness} (k : ℕ) → Starts text samples m σ ω → samples_of samples ≡ some xs → k ≤ steps_of (starting text samples m σ).answer → iterate (step (bodies (program_of text))) k (initial xs σ) ≡ some σ' → Met (program_of text) σ'
  met_start {σ = σ} {σ' = σ'} k s r l e = met (program_of text) s.runs.walk k l σ' (rw (some_inj (sym r ∙ s.read)) at e)

  met_story : {cs : List Call} {σ σ' : State} {ω : Witness} → Story text cs σ ω → Reached text cs σ σ' → Met (program_of text) σ'
  unfolding outcome_of
  met_story {σ' = σ'} (ended {σ = σ} {ω = ω}) x5 = elim x5 [ ]
  met_story (start_refused r e s) (in_start k f x l i) = absurd (f r)
  met_story (start_refused r e s) (in_later x) = met_story s (rw e at x)
  met_story (started y s) (in_start k f x l i) = met_start k y x l i
  met_story (started y s) (in_later x) = met_story s x
  met_story {σ' = σ'} (continued y s) (in_continue k l i) = met (program_of text) y.walk k l σ' i
  met_story (continued y s) (in_later x) = met_story s x

  met_first : {samples : List ℕ} {m : ℕ} {cs : List Call} {σ σ' : State} {ω : Witness} → Starts text samples m σ ω → Story text cs (starting text samples m σ).state ω → Reached text (starts samples m ∷ cs) σ σ' → Met (program_of text) σ'
  unfolding outcome_of
  met_first y s (in_start k f x l i) = met_start k y x l i
  met_first y s (in_later x) = met_story s x

pub reached_as_typed_of : Demand3 → ReachedAsTyped
reached_as_typed_of d text samples m σ p cs σ' r =
    let s = d text p.blocks p.instructions p.accepts samples m σ p.runs cs in
    let k = met_first text s.1 s.2 r in
    (k.not_stuck, k.as_typed)
