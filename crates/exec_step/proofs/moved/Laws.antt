-- From the change that a function makes to the step that it is.
use mathlib.Core.Path.{◌≡◌, refl, ap, sym, ◌∙◌}
use mathlib.Core.Bool.{Bool, true, false, not, cond}
use Prim.Native.Nat.{ℕ, ◌+◌, ◌*◌, ◌≤◌}
use native.Mathlib.Omega.{arith}
use lib.ListN.{replicate}
use Rattle.exec.specs.Machine.{Memory, State, Result, Word, at, put, puts, junk_word, go, stop, handle}
use Rattle.tables.specs.Tables.{OperandTable}
use Rattle.exec_words.specs.declared.memory.Word.{Word as Pair}
use Rattle.exec_words.specs.memory.Lent.{word_is, tuple_of}
use Rattle.exec_machine.specs.declared.Stop.{Stop as Reason}
use Rattle.exec_machine.specs.Step.{stop_is, result_of, Next, Go, Register, Stack, Heap, Depth, Junk, Tuple, End}
use Rattle.exec_step.specs.declared.moved.Moved.{Moved}
use Rattle.exec_step.specs.declared.moved.Moved.TheVariants.{To, Paused, Ended}
use Rattle.exec_step.specs.moved.Stepped.{held, toward, Reached, Waits, Stops, Turned}

-- ---- with budget and without
pub spent : (more : Bool) → not more ≡ true → more ≡ false
spent true e = sym e
spent false e = refl

pub left : (more : Bool) → not more ≡ false → more ≡ true
left true e = refl
left false e = sym e

module _ (more : Bool) where
  pub moves : (to h u : ℕ) → more ≡ true → To to h u ≡ toward more to h u
  moves to h u e = ap (λ (b : Bool). toward b to h u) (sym e)

  pub waits : (to h u : ℕ) → more ≡ false → Paused ≡ toward more to h u
  waits to h u e = ap (λ (b : Bool). toward b to h u) (sym e)

  pub written : (m n : Memory) {l : Memory} → more ≡ true → l ≡ m → l ≡ cond more m n
  written m n e h = h ∙ ap (λ (b : Bool). cond b m n) (sym e)

  pub as_before : (m n : Memory) → more ≡ false → n ≡ cond more m n
  as_before m n e = ap (λ (b : Bool). cond b m n) (sym e)

pub kept : (more : Bool) (m : Memory) → m ≡ cond more m m
kept true m = refl
kept false m = refl

-- ---- from an answer to the step
pub as_turned : {m : ℕ} {more : Bool} {σ : State} {r : Moved} {R S H : Memory} {x y : Result State} → x ≡ y → Turned m y more σ r R S H → Turned m x more σ r R S H
as_turned e t = rw e t

module _ {m : ℕ} {x : Result State} {more : Bool} {σ : State} {R S H : Memory} where
  to_turned : {to h u : ℕ} → Reached m x more to h u R S H → Turned m x more σ (To to h u) R S H
  to_turned {to} {h} {u} t = record {
    reached = λ a b c q. let e : a ≡ to = cc in let f : b ≡ h = cc in let g : c ≡ u = cc in rw (e, f, g) t;
    waits = λ q. let z : ◌≡◌ {A = ℕ} 0 1 = cc in absurd (omega arith);
    stops = λ s q. let z : ◌≡◌ {A = ℕ} 0 1 = cc in absurd (omega arith);
  }

  paused_turned : Waits x more σ R S H → Turned m x more σ Paused R S H
  paused_turned t = record {
    reached = λ a b c q. let z : ◌≡◌ {A = ℕ} 0 1 = cc in absurd (omega arith);
    waits = λ q. t;
    stops = λ s q. let z : ◌≡◌ {A = ℕ} 0 1 = cc in absurd (omega arith);
  }

  ended_turned : {s : Reason} → Stops x (stop (stop_is s)) σ R S H → Turned m x more σ (Ended s) R S H
  ended_turned {s} t = record {
    reached = λ a b c q. let z : ◌≡◌ {A = ℕ} 0 1 = cc in absurd (omega arith);
    waits = λ q. let z : ◌≡◌ {A = ℕ} 0 1 = cc in absurd (omega arith);
    stops = λ s' q. let e : s' ≡ s = cc in rw e t;
  }

-- words R, S, H and the place where the change is made; R', S', H' are those that were left
turned : {m : ℕ} {x : Result State} (more : Bool) {σ : State} {to h u p : ℕ} {R S H : Memory} {R' S' H' : Memory} {r : Moved}
    → r ≡ toward more to h u → R' ≡ cond more R σ.registers → S' ≡ cond more S σ.stack → H' ≡ cond more H σ.heap
    → x ≡ go (held R S H h u p) → to ≡ 8 * p → p ≤ m → h ≤ 256 → u ≤ 2048 → Turned m x more σ r R' S' H'
turned true {h = h} {u} {p} e e_r eS e_h q et lp lh lu = rw e (to_turned (record { budget = refl; position = p; place = et; within = lp; depth = lh; used = lu; result = q ∙ (λ i. go (held (sym e_r i) (sym eS i) (sym e_h i) h u p)) }))
turned false e e_r eS e_h q et lp lh lu = rw e (paused_turned (record { budget = refl; still = record { registers = e_r; stack = eS; heap = e_h }; next = _; result = q }))

module _ (ω : OperandTable) {m : ℕ} {more : Bool} {R S H : Memory} {h u j : ℕ} {x : Next} {r : Moved} where
  pub ended : {s : Reason} → r ≡ Ended s → End s ≡ x → Turned m (result_of ω (held R S H h u j) x) more (held R S H h u j) r R S H
  unfolding result_of
  ended e q = rw e (ended_turned (record { still = record { registers = refl; stack = refl; heap = refl }; result = ap (result_of ω (held R S H h u j)) (sym q) }))

  module _ {to p : ℕ} (et : to ≡ 8 * p) (lp : p ≤ m) (lh : h ≤ 256) (lu : u ≤ 2048) where
    pub to_register : {d : ℕ} {w : Pair} {R' : Memory} → Register d w p ≡ x → r ≡ toward more to h u → R' ≡ cond more (put R d (word_is w)) R → Turned m (result_of ω (held R S H h u j) x) more (held R S H h u j) r R' S H
    unfolding result_of
    to_register e er e_r = turned more er e_r (kept more S) (kept more H) (ap (result_of ω (held R S H h u j)) (sym e)) et lp lh lu

    pub to_stack : {i : ℕ} {w : Pair} {S' : Memory} → Stack i w p ≡ x → r ≡ toward more to h u → S' ≡ cond more (put S i (word_is w)) S → Turned m (result_of ω (held R S H h u j) x) more (held R S H h u j) r R S' H
    unfolding result_of
    to_stack e er eS = turned more er (kept more R) eS (kept more H) (ap (result_of ω (held R S H h u j)) (sym e)) et lp lh lu

    pub to_heap : {i : ℕ} {w : Pair} {H' : Memory} → Heap i w p ≡ x → r ≡ toward more to h u → H' ≡ cond more (put H i (word_is w)) H → Turned m (result_of ω (held R S H h u j) x) more (held R S H h u j) r R S H'
    unfolding result_of
    to_heap e er e_h = turned more er (kept more R) (kept more S) e_h (ap (result_of ω (held R S H h u j)) (sym e)) et lp lh lu

    pub to_depth : {d : ℕ} → d ≤ 256 → Depth d p ≡ x → r ≡ toward more to d u → Turned m (result_of ω (held R S H h u j) x) more (held R S H h u j) r R S H
    unfolding result_of
    to_depth ld e er = turned more er (kept more R) (kept more S) (kept more H) (ap (result_of ω (held R S H h u j)) (sym e)) et lp ld lu

    pub to_position : Go p ≡ x → r ≡ toward more to h u → Turned m (result_of ω (held R S H h u j) x) more (held R S H h u j) r R S H
    unfolding result_of
    to_position e er = turned more er (kept more R) (kept more S) (kept more H) (ap (result_of ω (held R S H h u j)) (sym e)) et lp lh lu

    pub to_junk : {n : ℕ} {S' : Memory} → h + n ≤ 256 → Junk n (h + n) p ≡ x → r ≡ toward more to (h + n) u → S' ≡ cond more (puts S h (replicate n junk_word)) S → Turned m (result_of ω (held R S H h u j) x) more (held R S H h u j) r R S' H
    unfolding result_of
    to_junk ld e er eS = turned more er (kept more R) eS (kept more H) (ap (result_of ω (held R S H h u j)) (sym e)) et lp ld lu

    pub to_tuple : {d v n : ℕ} {R' H' : Memory} → u + n + 1 ≤ 2048 → Tuple u d v n (u + n + 1) p ≡ x → r ≡ toward more to h (u + n + 1)
        → R' ≡ cond more (put R d (handle u)) R → H' ≡ cond more (puts H u (tuple_of ω R v n)) H → Turned m (result_of ω (held R S H h u j)
        x) more (held R S H h u j) r R' S H'
    unfolding result_of
    to_tuple l e er e_r e_h = turned more er e_r (kept more S) e_h (ap (result_of ω (held R S H h u j)) (sym e)) et lp lh l

-- ---- words, by another name for their index
pub named : (M : Memory) {w : Word} {i j : ℕ} → w ≡ at M i → i ≡ j → w ≡ at M j
named M e q = e ∙ ap (at M) q
