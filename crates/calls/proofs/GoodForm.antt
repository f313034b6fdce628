-- For a text that bars no start, the state that a starting runs from is of good form, and every step and every run keep good form.
use Prim.Native.Nat.{ℕ, suc, ◌≤◌}
use native.Mathlib.Nat.{zero-add}
use native.Mathlib.Omega.{arith}
use mathlib.Core.Path.{◌≡◌, refl, sym}
use mathlib.Core.Bool.{true}
use mathlib.Core.Option.{none}
use mathlib.Core.List.{List, [], ◌∷◌, map}
use lib.ListN.{length, length-map, replicate}
use Rattle.valid.specs.Program.{program_of}
use Rattle.exec.specs.Machine.{Word, integer, handle, junk_word, Memory, puts, State, Bodies, flat, start_of}
use Rattle.exec.specs.Run.{run, words_from, in_use, starts_at, good_form, long_enough, bodies, barred, initial}
use Rattle.sound.proofs.Memory.{Long, puts_long, use_puts}
use Rattle.sound.proofs.GoodForm.{true_long}
use Rattle.calls.proofs.All.{All, all_replicate}
use Rattle.calls.proofs.Startable.{Startable, start_in, startable}
use Rattle.calls.proofs.Tuples.{one_tuple}
use Rattle.calls.proofs.Form.{Good, good_integer, good_handle, good_junk, Lasting, good_lasts, Form, to_form, form_long, form_good}
use Rattle.calls.proofs.Kept.{run_keeps}

-- ---- the first state
integers_good : (H : List Word) (xs : List ℕ) → All (Good H) (map integer xs)
integers_good H [] = tt
integers_good H (x ∷ xs) = (good_integer H x, integers_good H xs)

-- memory written from its first word on
written : (m : Memory) (c n : ℕ) (ws : List Word) → Long m c → n ≡ length ws → n ≤ c → in_use (puts m 0 ws) n ≡ ws
unfolding words_from
written m c n ws l e h = let u = use_puts m 0 c ws l (omega arith) in rw (zero-add (length ws), ← e) at u

none_used_lem : (Q : Word → Type 0) (m : Memory) → All Q (in_use m 0)
unfolding words_from
none_used_lem Q m = tt

-- it has whatever is asked of words, if that lasts and the samples have it
pub first_keeps : (Q : List Word → Word → Type 0) → Lasting Q → (P : Bodies) → Startable P → (xs : List ℕ) → length xs ≤ 16
    → ((H : List Word) → All (Q H) (map integer xs)) → (σ : State) → long_enough σ ≡ true → Form Q P (initial xs σ)
unfolding initial starts_at start_of flat
first_keeps Q q P s xs h g σ l =
    let m = true_long σ l in
    let n = suc (length xs) in
    let T = integer (length xs) ∷ map integer xs in
    let R = handle 0 ∷ replicate 7 junk_word in
    let k = length-map xs integer in
    let t : in_use (puts σ.heap 0 T) n ≡ T = written σ.heap 2048 n T m.2 (omega arith) (omega arith) in
    let r1 = q.made T (handle 0) (good_handle T 0 refl) (omega arith) in
    let j = q.made T junk_word (good_junk T) (omega arith) in
    record {
      registers_long = puts_long R σ.registers 8 0 m.0;
      stack_long = m.1;
      heap_long = puts_long T σ.heap 2048 0 m.2;
      depth = omega arith;
      used = omega arith;
      position = start_in P s.closed 0 s.some_block;
      tuples = rw t (one_tuple (length xs) (map integer xs) (sym k) h);
      registers = rw (t, written σ.registers 8 8 R m.0 refl (omega arith)) (r1, all_replicate (Q T) 7 junk_word j);
      stack = none_used_lem (Q _) σ.stack;
      heap = rw t (q.made T (integer (length xs)) (good_integer T (length xs)) (omega arith), g T);
    }

-- ---- the text
-- a state of good form for the text, over memory that is long enough: one that a continuing does not refuse
abbrev pub WellFormed : List ℕ → State → Type 0
WellFormed text σ = (good_form (bodies (program_of text)) σ ≡ true) × (long_enough σ ≡ true)

module _ (text : List ℕ) (free : barred text ≡ none) where
  abbrev P : Bodies
  P = bodies (program_of text)

  from_parts : (σ : State) → Form Good P σ → WellFormed text σ
  from_parts σ f = (form_good P σ f, form_long P σ f)

  parts : (σ : State) → WellFormed text σ → Form Good P σ
  parts σ w = to_form P σ w.1 w.0

  pub first_form : (xs : List ℕ) → length xs ≤ 16 → (σ : State) → long_enough σ ≡ true → WellFormed text (initial xs σ)
  first_form xs h σ l = from_parts (initial xs σ) (first_keeps Good good_lasts P (startable text free) xs h (λ H. integers_good H xs) σ l)

  pub run_form : (n : ℕ) (σ : State) → WellFormed text σ → WellFormed text (run P n σ).state
  run_form n σ w = from_parts (run P n σ).state (run_keeps Good P good_lasts (startable text free) n σ (parts σ w))
