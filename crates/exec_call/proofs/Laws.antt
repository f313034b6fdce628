-- A call, from what loading the text answers.
use Prim.Native.Nat.{ℕ, ◌-◌, ◌<◌, ◌≤◌}
use native.Mathlib.Omega.{arith}
use mathlib.Core.Path.{◌≡◌, refl, ap, sym, ◌∙◌}
use mathlib.Core.Bool.{Bool, true, false, true≢false}
use mathlib.Core.Option.{Option, none}
use mathlib.Core.List.{List}
use lib.Dec.{ltb}
use lib.ListN.{length, replicate, length-replicate}
use borrow.Author.Tests.{ltb-true, ltb-false}
use Rattle.std.specs.Prelude.{Ok, Err}
use Rattle.faults.specs.declared.LineFault.{LineFault}
use Rattle.faults.specs.Numbers.{number}
use Rattle.syntax.specs.Fault.{Refusal}
use Rattle.text.specs.Samples.{samples_of}
use Rattle.valid.specs.Program.{Program, program_of}
use Rattle.exec.specs.Machine.{State}
use Rattle.exec.specs.Run.{Outcome, refuse, bodies, wanted, barred, start_on, start_unless, starting, continue_unless, continuing}
use Rattle.exec_machine.specs.Step.{tables}
use Rattle.exec_machine.specs.Represents.{Represents}
use Rattle.exec_ready.specs.declared.Ready.{Ready}
use Rattle.exec_ready.specs.Ready.{ReadyIs}
use Rattle.exec_launch.specs.Startable.{Unbarred}
use Rattle.image.specs.declared.Places.{Places}
use Rattle.image.specs.Layout.{places_of}
use Rattle.image.proofs.Laws.{ordered, part_length, small, large, large_shared}
use Rattle.text_decode.specs.declared.state.Unread.TheVariants.{Faulty}
use Rattle.text_decode.specs.store.Store.{store_in}
use Rattle.std.proofs.Common.{Bor}
use Rattle.exec_call.specs.declared.Call.{Call}
use Rattle.exec_call.specs.declared.Call.TheVariants.{Start, Continue}
use Rattle.exec_call.specs.Tries.{starts, given, Called, RanOn, CalledIn, starting_in, continuing_in, PlanFits}

-- ---- with working memory lent
module _ {long : Bool} {text samples : List ℕ} {m : ℕ} {σ : State} {out : Outcome} where
  pub starting_in_lem : CalledIn long true text samples m σ out → out ≡ starting_in long text samples m σ
  starting_in_lem k = by long refl
    where
      by : (b : Bool) → long ≡ b → out ≡ starting_in b text samples m σ
      by true e = (k.enough e).started refl
      by false e = k.short e

  pub continuing_in_lem : CalledIn long false text samples m σ out → out ≡ continuing_in long text m σ
  continuing_in_lem k = by long refl
    where
      by : (b : Bool) → long ≡ b → out ≡ continuing_in b text m σ
      by true e = (k.enough e).continued refl
      by false e = k.short e

-- ---- a run, by what is called for
module _ {P : Program} {m : ℕ} {σ : State} {out : Outcome} (k : Call) where
  pub on_start : (s : Bor (List ℕ)) → k ≡ Start s → out ≡ start_on P (samples_of s.now) m σ → RanOn (starts k) P (samples_of (given k)) m σ out
  on_start s e o = rw e (record { started = λ _. o; continued = λ w. absurd (true≢false w) })

  pub on_continue : k ≡ Continue → out ≡ continue_unless none P m σ → RanOn (starts k) P (samples_of (given k)) m σ out
  on_continue e o = rw e (record { started = λ w. absurd (true≢false (sym w)); continued = λ _. o })

-- ---- one attempt

-- a refusal
pub refused : {text ι os ns β : List ℕ} {f : LineFault} → ReadyIs text ι os ns β (Err (Faulty f)) → {m : ℕ} {σ : State} {first : Bool} {samples : List ℕ} → Called first text samples m σ (refuse σ (number f.fault) f.line)
unfolding starting continuing
refused {text} d {m} {σ} {first} {samples} = record {
  started = λ e. ap (λ (o : Option Refusal). start_unless o (program_of text) (samples_of samples) m σ) d.fault;
  continued = λ e. ap (λ (o : Option Refusal). continue_unless o (program_of text) m σ) d.fault;
}

module _ {text ι os ns β : List ℕ} {r : Ready} (d : ReadyIs text ι os ns β (Ok r)) where
  none_is : barred text ≡ none
  none_is = sym d.fault

  pub unbarred : Unbarred (tables ι os ns β r.instrs r.blocks)
  unbarred = let k = d.startable r refl in record { text = text; args = k.args; free = none_is; represents = k.represents }

  -- a run
  pub ran : {m : ℕ} {σ : State} {first : Bool} {samples : List ℕ} {out : Outcome}
      → ((args : List ℕ) (P : Program) → Represents (tables ι os ns β r.instrs r.blocks) args (bodies P) → r.samples ≡ wanted P.blocks → RanOn first P (samples_of samples) m σ out)
      → Called first text samples m σ out
  unfolding starting continuing
  ran {m} {σ} {first} {samples} f =
      let k = d.startable r refl in
      let h = f k.args (program_of text) k.represents k.samples in
      record {
        started = λ e. h.started e ∙ sym (ap (λ (o : Option Refusal). start_unless o (program_of text) (samples_of samples) m σ) none_is);
        continued = λ e. h.continued e ∙ sym (ap (λ (o : Option Refusal). continue_unless o (program_of text) m σ) none_is);
      }

-- ---- a plan that is as long as the layouts want
pub plan_small : (i p : ℕ) → 4423 ≤ i → i < 5162 → 712 ≤ p → PlanFits i p
plan_small i p g h k = rw (small i g h) (omega arith)

pub plan_large : (i p : ℕ) → 150900 ≤ i → 8208 ≤ p → PlanFits i p
plan_large i p g k = by (ltb i 161694) refl
  where
    by : (b : Bool) → ltb i 161694 ≡ b → PlanFits i p
    by true e = rw (large i g (ltb-true i 161694 e)) (omega arith)
    by false e = rw (large_shared i (ltb-false i 161694 e)) (omega arith)

-- the instructions' section of an image
pub instrs_long : (p : Places) (l ns : List ℕ) → p ≡ places_of (length l) → length (store_in p l ns).instrs ≡ (places_of (length l)).parts - (places_of (length l)).instrs
instrs_long p l ns e = let o = ordered (length l) in rw e (part_length (places_of (length l)).instrs (places_of (length l)).parts l (omega (arith, o)))

pub zeros_are : (n : ℕ) → length (replicate {A = ℕ} n 0) ≡ n
zeros_are n = length-replicate {A = ℕ} n 0
