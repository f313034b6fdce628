-- A run's end as an outcome, and the budget.
use Prim.Native.Nat.{ℕ}
use mathlib.Core.Path.{◌≡◌, ap, sym, ◌∙◌}
use Rattle.exec.specs.Machine.{Word}
use Rattle.exec.specs.Run.{stopped, Answer, halted_after, paused_after, answer_of}
use Rattle.exec_words.specs.declared.memory.Word.{Word as Pair}
use Rattle.exec_words.specs.memory.Lent.{word_is}
use Rattle.exec_machine.specs.declared.Stop.{Stop as Reason}
use Rattle.exec_machine.specs.declared.Stop.TheVariants.{Halted}
use Rattle.exec_machine.specs.Step.{stop_is}
use Rattle.exec_run.specs.Runs.{end_is}
use Rattle.std.specs.Prelude.{Option, Some, None}

-- ---- a run's end
pub at_halt : {s : Reason} {p : Pair} {w : Word} (n : ℕ) → s ≡ Halted → word_is p ≡ w → halted_after n p.kind p.number ≡ answer_of (stopped (stop_is s)) n w
unfolding answer_of
at_halt {w = w} n e h = ap (λ (x : Word). halted_after n x.kind x.number) h ∙ ap (λ (x : Reason). answer_of (stopped (stop_is x)) n w) (sym e)

pub at_stop : {s : Reason} (r : Reason) {a : Answer} (w : Word) (n : ℕ) → s ≡ r → a ≡ answer_of (stopped (stop_is r)) n w → a ≡ answer_of (stopped (stop_is s)) n w
at_stop r w n e h = h ∙ ap (λ (x : Reason). answer_of (stopped (stop_is x)) n w) (sym e)

-- a pause, or a stop with the answer that it has
module _ (w : Word) (n : ℕ) where
  pub at_pause : {e : Option Reason} → e ≡ None → paused_after n ≡ answer_of (end_is e) n w
  unfolding answer_of
  at_pause q = ap (λ (x : Option Reason). answer_of (end_is x) n w) (sym q)

  pub at_end : {e : Option Reason} {s : Reason} {a : Answer} → e ≡ Some s → a ≡ answer_of (stopped (stop_is s)) n w → a ≡ answer_of (end_is e) n w
  at_end q h = h ∙ ap (λ (x : Option Reason). answer_of (end_is x) n w) (sym q)
