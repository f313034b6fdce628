-- From the answers of checker, execute and report_day to numbers, and from lines to how they are told.
use Prim.Native.Nat.{ℕ}
use mathlib.Core.Path.{◌≡◌, ap, subst, ◌∙◌}
use mathlib.Core.List.{List}
use Rattle.exec.specs.Run as exec
use Rattle.exec_machine.specs.Step.{state_of}
use Rattle.exec_outcome.specs.declared.Outcome.{Outcome}
use Rattle.exec_outcome.specs.Answers.{answer_is, outcome_is}
use Rattle.stal_numbers.specs.declared.Reply.{Reply}
use Rattle.print.specs.Written.{written}
use Rattle.std.specs.Prelude.{Option}
use Rattle.print_write.specs.Answers.{written_is}
use Rattle.report.specs.Day.{Report}
use Rattle.stal_lines.specs.Day.{TellsDay}
use Rattle.stal_lines.specs.Line.{told, told_of}
use Rattle.stal_numbers.specs.Numbers.{reply_of, call, call_of, state_in}

-- ---- start and continue
pub called : (o : Outcome) (r : Reply) (rk rn sk sn hk hn : List ℕ) (d u p : ℕ) (e : exec.Outcome) → outcome_is o rk rn sk sn hk hn ≡ e → (d ≡ o.place.depth) × (u ≡ o.place.used) × (p ≡ o.place.position) → r ≡ reply_of (answer_is o.answer) → call r (state_in rk rn sk sn hk hn d u p) ≡ call_of e
unfolding call_of
called o r rk rn sk sn hk hn d u p e h w q = rw (w.0, w.1, w.2) (ap (λ (x : Reply). call x (state_of rk rn sk sn hk hn o.place)) q ∙ ap call_of h)

-- ---- a day's report, and lines
-- what is told of a report is told of the same one
pub day_told : {m m' : List ℕ} {c l : ℕ} {r r' : Report} → TellsDay m r c l m' → r ≡ r' → TellsDay m r' c l m'
day_told {m = m} {m' = m'} {c = c} {l = l} t e = subst (λ (r : Report). TellsDay m r c l m') e t

-- a line s that was written is told as its length, and so is s', which is the same
pub line_told : {c n : ℕ} {m s s' : List ℕ} (m₀ : List ℕ) (w : Option ℕ) → ((l : List ℕ) → told c n l ≡ told_of (written_is w l)) → written_is w m ≡ written s m₀ → s ≡ s' → told c n m ≡ told_of (written s' m₀)
line_told {m = m} m₀ w t h e = t m ∙ rw (h, e)
