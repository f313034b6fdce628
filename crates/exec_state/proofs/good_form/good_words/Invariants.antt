use mathlib.Core.Path.{◌≡◌}
use Prim.Native.Nat.{◌-◌}
use Rattle.exec.specs.Run.{words_from}
use Rattle.exec_words.specs.memory.Lent.{lent}
use Rattle.exec_state.specs.good_form.Marks.{all_good_by}
use Rattle.exec_state.proofs.good_form.good_words.Given as goal

abbrev pub invariant-loop-i : goal.invariant-loop-i
invariant-loop-i l =
    all_good_by l.starts (words_from (lent l.kinds l.numbers) l.i (l.n - l.i)) ≡ all_good_by l.starts (words_from (lent l.kinds l.numbers) 0 l.n)
