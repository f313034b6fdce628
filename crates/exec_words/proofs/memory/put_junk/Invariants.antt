use Rattle.std.proofs.Common.{◌≡◌, ◌+◌, ◌-◌, replicate}
use Rattle.exec.specs.Machine.{puts, junk_word}
use Rattle.exec_words.specs.memory.Lent.{lent}
use Rattle.exec_words.proofs.memory.put_junk.Given as goal

abbrev pub invariant-loop-i : goal.invariant-loop-i
invariant-loop-i l =
    puts (lent l.kinds l.numbers) (l.from + l.i) (replicate (l.n - l.i) junk_word) ≡ puts (lent l.initial.kinds l.initial.numbers) l.from (replicate l.n junk_word)
