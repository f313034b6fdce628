use Rattle.std.proofs.Common.{◌≡◌, suc, ◌+◌, replicate, refl, arith}
use Rattle.exec.specs.Machine.{junk_word}
use Rattle.exec_words.proofs.memory.Puts.{nothing_left, one_written}
use Rattle.exec_words.proofs.memory.put_junk.Goals as goal

pub loop-i-preserved : goal.loop-i-preserved
loop-i-preserved c =
    let e : c.args.from + (c.loop-i.i + 1) ≡ suc (c.args.from + c.loop-i.i) = omega arith in
    one_written _ _ _ (λ t. replicate t junk_word) (λ t. replicate t junk_word) junk_word _ _ (search) e (λ t. refl) c.set.ensures c.loop-i.invariant

pub returns : goal.returns
returns c = nothing_left _ (λ t. replicate t junk_word) _ _ (search) refl c.loop-i.invariant
