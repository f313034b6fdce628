use Rattle.exec.specs.Machine.{put}
use Rattle.exec_words.proofs.memory.put.Goals as goal

pub returns : goal.returns
unfolding put
returns c =
    let k = c.put.ensures in
    let n = c.put-2.ensures in
    λ i. record { kinds = k i; numbers = n i }
