use Rattle.std.proofs.Common.{refl}
use Rattle.exec.specs.Machine.{put}
use Rattle.exec_words.proofs.memory.set.Goals as goal

pub returns : goal.returns
unfolding put
returns c = refl
