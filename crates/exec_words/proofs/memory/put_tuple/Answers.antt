use Rattle.std.proofs.Common.{refl, ◌≤◌, length, arith}
use Rattle.exec_words.proofs.memory.Puts.{word_in_part, in_tail}
use Rattle.exec_words.proofs.memory.put_tuple.Goals as goal

pub write_tuple-requires : goal.write_tuple-requires
write_tuple-requires c = (word_in_part refl c.requires.0, search, search)

pub returns : goal.returns
returns c =
    let l : c.args.used ≤ length c.args.hk.now = omega arith in
    let m : c.args.used ≤ length c.args.hn.now = omega arith in
    in_tail _ _ _ _ _ _ _ (search) l m c.write_tuple.ensures
