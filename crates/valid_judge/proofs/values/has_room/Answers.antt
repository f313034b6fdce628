use Rattle.valid_judge.proofs.values.Opening.{room_is}
use Rattle.valid_judge.proofs.values.has_room.Goals as goal

pub returns : goal.returns
returns c = room_is c.args.w c.requires
