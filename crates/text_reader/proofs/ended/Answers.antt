use Rattle.text_reader.proofs.Reading.{ended_is}
use Rattle.text_reader.proofs.ended.Goals as goal

pub returns : goal.returns
returns c = ended_is c.args.text.now c.args.at
