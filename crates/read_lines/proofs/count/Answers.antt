use mathlib.Core.Path.{◌∙◌}
use Rattle.text_reader.proofs.Reading.{all_long}
use Rattle.read_lines.proofs.count.Goals as goal

pub returns : goal.returns
returns c = c.read_all.ensures.count ∙ all_long c.args.text.now
