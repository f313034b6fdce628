use Rattle.image.specs.Sections.{part}
use Rattle.load.proofs.second_pass.Goals as goal

pub pass_two-requires : goal.pass_two-requires
unfolding part
pass_two-requires c = (c.requires.1.rows, c.requires.1.blocks, c.requires.1.instrs, c.requires.2)

pub returns : goal.returns
unfolding part
returns c = c.pass_two.ensures
