use Rattle.image.specs.Sections.{part}
use Rattle.valid_scope.proofs.use_in.Goals as goal

pub returns : goal.returns
unfolding part
returns c = c.form_use.ensures
