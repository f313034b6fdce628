use Rattle.valid_scope.proofs.entry.Laws.{first_fit}
use Rattle.valid_scope.proofs.entry.has_samples.Goals as goal

pub all_ints-requires : goal.all_ints-requires
all_ints-requires c =
    let d = c.samples_in.ensures.yes _ c.in-Some.is in
    (d.low, d.named, d.file, d.few)

pub returns-in-Some : goal.returns-in-Some
returns-in-Some c = first_fit (c.samples_in.ensures.yes _ c.in-Some.is) c.all_ints.ensures

pub returns-in-None : goal.returns-in-None
returns-in-None c = (c.samples_in.ensures.no c.in-None.is).fit
