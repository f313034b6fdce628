use Rattle.checker.proofs.check.Goals as goal

pub returns : goal.returns
returns c = c.check.ensures

pub check-requires : goal.check-requires
check-requires c = tt
