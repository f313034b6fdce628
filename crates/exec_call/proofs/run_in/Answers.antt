use Rattle.image.specs.Sections.{part}
use Rattle.exec_call.proofs.Laws.{on_start, on_continue}
use Rattle.exec_call.proofs.run_in.Goals as goal

pub start_ready-requires : goal.start_ready-requires
unfolding part
start_ready-requires c = (c.requires.1, c.requires.2)

pub resume_ready-requires : goal.resume_ready-requires
unfolding part
resume_ready-requires c = c.requires.2

pub returns-in-Start : goal.returns-in-Start
unfolding part
returns-in-Start c =
    λ args P rep w. on_start c.args.call c.in-Start.samples c.in-Start.is (c.start_ready.ensures args P rep w)

pub returns-in-Continue : goal.returns-in-Continue
unfolding part
returns-in-Continue c =
    λ args P rep w. on_continue c.args.call c.in-Continue.is (c.resume_ready.ensures args P rep)
