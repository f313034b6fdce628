use Rattle.valid_pass_three.proofs.body.Environments.{none_is, note_none, note_room, note_one}
use Rattle.valid_pass_three.proofs.body.note.Goals as goal

pub returns-in_default : goal.returns-in_default
returns-in_default c = rw (none_is _ c.in_default.not-Some) (note_none c.args.envs.now c.args.h c.requires.1)

pub bounds-envs-h : goal.bounds-envs-h
bounds-envs-h c = note_room c.args.envs.now c.args.h c.in-Some.e c.requires.1 (rw c.in-Some.is at c.requires.0)

pub returns : goal.returns
returns c =
    rw c.in-Some.is (note_one c.args.envs.now c.args.h c.in-Some.e (note_room c.args.envs.now c.args.h c.in-Some.e c.requires.1 (rw c.in-Some.is at c.requires.0)))
