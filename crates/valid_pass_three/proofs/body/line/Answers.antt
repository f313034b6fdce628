use mathlib.Core.Path.{sym}
use lib.Seq.{length-take-le}
use Rattle.valid_pass_three.proofs.body.line.Goals as goal

pub slice_bounds-judge-end : goal.slice_bounds-judge-end
slice_bounds-judge-end c = sym (length-take-le c.args.h c.args.envs.now c.requires.3.fits)

pub judge-requires : goal.judge-requires
judge-requires c =
    let g = c.requires.3.force in
    (c.requires.0, c.requires.1, c.requires.2, record { room = g.room; known = g.known; held = g.held; hidden = sym (length-take-le c.args.h c.args.envs.now c.requires.3.fits) })

pub returns : goal.returns
returns c = rw (length-take-le c.args.h c.args.envs.now c.requires.3.fits) c.judge.ensures
