use native.Mathlib.Omega.{arith}
use lib.ListN.{replicate}
use Rattle.load.proofs.Laws.{enough}
use Rattle.exec_call.proofs.Laws.{zeros_are}
use Rattle.exec_call.proofs.attempt.call_sized.Goals as goal

pub returns-clause-fits : goal.returns-clause-fits
returns-clause-fits g c =
    λ i n. c.call_in.ensures.fits (enough (replicate g.row.IMAGE 0) (replicate g.row.NUMBERS 0) (omega (arith, zeros_are g.row.IMAGE)) (omega (arith, zeros_are g.row.NUMBERS)))
