use native.Mathlib.Omega.{arith}
use Rattle.exec_run.proofs.run.Goals as goal

pub run_rows-requires : goal.run_rows-requires
run_rows-requires c = (record { plan = search; fit = search; room = omega arith }, search, search, search)
