use Prim.Native.Nat.{ℕ}
use mathlib.Core.Path.{ap, ◌∙◌}
use Rattle.exec.specs.Run.{outcome, run}
use Rattle.exec_machine.specs.Step.{state_of}
use Rattle.exec_launch.proofs.run_from.Goals as goal

pub returns : goal.returns
returns c =
    λ args P rep. c.finish.ensures _ _ _ c.run-ran.new.hn ∙ ap outcome (c.run-ran.ensures args P rep ∙ ap (λ (n : ℕ). run P n (state_of c.args.rk.now c.args.rn.now c.args.sk.now c.args.sn.now c.args.hk.now c.args.hn.now c.args.p)) (search))
