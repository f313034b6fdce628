use Prim.Native.Nat.{ℕ}
use mathlib.Core.Path.{◌≡◌}
use lib.ListN.{length}
use Rattle.types_rows.specs.Read.{tab, mean_v}
use Rattle.types_rows.specs.Environments.{read_in}
use Rattle.valid_typing.specs.Typing.{held_in}
use Rattle.valid_typing.proofs.target.Registers.{RestFits}
use Rattle.valid_typing.proofs.target.unfit_register.Given as goal

abbrev pub invariant-loop-i : goal.invariant-loop-i
invariant-loop-i l =
    RestFits (λ (t : ℕ). read_in l.envs l.k.env (mean_v (tab l.rows l.parts) t)) l.parts l.k.row l.p (held_in l.rows l.parts l.n l.envs) l.regs l.i × (length l.pending ≡ length l.initial.pending)
