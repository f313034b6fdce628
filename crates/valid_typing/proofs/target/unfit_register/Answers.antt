use native.Mathlib.Omega.{arith}
use Prim.Native.Nat.{ℕ}
use mathlib.Core.Path.{refl, ◌∙◌}
use Rattle.syntax.specs.Syntax.{value}
use Rattle.types.specs.Types.{Ty}
use Rattle.types_rows.specs.Read.{tab, mean_v}
use Rattle.types_rows.specs.Environments.{read_in}
use Rattle.valid_context.specs.Context.{Reading}
use Rattle.valid_typing.specs.Typing.{held_in}
use Rattle.valid_typing.proofs.target.Registers.{not_yes, not_no, rest_first, rest_next, rest_fails, rest_done, all_read}
use Rattle.valid_typing.proofs.target.unfit_register.Goals as goal

pub loop-i-init : goal.loop-i-init
loop-i-init c = (rest_first _ _ _ _ _ _, refl)

pub register_fits-requires : goal.register_fits-requires
register_fits-requires c =
    (record { ready = c.requires.0.ready; few = c.requires.0.few; room = omega (arith, c.requires.0.room, c.loop-i.invariant.1) }, c.requires.1, c.at-x.ensures.1, c.cell-in-loop-i.ensures.1)

pub returns-then-not-register_fits : goal.returns-then-not-register_fits
returns-then-not-register_fits c =
    let a = c.args in
    let v : ℕ → Ty value = λ t. read_in a.envs.now a.h.env (mean_v (tab a.rows.now a.parts.now) t) in
    let T : Reading = held_in a.rows.now a.parts.now a.n a.envs.now in
    let r = rest_fails v a.parts.now a.h.row a.p T a.regs.now _ _ _ _ (search) (search) c.at-x.ensures.0 c.cell.ensures.0 c.cell-in-loop-i.ensures.0 c.register_fits.ensures (not_yes (search)) in
    λ P Δ. r P Δ ∙ all_read a.envs.now a.h.env (mean_v (tab a.rows.now a.parts.now)) a.parts.now a.h.row a.p T a.regs.now P Δ

pub loop-i-preserved : goal.loop-i-preserved
loop-i-preserved c =
    let l = c.loop-i in (
      rest_next _ _ _ _ _ _ _ _ _ _ (search) (search) c.at-x.ensures.0 c.cell.ensures.0 c.cell-in-loop-i.ensures.0 c.register_fits.ensures (not_no (search)),
      c.register_fits.auto.pending ∙ l.invariant.1,
    )

pub returns : goal.returns
returns c =
    let a = c.args in
    let v : ℕ → Ty value = λ t. read_in a.envs.now a.h.env (mean_v (tab a.rows.now a.parts.now) t) in
    let T : Reading = held_in a.rows.now a.parts.now a.n a.envs.now in
    let r = rest_done v a.parts.now a.h.row a.p T a.regs.now _ c.loop-i-test.false (search) in
    λ P Δ. r P Δ ∙ all_read a.envs.now a.h.env (mean_v (tab a.rows.now a.parts.now)) a.parts.now a.h.row a.p T a.regs.now P Δ
