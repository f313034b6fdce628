use native.Mathlib.Omega.{arith}
use mathlib.Core.Path.{◌≡◌, refl, sym, ◌∙◌}
use Rattle.std.specs.Prelude.{Err}
use Rattle.faults.specs.Numbers.{number}
use Rattle.types.specs.Types.{nil}
use Rattle.valid_context.specs.Context.{context_of}
use Rattle.valid_context.specs.Told.{answer}
use Rattle.valid_context.proofs.Results.{answer_fault, some_fault}
use Rattle.valid_typing.specs.Typing.{held_in}
use Rattle.valid_typing.proofs.Judging.{setsp_stops}
use Rattle.valid_judge.specs.through.Forms.{stack_in}
use Rattle.valid_judge.proofs.stack.Laws.{cut_done, cut_fails, tail_fits, tail_read, count_read}
use Rattle.valid_judge.proofs.stack.set_sp.Goals as goal

pub pointer-requires : goal.pointer-requires
pointer-requires c = c.requires.ready

pub returns-in_err-x : goal.returns-in_err-x
returns-in_err-x c =
    let a = c.args in
    let f = c.in_err-x.field-0.0 in
    let e : c.from_residual.result ≡ Err f = grind arith in
    let T = held_in a.rows.now a.parts.now a.n a.envs.now in
    let Γ = context_of T a.regs.now a.sp.now a.depth in
    rw e (λ Δ P q. setsp_stops P Δ Γ a.s (number f) nil Γ (c.in_err-x.ensures.0 a.envs.now P Δ ∙ sym (answer_fault f nil)) (some_fault f) ∙ answer_fault f Γ, tt)

pub is_tail-requires : goal.is_tail-requires
is_tail-requires c =
    let f = c.in_ok-x.ensures.1 c.args.envs.now in
    (c.requires, omega (arith, f.row_in), f.small)

pub item_count-requires : goal.item_count-requires
item_count-requires c =
    let f = c.in_ok-x.ensures.1 c.args.envs.now in
    let k = c.requires.ready.few in
    omega (arith, f.row_in)

pub returns-then-is_tail : goal.returns-then-is_tail
unfolding answer
returns-then-is_tail c =
    let a = c.args in
    let x = c.in_ok-x.x in
    let f = c.in_ok-x.ensures.1 a.envs.now in
    let w = tail_read a.envs.now _ _ (held_in a.rows.now a.parts.now a.n a.envs.now) a.sp.now a.depth c.is_tail.result c.is_tail.ensures in
    let k = count_read a.rows.now a.parts.now a.n x.row c.requires.ready (omega (arith, f.row_in)) a.envs.now x.env in
    let h = tail_fits (held_in a.rows.now a.parts.now a.n a.envs.now) a.sp.now a.depth
    (stack_in a.rows.now a.parts.now a.envs.now x.env x.row)
    c.is_tail.result w c.if-is_tail.true in (
      λ Δ P e. cut_done P Δ (held_in a.rows.now a.parts.now a.n a.envs.now) a.regs.now a.sp.now
          a.depth a.s 0 c.item_count.result
          (stack_in a.rows.now a.parts.now a.envs.now x.env x.row) c.is_tail.result
          (c.in_ok-x.ensures.0 a.envs.now P Δ) refl w c.if-is_tail.true (c.item_count.ensures.0 ∙ k),
      omega (arith, c.item_count.ensures.0, k, h),
    )

pub returns-else-is_tail : goal.returns-else-is_tail
unfolding answer
returns-else-is_tail c =
    let a = c.args in
    let w = tail_read a.envs.now _ _ (held_in a.rows.now a.parts.now a.n a.envs.now) a.sp.now a.depth c.is_tail.result c.is_tail.ensures in
    (λ Δ P e. cut_fails P Δ (held_in a.rows.now a.parts.now a.n a.envs.now) a.regs.now a.sp.now a.depth a.s 0 0 _ _ (c.in_ok-x.ensures.0 a.envs.now P Δ) refl w c.if-is_tail.false, tt)
