use native.Mathlib.Omega.{arith}
use mathlib.Core.Path.{◌≡◌, refl, ap, sym, ◌∙◌}
use Rattle.std.specs.Prelude.{Err}
use Rattle.faults.specs.Numbers.{number, refusal_number}
use Rattle.types.specs.Types.{nil}
use Rattle.valid_context.specs.Context.{context_of}
use Rattle.valid_context.specs.Told.{answer}
use Rattle.valid_context.proofs.Results.{answer_fault, some_fault, told_number}
use Rattle.valid_typing.specs.Typing.{held_in}
use Rattle.valid_judge.specs.through.Forms.{parted}
use Rattle.valid_judge.proofs.Results.{is_zero, stopped, if_zero}
use Rattle.valid_judge.proofs.stack.Laws.{tail_read}
use Rattle.valid_judge.proofs.through.Laws.{through_none, through_told, through_tail}
use Rattle.valid_judge.proofs.through.pass_through.Goals as goal

pub returns-in_err-b : goal.returns-in_err-b
returns-in_err-b c =
    let a = c.args in
    let f = c.in_err-b.field-0.0 in
    let e : c.from_residual.result ≡ Err f = grind arith in
    rw e (
      λ P Δ q l. through_none (held_in a.rows.now a.parts.now a.n a.envs.now) a.sp.now a.depth a.x.item a.x.row a.u.link nil P Δ a.regs.now a.x.pointer a.x.source (number f) (nil, nil) (some_fault f)
          (c.in_err-b.ensures.0 a.envs.now P Δ ∙ sym (answer_fault f nil)) ∙ answer_fault f (nil, nil),
      tt,
    )

pub returns-in_err-both : goal.returns-in_err-both
unfolding answer
returns-in_err-both c =
    let a = c.args in
    let T = held_in a.rows.now a.parts.now a.n a.envs.now in
    let b = c.in_ok-b.b in
    let e : c.from_residual-in_err-both.result ≡ Err c.in_err-both.field-0.0 = grind arith in
    let w = tail_read a.envs.now _ _ T a.sp.now a.depth c.is_tail-tail.result c.is_tail-tail.ensures in
    rw e (
      λ P Δ q l. through_told T a.sp.now a.depth a.x.item a.x.row a.u.link _ P Δ a.regs.now a.x.pointer a.x.source 0 _ (refusal_number c.new_tail.result) _ _ c.is_tail-tail.result refl w c.holds_or.ensures c.both.ensures
          (c.new_tail.ensures.0 P Δ (context_of T a.regs.now a.sp.now a.depth) a.x.source q l ∙ told_number _ c.new_tail.result) (c.in_ok-b.ensures.0 a.envs.now P Δ)
          ∙ stopped _ c.in_err-both.was,
      tt,
    )

pub returns : goal.returns
unfolding answer
returns c =
    let a = c.args in
    let T = held_in a.rows.now a.parts.now a.n a.envs.now in
    let b = c.in_ok-b.b in
    let z = is_zero c.in_ok-both.was in
    let w = tail_read a.envs.now _ _ T a.sp.now a.depth c.is_tail-tail.result c.is_tail-tail.ensures in
    let k = through_tail T a.sp.now a.depth a.x.item a.x.row a.u.link _ _ (refusal_number c.new_tail.result) _ c.is_tail-tail.result w c.holds_or.ensures c.both.ensures z in (
      λ P Δ q l. through_told T a.sp.now a.depth a.x.item a.x.row a.u.link _ P Δ a.regs.now a.x.pointer a.x.source 0 _ (refusal_number c.new_tail.result) _ _ c.is_tail-tail.result refl w c.holds_or.ensures c.both.ensures
          (c.new_tail.ensures.0 P Δ (context_of T a.regs.now a.sp.now a.depth) a.x.source q l ∙ told_number _ c.new_tail.result) (c.in_ok-b.ensures.0 a.envs.now P Δ)
          ∙ ap (λ (j : _). answer j (parted a.rows.now a.parts.now a.n a.envs.now a.sp.now a.depth c.new_tail.new.work b)) z,
      record { tail = k.0; put = if_zero c.new_tail.result _ k.1 c.new_tail.ensures.1; found = c.in_ok-b.ensures.1 a.envs.now },
    )
