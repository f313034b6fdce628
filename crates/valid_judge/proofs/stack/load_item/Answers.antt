use mathlib.Core.Path.{sym, ◌∙◌}
use Rattle.faults.specs.Numbers.{refusal_number}
use Rattle.valid_context.specs.Context.{context_of, sp_of}
use Rattle.valid_context.specs.Told.{answer}
use Rattle.valid_context.proofs.Results.{told_number}
use Rattle.valid_typing.proofs.Judging.{sld_stops, sld_goes}
use Rattle.valid_judge.proofs.stack.load_item.Goals as goal

pub returns-then-u-eq0 : goal.returns-then-u-eq0
unfolding answer
returns-then-u-eq0 c =
    (λ T P Δ. sld_stops P Δ (context_of T c.args.regs.now c.args.sp.now c.args.depth) T _ _ _ _ (context_of T c.args.regs.now c.args.sp.now c.args.depth) (c.sp_item-u.ensures.0 T) (search), λ b k l. l)

pub returns : goal.returns
returns c = (
  λ T P Δ. sld_goes P Δ (context_of T _ _ _) T _ _ _ _ (refusal_number c.set_register.result) _ (c.sp_item-u.ensures.0 T) (search) (c.set_register.ensures.0 T P Δ (sp_of T _ _) ∙ told_number _ c.set_register.result)
      ∙ sym (told_number _ c.set_register.result),
  λ b k l. c.set_register.ensures.1 b (c.sp_item-u.ensures.3 b k) l,
)
