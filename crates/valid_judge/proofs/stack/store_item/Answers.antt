use native.Mathlib.Omega.{arith}
use mathlib.Core.Path.{refl, ◌∙◌}
use Rattle.valid_context.specs.Context.{context_of}
use Rattle.valid_context.specs.Told.{answer}
use Rattle.valid_context.proofs.Results.{number_told}
use Rattle.valid_typing.specs.Typing.{held_in}
use Rattle.valid_typing.proofs.Judging.{sst_unknown}
use Rattle.valid_judge.proofs.stack.Laws.{put_item}
use Rattle.valid_judge.proofs.stack.store_item.Goals as goal

pub returns-then-u-eq0 : goal.returns-then-u-eq0
unfolding answer
returns-then-u-eq0 c =
    (λ rows parts E Δ r P e. let T = held_in rows parts c.args.n E in let Γ = context_of T c.args.regs.now c.args.sp.now c.args.depth in sst_unknown P Δ Γ T _ _ _ _ Γ (c.link_at-u.ensures.0 rows parts E r) (search), λ b k m. m)

pub returns : goal.returns
returns c = (
  λ rows parts E Δ r P e. put_item P Δ (held_in rows parts _ E) _ _ _ _ _ _ _ c.set_item.result _ _ (search) (omega arith) (c.link_at-u.ensures.0 rows parts E r) (search) (c.set_item.ensures.0 (held_in rows parts _ E)) refl
      ∙ number_told _ c.holds_or.result c.holds_or.ensures,
  λ b k m. c.set_item.ensures.2 b _ (c.link_at-u.ensures.3 b k) m,
)
