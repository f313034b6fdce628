use mathlib.Core.Path.{refl, ◌∙◌}
use Rattle.valid_context.specs.Context.{regs_of}
use Rattle.valid_context.proofs.Results.{number_told}
use Rattle.valid_judge.specs.heap.Forms.{held}
use Rattle.valid_judge.proofs.heap.Laws.{set_told}
use Rattle.valid_judge.proofs.heap.set_register.Goals as goal

pub returns : goal.returns
returns c =
    (λ T P Δ s. set_told P Δ (held s (regs_of T _)) _ (T.type _ _) c.assign.result c.assign.result _ (c.assign.ensures.0 T) refl ∙ number_told _ c.holds_or.result c.holds_or.ensures, c.assign.ensures.1)
