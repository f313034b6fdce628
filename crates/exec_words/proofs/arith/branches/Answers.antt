use Rattle.std.proofs.Common.{ap, ◌∙◌, arith}
use Rattle.syntax.specs.Syntax.{Branch}
use Rattle.exec.specs.Machine.{sign_of, taken}
use Rattle.exec_words.specs.arith.Codes.{branch_of}
use Rattle.exec_words.proofs.arith.Laws.{in_table, as_taken, last_kind}
use Rattle.exec_words.proofs.arith.branches.Goals as goal

pub is_taken-requires : goal.is_taken-requires
is_taken-requires c = (omega arith, in_table _ c.sign.ensures)

pub returns : goal.returns
returns c =
    as_taken _ _ c.sign.ensures c.is_taken.ensures ∙ ap (λ (b : Branch). taken b (sign_of c.args.x)) (ap branch_of c.min.ensures ∙ last_kind _)
