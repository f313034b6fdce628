use Rattle.std.proofs.Common.{◌+◌, refl, ◌∙◌, ap, add-one}
use Rattle.exec.specs.Machine.{Memory, Word, word_of, put}
use Rattle.tables.specs.Tables.{OperandTable, operand_at, operands_at}
use Rattle.exec_words.specs.memory.Lent.{lent, operand_table}
use Rattle.exec_words.proofs.memory.Laws.{operand_at_lem}
use Rattle.exec_words.proofs.memory.Puts.{nothing_left, one_written, length_word, components, next_component}
use Rattle.exec_words.proofs.memory.write_tuple.Goals as goal

pub operand_word-w-requires : goal.operand_word-w-requires
operand_word-w-requires c = (search, operand_at_lem c.requires.2 refl (search))

pub loop-i-preserved : goal.loop-i-preserved
loop-i-preserved c =
    let ω : OperandTable = operand_table _ _ in
    let R : Memory = lent _ _ in
    let w : Word = word_of R (operand_at ω _) in
    one_written _ _ _ (λ t. components ω R (c.args.v + c.loop-i.i) t) (λ t. components ω R _ t) w _ _ (search) (add-one _) (λ t. next_component ω R c.args.v _ t) (c.set-in-loop-i.ensures ∙ ap (put _ _) c.operand_word-w.ensures) c.loop-i.invariant

pub returns : goal.returns
unfolding operands_at
returns c =
    let ω : OperandTable = operand_table _ _ in
    let R : Memory = lent _ _ in
    nothing_left _ (λ t. components ω R (c.args.v + c.loop-i.i) t) _ _ (search) refl c.loop-i.invariant ∙ length_word ω R _ _ _ _ _ refl refl (search)
