use Rattle.std.proofs.Common.{sym, ◌∙◌, eqb-true}
use Rattle.std.proofs.lemmas.Bool.{eqb-false}
use Rattle.text_fields.proofs.names.CodeRows.{word_empty, word_long, word_is_lem, word_bad}
use Rattle.text_fields.proofs.names.letter_count.Goals as goal
use Rattle.text_fields.proofs.names.letter_count.Goals.{then-is_empty-via-then-is_empty, then-is_empty-via-else-is_empty+then-f-gt8, then-is_empty-via-else-is_empty+else-f-gt8+then-not-all_letters}

pub returns-then-is_empty : goal.returns-then-is_empty
returns-then-is_empty c =
    elim c.then-is_empty.branch [
      | then-is_empty-via-then-is_empty w ↦ word_empty _ (eqb-true _ 0 (sym c.is_empty.ensures ∙ w.if-is_empty.true))
      | then-is_empty-via-else-is_empty+then-f-gt8 w ↦ word_long _ w.if-f-gt8.true
      | then-is_empty-via-else-is_empty+else-f-gt8+then-not-all_letters w ↦ word_bad _ (sym w.all_letters.ensures ∙ w.if-not-all_letters.true)
    ]

pub returns : goal.returns
returns c =
    word_is_lem _ (eqb-false _ 0 (sym c.is_empty.ensures ∙ c.if-is_empty.false)) (search) (sym c.all_letters.ensures ∙ c.if-not-all_letters.false)
