use mathlib.Core.Path.{sym, ◌∙◌}
use borrow.Author.Tests.{eqb-true}
use Rattle.valid_scope.proofs.entry.Laws.{entry_letters, entry_items, entry_unfit, entry_fit}
use Rattle.valid_scope.proofs.entry.is_entry.Goals.{then-letter_count-eq0, else-letter_count-eq0, then-item_count-eq0, else-item_count-eq0}
use Rattle.valid_scope.proofs.entry.is_entry.Goals as goal

pub returns-then-has_samples : goal.returns-then-has_samples
returns-then-has_samples c =
    λ xs. elim c.if-item_count-eq0.branch [
      | then-item_count-eq0 w ↦ elim c.if-letter_count-eq0.branch [
        | then-letter_count-eq0 v ↦ entry_fit _ _ _ _ _ xs _ _ w.has_samples.result _ c.letter_count.ensures.0 v.if-letter_count-eq0.true v.item_count.ensures.0 c.requires.counted (sym v.value-is ∙ w.if-item_count-eq0.true) w.has_samples.ensures (sym w.value-is ∙ c.if-has_samples.true) (c.none_named.ensures _ _)
        | else-letter_count-eq0 v ↦ absurd (v.if-letter_count-eq0.false (eqb-true _ _ (sym v.value-is ∙ w.if-item_count-eq0.true)))
      ]
      | else-item_count-eq0 w ↦ absurd (cc (w.value-is, c.if-has_samples.true, w.if-item_count-eq0.false))
    ]

pub returns-else-has_samples : goal.returns-else-has_samples
returns-else-has_samples c =
    λ xs. c.if-has_samples.false ∙ (elim c.if-item_count-eq0.branch [
      | then-item_count-eq0 w ↦ entry_unfit _ _ _ _ _ xs w.has_samples.result w.has_samples.ensures (sym w.value-is ∙ c.if-has_samples.false)
      | else-item_count-eq0 w ↦ elim c.if-letter_count-eq0.branch [
        | then-letter_count-eq0 v ↦ entry_items _ _ _ _ _ xs _ v.item_count.ensures.0 c.requires.counted (sym v.value-is ∙ w.if-item_count-eq0.false)
        | else-letter_count-eq0 v ↦ entry_letters _ _ _ _ _ xs _ c.letter_count.ensures.0 v.if-letter_count-eq0.false
      ]
    ])
