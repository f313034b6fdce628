use mathlib.Core.Path.{sym, ◌∙◌}
use Rattle.exec_state.proofs.good_form.Laws.{all_good, not_good, still_good}
use Rattle.exec_state.proofs.good_form.good_words.Goals as goal

pub returns-then-not-good_word : goal.returns-then-not-good_word
returns-then-not-good_word c =
    not_good _ _ _ _ _ c.loop-i.invariant (search) _ c.at.ensures (sym c.good_word.ensures ∙ c.if-not-good_word.true)

pub loop-i-preserved : goal.loop-i-preserved
loop-i-preserved c =
    still_good _ _ _ _ _ c.loop-i.invariant (search) _ c.at.ensures (sym c.good_word.ensures ∙ c.if-not-good_word.false)

pub returns : goal.returns
returns c = all_good _ _ _ _ _ c.loop-i.invariant (search)
