use Rattle.text_decode.proofs.line.Words.{form_words, form_words_lem}
use Rattle.text_decode.proofs.line.form_at.Goals as goal

pub returns : goal.returns
unfolding form_words
returns c = form_words_lem _ (search)
