use mathlib.Core.Path.{ap, ◌∙◌}
use mathlib.Core.Bool.{true, false}
use borrow.Author.Tests.{not-true, not-false}
use Rattle.valid_typing.specs.Typing.{fits_letter}
use Rattle.types_rows.specs.Read.{is_stack_at}
use Rattle.valid_typing.proofs.Args.{fit_first, fit_next, fit_fails, fit_all, left_few, left_is}
use Rattle.valid_typing.proofs.letters_fit.Goals as goal

pub returns-then-k-c : goal.returns-then-k-c
returns-then-k-c c = left_few _ _ _ _ _ _ c.requires.2 c.letter_count-k.ensures.0 (search)

pub loop-j-init : goal.loop-j-init
loop-j-init c =
    fit_first c.args.rows.now c.args.parts.now c.args.n c.args.args.now c.args.p c.letter_count-k.result

pub returns-then-not-letter_fits : goal.returns-then-not-letter_fits
returns-then-not-letter_fits c =
    left_is _ _ _ _ _ _ c.requires.2 c.letter_count-k.ensures.0 false c.if-k-c.false (fit_fails _ _ _ _ _ _ c.requires.2
    (search) _ _ c.loop-j-test.true (search) (c.is_stack.ensures ∙ ap (is_stack_at c.args.rows.now) c.at.ensures.0)
    (search) (c.letter_fits.ensures ∙ ap (fits_letter _) (search)) (not-true _ (search)))

pub loop-j-preserved : goal.loop-j-preserved
loop-j-preserved c =
    fit_next _ _ _ _ _ _ c.requires.2 c.letter_count-k.ensures.0 _ _ c.loop-j-test.true c.if-k-c.false (c.is_stack.ensures ∙ ap (is_stack_at c.args.rows.now) c.at.ensures.0) (search) (c.letter_fits.ensures ∙ ap (fits_letter _) (search)) (not-false _ (search))

pub returns : goal.returns
returns c =
    left_is _ _ _ _ _ _ c.requires.2 c.letter_count-k.ensures.0 true (search) (fit_all _ _ _ _ _ _ c.requires.2 (search) _ c.loop-j.auto.j-end (search) (search) (search))
