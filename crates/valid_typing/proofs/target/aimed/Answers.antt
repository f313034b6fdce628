use native.Mathlib.Omega.{arith}
use mathlib.Core.Path.{ap, sym, ◌∙◌}
use Rattle.valid_typing.specs.target.Fits.{item_of}
use Rattle.valid_typing.specs.Typing.{code_in, code_read, code_seen}
use Rattle.valid_typing.proofs.target.Registers.{not_yes, not_no, none_left, some_left, same_there, fits_there}
use Rattle.valid_typing.proofs.target.Items.{no_code, still_open, sp_differs, register_differs, all_fit}
use Rattle.valid_typing.proofs.target.aimed.Goals as goal

pub code-requires : goal.code-requires
code-requires c =
    let f = c.requires.0.ready.few in
    (c.requires.0.ready, omega arith)

pub same_items-requires : goal.same_items-requires
same_items-requires c =
    let f = c.in-Some.ensures.1.stack_in in
    (c.requires.0, omega arith, c.requires.2, c.requires.3)

pub unfit_register-requires : goal.unfit_register-requires
unfit_register-requires c = (
  record { ready = c.requires.0.ready; few = c.requires.0.few; room = omega (arith, c.requires.0.room, c.same_items.auto.pending) },
  record { link_in = c.in-Some.ensures.1.link_in; small = c.requires.2 },
  c.in-Some.ensures.1.start_in,
)

pub returns-in_default : goal.returns-in_default
returns-in_default c = λ P Δ v e. no_code P Δ _ v _ e _ c.of_no_item.ensures (c.code.ensures.0 _ _ ∙ ap (code_seen _ _ _ _) c.in_default.is)

pub returns-then-letter_count-ne0 : goal.returns-then-letter_count-ne0
returns-then-letter_count-ne0 c =
    λ P Δ v e. still_open P Δ _ v _ e (code_read _ _ (code_in _ _ _ _ _)) (c.code.ensures.0 _ _ ∙ ap (code_seen _ _ _ _) c.in-Some.is) _ c.of_no_item-then-letter_count-ne0.ensures (some_left c.args.parts.now c.in-Some.c.start _ c.letter_count.ensures.0 (search))

pub returns-then-not-same_items : goal.returns-then-not-same_items
returns-then-not-same_items c =
    let q = c.letter_count.ensures.0 in
    λ P Δ v e. sp_differs P Δ _ v _ e (code_read _ _ (code_in _ _ _ _ _)) (c.code.ensures.0 _ _ ∙ ap (code_seen _ _ _ _) c.in-Some.is) (none_left c.args.parts.now c.in-Some.c.start _ q c.if-letter_count-ne0.false) _ c.of_item.ensures
    (same_there _ _ _ _ _ q c.if-letter_count-ne0.false _ _ c.same_items.ensures) (not_yes (search))

pub returns-in-Some-unfit_register : goal.returns-in-Some-unfit_register
returns-in-Some-unfit_register c =
    let q = c.letter_count.ensures.0 in
    λ P Δ v e. register_differs P Δ _ v _ e (code_read _ _ (code_in _ _ _ _ _)) (c.code.ensures.0 _ _ ∙ ap (code_seen _ _ _ _) c.in-Some.is) (none_left c.args.parts.now c.in-Some.c.start _ q c.if-letter_count-ne0.false)
    (same_there _ _ _ _ _ q c.if-letter_count-ne0.false _ _ c.same_items.ensures) (not_no (search)) _ _ c.of_item-in-Some-unfit_register.ensures
    (fits_there _ _ _ _ _ q c.if-letter_count-ne0.false P Δ _ _ (sym (ap item_of c.in-Some-unfit_register.is) ∙ c.unfit_register.ensures P Δ))

pub returns-in-None : goal.returns-in-None
returns-in-None c =
    let q = c.letter_count.ensures.0 in
    λ P Δ v e. all_fit P Δ _ v _ e (code_read _ _ (code_in _ _ _ _ _)) (c.code.ensures.0 _ _ ∙ ap (code_seen _ _ _ _) c.in-Some.is) (none_left c.args.parts.now c.in-Some.c.start _ q c.if-letter_count-ne0.false)
    (same_there _ _ _ _ _ q c.if-letter_count-ne0.false _ _ c.same_items.ensures) (not_no (search))
    (fits_there _ _ _ _ _ q c.if-letter_count-ne0.false P Δ _ _ (sym (ap item_of c.in-None.is) ∙ c.unfit_register.ensures P Δ))
