use Rattle.valid_typing.specs.Image.{letters_in}
use Prim.Native.Nat.{ℕ}
use mathlib.Core.Path.{ap, ◌∙◌}
use borrow.Author.Tests.{not-true, not-false}
use Rattle.valid.specs.Tests.{formed_arg}
use Rattle.valid_typing.specs.Typing.{given_arg}
use Rattle.valid_typing.proofs.Args.{rest_first, rest_next, rest_fails, rest_done}
use Rattle.image.specs.Sections.{part, shared_section, slot_section}
use Rattle.valid_typing.proofs.formed_args.Goals as goal

pub loop-i-init : goal.loop-i-init
unfolding part
loop-i-init c = rest_first _ _ _ _ _ _ _

pub formed_arg-requires : goal.formed_arg-requires
unfolding part
formed_arg-requires c = c.requires.1

pub returns-then-not-formed_arg : goal.returns-then-not-formed_arg
unfolding part
returns-then-not-formed_arg c =
    let a = c.args in
    let l = a.image.now in
    rest_fails _ _ _ _ _ _ _ _ c.loop-i-test.true (search) (c.formed_arg.ensures ∙ ap (λ (t : ℕ). formed_arg (letters_in a.p l a.w) (given_arg (shared_section a.p l) (slot_section a.p l) a.n t)) c.at-t.ensures.0) (not-true _ (search))

pub loop-i-preserved : goal.loop-i-preserved
unfolding part
loop-i-preserved c =
    let a = c.args in
    let l = a.image.now in
    rest_next _ _ _ _ _ _ _ _ (search) (search) (c.formed_arg.ensures ∙ ap (λ (t : ℕ). formed_arg (letters_in a.p l a.w) (given_arg (shared_section a.p l) (slot_section a.p l) a.n t)) c.at-t.ensures.0) (not-false _ (search))

pub returns : goal.returns
unfolding part
returns c = rest_done _ _ _ _ _ _ _ _ c.loop-i-test.false (search)
