use Rattle.valid_context.specs.Told.{answer}
use Rattle.valid_context.proofs.Results.{number_told}
use mathlib.Core.Path.{◌∙◌, ap}
use mathlib.Core.Bool.{Bool, cond}
use Rattle.syntax.specs.Syntax.{value, stack}
use Rattle.valid_typing.proofs.Args.{formed_other, formed_told}
use Rattle.image.specs.Sections.{part, slot_section}
use Rattle.valid_typing.proofs.formed_row.Goals as goal

pub returns-then-is_stack_row : goal.returns-then-is_stack_row
unfolding part answer
returns-then-is_stack_row c =
    let a = c.args in
    let l = a.image.now in
    λ P e. formed_other _ _ _ P _ _ e (c.is_stack_row.ensures (slot_section a.p l) ∙ ap (λ (b : Bool). cond b stack value) c.if-is_stack_row.true)

pub formed_arg-requires : goal.formed_arg-requires
unfolding part
formed_arg-requires c = c.requires.2

pub returns : goal.returns
unfolding part
returns c =
    let a = c.args in
    let l = a.image.now in
    λ P e. formed_told _ _ _ P _ _ e c.formed_arg.result (c.is_stack_row.ensures (slot_section a.p l) ∙ ap (λ (b : Bool). cond b stack value) c.if-is_stack_row.false) c.formed_arg.ensures ∙ number_told tt c.holds_or.result c.holds_or.ensures
