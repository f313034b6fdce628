use native.Mathlib.Omega.{arith}
use borrow.Author.Tests.{not-true, not-false}
use mathlib.Core.Path.{◌≡◌, sym, ◌∙◌}
use Rattle.std.specs.Prelude.{Err}
use Rattle.faults.specs.Numbers.{refusal_number}
use Rattle.valid_context.proofs.Results.{told_number}
use Rattle.image.specs.Sections.{part}
use Rattle.valid_typing.proofs.operands.Packing.{arg_unformed, row_unformed, pack_formed}
use Rattle.valid_typing.proofs.operands.package.Goals as goal

pub formed_args-requires : goal.formed_args-requires
formed_args-requires c =
    let f = c.requires.1.first in
    (c.requires.0.ordered, c.requires.0.scoped, omega arith)

pub returns-then-not-formed_args : goal.returns-then-not-formed_args
unfolding part
returns-then-not-formed_args c =
    λ P f h e. arg_unformed _ _ _ c.requires.0.ready P _ h.types _ f _ _ _ _ e c.formed_args.ensures (not-true _ (search))

pub returns-in_err-formed_row : goal.returns-in_err-formed_row
unfolding part
returns-in_err-formed_row c =
    let e : c.from_residual.result ≡ Err c.in_err-formed_row.field-0.0 = grind arith in
    λ P f h n. rw e (row_unformed _ _ _ c.requires.0.ready P _ h.types _ f _ _ _ _ n c.formed_args.ensures (c.in_err-formed_row.ensures P h.types))

pub returns : goal.returns
unfolding part
returns c =
    λ P f h n. pack_formed _ _ _ c.requires.0.ready P _ h.types _ f _ _ _ _ n c.formed_args.ensures (not-false _ (search)) (c.in_ok-formed_row.ensures P h.types) (refusal_number c.pack.result)
    (c.pack.ensures P _ f h n (c.in_ok-formed_row.ensures P h.types) ∙ told_number tt _) ∙ sym (told_number _ c.pack.result)
