use native.Mathlib.Omega.{arith}
use Prim.Native.Nat.{ℕ}
use mathlib.Core.Path.{◌≡◌, sym}
use mathlib.Core.List.{List}
use lib.ListN.{length}
use lib.Seq.{length-take-le}
use Rattle.tables.specs.Tables.{span}
use Rattle.valid_typing.proofs.Args.{back_below}
use Rattle.valid_typing.proofs.operands.Filling.{inst_told}
use mathlib.Core.Path.{ap₂, ◌∙◌}
use Rattle.syntax.proofs.Least.{least}
use Rattle.faults.specs.Numbers.{refusal_number}
use Rattle.valid_context.proofs.Results.{told_number, number_told}
use Rattle.image.specs.Sections.{part}
use Rattle.valid_typing.proofs.operands.instance.Goals as goal

pub slice_bounds-fill-end : goal.slice_bounds-fill-end
slice_bounds-fill-end c =
    let b : List ℕ = c.reversed.new.back in
    let e : length b ≡ 8 = c.reversed.auto.back in
    sym (length-take-le _ _ (omega (arith, e)))

pub fill-h-requires : goal.fill-h-requires
unfolding part
fill-h-requires c = (search, search, back_below _ (span _ _ _) c.reversed.ensures, search)

pub formed_args-requires : goal.formed_args-requires
formed_args-requires c =
    let f = c.requires.1.first in
    let k = c.requires.2 in
    (c.requires.0.ordered, c.requires.0.scoped, omega arith)

pub returns : goal.returns
unfolding part
returns c =
    let f = c.formed_row-g.result in
    λ P k h e. inst_told P _ _ _ _ c.requires.0.ready h.types _ k _ (span _ _ _) _ _ (refusal_number f) (refusal_number c.fill-h.result) c.formed_args.result c.reversed.ensures c.formed_args.ensures
    (c.formed_row-g.ensures P h.types ∙ told_number tt _) (c.fill-h.ensures P _ k h e ∙ told_number tt _)
    ∙ number_told _ c.both-2.result (c.both-2.ensures ∙ ap₂ least c.holds_or-f.ensures c.both.ensures)
