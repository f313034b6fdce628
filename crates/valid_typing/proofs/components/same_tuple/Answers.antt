use Prim.Native.Nat.{ℕ}
use mathlib.Core.Path.{◌∙◌, ap}
use borrow.Author.Tests.{ne_eqb}
use Rattle.syntax.specs.Syntax.{value}
use Rattle.types.specs.Types.{Ty}
use Rattle.types_rows.specs.Read.{tab, mean_v, parts_of}
use Rattle.valid_typing.proofs.Forms.{form_tuple, not_tuple, plain_none}
use Rattle.valid_typing.proofs.components.Lists.{other_differs, tuple_same, length_differs}
use mathlib.Core.Option.{some}
use mathlib.Core.Bool.{false}
use Rattle.valid_typing.proofs.components.same_tuple.Goals as goal

pub returns-in_default : goal.returns-in_default
returns-in_default c =
    other_differs _ _ (plain_none _ (λ E e. not_tuple _ _ _ _ _ c.link-h.ensures c.read_value.ensures.0 E e c.in_default.not-Tuple))

pub returns-else-k-c : goal.returns-else-k-c
returns-else-k-c c =
    rw (ne_eqb c.in-Tuple.k c.args.c (search)) (length_differs _ _ _ _ c.in-Tuple.p c.in-Tuple.k _ _ _ (form_tuple _ _ _ _ _ c.link-h.ensures (search) c.in-Tuple.is) (search))

pub returns-then-k-c : goal.returns-then-k-c
returns-then-k-c c =
    let a = c.args in
    let vs : ℕ → Ty value = mean_v (tab a.rows.now a.parts.now) in
    tuple_same _ (parts_of _ _ false _ c.in-Tuple.p _) _ (form_tuple _ _ _ _ _ c.link-h.ensures (search) c.in-Tuple.is ∙ ap (λ (k : ℕ). some (parts_of vs a.parts.now false c.link-h.result c.in-Tuple.p k)) c.if-k-c.true) c.same_parts.ensures
