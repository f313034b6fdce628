use mathlib.Core.Path.{◌∙◌}
use Rattle.types_rows.specs.Read.{tab}
use Rattle.types_equal.proofs.Values.{letters_at_lem}
use Rattle.types_equal.proofs.pending.Meets.{some_if}
use Rattle.types_equal.proofs.value_pairs.if_letters.Goals as goal

pub returns : goal.returns
returns c =
    let τ = tab c.args.parts.now c.args.parts.now in
    rw (letters_at_lem τ c.args.p _ c.letter_count-a.ensures.0, letters_at_lem τ c.args.q _ c.letter_count-b.ensures.0, ← c.same_letters.ensures) (c.then_some.ensures ∙ some_if c.same_letters.result _)
