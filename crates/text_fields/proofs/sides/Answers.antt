use Rattle.std.proofs.Common.{◌≡◌, ℕ, List, get_or, refl, sym, ap, ◌∙◌, rules}
use Rattle.text.specs.Bytes.{split}
use Rattle.text.specs.Grammar.{packed}
use Rattle.text_fields.proofs.numbers.Laws.{part_from}
use Rattle.text_fields.proofs.Operands.{nothing_is, same_is, before_none, before_pack, before_carried}
use Rattle.text_fields.proofs.sides.Goals as goal

pub returns-in-empty : goal.returns-in-empty
returns-in-empty c = nothing_is (before_none _ _ c.in-empty.len_below) refl

pub returns-in-33 : goal.returns-in-33
returns-in-33 c =
    let l = c.args.l.now in
    let b : get_or l 0 0 ≡ 33 = search rules in
    same_is (ap (λ (s : List ℕ). packed (split 58 s) c.args.t.now) (part_from l 1) ∙ sym (before_pack _ _ c.in-33.len_at_least b)) c.packed.ensures

pub returns-in_default : goal.returns-in_default
returns-in_default c = same_is (sym (before_carried _ _ c.in_default.len_at_least (search rules))) c.carried.ensures
