use Rattle.std.proofs.Common.{ℕ, ◌+◌, ◌-◌, ◌<◌, ◌≤◌, List, length, take, drop, sym, refl, ap, ◌∙◌, arith, length-drop}
use Rattle.text.specs.Grammar.{before}
use Rattle.text_lines.specs.Parts.{first_part}
use Rattle.text_fields.proofs.numbers.Laws.{part_from}
use Rattle.text_fields.proofs.Operands.{nothing_is, same_is, plain_is, field_plain, field_more, field_sides}
use Rattle.text_fields.proofs.any_operand.Goals as goal

pub returns-then-f-e : goal.returns-then-f-e
returns-then-f-e c = plain_is _ _ _ _ (field_plain _ _ c.part_end-e.ensures (search)) (search)

pub returns-then-part_end-t : goal.returns-then-part_end-t
returns-then-part_end-t c =
    let f = c.args.f.now in
    let d = c.part_end.ensures ∙ ap (λ (s : List ℕ). 0 + length (first_part 61 (drop 0 s))) (part_from f (c.part_end-e.result + 1)) in
    let k : c.part_end.result < length (drop (c.part_end-e.result + 1) f) = omega (arith, length-drop (c.part_end-e.result + 1) f, c.if-part_end-t.true) in
    nothing_is (field_more f c.part_end-e.result c.part_end-e.ensures c.if-f-e.false c.part_end.result d k) refl

pub returns : goal.returns
returns c =
    let f = c.args.f.now in
    let d = c.part_end.ensures ∙ ap (λ (s : List ℕ). 0 + length (first_part 61 (drop 0 s))) (part_from f (c.part_end-e.result + 1)) in
    let k : length (drop (c.part_end-e.result + 1) f) ≤ c.part_end.result = omega (arith, length-drop (c.part_end-e.result + 1) f, c.if-part_end-t.false) in
    let e = ap (before (take (c.part_end-e.result - 0) (drop 0 f))) (part_from f (c.part_end-e.result + 1)) ∙ sym (field_sides f c.part_end-e.result c.part_end-e.ensures c.if-f-e.false c.part_end.result d k) in
    same_is e c.sides.ensures
