use Rattle.std.proofs.Common.{◌+◌, ℕ, List, ap, ◌∙◌, arith, length-set, zero-le}
use lib.Seq.{sets}
use Rattle.text_lines.proofs.InLine.{stop_on, stop_behind, field_read}
use Rattle.text.specs.Grammar.{letters}
use Rattle.text_fields.specs.names.Letters.{count_of, codes_of}
use Rattle.text_decode.proofs.line.LineLaws.{code_past, code_no_slot, code_no_regs, code_few_regs, code_no_letters, code_is, count_small}
use Rattle.text_decode.proofs.line.StopLaws.{same_field, line_over}
use Rattle.text_decode.proofs.line.read_code.Goals as goal

pub returns-then-rest-at-ne44 : goal.returns-then-rest-at-ne44
returns-then-rest-at-ne44 c = (code_past _ _ _ _ (line_over _ _ (search) (search)), tt)

pub field_end-e-requires : goal.field_end-e-requires
field_end-e-requires c = (stop_on _ _ (search) (search))

pub read_slot-requires : goal.read_slot-requires
read_slot-requires c = stop_behind _ _ _ (stop_on _ _ c.requires.2 (search)) (search)

pub returns-in_err-x : goal.returns-in_err-x
returns-in_err-x c =
    let here = stop_on _ _ c.requires.2 c.if-rest-at-ne44.false in
    rw c.from_residual.ensures (code_no_slot _ _ _ _ here.within _ c.field_end-e.ensures c.in_err-x.ensures, tt)

pub returns-in_err-n : goal.returns-in_err-n
returns-in_err-n c =
    let here = stop_on _ _ c.requires.2 c.if-rest-at-ne44.false in
    rw c.from_residual-in_err-n.ensures (code_no_regs _ _ _ _ here.within _ c.field_end-e.ensures _ c.in_ok-x.ensures.says _ c.in_err-n.ensures.0, tt)

pub returns-then-n-lt8 : goal.returns-then-n-lt8
returns-then-n-lt8 c =
    let here = stop_on _ _ c.requires.2 c.if-rest-at-ne44.false in
    (code_few_regs _ _ _ _ here.within _ c.field_end-e.ensures _ c.in_ok-x.ensures.says _ _ c.in_ok-n.ensures.0 c.if-n-lt8.true, tt)

pub slice_bounds-letters-end : goal.slice_bounds-letters-end
slice_bounds-letters-end c =
    let h = field_read _ _ _ (stop_on _ _ c.requires.2 (search)) c.field_end-e.ensures in
    omega arith

pub returns-in_err-q : goal.returns-in_err-q
returns-in_err-q c =
    let here = stop_on _ _ c.requires.2 c.if-rest-at-ne44.false in
    let same = same_field _ _ _ here c.field_end-e.ensures in
    rw c.from_residual-in_err-q.ensures (
      code_no_letters _ _ _ _ here.within _ c.field_end-e.ensures _ c.in_ok-x.ensures.says _ _ c.in_ok-n.ensures.0 c.if-n-lt8.false _
          (c.in_err-q.ensures.1 ∙ ap (λ (f : List ℕ). sets c.read_parts.new.parts (c.args.p + 9) (codes_of (letters f))) same)
          (c.in_err-q.ensures.0 ∙ ap (λ (f : List ℕ). count_of (letters f)) same),
      tt,
    )

pub overflow_cast-parts : goal.overflow_cast-parts
overflow_cast-parts c = omega (arith, count_small _ _ c.in_ok-q.ensures.0)

pub overflow_add-parts : goal.overflow_add-parts
overflow_add-parts c = omega (arith, c.requires.0, c.requires.1)

pub offset_bounds-parts-p : goal.offset_bounds-parts-p
offset_bounds-parts-p c = omega (arith, c.requires.0, c.requires.1)

pub bounds-parts-p : goal.bounds-parts-p
bounds-parts-p c = omega (arith, c.requires.0, c.letters.auto.out, c.read_parts.auto.parts)

pub overflow_cast-result : goal.overflow_cast-result
overflow_cast-result c = omega (arith, c.requires.1)

pub shape_of-parts : goal.shape_of-parts
shape_of-parts c = simp length-set (c.letters.auto.out ∙ c.read_parts.auto.parts)

pub returns : goal.returns
returns c =
    let here = stop_on _ _ c.requires.2 c.if-rest-at-ne44.false in
    let same = same_field _ _ _ here c.field_end-e.ensures in (
      code_is _ _ _ _ here.within _ c.field_end-e.ensures _ c.in_ok-x.ensures.says _ _ c.in_ok-n.ensures.0 c.if-n-lt8.false _
          (c.in_ok-q.ensures.1 ∙ ap (λ (f : List ℕ). sets c.read_parts.new.parts (c.args.p + 9) (codes_of (letters f))) same)
          _ (c.in_ok-q.ensures.0 ∙ ap (λ (f : List ℕ). count_of (letters f)) same) (omega (arith, c.requires.0, c.read_parts.auto.parts)),
      (c.in_ok-n.ensures.1.0, (zero-le, zero-le)),
    )
