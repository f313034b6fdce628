use mathlib.Core.Path.{◌≡◌, ap, sym, ◌∙◌}
use Prim.Native.Nat.{◌+◌, ◌<◌, ◌≤◌}
use native.Mathlib.Omega.{arith}
use lib.ListN.{length}
use lib.Seq.{length-take-le}
use Rattle.image.proofs.Laws.{nothing}
use Rattle.text.specs.Bytes.{fields_of}
use Rattle.text.specs.Grammar.{entry_of, forms}
use Rattle.text_lines.specs.Parts.{line_in}
use Rattle.text_lines.proofs.InLine.{field_read, stop_behind}
use Rattle.text_fields.specs.names.Names.{name_code, form_at}
use Rattle.text_decode.specs.line.Fields.{fields_from}
use Rattle.text_decode.proofs.line.OperandImage.{ordered_as}
use Rattle.text_decode.proofs.line.StopLaws.{same_field}
use Rattle.text_decode.proofs.store.EntryLaws.{entry_is}
use Rattle.text_decode.proofs.store.PutLaws.{front_of}
use Rattle.text_decode.proofs.store.LineLaws.{line_unnamed}
use Rattle.text_decode.proofs.store.LineImage.{fields_outside, rows_kept, blocks_kept, instrs_kept, bad_in, good_in, good_outside}
use Rattle.text_decode.proofs.store.read_line.Goals as goal

pub slice_bounds-name_code-end : goal.slice_bounds-name_code-end
slice_bounds-name_code-end c =
    let h = field_read _ 0 _ c.requires.3 c.field_end-f.ensures in
    sym (length-take-le c.field_end-f.result c.args.text.now (omega arith))

pub returns-then-code-ge36 : goal.returns-then-code-ge36
returns-then-code-ge36 c =
    let fields_are : entry_of (fields_of (line_in c.args.text.now)) ≡ form_at forms c.name_code-code.result (fields_from (line_in c.args.text.now) (c.field_end-f.result + 1)) = entry_is (line_in c.args.text.now) c.field_end-f.result c.name_code-code.result c.field_end-f.ensures (c.name_code-code.ensures ∙ ap name_code (front_of c.args.text.now c.field_end-f.result ∙ same_field c.args.text.now 0 c.field_end-f.result c.requires.3 c.field_end-f.ensures)) in
    let h : 36 ≤ c.name_code-code.result = search in
    (line_unnamed _ _ _ _ _ fields_are h, nothing _ _ _)

pub read_rest-requires : goal.read_rest-requires
read_rest-requires c = (search, search, stop_behind _ 0 _ (search) (search), search)

pub returns-in_default : goal.returns-in_default
returns-in_default c =
    let fields_are : entry_of (fields_of (line_in c.args.text.now)) ≡ form_at forms c.name_code-code.result (fields_from (line_in c.args.text.now) (c.field_end-f.result + 1)) = entry_is (line_in c.args.text.now) c.field_end-f.result c.name_code-code.result c.field_end-f.ensures (c.name_code-code.ensures ∙ ap name_code (front_of c.args.text.now c.field_end-f.result ∙ same_field c.args.text.now 0 c.field_end-f.result c.requires.3 c.field_end-f.ensures)) in
    let a = c.args in
    let e = c.in_default.ensures in (
      bad_in (line_in a.text.now) a.u a.p a.image.now a.numbers.now c.requires.0 c.name_code-code.result (fields_from (line_in a.text.now)
          (c.field_end-f.result + 1)) fields_are c.read_rest.new.image c.read_rest.new.numbers e.2 e.0,
      fields_outside a.p a.image.now c.read_rest.new.image c.requires.0 e.2,
    )

pub put_line-requires : goal.put_line-requires
put_line-requires c =
    let code_of : c.name_code-code.result < 36 = search in
    let o = c.requires.0 in
    let w = c.in-Some.ensures.2 in
    (record { ordered = ordered_as _ c.args.image.now c.read_rest.new.image w.size o; rows = rw (ap length (rows_kept _ _ _ o w)) (search); instrs = rw (ap length (instrs_kept _ _ _ o w)) (search); blocks = rw (ap length (blocks_kept _ _ _ o w)) (search) }, code_of, search)

pub overflow_add-result : goal.overflow_add-result
overflow_add-result c =
    let e = c.in-Some.ensures.1.0 in
    let h = c.requires.3.ended in
    omega (arith, c.well_formed.0.0)

pub returns : goal.returns
returns c =
    let code_of : c.name_code-code.result < 36 = search in
    let fields_are : entry_of (fields_of (line_in c.args.text.now)) ≡ form_at forms c.name_code-code.result (fields_from (line_in c.args.text.now) (c.field_end-f.result + 1)) = entry_is (line_in c.args.text.now) c.field_end-f.result c.name_code-code.result c.field_end-f.ensures (c.name_code-code.ensures ∙ ap name_code (front_of c.args.text.now c.field_end-f.result ∙ same_field c.args.text.now 0 c.field_end-f.result c.requires.3 c.field_end-f.ensures)) in
    let a = c.args in
    let e = c.in-Some.ensures in
    let o₁ = ordered_as a.p a.image.now c.read_rest.new.image e.2.size c.requires.0 in (
      record {
        is =
            good_in (line_in a.text.now) a.u a.p a.image.now a.numbers.now c.requires.0 c.name_code-code.result
            (fields_from (line_in a.text.now) (c.field_end-f.result + 1)) fields_are c.read_rest.new.image c.read_rest.new.numbers
            e.2 o₁ c.put_line.new.image c.put_line.ensures.1 c.put_line.result c.in-Some.s e.0
            e.1.1.0 c.requires.1 code_of c.put_line.ensures.0;
        ends = e.1.0;
      },
      good_outside
          (line_in a.text.now) a.u a.p a.image.now a.numbers.now c.requires.0 c.name_code-code.result
          (fields_from (line_in a.text.now) (c.field_end-f.result + 1)) fields_are c.read_rest.new.image c.read_rest.new.numbers
          e.2 o₁ c.put_line.new.image c.put_line.ensures.1 c.put_line.result,
    )
