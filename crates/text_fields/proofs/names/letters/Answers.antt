use Rattle.std.proofs.Common.{sym, ap, ◌∙◌}
use lib.Seq.{sets}
use Rattle.text_fields.specs.numbers.Numbers.{number_of}
use Rattle.text_fields.proofs.names.CodeRows.{dash_count, dash_codes, count_is, codes_bad, codes_are}
use Rattle.text_fields.proofs.names.letters.Goals as goal

pub returns-then-is_dash : goal.returns-then-is_dash
returns-then-is_dash c =
    let d = sym c.is_dash.ensures ∙ c.if-is_dash.true in
    (dash_count _ d, ap (sets _ _) (dash_codes _ d))

pub returns : goal.returns
returns c =
    let d = sym c.is_dash.ensures ∙ c.if-is_dash.false in
    let e = sym c.in_ok-n.ensures in
    (sym e ∙ count_is _ d, c.put_letters.ensures ∙ ap (sets _ _) (codes_are _ d c.in_ok-n.n e))

pub returns-in_err-n : goal.returns-in_err-n
returns-in_err-n c =
    let d = sym c.is_dash.ensures ∙ c.if-is_dash.false in
    let e = sym c.in_err-n.ensures in
    (ap number_of c.from_residual.ensures ∙ sym e ∙ count_is _ d, ap (sets _ _) (codes_bad _ d e))
