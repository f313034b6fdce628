use Rattle.std.proofs.Common.{ℕ, ap, ◌∙◌}
use Rattle.text_reader.specs.declared.Reader.{Reader}
use Rattle.text_reader.proofs.Reading.{line_from_lem, next_from_lem}
use Rattle.text_reader.proofs.Reader.next.Goals as goal

pub returns : goal.returns
returns c =
    let text = c.args.self.now.text in
    let at = c.args.self.now.at in
    let e = c.line_end-end.result in
    let place : ℕ → Reader = λ n. record { text = text; at = n } in (
      c.part.ensures ∙ line_from_lem text.now at e c.line_end-end.ensures,
      ap place (c.past-self.ensures ∙ next_from_lem text.now at e c.line_end-end.ensures),
    )
