use Rattle.std.proofs.Common.{◌≡◌, ◌<◌, ℕ, length, get_or, arith, sym, ap, ◌∙◌, rules}
use mathlib.Core.Option.{Option, some}
use Rattle.syntax.specs.Partial.{chain}
use Rattle.syntax.specs.Syntax as S
use Rattle.text.specs.Grammar.{index}
use Rattle.text_fields.specs.Pieces.{base_read}
use Rattle.text_fields.proofs.numbers.Laws.{no_first, part_from}
use Rattle.text_fields.proofs.Operands.{carrier_label, carrier_register}
use Rattle.text_fields.proofs.carrier.Goals as goal
use Rattle.text_fields.proofs.carrier.Goals.{in_default-via-then-f-lt1, in_default-via-else-f-lt1+in_default-1}

abbrev as_label : Option ℕ → Option S.Base
as_label o = chain o (λ n. some (S.lab n))

abbrev as_register : Option ℕ → Option S.Base
as_register o = chain o (λ n. some (S.reg n))

pub returns-in_err-index-in-35 : goal.returns-in_err-index-in-35
returns-in_err-index-in-35 c =
    let f = c.args.f.now in
    let b : get_or f 0 0 ≡ 35 = search rules in
    let n = sym (ap index (part_from f 1)) ∙ sym c.in_err-index-in-35.ensures in
    c.from_residual.ensures ∙ sym (ap base_read (carrier_label f c.in-35.len_at_least b ∙ ap as_label n))

pub returns-in_ok-index-in-35 : goal.returns-in_ok-index-in-35
returns-in_ok-index-in-35 c =
    let f = c.args.f.now in
    let b : get_or f 0 0 ≡ 35 = search rules in
    let n = sym (ap index (part_from f 1)) ∙ sym c.in_ok-index-in-35.ensures in
    sym (ap base_read (carrier_label f c.in-35.len_at_least b ∙ ap as_label n))

pub returns-in_err-register-in_default : goal.returns-in_err-register-in_default
returns-in_err-register-in_default c =
    let f = c.args.f.now in
    let b : get_or f 0 0 ≡ 35 → ⊥ = elim c.in_default.branch [
      | in_default-via-then-f-lt1 w ↦ (let h : length f < 1 = search rules in λ e. omega (arith, no_first f h))
      | in_default-via-else-f-lt1+in_default-1 w ↦ (search rules)
    ] in
    c.from_residual-in_err-register-in_default.ensures ∙ sym (ap base_read (carrier_register f b ∙ ap as_register (sym c.in_err-register-in_default.ensures)))

pub returns-in_ok-register-in_default : goal.returns-in_ok-register-in_default
returns-in_ok-register-in_default c =
    let f = c.args.f.now in
    let b : get_or f 0 0 ≡ 35 → ⊥ = elim c.in_default.branch [
      | in_default-via-then-f-lt1 w ↦ (let h : length f < 1 = search rules in λ e. omega (arith, no_first f h))
      | in_default-via-else-f-lt1+in_default-1 w ↦ (search rules)
    ] in
    sym (ap base_read (carrier_register f b ∙ ap as_register (sym c.in_ok-register-in_default.ensures)))
