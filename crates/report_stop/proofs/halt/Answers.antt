use Rattle.std.proofs.Common.{◌≡◌, ◌∙◌, sym, ap, not}
use Rattle.std.specs.Str.{bytes_eq}
use Rattle.text.specs.Bytes.{bytes}
use Rattle.report_stop.specs.Told.{kind_in}
use Rattle.report_stop.proofs.Laws.{unequal, equal, not_halted, no_halt_steps, no_halt_kind, no_halt_number, halt_told}
use Rattle.report_stop.proofs.halt.Goals as goal
use Rattle.report_stop.proofs.halt.Goals.{then-ne-via-then-ne, then-ne-via-else-ne+then-not-is_steps}

pub returns-then-ne : goal.returns-then-ne
unfolding bytes
returns-then-ne c =
    let h : c.ne.result ≡ not (bytes_eq c.args.w.now (bytes "halted")) = rw (sym c.as_slice.ensures) c.ne.ensures in
    elim c.then-ne.branch [
      | then-ne-via-then-ne w ↦ not_halted _ _ _ _ (unequal _ _ h w.if-ne.true)
      | then-ne-via-else-ne+then-not-is_steps w ↦ no_halt_steps _ _ _ _ (equal _ _ h w.if-ne.false) (sym w.if-not-is_steps.true ∙ w.is_steps.ensures)
    ]

pub returns-in_err-kind : goal.returns-in_err-kind
unfolding bytes
returns-in_err-kind c =
    let h : c.ne.result ≡ not (bytes_eq c.args.w.now (bytes "halted")) = rw (sym c.as_slice.ensures) c.ne.ensures in
    c.from_residual.ensures ∙ no_halt_kind _ _ _ _ (equal _ _ h c.if-ne.false) (sym c.if-not-is_steps.false ∙ c.is_steps.ensures) (sym (ap kind_in c.in_err-kind.was) ∙ c.kind_of.ensures)

pub returns-in-Some : goal.returns-in-Some
unfolding bytes
returns-in-Some c =
    let h : c.ne.result ≡ not (bytes_eq c.args.w.now (bytes "halted")) = rw (sym c.as_slice.ensures) c.ne.ensures in
    halt_told _ _ _ _ (equal _ _ h c.if-ne.false) (sym c.if-not-is_steps.false ∙ c.is_steps.ensures) _ _ c.in-Some.ensures (sym (ap kind_in c.in_ok-kind.was) ∙ c.kind_of.ensures) c.halt_with.ensures

pub returns-in-None : goal.returns-in-None
unfolding bytes
returns-in-None c =
    let h : c.ne.result ≡ not (bytes_eq c.args.w.now (bytes "halted")) = rw (sym c.as_slice.ensures) c.ne.ensures in
    no_halt_number _ _ _ _ (equal _ _ h c.if-ne.false) (sym c.if-not-is_steps.false ∙ c.is_steps.ensures) c.in-None.ensures
