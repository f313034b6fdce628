use Rattle.std.proofs.Common.{rules, w32, ◌∙◌}
use Rattle.std.proofs.lemmas.Int.{to_z-of_z}
use mir.Val.{SFits}
use Rattle.report_stop.proofs.Laws.{halt_integer, halt_junk, halt_other}
use Rattle.report_stop.proofs.halt_with.Goals as goal

pub returns-in-Int : goal.returns-in-Int
returns-in-Int c =
    let f : SFits w32 c.cast_signed.result = search rules in
    λ n. rw c.in-Int.is (halt_integer _ c.ranges.bits.fits n (to_z-of_z w32 c.cast_signed.result f ∙ c.cast_signed.ensures))

pub returns-in-Junk : goal.returns-in-Junk
returns-in-Junk c = λ n. rw c.in-Junk.is (halt_junk _ c.ranges.bits.fits n c.if-bits-ne0.true)

pub returns-in_default : goal.returns-in_default
returns-in_default c = λ n. halt_other _ c.ranges.bits.fits n _ c.in_default.not-Int (λ e. c.if-bits-ne0.false)

pub returns-in_default-2 : goal.returns-in_default-2
returns-in_default-2 c = λ n. halt_other _ c.ranges.bits.fits n _ c.in_default.not-Int (λ e. search rules)
