use Rattle.std.proofs.Common.{length-take-le, arith}
use mathlib.Core.Path.{◌≡◌, sym, ◌∙◌}
use mathlib.Core.Bool.{true, false, ◌&&◌}
use mathlib.Core.List.{List}
use lib.ListN.{take}
use Rattle.exec.specs.Machine.{Word}
use Rattle.exec.specs.Run.{in_use, good_words}
use Rattle.exec_words.specs.memory.Lent.{lent}
use Rattle.exec_state.specs.good_form.Marks.{marks_from}
use Rattle.exec_state.proofs.good_form.Laws.{use_within, not_long, out_of_limits, not_tuples, bad_before, and_heap, and_is, by_marks, marks_are}
use Rattle.exec_state.proofs.good_form.good_form.Goals.{then-not-long_enough-via-then-not-long_enough, then-not-long_enough-via-else-not-long_enough+then-not-in_limits, then-good_words, else-good_words}
use Rattle.exec_state.proofs.good_form.good_form.Goals as goal

pub returns-then-not-long_enough : goal.returns-then-not-long_enough
returns-then-not-long_enough c =
    λ P e. elim c.then-not-long_enough.branch [
      | then-not-long_enough-via-then-not-long_enough w ↦
          not_long _ _ _ _ _ _ _ P _ e (sym c.long_enough.ensures ∙ w.if-not-long_enough.true)
      | then-not-long_enough-via-else-not-long_enough+then-not-in_limits w ↦
          out_of_limits _ _ _ _ _ _ _ P _ e (sym c.long_enough.ensures ∙ w.if-not-long_enough.false) (sym w.in_limits.ensures ∙ w.if-not-in_limits.true)
    ]

pub mark_starts-requires : goal.mark_starts-requires
mark_starts-requires c = use_within _ _ (sym c.in_limits.ensures ∙ c.if-not-in_limits.false)

pub returns-then-not-mark_starts : goal.returns-then-not-mark_starts
returns-then-not-mark_starts c =
    λ P e. not_tuples _ _ _ _ _ _ _ P _ e (sym c.long_enough.ensures ∙ c.if-not-long_enough.false) (sym c.in_limits.ensures ∙ c.if-not-in_limits.false) (sym c.mark_starts.ensures.0 ∙ c.if-not-mark_starts.true)

pub slice_bounds-starts-end : goal.slice_bounds-starts-end
slice_bounds-starts-end c =
    omega (arith, use_within _ _ (sym c.in_limits.ensures ∙ c.if-not-in_limits.false), c.mark_starts.auto)

pub slice_bounds-starts-end-2 : goal.slice_bounds-starts-end-2
slice_bounds-starts-end-2 c =
    sym (length-take-le _ _ (omega (arith, use_within _ _ (sym c.in_limits.ensures ∙ c.if-not-in_limits.false), c.mark_starts.auto)))

pub returns-then-good_words-2 : goal.returns-then-good_words-2
returns-then-good_words-2 c =
    let H : List Word = in_use (lent c.args.hk.now c.args.hn.now) c.args.p.used in
    let m : (take c.args.p.used c.mark_starts.new.starts) ≡ marks_from H 0 = marks_are c.mark_starts.result _ (marks_from H 0) c.if-not-mark_starts.false c.mark_starts.ensures.1 in
    let v : c.if-good_words.value ≡ (good_words H (in_use (lent c.args.rk.now c.args.rn.now) 8) && good_words H (in_use (lent c.args.sk.now c.args.sn.now) c.args.p.depth)) = elim c.if-good_words.branch [
      | then-good_words w ↦ and_is true _ _ (sym (by_marks _ H _ m c.good_words.ensures) ∙ w.if-good_words.true) (w.value-is ∙ by_marks _ H _ m w.good_words-then-good_words.ensures)
      | else-good_words w ↦ and_is false _ _ (sym (by_marks _ H _ m c.good_words.ensures) ∙ w.if-good_words.false) (w.value-is ∙ w.if-good_words.false)
    ] in
    λ P e. and_heap _ _ _ _ _ _ _ P _ e (sym c.long_enough.ensures ∙ c.if-not-long_enough.false) (sym c.in_limits.ensures ∙ c.if-not-in_limits.false) (sym c.mark_starts.ensures.0 ∙ c.if-not-mark_starts.false) _ v c.if-good_words-2.true (by_marks _ H H m c.good_words-then-good_words-2.ensures)

pub returns-else-good_words-2 : goal.returns-else-good_words-2
returns-else-good_words-2 c =
    let H : List Word = in_use (lent c.args.hk.now c.args.hn.now) c.args.p.used in
    let m : (take c.args.p.used c.mark_starts.new.starts) ≡ marks_from H 0 = marks_are c.mark_starts.result _ (marks_from H 0) c.if-not-mark_starts.false c.mark_starts.ensures.1 in
    let v : c.if-good_words.value ≡ (good_words H (in_use (lent c.args.rk.now c.args.rn.now) 8) && good_words H (in_use (lent c.args.sk.now c.args.sn.now) c.args.p.depth)) = elim c.if-good_words.branch [
      | then-good_words w ↦ and_is true _ _ (sym (by_marks _ H _ m c.good_words.ensures) ∙ w.if-good_words.true) (w.value-is ∙ by_marks _ H _ m w.good_words-then-good_words.ensures)
      | else-good_words w ↦ and_is false _ _ (sym (by_marks _ H _ m c.good_words.ensures) ∙ w.if-good_words.false) (w.value-is ∙ w.if-good_words.false)
    ] in
    λ P e. bad_before _ _ _ _ _ _ _ P _ e (sym c.long_enough.ensures ∙ c.if-not-long_enough.false) (sym c.in_limits.ensures ∙ c.if-not-in_limits.false) (sym c.mark_starts.ensures.0 ∙ c.if-not-mark_starts.false) _ v c.if-good_words-2.false
