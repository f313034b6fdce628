use mathlib.Core.Path.{refl, ◌∙◌}
use native.Mathlib.Omega.{arith}
use lib.ListN.{length}
use Rattle.types_rows.specs.Environments.{shifted}
use Rattle.types_rows.proofs.Environments.{shifted_now}
use Rattle.types_equal.proofs.Items.{tabled_low, few_left, few_right, spare_low}
use Rattle.types_equal.proofs.Values.{both_same, one_differs}
use Rattle.types_equal.proofs.filling.Itself.{closed_stack}
use Rattle.types_equal.proofs.filling.Fill.{big_most, f_many, f_off, f_on}
use Rattle.types_equal.proofs.filling.fill_code.Goals.{then-a-m-via-then-a-m, then-a-m-via-else-a-m+then-not-same_letters}
use Rattle.types_equal.proofs.filling.fill_code.Goals as goal

pub returns-then-a-m : goal.returns-then-a-m
returns-then-a-m c =
    elim c.then-a-m.branch [
      | then-a-m-via-then-a-m w ↦ f_many _ _ (shifted c.args.envs.now c.args.l.env 0) _ _ _ _ _ _ _ _ _ refl c.letter_count-a.ensures.0 c.letter_count-b.ensures.0 (search)
      | then-a-m-via-else-a-m+then-not-same_letters w ↦ f_off _ _ (shifted c.args.envs.now c.args.l.env 0) _ _ _ _ _ _ _ _ _ refl c.letter_count-a.ensures.0 c.letter_count-b.ensures.0 (search) w.same_letters.ensures (search)
    ]

pub eq_filled-requires : goal.eq_filled-requires
eq_filled-requires c =
    let bs = c.requires.2 in
    let ci = c.requires.1 in
    let la = c.letter_count-a.ensures.1 in
    let lb = c.letter_count-b.ensures.1 in
    let fl = few_left _ _ c.requires.0 in
    let fr = few_right _ _ c.requires.0 in
    let nl = c.if-a-m.false in
    let bm = big_most (length c.args.args.now) in
    (tabled_low _ _ _ _ c.requires.0 (omega arith) (omega arith), record { place = search; small = la; letters = search; enough = nl; formed = closed_stack _ _ _ _ c.requires.1.formed }, record { few = c.requires.1.few; env = c.requires.1.env; letters = lb }, spare_low (length c.args.args.now) _ _ _ _ _ c.requires.3 (omega arith) (omega arith))

pub returns-then-eq_filled : goal.returns-then-eq_filled
returns-then-eq_filled c =
    both_same c.if-eq_filled.true c.eq_filled.ensures (rw (c.registers-s.ensures, c.filling-k.ensures) at c.eq_parts.ensures) ∙ f_on _ _ (shifted c.args.envs.now c.args.l.env 0) _ _ _ _ _ _ _ _ _ refl c.letter_count-a.ensures.0 c.letter_count-b.ensures.0
    (shifted_now c.args.envs.now 0) (shifted_now c.args.envs.now 0) c.if-a-m.false c.same_letters.ensures (search)

pub returns-else-eq_filled : goal.returns-else-eq_filled
returns-else-eq_filled c =
    c.if-eq_filled.false ∙ one_differs _ c.if-eq_filled.false c.eq_filled.ensures ∙ f_on _ _ (shifted c.args.envs.now c.args.l.env 0) _ _ _ _ _ _ _ _ _ refl c.letter_count-a.ensures.0 c.letter_count-b.ensures.0
    (shifted_now c.args.envs.now 0) refl c.if-a-m.false c.same_letters.ensures (search)
