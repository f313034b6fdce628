use Rattle.text_fields.proofs.numbers.Scans.{register_lacks, behind_r, r_bad, r_low, r_is}
use Rattle.text_fields.proofs.numbers.register_at.Goals as goal

pub returns-then-s-at-ne114 : goal.returns-then-s-at-ne114
returns-then-s-at-ne114 c = register_lacks _ _ c.requires c.if-s-at-ne114.true

pub number_at-requires : goal.number_at-requires
number_at-requires c = behind_r _ _ c.requires c.if-s-at-ne114.false

pub returns-in_err-x : goal.returns-in_err-x
returns-in_err-x c = rw c.from_residual.ensures (r_bad _ _ c.requires c.if-s-at-ne114.false c.in_err-x.ensures)

pub overflow_sub-result : goal.overflow_sub-result
overflow_sub-result c = r_low _ _ c.requires c.if-s-at-ne114.false _ c.in_ok-x.ensures

pub returns : goal.returns
returns c = r_is _ _ c.requires c.if-s-at-ne114.false _ c.in_ok-x.ensures
