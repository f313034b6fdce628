use native.Mathlib.Omega.{arith}
use Rattle.valid_pass_three.proofs.body.Registers.{link_known, link_gap, slot_low}
use Rattle.valid_pass_three.proofs.body.link_of.Goals as goal

pub row_of-requires : goal.row_of-requires
row_of-requires c = (search, slot_low _ _ c.in-Some.is (search))

pub returns-in-None : goal.returns-in-None
returns-in-None c = (link_gap _ c.in-None.is, omega arith)

pub returns-in-Some : goal.returns-in-Some
returns-in-Some c =
    let q = c.row_of.ensures.1 in
    (link_known _ _ _ c.in-Some.is c.row_of.ensures.0, omega arith)
