use Rattle.valid_typing.proofs.target.Items.{answered_ok}
use Rattle.valid_judge.proofs.Laws.{plain, value_code}
use Rattle.valid_judge.proofs.operand_form.Goals as goal

pub jump_form-requires : goal.jump_form-requires
jump_form-requires c =
    let h = c.has_target.ensures.has (search) in
    (search, search, record { code = search; from = h.0; jump = h.1 }, search)

pub value_form-requires : goal.value_form-requires
value_form-requires c =
    let h = c.has_target.ensures.lacks (search) in
    let r = c.requires.2 in
    (search, search, record { few = r.few; registers = r.registers }, record { code = search; no_branch = h.0; malloc = value_code _ (search) h.1 })

pub returns-then-has_target : goal.returns-then-has_target
returns-then-has_target c = (c.jump_form.ensures, λ k. k)

pub returns-in-Ok : goal.returns-in-Ok
returns-in-Ok c = (λ P h. answered_ok _ _ tt (c.in-Ok.ensures.0 P _ h), c.value_form.ensures.1)

pub returns-in-Err : goal.returns-in-Err
returns-in-Err c =
    (λ P h. plain P _ _ _ _ _ _ _ _ (search) (c.has_target.ensures.lacks (search)).0 (c.has_target.ensures.lacks (search)).1 (c.in-Err.ensures.0 P _ h), c.value_form.ensures.1)
