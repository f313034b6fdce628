use native.Mathlib.Omega.{arith}
use Rattle.valid_typing.proofs.Forms.{link_fits, is_code, not_code, code_low}
use Rattle.valid_typing.proofs.code.Goals as goal

pub returns-in_default : goal.returns-in_default
returns-in_default c =
    (λ E e. not_code _ _ _ _ _ c.link-h.ensures c.read_value.ensures.0 E e c.in_default.not-Code, tt)

pub returns : goal.returns
returns c =
    let h = link_fits _ _ _ c.link-h.ensures in
    let l = code_low _ c.in-Code.is c.read_value.ensures.1 in
    (λ E e. is_code _ _ _ _ _ (search) (search) E e c.in-Code.is, record { link_in = h; stack_in = omega arith; start_in = l.1 })
