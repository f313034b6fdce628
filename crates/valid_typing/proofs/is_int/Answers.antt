use Rattle.valid_typing.proofs.Forms.{is_int, not_int}
use Rattle.valid_typing.proofs.is_int.Goals as goal

pub returns-in-Int : goal.returns-in-Int
returns-in-Int c = λ E e. is_int _ _ _ _ _ c.link.ensures c.read_value.ensures.0 E e (search)

pub returns-in_default : goal.returns-in_default
returns-in_default c =
    λ E e. not_int _ _ _ _ _ c.link.ensures c.read_value.ensures.0 E e c.in_default.not-Int
