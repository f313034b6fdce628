use Rattle.valid_typing.proofs.Forms.{ints_equal}
use Rattle.valid_typing.proofs.both_int.Goals as goal

pub returns-then-is_int : goal.returns-then-is_int
returns-then-is_int c =
    λ z E e f. ints_equal _ _ _ _ (c.is_int.ensures E e) c.if-is_int.true (c.is_int-then-is_int.ensures E f) z
