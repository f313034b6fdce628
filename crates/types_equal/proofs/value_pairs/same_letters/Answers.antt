use Rattle.types_equal.proofs.value_pairs.Letters.{letters_unlike, left_first, left_next, left_off, left_last}
use Rattle.types_equal.proofs.value_pairs.same_letters.Goals as goal

pub returns-then-a-b : goal.returns-then-a-b
returns-then-a-b c = letters_unlike _ _ _ _ _ c.if-a-b.true

pub loop-i-init : goal.loop-i-init
loop-i-init c = left_first _ _ _ _

pub loop-i-preserved : goal.loop-i-preserved
loop-i-preserved c = left_next _ _ _ _ _ _ _ c.loop-i-test.true c.at.ensures.0 c.at-in-loop-i.ensures.0 c.same_letter.ensures c.loop-i.invariant c.if-not-same_letter.false

pub returns-then-not-same_letter : goal.returns-then-not-same_letter
returns-then-not-same_letter c = rw (← c.if-a-b.false) (left_off _ _ _ _ _ _ _ c.loop-i-test.true c.at.ensures.0 c.at-in-loop-i.ensures.0 c.same_letter.ensures c.loop-i.invariant (search))

pub returns : goal.returns
returns c = rw (← c.if-a-b.false) (left_last _ _ _ _ _ c.loop-i-test.false c.loop-i.invariant)
