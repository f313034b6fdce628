use Rattle.valid_typing.proofs.operands.Filling.{inst_from, pack_from, same_told}
use Rattle.valid_typing.specs.Image.{operands_in}
use Rattle.valid_typing.proofs.operands.carried.Goals as goal

pub instance-requires : goal.instance-requires
instance-requires c = (c.requires.0, c.requires.1, c.requires.2.few c.if-o-lt4.true, c.requires.3)

pub returns-then-o-lt4 : goal.returns-then-o-lt4
returns-then-o-lt4 c =
    let a = c.args in
    λ P f h e. same_told P _ f _ _ _ (inst_from (operands_in a.p a.image.now a.image.now) 0 _ _ _ _ _ c.if-o-lt4.true (c.requires.2.some c.if-o-lt4.true)) (c.instance.ensures P f h e)

pub returns : goal.returns
returns c =
    let a = c.args in
    λ P f h e. same_told P _ f _ _ _ (pack_from (operands_in a.p a.image.now a.image.now) 0 _ _ _ _ _ c.if-o-lt4.false) (c.package.ensures P f h e)
