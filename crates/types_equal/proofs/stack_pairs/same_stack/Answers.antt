use Rattle.types_rows.specs.Read.{tab}
use Rattle.types_equal.proofs.stack_pairs.Stacks.{s_place, s_filled}
use Rattle.types_equal.proofs.stack_pairs.same_stack.Goals as goal

pub returns-in_default : goal.returns-in_default
returns-in_default c = λ t ps. s_place (tab _ ps) _ c.args.envs.now c.args.k _ _ (search) t

pub returns-then-is_stack : goal.returns-then-is_stack
returns-then-is_stack c =
    let e = c.stack_in.ensures in
    λ t ps. s_filled (tab _ ps) _ c.args.envs.now c.args.k _ _ _ c.in-StkFill.j _ e.0 e.1 c.in-StkFill.is c.at-a.ensures.0 c.is_stack.ensures c.if-is_stack.true
    c.given.ensures c.same_place-then-is_stack.ensures t
