use Rattle.types_rows.specs.Read.{tab}
use Rattle.types_rows.specs.Environments.{shifted}
use Rattle.types_rows.specs.declared.Stk.TheVariants.{StkVar, Push, Join}
use Rattle.types_equal.proofs.pending.Entries.{own_form_lem, own_arg, below_mark}
use Rattle.types_equal.proofs.pending.own_form.Goals as goal

pub returns-in-Nil : goal.returns-in-Nil
returns-in-Nil c =
    λ ps. own_form_lem (tab _ ps) _ _ (shifted _ _ _) _ _ (below_mark _ c.requires.0) c.requires.2 _ _ c.stack_in.ensures.0 (search) c.in-Nil.is

pub returns-in-StkVar : goal.returns-in-StkVar
returns-in-StkVar c =
    λ ps. own_form_lem (tab _ ps) _ _ (shifted _ _ _) _ _ (below_mark _ c.requires.0) c.requires.2 _ (StkVar c.in-StkVar.k) c.stack_in.ensures.0 c.stack_in.ensures.1 c.in-StkVar.is

pub returns-in-StkFill : goal.returns-in-StkFill
returns-in-StkFill c =
    λ ps. own_arg (tab _ ps) _ _ (shifted _ _ _) _ _ (below_mark _ c.requires.0) c.requires.2 _ c.in-StkFill.j _ c.stack_in.ensures.0 c.stack_in.ensures.1 c.in-StkFill.is c.at.ensures.0 c.arg_form.ensures

pub returns-in-Push : goal.returns-in-Push
returns-in-Push c =
    λ ps. own_form_lem (tab _ ps) _ _ (shifted _ _ _) _ _ (below_mark _ c.requires.0) c.requires.2 _ (Push c.in-Push.t c.in-Push.x) c.stack_in.ensures.0 c.stack_in.ensures.1 c.in-Push.is

pub returns-in-Join : goal.returns-in-Join
returns-in-Join c =
    λ ps. own_form_lem (tab _ ps) _ _ (shifted _ _ _) _ _ (below_mark _ c.requires.0) c.requires.2 _ (Join c.in-Join.x c.in-Join.y) c.stack_in.ensures.0 c.stack_in.ensures.1 c.in-Join.is
