use borrow.Author.Tests.{le-ltb, lt-leb}
use mathlib.Core.Path.{◌∙◌, ap}
use Rattle.syntax.specs.Syntax.{value}
use Rattle.types.specs.Types.{Ty}
use Rattle.types.specs.Equal.{same}
use Rattle.types_rows.specs.Environments.{read_in}
use Rattle.valid_typing.specs.Typing.{held_in}
use Rattle.valid_typing.proofs.Stacks.{which_item, low_item, is_none, is_val, val_var, var_val, is_var}
use Rattle.valid_typing.proofs.same_item.Goals as goal

pub row_of-requires : goal.row_of-requires
row_of-requires c = (c.requires.0.ready.few, low_item (which_item _ _ _ (rw c.in-Some-Val.is at c.in-Some-Val.field-0-is) c.in-Some-Val.is) (search))

pub returns-then-y-lt1024 : goal.returns-then-y-lt1024
returns-then-y-lt1024 c =
    let a = c.args in
    is_val _ _ _ _ _ _ _ c.in-Some-Val.t (which_item _ _ _ (rw c.in-Some-Val.is at c.in-Some-Val.field-0-is) c.in-Some-Val.is) c.if-y-lt1024.true
    (c.same_rows.ensures ∙ ap (λ (t : Ty value). same (read_in a.envs.now a.e t) ((held_in a.rows.now a.parts.now a.n a.envs.now).type a.f a.y)) (c.row_of.ensures.0 _ _ c.requires.0.ready))

pub returns-else-y-lt1024 : goal.returns-else-y-lt1024
returns-else-y-lt1024 c = rw (le-ltb _ _ c.if-y-lt1024.false) (val_var _ _ _ _ _ _ _ c.in-Some-Val.t (which_item _ _ _ (rw c.in-Some-Val.is at c.in-Some-Val.field-0-is) c.in-Some-Val.is) (search))

pub returns-then-y-ge1024 : goal.returns-then-y-ge1024
returns-then-y-ge1024 c = is_var _ _ _ _ _ _ _ c.in-Some-Var.k _ (which_item _ _ _ (rw c.in-Some-Var.is at c.in-Some-Var.field-0-is) c.in-Some-Var.is) (search) c.variable.ensures.0

pub returns-else-y-ge1024 : goal.returns-else-y-ge1024
returns-else-y-ge1024 c = rw (lt-leb _ _ c.if-y-ge1024.false) (var_val _ _ _ _ _ _ _ c.in-Some-Var.k (which_item _ _ _ (rw c.in-Some-Var.is at c.in-Some-Var.field-0-is) c.in-Some-Var.is) (search))

pub returns-in-None : goal.returns-in-None
returns-in-None c = is_none _ _ _ _ _ _ _ (search)
