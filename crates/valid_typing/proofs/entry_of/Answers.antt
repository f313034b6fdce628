use native.Mathlib.Omega.{arith}
use Rattle.valid_typing.proofs.Stacks.{which_item, low_item, small_item, entry_none, entry_var, entry_val}
use Rattle.valid_typing.proofs.entry_of.Goals as goal

pub row_of-requires : goal.row_of-requires
row_of-requires c = (search, low_item (which_item _ _ _ (rw c.in-Some-Val.is at c.in-Some-Val.field-0-is) c.in-Some-Val.is) (search))

pub overflow_add-result : goal.overflow_add-result
overflow_add-result c =
    let h = small_item (which_item _ _ _ (rw c.in-Some-Var.is at c.in-Some-Var.field-0-is) c.in-Some-Var.is) (search) in
    omega arith

pub overflow_cast-result-in-Some-Var : goal.overflow_cast-result-in-Some-Var
overflow_cast-result-in-Some-Var c =
    let h = small_item (which_item _ _ _ (rw c.in-Some-Var.is at c.in-Some-Var.field-0-is) c.in-Some-Var.is) (search) in
    omega arith

pub returns-in-None : goal.returns-in-None
returns-in-None c = entry_none _ c.in-None.is

pub returns-in-Some-Val : goal.returns-in-Some-Val
returns-in-Some-Val c = entry_val _ c.in-Some-Val.t _ (which_item _ _ _ (rw c.in-Some-Val.is at c.in-Some-Val.field-0-is) c.in-Some-Val.is) (omega (arith, c.row_of.ensures.1)) c.row_of.ensures.0

pub returns-in-Some-Var : goal.returns-in-Some-Var
returns-in-Some-Var c = entry_var _ c.in-Some-Var.k (which_item _ _ _ (rw c.in-Some-Var.is at c.in-Some-Var.field-0-is) c.in-Some-Var.is)
