use native.Mathlib.Omega.{arith}
use Rattle.types_rows.proofs.size.Laws.{spent_none, spending_next, spending_last, spent_stack, spent_value}
use Rattle.types_rows.specs.Read.{tab}
use mathlib.Core.Path.{sym, ◌∙◌}
use Rattle.types_rows.proofs.size.+spend_parts_spend_row_spend_stack_spend_value.Goals.{spend_parts-in-Some, spend_parts-in_default}
use Rattle.types_rows.proofs.size.+spend_parts_spend_row_spend_stack_spend_value.Goals as goal

pub spend_parts-loop-i-preserved : goal.spend_parts-loop-i-preserved
spend_parts-loop-i-preserved t c =
    elim c.match-part.branch [
      | spend_parts-in-Some w ↦ spending_next _ _ _ _ _ _ _ _ c.loop-i.invariant c.loop-i-test.true (sym w.in-Some.is ∙ c.part.ensures.0) (w.rest-is ∙ w.spend_row-rest.ensures)
      | spend_parts-in_default w ↦ spending_next _ _ _ _ _ _ _ _ c.loop-i.invariant c.loop-i-test.true (sym w.in_default.is ∙ c.part.ensures.0) (let e = w.rest-is in omega arith)
    ]

pub spend_parts-returns : goal.spend_parts-returns
spend_parts-returns t c = spending_last _ _ _ _ _ _ _ _ c.loop-i.invariant c.loop-i-test.false

pub spend_row-returns-then-h-eq0 : goal.spend_row-returns-then-h-eq0
spend_row-returns-then-h-eq0 t c = spent_none (tab c.args.rows.now c.args.parts.now) c.args.h c.args.left c.if-h-eq0.true

pub spend_row-returns-then-is_stack : goal.spend_row-returns-then-is_stack
spend_row-returns-then-is_stack t c = spent_stack _ _ _ c.if-h-eq0.false c.if-left-eq0.false c.is_stack.ensures c.if-is_stack.true (search)

pub spend_row-returns-else-is_stack : goal.spend_row-returns-else-is_stack
spend_row-returns-else-is_stack t c = spent_value _ _ _ c.if-h-eq0.false c.if-left-eq0.false c.is_stack.ensures c.if-is_stack.false (search)
