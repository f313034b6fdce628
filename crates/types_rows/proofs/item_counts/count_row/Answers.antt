use Rattle.types_rows.specs.Read.{tab, mean_v}
use Rattle.types_rows.proofs.item_counts.Counts.{count_by, count_var, count_push, count_join, count_rest}
use Rattle.types_rows.proofs.item_counts.count_row.Goals as goal

pub returns-in-StkVar : goal.returns-in-StkVar
returns-in-StkVar c =
    λ parts low. let τ = tab _ parts in count_var τ c.in-StkVar.field-0 (count_by τ _ c.read_stack.ensures.0 c.in-StkVar.is)

pub returns-in-Push : goal.returns-in-Push
returns-in-Push c =
    λ parts low. let τ = tab _ parts in count_push τ (mean_v τ c.in-Push.field-0) c.in-Push.x _ (search) (low c.in-Push.x c.in-Push.ensures.1.1) (count_by τ _ c.read_stack.ensures.0 c.in-Push.is)

pub returns-in-Join : goal.returns-in-Join
returns-in-Join c =
    λ parts low. let τ = tab _ parts in count_join τ c.in-Join.x c.in-Join.y _ _ (search) (low c.in-Join.x c.in-Join.ensures.1.0) (search) (low c.in-Join.y c.in-Join.ensures.1.1) (count_by τ _ c.read_stack.ensures.0 c.in-Join.is)

pub returns-in_default : goal.returns-in_default
returns-in_default c =
    λ parts low. let τ = tab _ parts in count_rest τ _ c.read_stack.result c.read_stack.ensures.0 c.in_default.not-StkVar c.in_default.not-Push c.in_default.not-Join
