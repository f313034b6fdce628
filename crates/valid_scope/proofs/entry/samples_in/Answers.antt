use mathlib.Core.Path.{◌≡◌, ap, sym, ◌∙◌}
use native.Mathlib.Omega.{arith}
use Rattle.std.specs.Prelude.{None}
use Rattle.types_rows.specs.Read.{on_slot}
use Rattle.valid_scope.proofs.entry.Laws.{declares_as, declares_none, declares_gap, slot_ok}
use Rattle.valid_scope.proofs.entry.samples_in.Goals as goal

pub tuple_at-requires : goal.tuple_at-requires
tuple_at-requires c = slot_ok _ c.in_ok-t.was c.part.ensures.1 (search)

pub returns-in_err-t : goal.returns-in_err-t
returns-in_err-t c = let e : c.from_residual.result ≡ None = grind arith in rw e (declares_as (ap (on_slot _) (sym c.in_err-t.was ∙ c.part.ensures.0)) (declares_none declares_gap))

pub returns : goal.returns
returns c = declares_as (ap (on_slot _) (sym c.in_ok-t.was ∙ c.part.ensures.0)) (c.tuple_at.ensures _)
