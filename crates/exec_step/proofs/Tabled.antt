-- The row at a place of the table, and the step of the tables that it is made from.
use mathlib.Core.Path.{◌≡◌, ap, ap₂, sym, ◌∙◌}
use mathlib.Core.List.{List, []}
use Prim.Native.Nat.{ℕ, ◌+◌, ◌*◌, ◌<◌, ◌≤◌}
use native.Mathlib.Omega.{arith}
use lib.ListN.{get_or}
use Rattle.exec.specs.Machine.{Memory, State}
use Rattle.tables.specs.Tables.{cell, OperandTable}
use Rattle.exec_words.specs.memory.Lent.{lent, operand_table}
use Rattle.exec_machine.specs.Step.{Tables, result_of, step_at, Next}
use Rattle.exec_machine.specs.Represents.{Fit}
use Rattle.exec_plan.specs.Plan.{target_at, goal_in, form_in, planned, Plan}
use Rattle.exec_plan.proofs.Rows.{next_is, before_last, goal_cell, jump_cell, goal_in_lem, jump_in}
use Rattle.exec_step.specs.moved.Stepped.{held, Starts}
use Rattle.exec_step.specs.Rows.{form_of, Goals}

pub starts : (T : Tables) {β : List ℕ} {labels : ℕ} → Fit T → T.labels ≡ labels → T.blocks ≡ β → Starts β labels T.count
starts T fit el eβ = λ l h. omega (arith, fit.starts l (omega (arith, h, el)), ap (λ (t : List ℕ). cell 2 t l 1) eβ)

module _ (T : Tables) (φ : List ℕ) (at j : ℕ) (e : at ≡ 8 * j) where
  entry_is : (k : ℕ) → get_or φ (at + k) 0 ≡ cell 8 φ j k
  entry_is k = ap (λ (i : ℕ). get_or φ (i + k) 0) e

  form_is : form_of φ at ≡ form_in (cell 8 φ j 0) (cell 8 φ j 5)
  form_is =
      let q : at ≡ 8 * j + 0 = omega (arith, e) in
      ap₂ form_in (ap (λ (i : ℕ). get_or φ i 0) q) (entry_is 5)

  module _ (pl : Plan T φ) (lj : j ≤ T.count) where
    -- a state at that position
    abbrev there : State
    there = held (lent [] []) (lent [] []) (lent [] []) 0 0 j

    pub in_table : form_of φ at < 24 → j + 1 ≤ T.count
    in_table q = omega (arith, before_last T φ pl there lj (omega (arith, q, form_is)))

    pub goals : Fit T → Goals φ at T.count (target_at T j) (goal_in T j)
    goals fit = record {
      label = λ f. entry_is 3 ∙ jump_cell T φ pl there lj (sym form_is ∙ f);
      reached = λ f. jump_in T φ pl there lj fit (sym form_is ∙ f);
      branch = λ f. record {
        place = λ i l. entry_is (5 + i) ∙ goal_cell T φ pl there lj i l (sym form_is ∙ f);
        within = λ i. goal_in_lem T φ pl there lj fit (sym form_is ∙ f) i;
      };
    }

    pub step_is : (R S H : Memory) (h u : ℕ) {labels : ℕ} {β os bs : List ℕ} → T.labels ≡ labels → T.blocks ≡ β → T.operands ≡ os
        → T.bases ≡ bs → step_at T (held R S H h u j) ≡ result_of (operand_table os bs) (held R S H h u j) (planned β labels (target_at T j)
        (goal_in T j) (form_of φ at) (get_or φ (at + 1) 0) (get_or φ (at + 2) 0) (get_or φ (at + 3) 0) (get_or φ (at + 4) 0) (j + 1) R S H h u)
    unfolding step_at
    step_is R S H h u {labels} {β} el eβ eo eb =
        let cells : planned β labels (target_at T j) (goal_in T j) (form_of φ at) (get_or φ (at + 1) 0) (get_or φ (at + 2) 0) (get_or φ (at + 3) 0)
        (get_or φ (at + 4) 0) (j + 1) R S H h u ≡ planned β labels (target_at T j) (goal_in T j) (form_in (cell 8 φ j 0) (cell 8 φ j 5))
        (cell 8 φ j 1) (cell 8 φ j 2) (cell 8 φ j 3) (cell 8 φ j 4) (j + 1) R S H h u = λ i. planned β labels (target_at T j) (goal_in T j)
        (form_is i) (entry_is 1 i) (entry_is 2 i) (entry_is 3 i) (entry_is 4 i) (j + 1) R S H h u in
        ap₂ (λ (ω : OperandTable) (x : Next). result_of ω (held R S H h u j) x) (ap₂ operand_table eo eb) (sym (cells ∙ next_is T φ pl (held R S H h u j) lj el eβ))
