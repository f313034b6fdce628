-- An operand of the table names a register below 8 if its base does: arguments and packages do not matter.
use Prim.Native.Nat.{ℕ, ◌-◌}
use mathlib.Core.Path.{sym, subst}
use mathlib.Core.Bool.{Bool, true, false, cond}
use mathlib.Core.List.{List, [], ◌∷◌}
use lib.Dec.{ltb}
use lib.ListN.{get_or}
use Rattle.syntax.specs.Syntax.{pack}
use Rattle.tables.specs.Tables.{cell, OperandTable, span, base_of, operand_of, operand_from, operand_at}
use Rattle.exec_words.specs.memory.Lent.{base_kind}
use Rattle.exec_words.proofs.memory.Laws.{base_of_lem}
use Rattle.exec_machine.specs.Represents.{LowBase, LowOperand}

module _ (ω : OperandTable) (v : ℕ) where
  abbrev k : ℕ
  k = cell 4 ω.operands v 0

  abbrev n : ℕ
  n = get_or ω.numbers v 0

  abbrev Low : Bool → List ℕ → Type 0
  Low b ts = LowOperand (cond b (operand_of (base_of k n) ts (cell 4 ω.operands v 2)) (pack (get_or ω.args (cell 4 ω.operands v 3) 0) (base_of (k - 4) n) (cell 4 ω.operands v 2)))

  both : (b : Bool) (ts : List ℕ) → (Low b ts → LowBase (base_of (cond b k (k - 4)) n)) × (LowBase (base_of (cond b k (k - 4)) n) → Low b ts)
  unfolding operand_of
  both true [] = (λ h. h, λ h. h)
  both true (t ∷ ts) = (λ h. h, λ h. h)
  both false ts = (λ h. h, λ h. h)

  pub low_base : LowOperand (operand_at ω v) → LowBase (base_of (base_kind (cell 4 ω.operands v 0)) (get_or ω.numbers v 0))
  unfolding operand_at operand_from
  low_base h = subst LowBase (base_of_lem k n) ((both (ltb k 4) (span ω.args (cell 4 ω.operands v 3) (cell 4 ω.operands v 1))).0 h)

  pub low_operand : LowBase (base_of (base_kind (cell 4 ω.operands v 0)) (get_or ω.numbers v 0)) → LowOperand (operand_at ω v)
  unfolding operand_at operand_from
  low_operand h = (both (ltb k 4) (span ω.args (cell 4 ω.operands v 3) (cell 4 ω.operands v 1))).1 (subst LowBase (sym (base_of_lem k n)) h)
