-- Laws of operands seen at once to have the types of a tuple's components.
use Prim.Native.Nat.{ℕ, zero, suc, ◌+◌, ◌-◌, ◌≤◌, ◌<◌}
use native.Mathlib.Omega.{arith}
use mathlib.Core.Path.{◌≡◌, refl, ap, sym, ◌∙◌}
use mathlib.Core.Bool.{Bool, true, false, ◌&&◌}
use lib.Dec.{ltb, eqb}
use mathlib.Core.List.{List, []}
use mathlib.Core.Option.{some}
use lib.ListN.{get_or}
use Rattle.syntax.specs.Partial.{guarded}
use Rattle.syntax.specs.Syntax.{Kind, value, stack, plain, lit}
use Rattle.syntax.specs.Fault.{fault}
use Rattle.syntax.proofs.Least.{least}
use Rattle.types.specs.Types.{Ty, int}
use Rattle.types.specs.Rows.{type_at}
use Rattle.tables.specs.Tables.{OperandTable, cell, operand_at, operands_at}
use Rattle.valid.specs.Program.{Program}
use Rattle.valid.specs.Tests.{as_int, as_tuple}
use Rattle.valid.specs.PassThree.{operand, operands}
use Rattle.types_rows.specs.Read.{lower, parts_of}
use Rattle.types_rows.proofs.Environments.{read_none}
use Rattle.valid_context.specs.Context.{Reading}
use Rattle.valid_context.specs.Told.{gives, told_of, answer}
use Rattle.valid_typing.proofs.Forms.{ints_equal}
use Rattle.valid_typing.proofs.OperandFaults.{base_lit}
use Rattle.valid_typing.specs.plain_components.Makes.{Makes}
use Rattle.valid_typing.specs.Typing.{types_in, held_in, Ready}
use Rattle.valid_typing.proofs.bases.Bases.{kind_lit}
use Rattle.valid_typing.proofs.operands.Filling.{plain_at, plain_told}
use Rattle.valid_typing.proofs.components.Lists.{list_cons, tuple_is}

-- a literal, where row t is the integer type
pub literal_fits : (P : Program) (Δ : List Kind) (g : Ty stack) (ω : OperandTable) (rows parts : List ℕ) (n v k c t : ℕ) (b : Bool) {o : Bool} → Ready rows parts n → k ≡ cell 4 ω.operands v 0 → c ≡ cell 4 ω.operands v 1 → k ≡ 1
    → o ≡ (ltb k 4 && eqb c 0) → o ≡ true → ((E : List ℕ) (e : ℕ) → as_int ((held_in rows parts n E).type e t) ≡ guarded b tt) → b ≡ true → told_of (operand P Δ (fault 10) g (operand_at ω v)) ≡ gives (type_at value (types_in rows parts n) t)
unfolding answer
literal_fits P Δ g ω rows parts n v k c t b r e f q d z h i =
    let m : ℕ = get_or ω.numbers v 0 in
    let o : operand_at ω v ≡ plain (lit m) = plain_at ω v k c m e f refl d z ∙ ap plain (kind_lit k m q) in
    let w : as_int int ≡ guarded true tt = unfold as_int in refl in
    let s : as_int (type_at value (types_in rows parts n) t) ≡ guarded b tt = ap as_int (sym (read_none (type_at value (types_in rows parts n) t))) ∙ h [] 0 in
    plain_told P Δ (fault 10) g (operand_at ω v) (lit m) o (base_lit P Δ g m) ∙ ap gives (ints_equal int (type_at value (types_in rows parts n) t) true b w refl s i)

-- any reading
none_read : Reading
none_read = record { type = λ e t. int; variable = λ e k. k }

module _ (P : Program) (Δ : List Kind) (g : Ty stack) (ω : OperandTable) (m : ℕ → Ty value) (ps : List ℕ) (h : ℕ) where
  pub plain_none : (v c p : ℕ) → told_of (operands P Δ g (operands_at ω (v + c) (c - c))) ≡ gives (parts_of m ps false h (p + c) (c - c))
  plain_none v c p = let q : c - c ≡ 0 = omega arith in rw q (unfold operands_at operands told_of parts_of in refl)

  pub plain_all : (v c p i : ℕ) → i ≤ 0 → told_of (operands P Δ g (operands_at ω (v + i) (c - i))) ≡ gives (parts_of m ps false h (p + i) (c - i)) → told_of (operands P Δ g (operands_at ω v c)) ≡ gives (parts_of m ps false h p c)
  plain_all v c p zero k s = let q : v + 0 ≡ v = omega arith in let w : p + 0 ≡ p = omega arith in let d : c - 0 ≡ c = omega arith in rw (q, w, d) at s
  plain_all v c p (suc i) k s = absurd (omega arith)

  plain_cons : (w m' x : ℕ) → told_of (operand P Δ (fault 10) g (operand_at ω w)) ≡ gives (m (lower h (get_or ps x 0))) → told_of (operands P Δ g (operands_at ω (suc w) m')) ≡ gives (parts_of m ps false h (suc x) m')
      → told_of (operands P Δ g (operands_at ω w (suc m'))) ≡ gives (parts_of m ps false h x (suc m'))
  unfolding parts_of answer
  plain_cons w m' x a s = list_cons none_read P Δ g ω w m' 0 0 (m (lower h (get_or ps x 0))) (parts_of m ps false h (suc x) m') a s ∙ unfold least in refl

  pub plain_next : (v c p i : ℕ) (t : Ty value) → 0 < i → i ≤ c → told_of (operand P Δ (fault 10) g (operand_at ω (v + (i - 1)))) ≡ gives t → t ≡ m (lower h (get_or ps (p + (i - 1)) 0))
      → told_of (operands P Δ g (operands_at ω (v + i) (c - i))) ≡ gives (parts_of m ps false h (p + i) (c - i))
      → told_of (operands P Δ g (operands_at ω (v + (i - 1)) (c - (i - 1)))) ≡ gives (parts_of m ps false h (p + (i - 1)) (c - (i - 1)))
  plain_next v c p zero t k l a b s = absurd (omega arith)
  plain_next v c p (suc i) t k l a b s =
      let e : suc i - 1 ≡ i = omega arith in
      let d : c - i ≡ suc (c - suc i) = omega arith in
      let x : v + (suc i - 1) ≡ v + i = omega arith in
      let y : p + (suc i - 1) ≡ p + i = omega arith in
      let vs : v + suc i ≡ suc (v + i) = omega arith in
      let qs : p + suc i ≡ suc (p + i) = omega arith in
      let a' : told_of (operand P Δ (fault 10) g (operand_at ω (v + i))) ≡ gives (m (lower h (get_or ps (p + i) 0))) = rw (x, b, y) at a in
      let s' : told_of (operands P Δ g (operands_at ω (suc (v + i)) (c - suc i))) ≡ gives (parts_of m ps false h (suc (p + i)) (c - suc i)) = rw (vs, qs) at s in
      rw (e, d) (plain_cons (v + i) (c - suc i) (p + i) a' s')

  pub plain_makes : (v c p : ℕ) (u : Ty value) → as_tuple u ≡ some (parts_of m ps false h p c) → told_of (operands P Δ g (operands_at ω v c)) ≡ gives (parts_of m ps false h p c) → Makes P Δ g (operands_at ω v c) u
  plain_makes v c p u e s = record { parts = parts_of m ps false h p c; told = s; whole = tuple_is u (parts_of m ps false h p c) e }
