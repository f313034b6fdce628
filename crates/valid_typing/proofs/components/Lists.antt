-- Laws of lists of operands, and of the tuple that they make.
use Prim.Native.Nat.{ℕ, zero, suc, ◌+◌, ◌-◌, ◌*◌, ◌≤◌, ◌<◌}
use native.Mathlib.Omega.{arith}
use native.Mathlib.Nat.{add-zero}
use mathlib.Core.Path.{◌≡◌, refl, ap, sym, ◌∙◌}
use mathlib.Core.Bool.{Bool, true, false, ◌&&◌}
use mathlib.Core.Option.{Option, none, some}
use mathlib.Core.List.{List}
use lib.ListN.{length, get_or}
use Rattle.syntax.specs.Syntax.{Kind, value, stack}
use Rattle.syntax.specs.Fault.{fault}
use Rattle.syntax.proofs.Least.{least}
use Rattle.types.specs.Types.{Ty, int, junk, var, tuple, pointer, hidden, code, push, items}
use Rattle.types.specs.Equal.{same}
use Rattle.tables.specs.Tables.{OperandTable, cell, operand_at, operands_at}
use Rattle.valid.specs.Program.{Program}
use Rattle.valid.specs.Tests.{as_tuple}
use Rattle.valid.specs.PassThree.{Judged, holds, ◌▹◌, ◌&◌, operand, operands}
use Rattle.types_rows.specs.Read.{lower, parts_of}
use Rattle.valid_context.specs.Context.{Reading, with_entry}
use Rattle.valid_context.proofs.Cells.{put_first, put_second, put_other}
use Rattle.std.specs.Prelude.{Result}
use Rattle.faults.specs.declared.Fault.{Fault}
use Rattle.faults.specs.Numbers.{number, refusal_number}
use Rattle.faults.proofs.Numbers.{number_above}
use Rattle.valid_context.specs.Told.{gives, lacks, told_of, told, answer}
use Rattle.valid_context.proofs.Results.{answer_fault, answer_any, least_above, told_number, number_told}
use Rattle.valid_context.proofs.Told.{told_and, told_then, told_stop}
use Rattle.valid.specs.Bounds.{Short, AllShort}
use Rattle.types_equal.proofs.Laws.{same_items}
use Rattle.valid_typing.specs.components.Components.{types_from}

-- what is given is passed on as something made of it
told_give : {A B : Type 0} (m : Judged A) (h : A → B) (n : ℕ) (x : A) → told_of m ≡ answer n x → told_of (m ▹ λ z. holds (h z)) ≡ answer n (h x)
told_give m h zero x e = told_then m (λ z. holds (h z)) x e ∙ unfold told_of answer in refl
told_give m h (suc n) x e = told_stop m (λ z. holds (h z)) (suc n) x (h x) e (omega arith)

-- ---- the table
short_at : (ω : OperandTable) (v c i : ℕ) → AllShort (operands_at ω v c) → i < c → Short (operand_at ω (v + i))
unfolding operands_at
short_at ω v zero i s h = absurd (omega arith)
short_at ω v (suc c) zero s h = rw (add-zero v) s.0
short_at ω v (suc c) (suc i) s h = let q : v + suc i ≡ suc v + i = omega arith in rw q (short_at ω (suc v) c i s.1 (omega arith))

pub short_before : (ω : OperandTable) (v c i : ℕ) → AllShort (operands_at ω v c) → 0 < i → i ≤ c → Short (operand_at ω (v + (i - 1)))
short_before ω v c i s h k = short_at ω v c (i - 1) s (omega arith)

-- ---- the rows found
module _ (T : Reading) where
  pub types_set : (l : List ℕ) (j x e i m : ℕ) → j < i → types_from T (with_entry l j x e) i m ≡ types_from T l i m
  unfolding types_from
  types_set l j x e i zero h = refl
  types_set l j x e i (suc m) h =
      rw (put_other l j x e i 0 (λ q. absurd (omega arith)) (omega arith), put_other l j x e i 1 (λ q. absurd (omega arith)) (omega arith), types_set l j x e (suc i) m (omega arith))

  pub types_put : (l : List ℕ) (j x e m : ℕ) → 2 * j + 1 < length l → types_from T (with_entry l j x e) j (suc m) ≡ push (T.type e x) (types_from T l (suc j) m)
  unfolding types_from
  types_put l j x e m h = rw (put_first l j x e h, put_second l j x e h, types_set l j x e (suc j) m (omega arith))

  pub items_types : (l : List ℕ) (i c : ℕ) → items (types_from T l i c) ≡ c
  unfolding types_from items
  items_types l i zero = refl
  items_types l i (suc c) = ap suc (items_types l (suc i) c)

  module _ (P : Program) (Δ : List Kind) (g : Ty stack) (ω : OperandTable) where
    pub list_none : (v c : ℕ) (l : List ℕ) → told_of (operands P Δ g (operands_at ω (v + c) (c - c))) ≡ gives (types_from T l c (c - c))
    list_none v c l = let q : c - c ≡ 0 = omega arith in rw q (unfold operands_at operands told_of types_from in refl)

    pub list_all : (v c i : ℕ) (l : List ℕ) (all : Result (Unit {0}) Fault) → i ≤ 0 → told_of (operands P Δ g (operands_at ω (v + i) (c - i))) ≡ told (λ u. types_from T l i (c - i)) all → told_of (operands P Δ g (operands_at ω v c)) ≡ told (λ u. types_from T l 0 c) all
    list_all v c zero l all h s = let q : v + 0 ≡ v = omega arith in let d : c - 0 ≡ c = omega arith in rw (q, d) at s
    list_all v c (suc i) l all h s = absurd (omega arith)

    pub list_cons : (w m k f : ℕ) (t : Ty value) (a : Ty stack) → told_of (operand P Δ (fault 10) g (operand_at ω w)) ≡ answer k t → told_of (operands P Δ g (operands_at ω (suc w) m)) ≡ answer f a
        → told_of (operands P Δ g (operands_at ω w (suc m))) ≡ answer (least k f) (push t a)
    unfolding operands_at operands
    list_cons w m k f t a h s =
        told_give (operand P Δ (fault 10) g (operand_at ω w) & operands P Δ g (operands_at ω (suc w) m)) (λ (z : Ty value × Ty stack). push z.0 z.1) (least k f) (t, a)
        (told_and (operand P Δ (fault 10) g (operand_at ω w)) (operands P Δ g (operands_at ω (suc w) m)) k f t a h s)

    pub list_next : (v c i k f row e : ℕ) (l : List ℕ) → 0 < i → i ≤ c → 2 * i ≤ length l → told_of (operand P Δ (fault 10) g (operand_at ω (v + (i - 1)))) ≡ answer k (T.type e row)
        → told_of (operands P Δ g (operands_at ω (v + i) (c - i))) ≡ answer f (types_from T l i (c - i))
        → told_of (operands P Δ g (operands_at ω (v + (i - 1)) (c - (i - 1)))) ≡ answer (least k f) (types_from T (with_entry l (i - 1) row e) (i - 1) (c - (i - 1)))
    list_next v c zero k f row e l p q r h s = absurd (omega arith)
    list_next v c (suc i) k f row e l p q r h s =
        let o : suc i - 1 ≡ i = omega arith in
        let d : c - i ≡ suc (c - suc i) = omega arith in
        let a : v + (suc i - 1) ≡ v + i = omega arith in
        let b : v + suc i ≡ suc (v + i) = omega arith in
        let h' : told_of (operand P Δ (fault 10) g (operand_at ω (v + i))) ≡ answer k (T.type e row) = rw a at h in
        let s' : told_of (operands P Δ g (operands_at ω (suc (v + i)) (c - suc i))) ≡ answer f (types_from T l (suc i) (c - suc i)) = rw b at s in
        rw (o, d, types_put l i row e (c - suc i) (omega arith)) (list_cons (v + i) (c - suc i) k f (T.type e row) (types_from T l (suc i) (c - suc i)) h' s')

    -- one more operand, which has a type, or a fault
    module _ (v c i : ℕ) (l : List ℕ) (all : Result (Unit {0}) Fault) (p : 0 < i) (q : i ≤ c) (r : 2 * i ≤ length l) (s : told_of (operands P Δ g (operands_at ω (v + i) (c - i))) ≡ told (λ u. types_from T l i (c - i)) all) where
      pub next_ok : (row e : ℕ) → told_of (operand P Δ (fault 10) g (operand_at ω (v + (i - 1)))) ≡ gives (T.type e row)
          → told_of (operands P Δ g (operands_at ω (v + (i - 1)) (c - (i - 1)))) ≡ told (λ u. types_from T (with_entry l (i - 1) row e) (i - 1) (c - (i - 1))) all
      unfolding answer least
      next_ok row e h = list_next v c i 0 (refusal_number all) row e l p q r h (s ∙ told_number _ all) ∙ sym (told_number _ all)

      pub next_err : (f : Fault) (more : Result (Unit {0}) Fault) → refusal_number more ≡ least (number f) (refusal_number all) → told_of (operand P Δ (fault 10) g (operand_at ω (v + (i - 1)))) ≡ lacks (number f)
          → told_of (operands P Δ g (operands_at ω (v + (i - 1)) (c - (i - 1)))) ≡ told (λ u. types_from T l (i - 1) (c - (i - 1))) more
      next_err f more e h =
          list_next v c i (number f) (refusal_number all) 0 0 l p q r (h ∙ sym (answer_fault f (T.type 0 0))) (s ∙ told_number _ all)
          ∙ answer_any _ _ (types_from T l (i - 1) (c - (i - 1))) (least_above (number f) (refusal_number all) (number_above f)) ∙ number_told _ more e

-- ---- a tuple against the rows found
module _ (v : ℕ → Ty value) (ps : List ℕ) (h p c : ℕ) (T : Reading) (l : List ℕ) where
  -- what is left to compare from component i on
  abbrev pub rest_same : ℕ → Bool
  rest_same i = same (parts_of v ps false h (p + i) (c - i)) (types_from T l i (c - i))

  abbrev pub RestSame : ℕ → Type 0
  RestSame i = same (parts_of v ps false h p c) (types_from T l 0 c) ≡ rest_same i

  pub rest_first : RestSame 0
  rest_first = let q : p + 0 ≡ p = omega arith in let d : c - 0 ≡ c = omega arith in rw (q, d) refl

  rest_cons : (x i m : ℕ) → same (parts_of v ps false h x (suc m)) (types_from T l i (suc m)) ≡ same (v (lower h (get_or ps x 0))) (T.type (cell 2 l i 1) (cell 2 l i 0)) && same (parts_of v ps false h (suc x) m) (types_from T l (suc i) m)
  unfolding parts_of types_from same
  rest_cons x i m = refl

  rest_step : (i : ℕ) → i < c → rest_same i ≡ same (v (lower h (get_or ps (p + i) 0))) (T.type (cell 2 l i 1) (cell 2 l i 0)) && rest_same (i + 1)
  rest_step i k =
      let d : c - i ≡ suc (c - (i + 1)) = omega arith in
      let q : suc (p + i) ≡ p + (i + 1) = omega arith in
      let s : suc i ≡ i + 1 = omega arith in
      rw (d, ← q, ← s) (rest_cons (p + i) i (c - suc i))

  pub rest_next : (i t e : ℕ) (x : Ty value) {b : Bool} → i < c → RestSame i → t ≡ cell 2 l i 0 → e ≡ cell 2 l i 1 → x ≡ v (lower h (get_or ps (p + i) 0)) → b ≡ same x (T.type e t) → b ≡ true → RestSame (i + 1)
  rest_next i t e x {b} k r d q f g s =
      let u : same (v (lower h (get_or ps (p + i) 0))) (T.type (cell 2 l i 1) (cell 2 l i 0)) ≡ true = rw (← f, ← d, ← q) (sym g ∙ s) in
      r ∙ rest_step i k ∙ ap (λ (z : Bool). z && rest_same (i + 1)) u

  pub rest_fails : (i t e : ℕ) (x : Ty value) {b : Bool} → i < c → RestSame i → t ≡ cell 2 l i 0 → e ≡ cell 2 l i 1 → x ≡ v (lower h (get_or ps (p + i) 0)) → b ≡ same x (T.type e t) → b ≡ false → false ≡ same (parts_of v ps false h p c) (types_from T l 0 c)
  rest_fails i t e x {b} k r d q f g s =
      let u : same (v (lower h (get_or ps (p + i) 0))) (T.type (cell 2 l i 1) (cell 2 l i 0)) ≡ false = rw (← f, ← d, ← q) (sym g ∙ s) in
      sym (r ∙ rest_step i k ∙ ap (λ (z : Bool). z && rest_same (i + 1)) u)

  pub rest_done : (i : ℕ) → c ≤ i → RestSame i → true ≡ same (parts_of v ps false h p c) (types_from T l 0 c)
  rest_done i k r = let d : c - i ≡ 0 = omega arith in sym (r ∙ rw d (unfold parts_of types_from same in refl))

items_parts : (v : ℕ → Ty value) (ps : List ℕ) (h p c : ℕ) → items (parts_of v ps false h p c) ≡ c
unfolding parts_of items
items_parts v ps h p zero = refl
items_parts v ps h p (suc c) = ap suc (items_parts v ps h (suc p) c)

abbrev the_list : Ty stack → Option (Ty stack) → Ty stack
the_list d none = d
the_list d (some a) = a

no_tuple : {a : Ty stack} {X : Type 0} → none ≡ some a → X
no_tuple e = let z : ◌≡◌ {A = ℕ} 0 1 = cc in absurd (omega arith)

pub other_differs : (u : Ty value) (b : Ty stack) → as_tuple u ≡ none → false ≡ same u (tuple b)
unfolding as_tuple same
other_differs int b e = refl
other_differs junk b e = refl
other_differs (var k) b e = refl
other_differs (tuple a) b e = no_tuple (sym e)
other_differs (pointer a) b e = refl
other_differs (hidden t) b e = refl
other_differs (code q a r) b e = refl

pub tuple_is : (u : Ty value) (a : Ty stack) → as_tuple u ≡ some a → u ≡ tuple a
unfolding as_tuple
tuple_is int a e = no_tuple e
tuple_is junk a e = no_tuple e
tuple_is (var k) a e = no_tuple e
tuple_is (tuple b) a e = ap tuple (ap (the_list a) e)
tuple_is (pointer b) a e = no_tuple e
tuple_is (hidden t) a e = no_tuple e
tuple_is (code q b r) a e = no_tuple e

pub tuple_same : (u : Ty value) (a b : Ty stack) {o : Bool} → as_tuple u ≡ some a → o ≡ same a b → o ≡ same u (tuple b)
tuple_same u a b e h =
    let s : same a b ≡ same (tuple a) (tuple b) = unfold same in refl in
    h ∙ s ∙ ap (λ (z : Ty value). same z (tuple b)) (sym (tuple_is u a e))

pub length_differs : (u : Ty value) (v : ℕ → Ty value) (ps : List ℕ) (h p k c : ℕ) (T : Reading) (l : List ℕ) → as_tuple u ≡ some (parts_of v ps false h p k) → (k ≡ c → ⊥) → false ≡ same u (tuple (types_from T l 0 c))
length_differs u v ps h p k c T l e z =
    let f = items_parts v ps h p k in
    let g = items_types T l 0 c in
    tuple_same u (parts_of v ps false h p k) (types_from T l 0 c) e (sym (same_items (parts_of v ps false h p k) (types_from T l 0 c) (λ q. z (omega arith))))
