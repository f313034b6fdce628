-- Laws of sizes and of item counts.
use mathlib.Core.Path.{◌≡◌, refl, ap, ap₂, sym, ◌∙◌}
use mathlib.Core.Bool.{Bool, true, false, cond}
use mathlib.Core.List.{List}
use Prim.Native.Nat.{ℕ, zero, suc, ◌+◌, ◌-◌, ◌<◌, ◌≤◌}
use native.Mathlib.Omega.{arith}
use native.Mathlib.Nat.{not-suc-le-zero}
use native.Mathlib.Numerals.{add-one}
use lib.ListN.{get_or}
use Rattle.tables.specs.Tables.{RowTable}
use Rattle.types_rows.specs.declared.Val.{Val}
use Rattle.types_rows.specs.declared.Val.TheVariants.{Int, Junk, ValVar, ValFill, Tuple, Pointer, Code, Hidden}
use Rattle.types_rows.specs.declared.Stk.{Stk}
use Rattle.types_rows.specs.declared.Stk.TheVariants.{Nil, StkVar, StkFill, Push, Join}
use Rattle.std.specs.Prelude.{Option, Some, None}
use Rattle.types_rows.specs.Read.{value_at, stack_at, is_stack_at, slot_at, OkSlot}
use Rattle.types_rows.proofs.Laws.{LowV, LowS, low_v_at, low_s_at, slot_low}
use Rattle.types_rows.specs.size.Size.{slot_size, parts_size, under_v, under_s, size_to, size_at}

-- ---- sizes that agree below h agree at row h
module _ (h : ℕ) (f g : ℕ → ℕ) (e : (x : ℕ) → x < h → f x ≡ g x) where
  same_slot : (s : Option ℕ) → OkSlot h s → slot_size f s ≡ slot_size g s
  same_slot None l = refl
  same_slot (Some t) l = e t l

  same_parts : (ps : List ℕ) (file : Bool) (p n : ℕ) → 0 < h → parts_size f ps file h p n ≡ parts_size g ps file h p n
  unfolding parts_size
  same_parts ps file p zero l = refl
  same_parts ps file p (suc n) l = ap₂ ◌+◌ (same_slot (slot_at file h (get_or ps p 0)) (slot_low file h (get_or ps p 0) l)) (same_parts ps file (suc p) n l)

  same_under_v : (ps : List ℕ) (n : Val) → LowV h n → under_v f ps h n ≡ under_v g ps h n
  same_under_v ps Int l = refl
  same_under_v ps Junk l = refl
  same_under_v ps (ValVar k) l = refl
  same_under_v ps (ValFill k) l = refl
  same_under_v ps (Tuple p n) l = same_parts ps false p n l
  same_under_v ps (Pointer x) l = e x l
  same_under_v ps (Code x p) l = ap₂ ◌+◌ (e x l) (same_parts ps true p 8 (omega arith))
  same_under_v ps (Hidden x) l = e x l

  same_under_s : (n : Stk) → LowS h n → under_s f n ≡ under_s g n
  same_under_s Nil l = refl
  same_under_s (StkVar k) l = refl
  same_under_s (StkFill k) l = refl
  same_under_s (Push t x) l = ap₂ ◌+◌ (e t l.0) (e x l.1)
  same_under_s (Join x y) l = ap₂ ◌+◌ (e x l.0) (e y l.1)

module _ (τ : RowTable) where
  same_size : (n m h : ℕ) → h < n → h < m → size_to n τ h ≡ size_to m τ h
  unfolding size_to
  same_size zero m h hn hm = absurd (not-suc-le-zero hn)
  same_size (suc n) zero h hn hm = absurd (not-suc-le-zero hm)
  same_size (suc n) (suc m) zero hn hm = refl
  same_size (suc n) (suc m) (suc r) hn hm =
      ap₂ (λ x y. suc (cond (is_stack_at τ.rows r) x y)) (same_under_s (suc r) (size_to n τ) (size_to m τ) (λ x l. same_size n m x (omega arith) (omega arith)) (stack_at τ.rows StkVar (suc r)) (low_s_at τ.rows (suc r)))
      (same_under_v (suc r) (size_to n τ) (size_to m τ) (λ x l. same_size n m x (omega arith) (omega arith)) τ.parts (value_at τ.rows ValVar (suc r)) (low_v_at τ.rows (suc r)))

  pub size_none : size_at τ 0 ≡ 0
  unfolding size_at size_to
  size_none = refl

  pub size_is : (r : ℕ) → size_at τ (suc r) ≡ suc (cond (is_stack_at τ.rows r) (under_s (size_at τ) (stack_at τ.rows StkVar (suc r))) (under_v (size_at τ) τ.parts (suc r) (value_at τ.rows ValVar (suc r))))
  unfolding size_at size_to
  size_is r =
      ap₂ (λ x y. suc (cond (is_stack_at τ.rows r) x y)) (same_under_s (suc r) (size_to (suc r) τ) (λ x. size_to (suc x) τ x) (λ x l. same_size (suc r) (suc x) x l (omega arith)) (stack_at τ.rows StkVar (suc r)) (low_s_at τ.rows (suc r)))
      (same_under_v (suc r) (size_to (suc r) τ) (λ x. size_to (suc x) τ x) (λ x l. same_size (suc r) (suc x) x l (omega arith)) τ.parts (value_at τ.rows ValVar (suc r)) (low_v_at τ.rows (suc r)))

  parts_end : (file : Bool) (h p n : ℕ) → n ≡ 0 → parts_size (size_at τ) τ.parts file h p n ≡ 0
  unfolding parts_size
  parts_end file h p zero e = refl
  parts_end file h p (suc n) e = absurd (omega arith)

  parts_next : (file : Bool) (h p n : ℕ) → 0 < n → parts_size (size_at τ) τ.parts file h p n ≡ slot_size (size_at τ) (slot_at file h (get_or τ.parts p 0)) + parts_size (size_at τ) τ.parts file h (p + 1) (n - 1)
  unfolding parts_size
  parts_next file h p zero z = absurd (omega arith)
  parts_next file h p (suc n) z =
      let q : suc n - 1 ≡ n = omega arith in
      rw (q, add-one p) refl

  -- what is left after a row of either sort
  pub spent_stack : (h left : ℕ) {b : Bool} {o : ℕ} → (h ≡ 0 → ⊥) → (left ≡ 0 → ⊥) → b ≡ is_stack_at τ.rows (h - 1) → b ≡ true → o ≡ (left - 1) - under_s (size_at τ) (stack_at τ.rows StkVar h) → o ≡ left - size_at τ h
  spent_stack zero left z w e f g = absurd (z refl)
  spent_stack (suc r) left z w e f g =
      let q : is_stack_at τ.rows r ≡ true = (let p : suc r - 1 ≡ r = omega arith in sym (rw p at e) ∙ f) in
      let s : size_at τ (suc r) ≡ suc (under_s (size_at τ) (stack_at τ.rows StkVar (suc r))) = size_is r ∙ rw q refl in
      omega arith

  pub spent_value : (h left : ℕ) {b : Bool} {o : ℕ} → (h ≡ 0 → ⊥) → (left ≡ 0 → ⊥) → b ≡ is_stack_at τ.rows (h - 1) → b ≡ false → o ≡ (left - 1) - under_v (size_at τ) τ.parts h (value_at τ.rows ValVar h) → o ≡ left - size_at τ h
  spent_value zero left z w e f g = absurd (z refl)
  spent_value (suc r) left z w e f g =
      let q : is_stack_at τ.rows r ≡ false = (let p : suc r - 1 ≡ r = omega arith in sym (rw p at e) ∙ f) in
      let s : size_at τ (suc r) ≡ suc (under_v (size_at τ) τ.parts (suc r) (value_at τ.rows ValVar (suc r))) = size_is r ∙ rw q refl in
      omega arith

  pub spent_none : (h left : ℕ) → h ≡ 0 → left ≡ left - size_at τ h
  spent_none h left e = let q = size_none in let p : size_at τ h ≡ size_at τ 0 = ap (size_at τ) e in omega arith

  -- parts i to p + n are left, and `rest` of `left` then
  abbrev pub Spending : Bool → ℕ → ℕ → ℕ → ℕ → ℕ → ℕ → Type 0
  Spending file h p n left rest i = rest - parts_size (size_at τ) τ.parts file h i (p + n - i) ≡ left - parts_size (size_at τ) τ.parts file h p n

  pub spending_next : (file : Bool) (h p n left rest i : ℕ) {s : Option ℕ} {o : ℕ} → Spending file h p n left rest i → i < p + n → s ≡ slot_at file h (get_or τ.parts i 0) → o ≡ rest - slot_size (size_at τ) s → Spending file h p n left o (i + 1)
  spending_next file h p n left rest i {s} {o} v l e g =
      let q = parts_next file h i (p + n - i) (omega arith) in
      let d : slot_size (size_at τ) s ≡ slot_size (size_at τ) (slot_at file h (get_or τ.parts i 0)) = ap (slot_size (size_at τ)) e in
      let b : p + n - (i + 1) ≡ p + n - i - 1 = omega arith in
      rw b (omega arith)

  pub spending_last : (file : Bool) (h p n left rest i : ℕ) → Spending file h p n left rest i → p + n ≤ i → rest ≡ left - parts_size (size_at τ) τ.parts file h p n
  spending_last file h p n left rest i v l =
      let q = parts_end file h i (p + n - i) (omega arith) in
      omega arith
