-- Laws of the registers that a target names.
use Prim.Native.Nat.{ℕ, zero, suc, ◌+◌, ◌-◌, ◌≤◌, ◌<◌}
use native.Mathlib.Omega.{arith}
use mathlib.Core.Path.{◌≡◌, refl, ap, ap₂, sym, ◌∙◌}
use mathlib.Core.Bool.{Bool, true, false, not, cond}
use mathlib.Core.Option.{Option, none, some}
use Rattle.std.specs.Prelude.{Option as CodeOption, Some, None}
use mathlib.Core.List.{List, [], ◌∷◌, ◌++◌, map}
use lib.Dec.{ltb}
use lib.ListN.{length, get_or}
use borrow.Author.Tests.{ltb-true}
use Rattle.syntax.specs.Syntax.{Kind, value, stack}
use Rattle.syntax.specs.Fault.{Fault, unfit, earlier, first_item}
use Rattle.types.specs.Types.{Ty, nil, push, svar, gap, walk}
use Rattle.types.specs.Equal.{same, same_letters}
use Rattle.tables.specs.Tables.{cell, span, letter_of, letters_at}
use Rattle.valid.specs.Program.{Program}
use Rattle.valid.specs.PassThree.{unfits}
use Rattle.types_rows.specs.Read.{lower, slot_at, on_slot, parts_of, acting}
use Rattle.valid_context.specs.Context.{Reading, on_link, regs_from, regs_of}
use Rattle.types_rows.specs.Environments.{var_in, read_in}
use Rattle.valid_typing.proofs.Reading.{read_parts}
use Rattle.valid_typing.specs.target.Fits.{slot_fits}

-- ---- tests
not_not : (b : Bool) → not (not b) ≡ b
not_not true = refl
not_not false = refl

pub not_yes : {b : Bool} → not b ≡ true → b ≡ false
not_yes {b} e = sym (not_not b) ∙ ap not e

pub not_no : {b : Bool} → not b ≡ false → b ≡ true
not_no {b} e = sym (not_not b) ∙ ap not e

-- ---- one register
pub lower_le : (h x : ℕ) → lower h x ≤ h
lower_le h x = go (ltb (suc x) h) refl
  where
    go : (b : Bool) → ltb (suc x) h ≡ b → cond b (suc x) 0 ≤ h
    go true e = let l = ltb-true (suc x) h e in omega arith
    go false e = omega arith

module _ (v : ℕ → Ty value) (T : Reading) (h x e u : ℕ) where
  pub fits_none : x ≡ 0 → true ≡ slot_fits v T (slot_at true h x) e u
  fits_none q = rw q (unfold slot_fits in refl)

  pub fits_unknown : (x ≡ 0 → ⊥) → u ≡ 0 → false ≡ slot_fits v T (slot_at true h x) e u
  fits_unknown z g = let q : x ≡ suc (x - 1) = omega arith in rw (q, g) (unfold slot_fits in refl)

  pub fits_type : (y : Ty value) {b : Bool} → (x ≡ 0 → ⊥) → (u ≡ 0 → ⊥) → y ≡ v (lower h (x - 1)) → b ≡ same y (T.type e (u - 1)) → b ≡ slot_fits v T (slot_at true h x) e u
  fits_type y {b} z w g f =
      let q : x ≡ suc (x - 1) = omega arith in
      let s : u ≡ suc (u - 1) = omega arith in
      let d : slot_fits v T (Some (lower h (x - 1))) e (suc (u - 1)) ≡ same (v (lower h (x - 1))) (T.type e (u - 1)) = unfold slot_fits in refl in
      f ∙ ap (λ (t : Ty value). same t (T.type e (u - 1))) g ∙ sym d ∙ ap₂ (λ (y w : ℕ). slot_fits v T (slot_at true h y) e w) (sym q) (sym s)

-- ---- the items from one on
-- no item, or none before the n-th
abbrev From : ℕ → Option ℕ → Type 0
From n none = Unit
From n (some j) = n ≤ j

earlier_from : (n : ℕ) (o : Option ℕ) → From (suc n) o → earlier n o ≡ some n
unfolding earlier
earlier_from n none h = refl
earlier_from n (some j) h = ap some (omega arith)

later_from : (n : ℕ) (o : Option ℕ) → From (suc n) o → From n o
later_from n none h = tt
later_from n (some j) h = omega arith

here_from : (n : ℕ) (o : Option ℕ) → From (suc n) o → From n (earlier n o)
unfolding earlier
here_from n none h = omega arith
here_from n (some j) h = omega arith

module _ (P : Program) (Δ : List Kind) where
  one_from : (n : ℕ) → From n (first_item (unfit n ∷ []))
  unfolding first_item
  one_from n = here_from n none tt

  rest_from : (n : ℕ) (b : Bool) (fs : List Fault) → From (suc n) (first_item fs) → From n (first_item (cond b [] (unfit n ∷ []) ++ fs))
  unfolding first_item
  rest_from n true fs h = later_from n (first_item fs) h
  rest_from n false fs h = here_from n (first_item fs) h

  unfits_from : (n : ℕ) (r g : Ty stack) → From n (first_item (unfits P Δ n r g))
  unfolding unfits
  unfits_from n nil nil = unfold first_item in tt
  unfits_from n nil (push u g) = one_from n
  unfits_from n nil (svar k g) = one_from n
  unfits_from n nil (gap g) = one_from n
  unfits_from n (push t r) nil = one_from n
  unfits_from n (push t r) (push u g) = rest_from n (same t u) (unfits P Δ (suc n) r g) (unfits_from (suc n) r g)
  unfits_from n (push t r) (svar k g) = one_from n
  unfits_from n (push t r) (gap g) = rest_from n false (unfits P Δ (suc n) r g) (unfits_from (suc n) r g)
  unfits_from n (svar k r) g = one_from n
  unfits_from n (gap r) nil = one_from n
  unfits_from n (gap r) (push u g) = later_from n (first_item (unfits P Δ (suc n) r g)) (unfits_from (suc n) r g)
  unfits_from n (gap r) (svar k g) = one_from n
  unfits_from n (gap r) (gap g) = later_from n (first_item (unfits P Δ (suc n) r g)) (unfits_from (suc n) r g)

  before_rest : (n : ℕ) (r g : Ty stack) → first_item (unfit n ∷ unfits P Δ (suc n) r g) ≡ some n
  unfolding first_item
  before_rest n r g = earlier_from n (first_item (unfits P Δ (suc n) r g)) (unfits_from (suc n) r g)

-- ---- eight registers
module _ (v : ℕ → Ty value) (ps : List ℕ) (h p : ℕ) (T : Reading) (regs : List ℕ) where
  -- what is left to look at from register i on
  abbrev rest_fits : Program → List Kind → ℕ → Option ℕ
  rest_fits P Δ i = first_item (unfits P Δ (suc i) (parts_of v ps true h (p + i) (8 - i)) (regs_from T regs i (8 - i)))

  abbrev pub RestFits : ℕ → Type 0
  RestFits i = (P : Program) (Δ : List Kind) → first_item (unfits P Δ 1 (parts_of v ps true h p 8) (regs_of T regs)) ≡ rest_fits P Δ i

  pub rest_first : RestFits 0
  rest_first P Δ = let q : p + 0 ≡ p = omega arith in rw q refl

  -- a register that fits, and one that does not
  slot_fits_lem : (P : Program) (Δ : List Kind) (n : ℕ) (s : CodeOption ℕ) (f u : ℕ) (a g : Ty stack) → slot_fits v T s f u ≡ true → unfits P Δ n (on_slot v s a) (on_link T f u g) ≡ unfits P Δ (suc n) a g
  unfolding slot_fits unfits
  slot_fits_lem P Δ n None f zero a g e = refl
  slot_fits_lem P Δ n None f (suc u) a g e = refl
  slot_fits_lem P Δ n (Some t) f zero a g e = let z : ◌≡◌ {A = ℕ} 0 1 = cc in absurd (omega arith)
  slot_fits_lem P Δ n (Some t) f (suc u) a g e = rw e refl

  slot_differs : (P : Program) (Δ : List Kind) (n : ℕ) (s : CodeOption ℕ) (f u : ℕ) (a g : Ty stack) → slot_fits v T s f u ≡ false → first_item (unfits P Δ n (on_slot v s a) (on_link T f u g)) ≡ some n
  unfolding slot_fits unfits
  slot_differs P Δ n None f zero a g e = let z : ◌≡◌ {A = ℕ} 0 1 = cc in absurd (omega arith)
  slot_differs P Δ n None f (suc u) a g e = let z : ◌≡◌ {A = ℕ} 0 1 = cc in absurd (omega arith)
  slot_differs P Δ n (Some t) f zero a g e = before_rest P Δ n a g
  slot_differs P Δ n (Some t) f (suc u) a g e = rw e (before_rest P Δ n a g)

  cons_parts : (i m : ℕ) → parts_of v ps true h i (suc m) ≡ on_slot v (slot_at true h (get_or ps i 0)) (parts_of v ps true h (suc i) m)
  unfolding parts_of
  cons_parts i m = refl

  cons_regs : (i m : ℕ) → regs_from T regs i (suc m) ≡ on_link T (cell 2 regs i 1) (cell 2 regs i 0) (regs_from T regs (suc i) m)
  unfolding regs_from
  cons_regs i m = refl

  module _ (i x f u : ℕ) {b : Bool} (k : i < 8) (r : RestFits i) (e : x ≡ get_or ps (p + i) 0) (q : u ≡ cell 2 regs i 0) (d : f ≡ cell 2 regs i 1) (g : b ≡ slot_fits v T (slot_at true h x) f u) where
    one_fits : slot_fits v T (slot_at true h (get_or ps (p + i) 0)) (cell 2 regs i 1) (cell 2 regs i 0) ≡ b
    one_fits = rw (← e, ← q, ← d) (sym g)

    pub rest_next : b ≡ true → RestFits (i + 1)
    rest_next s P Δ =
        let d : 8 - i ≡ suc (8 - (i + 1)) = omega arith in
        let q : suc (p + i) ≡ p + (i + 1) = omega arith in
        let o : suc i ≡ i + 1 = omega arith in
        r P Δ ∙ ap₂ (λ (a c : Ty stack). first_item (unfits P Δ (suc i) a c)) (ap (parts_of v ps true h (p + i)) d ∙ cons_parts (p + i) (8 - (i + 1))) (ap (regs_from T regs i) d ∙ cons_regs i (8 - (i + 1)))
        ∙ ap first_item (slot_fits_lem P Δ (suc i) (slot_at true h (get_or ps (p + i) 0)) (cell 2 regs i 1) (cell 2 regs i 0) (parts_of v ps true h (suc (p + i)) (8 - (i + 1))) (regs_from T regs (suc i) (8 - (i + 1))) (one_fits ∙ s))
        ∙ ap₂ (λ (y w : ℕ). first_item (unfits P Δ (suc w) (parts_of v ps true h y (8 - (i + 1))) (regs_from T regs w (8 - (i + 1))))) q o

    pub rest_fails : b ≡ false → (P : Program) (Δ : List Kind) → some (i + 1) ≡ first_item (unfits P Δ 1 (parts_of v ps true h p 8) (regs_of T regs))
    rest_fails s P Δ =
        let d : 8 - i ≡ suc (8 - (i + 1)) = omega arith in
        let o : suc i ≡ i + 1 = omega arith in
        sym (r P Δ ∙ ap₂ (λ (a c : Ty stack). first_item (unfits P Δ (suc i) a c)) (ap (parts_of v ps true h (p + i)) d ∙ cons_parts (p + i) (8 - (i + 1))) (ap (regs_from T regs i) d ∙ cons_regs i (8 - (i + 1)))
        ∙ slot_differs P Δ (suc i) (slot_at true h (get_or ps (p + i) 0)) (cell 2 regs i 1) (cell 2 regs i 0) (parts_of v ps true h (suc (p + i)) (8 - (i + 1))) (regs_from T regs (suc i) (8 - (i + 1))) (one_fits ∙ s)
        ∙ ap some o)

  pub rest_done : (i : ℕ) → 8 ≤ i → RestFits i → (P : Program) (Δ : List Kind) → none ≡ first_item (unfits P Δ 1 (parts_of v ps true h p 8) (regs_of T regs))
  rest_done i k r P Δ = let d : 8 - i ≡ 0 = omega arith in sym (r P Δ ∙ rw d (unfold parts_of regs_from unfits first_item in refl))

-- the registers of a row that was read in an environment
pub all_read : (E : List ℕ) (e : ℕ) (v : ℕ → Ty value) (ps : List ℕ) (h p : ℕ) (T : Reading) (regs : List ℕ) (P : Program) (Δ : List Kind)
    → first_item (unfits P Δ 1 (parts_of (λ (t : ℕ). read_in E e (v t)) ps true h p 8) (regs_of T regs)) ≡ first_item (unfits P Δ 1 (read_in E e (parts_of v ps true h p 8)) (regs_of T regs))
all_read E e v ps h p T regs P Δ = ap (λ (a : Ty stack). first_item (unfits P Δ 1 a (regs_of T regs))) (sym (read_parts E e v ps true h p 8))

-- ---- letters
none_span : (ps : List ℕ) (i c : ℕ) → c ≡ 0 → same_letters (map letter_of (span ps i c)) [] ≡ true
unfolding span same_letters
none_span ps i zero e = refl
none_span ps i (suc c) e = absurd (omega arith)

some_span : (ps : List ℕ) (i c : ℕ) → (c ≡ 0 → ⊥) → same_letters (map letter_of (span ps i c)) [] ≡ false
unfolding span same_letters
some_span ps i zero z = absurd (z refl)
some_span ps i (suc c) z = refl

pub none_left : (ps : List ℕ) (p c : ℕ) → c ≡ get_or ps (p + 8) 0 → c ≡ 0 → same_letters (letters_at ps p) [] ≡ true
unfolding letters_at
none_left ps p c e z = none_span ps (p + 9) (get_or ps (p + 8) 0) (sym e ∙ z)

pub some_left : (ps : List ℕ) (p c : ℕ) → c ≡ get_or ps (p + 8) 0 → (c ≡ 0 → ⊥) → same_letters (letters_at ps p) [] ≡ false
unfolding letters_at
some_left ps p c e z = some_span ps (p + 9) (get_or ps (p + 8) 0) (λ q. z (e ∙ q))

-- what stands in a code row with no letters is read as it stands
no_letters : (ps : List ℕ) (p c : ℕ) → c ≡ get_or ps (p + 8) 0 → c ≡ 0 → length (letters_at ps p) ≡ 0
unfolding letters_at
no_letters ps p c q z = rw (← q, z) (unfold span in refl)

module _ (E : List ℕ) (e : ℕ) (ps : List ℕ) (p c : ℕ) (q : c ≡ get_or ps (p + 8) 0) (z : c ≡ 0) where
  at_top : (a : Ty stack) → read_in E e a ≡ walk (acting [] (var_in E e)) (length (letters_at ps p)) a
  unfolding read_in
  at_top a = ap (λ (d : ℕ). walk (acting [] (var_in E e)) d a) (sym (no_letters ps p c q z))

  pub same_there : (a b : Ty stack) {o : Bool} → o ≡ same (read_in E e a) b → o ≡ same (walk (acting [] (var_in E e)) (length (letters_at ps p)) a) b
  same_there a b h = h ∙ ap (λ (x : Ty stack). same x b) (at_top a)

  pub fits_there : (P : Program) (Δ : List Kind) (a b : Ty stack) {o : Option ℕ} → o ≡ first_item (unfits P Δ 1 (read_in E e a) b) → o ≡ first_item (unfits P Δ 1 (walk (acting [] (var_in E e)) (length (letters_at ps p)) a) b)
  fits_there P Δ a b h = h ∙ ap (λ (x : Ty stack). first_item (unfits P Δ 1 x b)) (at_top a)
