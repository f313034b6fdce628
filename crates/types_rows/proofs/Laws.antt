-- Laws of rows and of what they mean.
use mathlib.Core.Path.{◌≡◌, refl, ap, ap₂, sym, ◌∙◌}
use mathlib.Core.Bool.{Bool, true, false, cond}
use mathlib.Core.List.{List, [], ◌∷◌}
use Prim.Native.Nat.{ℕ, zero, suc, ◌+◌, ◌-◌, ◌<◌, ◌≤◌}
use native.Mathlib.Omega.{arith}
use native.Mathlib.Nat.{not-suc-le-zero}
use lib.Dec.{eqb, leb, ltb, leb-suc-suc}
use lib.ListN.{length, get_or}
use borrow.Author.Tests.{ne_eqb, leb-false, leb-true, ltb-true, ltb-false, eqb-false, lt-ltb, le-ltb}
use Rattle.syntax.specs.Syntax.{Kind, value, stack}
use Rattle.types.specs.Types.{Ty, int, junk, var, tuple, pointer, hidden, code, nil, push, svar, gap, join, items, variable, below, walk, raise, Arg, arg, of_kind}
use Rattle.types.proofs.Filling.{join_nil, items_join, walk_join}
use Rattle.tables.specs.Tables.{RowTable, cell, letters_at}
use Rattle.types_rows.specs.declared.Val.{Val}
use Rattle.types_rows.specs.declared.Val.TheVariants.{Int, Junk, ValVar, ValFill, Tuple, Pointer, Code, Hidden}
use Rattle.types_rows.specs.declared.Stk.{Stk}
use Rattle.types_rows.specs.declared.Stk.TheVariants.{Nil, StkVar, StkFill, Push, Join}
use Rattle.std.specs.Prelude.{Option, Some, None}
use Rattle.types_rows.specs.declared.Place.{Place}
use Rattle.types_rows.specs.declared.Item.{Item}
use Rattle.types_rows.specs.Read.{lower, value_with, stack_with, value_at, stack_at, slot_at, on_slot, parts_of, build_v, build_s, value_to, stack_to, mean_v, mean_s, placed, acting, lift, value_under, stack_under, parts_under, code_of, code_under, place_v, place_s, OkV, OkS, OkSlot, drop_s, take_s, items_at, CountedTo, down, down_of, Narrowed, head_of, ItemOf}

pub never : {A : Type 0} → ◌≡◌ {A = ℕ} 0 1 → A
never e = absurd (omega arith)

-- ---- links
pub lower_low : (h x : ℕ) → 0 < h → lower h x < h
lower_low h x p = go (ltb (suc x) h) refl
  where
    go : (b : Bool) → ltb (suc x) h ≡ b → cond b (suc x) 0 < h
    go true e = ltb-true (suc x) h e
    go false e = p

pub link_in : (h x : ℕ) → x + 1 < h → x + 1 ≡ lower h x
link_in h x l = rw (lt-ltb (suc x) h (omega arith)) (omega arith)

pub link_out : (h x : ℕ) → h ≤ x + 1 → 0 ≡ lower h x
link_out h x l = rw (le-ltb (suc x) h (omega arith)) refl

-- the form of a row that is there
pub value_link : (rows : List ℕ) (f : ℕ → Val) (h : ℕ) → 0 < h → value_with f h (cell 4 rows (h - 1) 0) (cell 4 rows (h - 1) 1) (cell 4 rows (h - 1) 2) ≡ value_at rows f h
value_link rows f zero p = absurd (not-suc-le-zero p)
value_link rows f (suc r) p = let q : suc r - 1 ≡ r = omega arith in rw q refl

pub stack_link : (rows : List ℕ) (f : ℕ → Stk) (h : ℕ) → 0 < h → stack_with f h (cell 4 rows (h - 1) 0) (cell 4 rows (h - 1) 1) (cell 4 rows (h - 1) 2) ≡ stack_at rows f h
stack_link rows f zero p = absurd (not-suc-le-zero p)
stack_link rows f (suc r) p = let q : suc r - 1 ≡ r = omega arith in rw q refl

-- of a variable
pub value_variable : (rows : List ℕ) (f : ℕ → Val) (h k a : ℕ) → 0 < h → k ≡ cell 4 rows (h - 1) 0 → k ≡ 2 → a ≡ cell 4 rows (h - 1) 1 → f a ≡ value_at rows f h
unfolding value_with
value_variable rows f h k a p ek z ea =
    let e : cell 4 rows (h - 1) 0 ≡ 2 = sym ek ∙ z in
    let w : f a ≡ value_with f h (cell 4 rows (h - 1) 0) (cell 4 rows (h - 1) 1) (cell 4 rows (h - 1) 2) = rw (e, ← ea) refl in
    w ∙ value_link rows f h p

pub stack_variable : (rows : List ℕ) (f : ℕ → Stk) (h k a : ℕ) → 0 < h → k ≡ cell 4 rows (h - 1) 0 → k ≡ 8 → a ≡ cell 4 rows (h - 1) 1 → f a ≡ stack_at rows f h
unfolding stack_with
stack_variable rows f h k a p ek z ea =
    let e : cell 4 rows (h - 1) 0 ≡ 8 = sym ek ∙ z in
    let w : f a ≡ stack_with f h (cell 4 rows (h - 1) 0) (cell 4 rows (h - 1) 1) (cell 4 rows (h - 1) 2) = rw (e, ← ea) refl in
    w ∙ stack_link rows f h p

-- of the last kinds
pub stack_join : (rows : List ℕ) (f : ℕ → Stk) (h k a b x y : ℕ) → 0 < h → 9 < k → k ≡ cell 4 rows (h - 1) 0 → a ≡ cell 4 rows (h - 1) 1 → b ≡ cell 4 rows (h - 1) 2
    → x ≡ lower h a → y ≡ lower h b → Join x y ≡ stack_at rows f h
unfolding stack_with
stack_join rows f h k a b x y p l ek ea eb ex ey =
    let q : k ≡ 8 → ⊥ = omega arith in
    let r : k ≡ 9 → ⊥ = omega arith in
    let w : Join x y ≡ stack_with f h k a b = rw (le-ltb k 8 (omega arith), ne_eqb k 8 q, ne_eqb k 9 r, ex, ey) refl in
    w ∙ rw (ek, ea, eb) (stack_link rows f h p)

-- a variable that is placed; it names no row
module _ (m h by d k : ℕ) where
  pub value_placed : {v : Val} → (k < d → v ≡ ValVar k) → (d ≤ k → k - d < m → v ≡ ValFill (k - d)) → (d ≤ k → m ≤ k - d → v ≡ ValVar ((((k - d) - m) + by) + d)) → (v ≡ place_v m (lift by) d k) × OkV m h v
  value_placed {v} a b c = go (ltb k d) (ltb (k - d) m) refl refl
    where
      go : (x y : Bool) → ltb k d ≡ x → ltb (k - d) m ≡ y → (v ≡ place_v m (lift by) d k) × OkV m h v
      go true y e f = rw (a (ltb-true k d e), e) (refl, tt)
      go false true e f = rw (b (ltb-false k d e) (ltb-true (k - d) m f), e, f) (refl, ltb-true (k - d) m f)
      go false false e f = rw (c (ltb-false k d e) (ltb-false (k - d) m f), e, f) (refl, tt)

  pub stack_placed : {v : Stk} → (k < d → v ≡ StkVar k) → (d ≤ k → k - d < m → v ≡ StkFill (k - d)) → (d ≤ k → m ≤ k - d → v ≡ StkVar ((((k - d) - m) + by) + d)) → (v ≡ place_s m (lift by) d k) × OkS m h v
  stack_placed {v} a b c = go (ltb k d) (ltb (k - d) m) refl refl
    where
      go : (x y : Bool) → ltb k d ≡ x → ltb (k - d) m ≡ y → (v ≡ place_s m (lift by) d k) × OkS m h v
      go true y e f = rw (a (ltb-true k d e), e) (refl, tt)
      go false true e f = rw (b (ltb-false k d e) (ltb-true (k - d) m f), e, f) (refl, ltb-true (k - d) m f)
      go false false e f = rw (c (ltb-false k d e) (ltb-false (k - d) m f), e, f) (refl, tt)

-- with nothing to place
plain_v : (k : ℕ) → place_v 0 (lift 0) 0 k ≡ ValVar k
plain_v k =
    let q : (((k - 0) - 0) + 0) + 0 ≡ k = omega arith in
    rw (le-ltb k 0 (omega arith), le-ltb (k - 0) 0 (omega arith), q) refl

plain_s : (k : ℕ) → place_s 0 (lift 0) 0 k ≡ StkVar k
plain_s k =
    let q : (((k - 0) - 0) + 0) + 0 ≡ k = omega arith in
    rw (le-ltb k 0 (omega arith), le-ltb (k - 0) 0 (omega arith), q) refl

pub plain_value : (rows : List ℕ) (h : ℕ) → value_at rows (place_v 0 (lift 0) 0) h ≡ value_at rows ValVar h
unfolding value_with
plain_value rows zero = refl
plain_value rows (suc r) = rw (plain_v (cell 4 rows r 1)) refl

pub plain_stack : (rows : List ℕ) (h : ℕ) → stack_at rows (place_s 0 (lift 0) 0) h ≡ stack_at rows StkVar h
unfolding stack_with
plain_stack rows zero = refl
plain_stack rows (suc r) = rw (plain_s (cell 4 rows r 1)) refl

-- ---- a row names lower rows
abbrev pub LowV : ℕ → Val → Type 0
LowV h Int = Unit
LowV h Junk = Unit
LowV h (ValVar k) = Unit
LowV h (ValFill j) = Unit
LowV h (Tuple p n) = 0 < h
LowV h (Pointer x) = x < h
LowV h (Code x p) = x < h
LowV h (Hidden x) = x < h

abbrev pub LowS : ℕ → Stk → Type 0
LowS h Nil = Unit
LowS h (StkVar k) = Unit
LowS h (StkFill j) = Unit
LowS h (Push t x) = (t < h) × (x < h)
LowS h (Join x y) = (x < h) × (y < h)

pub low_v_at : (rows : List ℕ) (h : ℕ) → LowV h (value_at rows ValVar h)
unfolding value_with
low_v_at rows zero = tt
low_v_at rows (suc r) = go (cell 4 rows r 1) (cell 4 rows r 2) (eqb (cell 4 rows r 0) 0) (eqb (cell 4 rows r 0) 2) (eqb (cell 4 rows r 0) 3) (eqb (cell 4 rows r 0) 4) (eqb (cell 4 rows r 0) 5) (eqb (cell 4 rows r 0) 6)
  where
    go : (a b : ℕ) (x₁ x₂ x₃ x₄ x₅ x₆ : Bool) → LowV (suc r) (cond x₁ Int (cond x₂ (ValVar a) (cond x₃ (Tuple a b) (cond x₄ (Pointer (lower (suc r) a)) (cond x₅ (Code (lower (suc r) a) b) (cond x₆ (Hidden (lower (suc r) a)) Junk))))))
    go a b true x₂ x₃ x₄ x₅ x₆ = tt
    go a b false true x₃ x₄ x₅ x₆ = tt
    go a b false false true x₄ x₅ x₆ = omega arith
    go a b false false false true x₅ x₆ = lower_low (suc r) a (omega arith)
    go a b false false false false true x₆ = lower_low (suc r) a (omega arith)
    go a b false false false false false true = lower_low (suc r) a (omega arith)
    go a b false false false false false false = tt

pub low_s_at : (rows : List ℕ) (h : ℕ) → LowS h (stack_at rows StkVar h)
unfolding stack_with
low_s_at rows zero = tt
low_s_at rows (suc r) = go (cell 4 rows r 1) (cell 4 rows r 2) (ltb (cell 4 rows r 0) 8) (eqb (cell 4 rows r 0) 8) (eqb (cell 4 rows r 0) 9)
  where
    go : (a b : ℕ) (x₁ x₂ x₃ : Bool) → LowS (suc r) (cond x₁ Nil (cond x₂ (StkVar a) (cond x₃ (Push (lower (suc r) a) (lower (suc r) b)) (Join (lower (suc r) a) (lower (suc r) b)))))
    go a b true x₂ x₃ = tt
    go a b false true x₃ = tt
    go a b false false true = (lower_low (suc r) a (omega arith), lower_low (suc r) b (omega arith))
    go a b false false false = (lower_low (suc r) a (omega arith), lower_low (suc r) b (omega arith))

pub slot_low : (file : Bool) (h x : ℕ) → 0 < h → OkSlot h (slot_at file h x)
slot_low false h x p = lower_low h x p
slot_low true h zero p = tt
slot_low true h (suc x) p = lower_low h x p

-- ---- meanings that agree below h agree at row h
module _ (h : ℕ) (f g : ℕ → Ty value) (u v : ℕ → Ty stack) (e : (x : ℕ) → x < h → f x ≡ g x) (i : (x : ℕ) → x < h → u x ≡ v x) where
  same_on : (s : Option ℕ) (a b : Ty stack) → OkSlot h s → a ≡ b → on_slot f s a ≡ on_slot g s b
  same_on None a b l q = ap gap q
  same_on (Some t) a b l q = ap₂ push (e t l) q

  pub same_parts : (ps : List ℕ) (file : Bool) (p n : ℕ) → 0 < h → parts_of f ps file h p n ≡ parts_of g ps file h p n
  unfolding parts_of
  same_parts ps file p zero l = refl
  same_parts ps file p (suc n) l = same_on (slot_at file h (get_or ps p 0)) (parts_of f ps file h (suc p) n) (parts_of g ps file h (suc p) n) (slot_low file h (get_or ps p 0) l) (same_parts ps file (suc p) n l)

  same_build_v : (ps : List ℕ) (n : Val) → LowV h n → build_v f u ps h n ≡ build_v g v ps h n
  same_build_v ps Int l = refl
  same_build_v ps Junk l = refl
  same_build_v ps (ValVar k) l = refl
  same_build_v ps (ValFill k) l = refl
  same_build_v ps (Tuple p n) l = ap tuple (same_parts ps false p n l)
  same_build_v ps (Pointer x) l = ap pointer (i x l)
  same_build_v ps (Code x p) l = ap₂ (code (letters_at ps p)) (i x l) (same_parts ps true p 8 (omega arith))
  same_build_v ps (Hidden x) l = ap hidden (e x l)

  same_build_s : (n : Stk) → LowS h n → build_s f u n ≡ build_s g v n
  same_build_s Nil l = refl
  same_build_s (StkVar k) l = refl
  same_build_s (StkFill k) l = refl
  same_build_s (Push t x) l = ap₂ push (e t l.0) (i x l.1)
  same_build_s (Join x y) l = ap₂ join (i x l.0) (i y l.1)

module _ (τ : RowTable) where
  -- any two bounds above the link agree
  mutual
    unfolding value_to

    same_v : (n m h : ℕ) → h < n → h < m → value_to n τ h ≡ value_to m τ h
    same_v zero m h hn hm = absurd (not-suc-le-zero hn)
    same_v (suc n) zero h hn hm = absurd (not-suc-le-zero hm)
    same_v (suc n) (suc m) h hn hm =
        same_build_v h (value_to n τ) (value_to m τ) (stack_to n τ) (stack_to m τ) (λ x l. same_v n m x (omega arith) (omega arith)) (λ x l. same_s n m x (omega arith) (omega arith)) τ.parts (value_at τ.rows ValVar h) (low_v_at τ.rows h)

    same_s : (n m h : ℕ) → h < n → h < m → stack_to n τ h ≡ stack_to m τ h
    same_s zero m h hn hm = absurd (not-suc-le-zero hn)
    same_s (suc n) zero h hn hm = absurd (not-suc-le-zero hm)
    same_s (suc n) (suc m) h hn hm =
        same_build_s h (value_to n τ) (value_to m τ) (stack_to n τ) (stack_to m τ) (λ x l. same_v n m x (omega arith) (omega arith)) (λ x l. same_s n m x (omega arith) (omega arith)) (stack_at τ.rows StkVar h) (low_s_at τ.rows h)

  -- the two rules, each by the other
  pub value_is : (h : ℕ) → mean_v τ h ≡ build_v (mean_v τ) (mean_s τ) τ.parts h (value_at τ.rows ValVar h)
  unfolding mean_v mean_s value_to
  value_is h =
      same_build_v h (value_to h τ) (λ x. value_to (suc x) τ x) (stack_to h τ) (λ x. stack_to (suc x) τ x) (λ x l. same_v h (suc x) x l (omega arith)) (λ x l. same_s h (suc x) x l (omega arith)) τ.parts (value_at τ.rows ValVar h) (low_v_at τ.rows h)

  pub stack_is : (h : ℕ) → mean_s τ h ≡ build_s (mean_v τ) (mean_s τ) (stack_at τ.rows StkVar h)
  unfolding mean_v mean_s value_to
  stack_is h =
      same_build_s h (value_to h τ) (λ x. value_to (suc x) τ x) (stack_to h τ) (λ x. stack_to (suc x) τ x) (λ x l. same_v h (suc x) x l (omega arith)) (λ x l. same_s h (suc x) x l (omega arith)) (stack_at τ.rows StkVar h) (low_s_at τ.rows h)

-- ---- stacks by position
pub drop_nil : (n : ℕ) → drop_s n nil ≡ nil
unfolding drop_s
drop_nil zero = refl
drop_nil (suc n) = refl

pub take_nil : (n : ℕ) → take_s n nil ≡ nil
unfolding take_s
take_nil zero = refl
take_nil (suc n) = refl

pub items_drop : (n : ℕ) (a : Ty stack) → items (drop_s n a) ≡ items a - n
unfolding drop_s items
items_drop zero a = omega arith
items_drop (suc n) nil = omega arith
items_drop (suc n) (push t a) = let h = items_drop n a in omega arith
items_drop (suc n) (svar k a) = let h = items_drop n a in omega arith
items_drop (suc n) (gap a) = let h = items_drop n a in omega arith

pub drop_next : (n : ℕ) (a : Ty stack) → drop_s 1 (drop_s n a) ≡ drop_s (suc n) a
unfolding drop_s
drop_next zero a = refl
drop_next (suc n) nil = refl
drop_next (suc n) (push t a) = drop_next n a
drop_next (suc n) (svar k a) = drop_next n a
drop_next (suc n) (gap a) = drop_next n a

drop_push : (n : ℕ) (t : Ty value) (a : Ty stack) → (n ≡ 0 → ⊥) → drop_s n (push t a) ≡ drop_s (n - 1) a
unfolding drop_s
drop_push zero t a e = absurd (e refl)
drop_push (suc n) t a e = let q : suc n - 1 ≡ n = omega arith in rw q refl

drop_last : (n k : ℕ) → (n ≡ 0 → ⊥) → drop_s n (svar k nil) ≡ nil
unfolding drop_s
drop_last zero k e = absurd (e refl)
drop_last (suc n) k e = drop_nil n

pub drop_left : (n : ℕ) (a b : Ty stack) → n ≤ items a → drop_s n (join a b) ≡ join (drop_s n a) b
unfolding drop_s join items
drop_left zero a b h = refl
drop_left (suc n) nil b h = absurd (not-suc-le-zero h)
drop_left (suc n) (push t a) b h = drop_left n a b (omega arith)
drop_left (suc n) (svar k a) b h = drop_left n a b (omega arith)
drop_left (suc n) (gap a) b h = drop_left n a b (omega arith)

pub drop_right : (n j : ℕ) (a b : Ty stack) → n ≡ items a + j → drop_s n (join a b) ≡ drop_s j b
unfolding drop_s join items
drop_right n j nil b e = let q : n ≡ j = omega arith in ap (λ z. drop_s z b) q
drop_right zero j (push t a) b e = absurd (omega arith)
drop_right (suc n) j (push t a) b e = drop_right n j a b (omega arith)
drop_right zero j (svar k a) b e = absurd (omega arith)
drop_right (suc n) j (svar k a) b e = drop_right n j a b (omega arith)
drop_right zero j (gap a) b e = absurd (omega arith)
drop_right (suc n) j (gap a) b e = drop_right n j a b (omega arith)

take_left : (n : ℕ) (a b : Ty stack) → n ≤ items a → take_s n (join a b) ≡ take_s n a
unfolding take_s join items
take_left zero a b h = refl
take_left (suc n) nil b h = absurd (not-suc-le-zero h)
take_left (suc n) (push t a) b h = ap (push t) (take_left n a b (omega arith))
take_left (suc n) (svar k a) b h = ap (svar k) (take_left n a b (omega arith))
take_left (suc n) (gap a) b h = ap gap (take_left n a b (omega arith))

pub empty_nil : (a : Ty stack) → items a ≡ 0 → a ≡ nil
unfolding items
empty_nil nil e = refl
empty_nil (push t a) e = absurd (omega arith)
empty_nil (svar k a) e = absurd (omega arith)
empty_nil (gap a) e = absurd (omega arith)

-- the first item alone
one_nil : (a : Ty stack) → take_s 1 a ≡ nil → a ≡ nil
unfolding take_s
one_nil nil e = refl
one_nil (push t a) e = never (cc)
one_nil (svar k a) e = never (cc)
one_nil (gap a) e = never (cc)

one_push : (a : Ty stack) (u : Ty value) → take_s 1 a ≡ push u nil → a ≡ push u (drop_s 1 a)
unfolding take_s drop_s
one_push nil u e = never (cc)
one_push (push t a) u e = let q : t ≡ u = cc in ap (λ z. push z a) q
one_push (svar k a) u e = never (cc)
one_push (gap a) u e = never (cc)

one_svar : (a : Ty stack) (i : ℕ) → take_s 1 a ≡ svar i nil → a ≡ svar i (drop_s 1 a)
unfolding take_s drop_s
one_svar nil i e = never (cc)
one_svar (push t a) i e = never (cc)
one_svar (svar k a) i e = let q : k ≡ i = cc in ap (λ z. svar z a) q
one_svar (gap a) i e = never (cc)

items_push : (t : Ty value) (a : Ty stack) → items (push t a) ≡ suc (items a)
unfolding items
items_push t a = refl

-- ---- one row further down
some_same : {A : Type 0} {p q : A} → Some p ≡ Some q → p ≡ q
some_same e = cc

down_same : (a i y k : ℕ) → down a i ≡ down y k → (a ≡ y) × (i ≡ k)
down_same a i y k e =
    let p : ◌≡◌ {A = Place} (record { row = a; at = i }) (record { row = y; at = k }) = some_same e in
    (ap (λ (x : Place). x.row) p, ap (λ (x : Place). x.at) p)

pub down_under : (rows : List ℕ) (t x j n : ℕ) → (j ≡ 0 → ⊥) → down x (j - 1) ≡ down_of rows (Push t x) j n
down_under rows t x j n e = rw (ne_eqb j 0 e) refl

pub ok_form : (m h : ℕ) {n k : Stk} → OkS m h n → n ≡ k → OkS m h k
ok_form m h o e = rw e at o

module _ (τ : RowTable) (r x i n : ℕ) (c : CountedTo τ r) (l : x ≤ r) where
  -- what a step down keeps of a stack a from item i on
  abbrev Kept : Ty stack → ℕ → ℕ → Type 0
  Kept a y k = (y < x) × (k ≤ i) × (take_s n (drop_s i a) ≡ take_s n (drop_s k (mean_s τ y))) × (items (mean_s τ y) - k ≤ items a - i)

  on_push : (t s y k : ℕ) → s < x → (b : Bool) → eqb i 0 ≡ b → cond b None (down s (i - 1)) ≡ down y k → Kept (push (mean_v τ t) (mean_s τ s)) y k
  on_push t s y k o true q e = never (cc)
  on_push t s y k o false q e =
      let p = (down_same s (i - 1) y k e).0 in
      let g = (down_same s (i - 1) y k e).1 in
      let z = eqb-false i 0 q in
      let w : items (mean_s τ s) ≡ items (mean_s τ y) = ap (λ v. items (mean_s τ v)) p in
      (omega arith, omega arith, ap (take_s n) (drop_push i (mean_v τ t) (mean_s τ s) z ∙ ap₂ (λ v w. drop_s v (mean_s τ w)) g p), let j = items_push (mean_v τ t) (mean_s τ s) in omega arith)

  on_second : (a b y k : ℕ) → b < x → items_at τ.rows a ≤ i → a ≤ r → down b (i - items_at τ.rows a) ≡ down y k → Kept (join (mean_s τ a) (mean_s τ b)) y k
  on_second a b y k o g u e =
      let w = c a u in
      let p = (down_same b (i - items_at τ.rows a) y k e).0 in
      let q = (down_same b (i - items_at τ.rows a) y k e).1 in
      let m = items_join (mean_s τ a) (mean_s τ b) in
      let f : items (mean_s τ b) ≡ items (mean_s τ y) = ap (λ v. items (mean_s τ v)) p in
      (omega arith, omega arith, ap (take_s n) (drop_right i (i - items_at τ.rows a) (mean_s τ a) (mean_s τ b) (omega arith) ∙ ap₂ (λ v w. drop_s v (mean_s τ w)) q p), omega arith)

  on_first : (a b y k : ℕ) → a < x → i < items_at τ.rows a → a ≤ r → (v : Bool) → leb n (items_at τ.rows a - i) ≡ v → cond v (down a i) None ≡ down y k → Kept (join (mean_s τ a) (mean_s τ b)) y k
  on_first a b y k o g u true v e =
      let w = c a u in
      let p = (down_same a i y k e).0 in
      let q = (down_same a i y k e).1 in
      let m = leb-true n (items_at τ.rows a - i) v in
      let s = items_drop i (mean_s τ a) in
      let j = items_join (mean_s τ a) (mean_s τ b) in
      let f : items (mean_s τ a) ≡ items (mean_s τ y) = ap (λ v. items (mean_s τ v)) p in
      (omega arith, omega arith, ap (take_s n) (drop_left i (mean_s τ a) (mean_s τ b) (omega arith)) ∙ take_left n (drop_s i (mean_s τ a)) (mean_s τ b) (omega arith) ∙ ap₂ (λ v w. take_s n (drop_s v (mean_s τ w))) q p, omega arith)
  on_first a b y k o g u false v e = never (cc)

  on_join : (a b y k : ℕ) → a < x → b < x → (v : Bool) → leb (items_at τ.rows a) i ≡ v → cond v (down b (i - items_at τ.rows a)) (cond (leb n (items_at τ.rows a - i)) (down a i) None) ≡ down y k → Kept (join (mean_s τ a) (mean_s τ b)) y k
  on_join a b y k o u true v e = on_second a b y k u (leb-true (items_at τ.rows a) i v) (omega arith) e
  on_join a b y k o u false v e = on_first a b y k o (leb-false (items_at τ.rows a) i v) (omega arith) (leb n (items_at τ.rows a - i)) refl e

  on_form : (f : Stk) (y k : ℕ) → LowS x f → down_of τ.rows f i n ≡ down y k → Kept (build_s (mean_v τ) (mean_s τ) f) y k
  on_form Nil y k o e = never (cc)
  on_form (StkVar j) y k o e = never (cc)
  on_form (StkFill j) y k o e = never (cc)
  on_form (Push t s) y k o e = on_push t s y k o.1 (eqb i 0) refl e
  on_form (Join a b) y k o e = on_join a b y k o.0 o.1 (leb (items_at τ.rows a) i) refl e

  pub down_step : (y k : ℕ) {s : Option Place} → s ≡ down_of τ.rows (stack_at τ.rows StkVar x) i n → s ≡ down y k → Kept (mean_s τ x) y k
  down_step y k e f = rw (stack_is τ x) (on_form (stack_at τ.rows StkVar x) y k (low_s_at τ.rows x) (sym e ∙ f))

-- ---- the lowest place
module _ (τ : RowTable) (r j n : ℕ) where
  -- what the search keeps
  abbrev pub Found : ℕ → ℕ → Type 0
  Found x i = (x ≤ r) × (i ≤ j) × (take_s n (drop_s j (mean_s τ r)) ≡ take_s n (drop_s i (mean_s τ x))) × (items (mean_s τ x) - i ≤ items (mean_s τ r) - j)

  pub found_next : (x i y k : ℕ) {s : Option Place} → CountedTo τ r → Found x i → s ≡ down_of τ.rows (stack_at τ.rows StkVar x) i n → s ≡ down y k → Found y k
  found_next x i y k c f e g =
      let f0 = f.0 in
      let f1 = f.1 in
      let f3 = f.3 in
      let z = down_step τ r x i n c f0 y k e g in
      let z0 = z.0 in
      let z1 = z.1 in
      let z3 = z.3 in
      (omega arith, omega arith, f.2 ∙ z.2, omega arith)

-- ---- variables in a context
abbrev pub no_arg : Arg
no_arg = arg value junk

module _ (κ : Kind) (ρ : ℕ → ℕ) (d : ℕ) where
  pub placed_is : (A : List Arg) (j : ℕ) → placed κ ρ d A j ≡ cond (ltb j (length A)) (raise d (of_kind κ (get_or A j no_arg))) (variable κ (ρ (j - length A) + d))
  unfolding placed
  placed_is [] j = let q : j - 0 ≡ j = omega arith in rw (le-ltb j 0 (omega arith), q) refl
  placed_is (a ∷ A) zero = rw (lt-ltb 0 (suc (length A)) (omega arith)) refl
  placed_is (a ∷ A) (suc j) =
      let q : suc j - suc (length A) ≡ j - length A = omega arith in
      rw (q, leb-suc-suc (suc j) (length A)) (placed_is A j)

  pub acting_is : (A : List Arg) (k : ℕ) → acting A ρ d κ k ≡ cond (ltb k d) (variable κ k) (placed κ ρ d A (k - d))
  unfolding acting below
  acting_is A k = refl

-- ---- a row in a context, ρ its form with the variable placed
module _ (τ : RowTable) (A : List Arg) (ρ : ℕ → ℕ) (d : ℕ) where
  abbrev pub type_v : ℕ → Val → Ty value
  type_v h Int = int
  type_v h Junk = junk
  type_v h (ValVar k) = var k
  type_v h (ValFill j) = raise d (of_kind value (get_or A j no_arg))
  type_v h (Tuple p n) = tuple (parts_under τ A ρ d false h p n)
  type_v h (Pointer x) = pointer (stack_under τ A ρ d x)
  type_v h (Code x p) = code_under τ A ρ d h x p
  type_v h (Hidden x) = hidden (value_under τ A ρ (suc d) x)

  abbrev pub type_s : Stk → Ty stack
  type_s Nil = nil
  type_s (StkVar k) = svar k nil
  type_s (StkFill j) = raise d (of_kind stack (get_or A j no_arg))
  type_s (Push t x) = push (value_under τ A ρ d t) (stack_under τ A ρ d x)
  type_s (Join x y) = join (stack_under τ A ρ d x) (stack_under τ A ρ d y)

  placed_v : (h k : ℕ) → acting A ρ d value k ≡ type_v h (place_v (length A) ρ d k)
  unfolding variable
  placed_v h k = acting_is value ρ d A k ∙ rw (placed_is value ρ d A (k - d)) (go (ltb k d) (ltb (k - d) (length A)))
    where
      go : (x y : Bool) → cond x (var k) (cond y (raise d (of_kind value (get_or A (k - d) no_arg))) (var (ρ ((k - d) - length A) + d))) ≡ type_v h (cond x (ValVar k) (cond y (ValFill (k - d)) (ValVar (ρ ((k - d) - length A) + d))))
      go true y = refl
      go false true = refl
      go false false = refl

  placed_s : (k : ℕ) → acting A ρ d stack k ≡ type_s (place_s (length A) ρ d k)
  unfolding variable
  placed_s k = acting_is stack ρ d A k ∙ rw (placed_is stack ρ d A (k - d)) (go (ltb k d) (ltb (k - d) (length A)))
    where
      go : (x y : Bool) → cond x (svar k nil) (cond y (raise d (of_kind stack (get_or A (k - d) no_arg))) (svar (ρ ((k - d) - length A) + d) nil)) ≡ type_s (cond x (StkVar k) (cond y (StkFill (k - d)) (StkVar (ρ ((k - d) - length A) + d))))
      go true y = refl
      go false true = refl
      go false false = refl

  pub value_under_lem : (h : ℕ) → value_under τ A ρ d h ≡ type_v h (value_at τ.rows (place_v (length A) ρ d) h)
  unfolding value_under value_with walk parts_under stack_under code_under code_of
  value_under_lem zero = ap (walk (acting A ρ) d) (value_is τ zero)
  value_under_lem (suc r) = ap (walk (acting A ρ) d) (value_is τ (suc r)) ∙ go (cell 4 τ.rows r 1) (cell 4 τ.rows r 2) (eqb (cell 4 τ.rows r 0) 0) (eqb (cell 4 τ.rows r 0) 2) (eqb (cell 4 τ.rows r 0) 3) (eqb (cell 4 τ.rows r 0) 4) (eqb (cell 4 τ.rows r 0) 5) (eqb (cell 4 τ.rows r 0) 6)
    where
      go : (a b : ℕ) (x₁ x₂ x₃ x₄ x₅ x₆ : Bool) → walk (acting A ρ) d (build_v (mean_v τ) (mean_s τ) τ.parts (suc r) (cond x₁ Int (cond x₂ (ValVar a) (cond x₃ (Tuple a b) (cond x₄ (Pointer (lower (suc r) a)) (cond x₅ (Code (lower (suc r) a) b) (cond x₆ (Hidden (lower (suc r) a)) Junk)))))))
          ≡ type_v (suc r) (cond x₁ Int (cond x₂ (place_v (length A) ρ d a) (cond x₃ (Tuple a b) (cond x₄ (Pointer (lower (suc r) a)) (cond x₅ (Code (lower (suc r) a) b) (cond x₆ (Hidden (lower (suc r) a)) Junk))))))
      go a b true x₂ x₃ x₄ x₅ x₆ = refl
      go a b false true x₃ x₄ x₅ x₆ = placed_v (suc r) a
      go a b false false true x₄ x₅ x₆ = refl
      go a b false false false true x₅ x₆ = refl
      go a b false false false false true x₆ = refl
      go a b false false false false false true = refl
      go a b false false false false false false = refl

  pub stack_under_lem : (h : ℕ) → stack_under τ A ρ d h ≡ type_s (stack_at τ.rows (place_s (length A) ρ d) h)
  unfolding stack_under stack_with walk value_under
  stack_under_lem zero = ap (walk (acting A ρ) d) (stack_is τ zero)
  stack_under_lem (suc r) = ap (walk (acting A ρ) d) (stack_is τ (suc r)) ∙ go (cell 4 τ.rows r 1) (cell 4 τ.rows r 2) (ltb (cell 4 τ.rows r 0) 8) (eqb (cell 4 τ.rows r 0) 8) (eqb (cell 4 τ.rows r 0) 9)
    where
      go : (a b : ℕ) (x₁ x₂ x₃ : Bool) → walk (acting A ρ) d (build_s (mean_v τ) (mean_s τ) (cond x₁ Nil (cond x₂ (StkVar a) (cond x₃ (Push (lower (suc r) a) (lower (suc r) b)) (Join (lower (suc r) a) (lower (suc r) b))))))
          ≡ type_s (cond x₁ Nil (cond x₂ (place_s (length A) ρ d a) (cond x₃ (Push (lower (suc r) a) (lower (suc r) b)) (Join (lower (suc r) a) (lower (suc r) b)))))
      go a b true x₂ x₃ = refl
      go a b false true x₃ = join_nil (acting A ρ d stack a) ∙ placed_s a
      go a b false false true = refl
      go a b false false false = walk_join (acting A ρ) d (mean_s τ (lower (suc r) a)) (mean_s τ (lower (suc r) b))

  -- the same from what a reader answers
  pub stack_read : (m h : ℕ) {n k : Stk} → length A ≡ m → n ≡ stack_at τ.rows (place_s m ρ d) h → n ≡ k → stack_under τ A ρ d h ≡ type_s k
  stack_read m h {n} {k} l e f =
      let q : stack_at τ.rows (place_s (length A) ρ d) h ≡ k = rw l (sym e ∙ f) in
      stack_under_lem h ∙ ap type_s q

  pub value_read : (m h : ℕ) {n : Val} → length A ≡ m → n ≡ value_at τ.rows (place_v m ρ d) h → value_under τ A ρ d h ≡ type_v h n
  value_read m h {n} l e =
      let q : value_at τ.rows (place_v (length A) ρ d) h ≡ n = rw l (sym e) in
      value_under_lem h ∙ ap (type_v h) q

-- ---- a lift keeps items apart
module _ (ρ : ℕ → ℕ) where
  lifted : (d k : ℕ) (b : Ty stack) → join (acting [] ρ d stack k) b ≡ svar (cond (ltb k d) k (ρ (k - d) + d)) b
  unfolding placed variable join
  lifted d k b = rw (acting_is stack ρ d [] k) (go (ltb k d))
    where
      go : (x : Bool) → join (cond x (svar k nil) (svar (ρ (k - d) + d) nil)) b ≡ svar (cond x k (ρ (k - d) + d)) b
      go true = refl
      go false = refl

  pub drop_lift : (d n : ℕ) (a : Ty stack) → drop_s n (walk (acting [] ρ) d a) ≡ walk (acting [] ρ) d (drop_s n a)
  unfolding walk drop_s
  drop_lift d zero a = refl
  drop_lift d (suc n) nil = refl
  drop_lift d (suc n) (push t a) = drop_lift d n a
  drop_lift d (suc n) (svar k a) = rw (lifted d k (walk (acting [] ρ) d a)) (drop_lift d n a)
  drop_lift d (suc n) (gap a) = drop_lift d n a

  pub take_lift : (d n : ℕ) (a : Ty stack) → take_s n (walk (acting [] ρ) d a) ≡ walk (acting [] ρ) d (take_s n a)
  unfolding walk take_s
  take_lift d zero a = refl
  take_lift d (suc n) nil = refl
  take_lift d (suc n) (push t a) = ap (push (walk (acting [] ρ) d t)) (take_lift d n a)
  take_lift d (suc n) (svar k a) = rw (lifted d k (walk (acting [] ρ) d a), lifted d k (walk (acting [] ρ) d (take_s n a))) (ap (svar (cond (ltb k d) k (ρ (k - d) + d))) (take_lift d n a))
  take_lift d (suc n) (gap a) = ap gap (take_lift d n a)

module _ (τ : RowTable) (ρ : ℕ → ℕ) (d : ℕ) where
  pub same_under : {r j n x i : ℕ} → Narrowed τ r j n x i → take_s n (drop_s j (stack_under τ [] ρ d r)) ≡ take_s n (drop_s i (stack_under τ [] ρ d x))
  unfolding stack_under
  same_under {r} {j} {n} {x} {i} w = rw (drop_lift ρ d j (mean_s τ r), drop_lift ρ d i (mean_s τ x), take_lift ρ d n (drop_s j (mean_s τ r)), take_lift ρ d n (drop_s i (mean_s τ x))) (ap (walk (acting [] ρ) d) w.same)

-- ---- item j
-- a place with one item that no lower row has is that item, or past the end
stays_join : (rows : List ℕ) (x y i : ℕ) {B : Type 0} → down_of rows (Join x y) i 1 ≡ None → B
stays_join rows x y i {B} e = go (leb (items_at rows x) i) (leb 1 (items_at rows x - i)) refl refl e
  where
    go : (u v : Bool) → leb (items_at rows x) i ≡ u → leb 1 (items_at rows x - i) ≡ v → cond u (down y (i - items_at rows x)) (cond v (down x i) None) ≡ None → B
    go true v p q e = never (cc)
    go false true p q e = never (cc)
    go false false p q e = let g = leb-false (items_at rows x) i p in let k = leb-false 1 (items_at rows x - i) q in absurd (omega arith)

stays_push : (rows : List ℕ) (t x i n : ℕ) {B : Type 0} → (i ≡ 0 → ⊥) → down_of rows (Push t x) i n ≡ None → B
stays_push rows t x i n z e = let q : down x (i - 1) ≡ None = down_under rows t x i n z ∙ e in never (cc)

placed_down : (rows : List ℕ) (ρ : ℕ → ℕ) (d h i n : ℕ) → down_of rows (stack_at rows (place_s 0 ρ d) h) i n ≡ down_of rows (stack_at rows StkVar h) i n
unfolding stack_with
placed_down rows ρ d zero i n = refl
placed_down rows ρ d (suc r) i n = go (cell 4 rows r 1) (cell 4 rows r 2) (ltb (cell 4 rows r 0) 8) (eqb (cell 4 rows r 0) 8) (eqb (cell 4 rows r 0) 9)
  where
    on_var : (k : ℕ) (x y : Bool) → down_of rows (cond x (StkVar k) (cond y (StkFill (k - d)) (StkVar (ρ ((k - d) - 0) + d)))) i n ≡ None
    on_var k true y = refl
    on_var k false true = refl
    on_var k false false = refl

    go : (a b : ℕ) (x₁ x₂ x₃ : Bool) → down_of rows (cond x₁ Nil (cond x₂ (place_s 0 ρ d a) (cond x₃ (Push (lower (suc r) a) (lower (suc r) b)) (Join (lower (suc r) a) (lower (suc r) b))))) i n
        ≡ down_of rows (cond x₁ Nil (cond x₂ (StkVar a) (cond x₃ (Push (lower (suc r) a) (lower (suc r) b)) (Join (lower (suc r) a) (lower (suc r) b))))) i n
    go a b true x₂ x₃ = refl
    go a b false true x₃ = on_var a (ltb a d) (ltb (a - d) 0)
    go a b false false true = refl
    go a b false false false = refl

module _ (τ : RowTable) (ρ : ℕ → ℕ) (d h j x i : ℕ) (w : Narrowed τ h j 1 x i) where
  -- the whole from item j on, ρ its first item
  from_nil : take_s 1 (drop_s j (stack_under τ [] ρ d h)) ≡ nil → ItemOf τ ρ d h (stack_under τ [] ρ d h) j None
  from_nil e = one_nil (drop_s j (stack_under τ [] ρ d h)) e

  from_form : (s : Stk) → OkS 0 x s → down_of τ.rows s 0 1 ≡ None → take_s 1 (drop_s j (stack_under τ [] ρ d h)) ≡ take_s 1 (type_s τ [] ρ d s) → ItemOf τ ρ d h (stack_under τ [] ρ d h) j (head_of s)
  unfolding take_s
  from_form Nil o q e = from_nil e
  from_form (StkVar k) o q e = one_svar (drop_s j (stack_under τ [] ρ d h)) k e ∙ ap (svar k) (drop_next j (stack_under τ [] ρ d h))
  from_form (StkFill k) o q e = absurd (not-suc-le-zero o)
  from_form (Push t y) o q e =
      let l = o.0 in
      let g = w.row_low in
      (omega arith, one_push (drop_s j (stack_under τ [] ρ d h)) (value_under τ [] ρ d t) e ∙ ap (push (value_under τ [] ρ d t)) (drop_next j (stack_under τ [] ρ d h)))
  from_form (Join a b) o q e = stays_join τ.rows a b 0 q

  pub item_head : {s : Stk} {o : Option Item} → s ≡ stack_at τ.rows (place_s 0 ρ d) x → OkS 0 x s → i ≡ 0 → o ≡ head_of s → ItemOf τ ρ d h (stack_under τ [] ρ d h) j o
  unfolding drop_s
  item_head {s} {o} e k z f =
      let q : down_of τ.rows s 0 1 ≡ None = ap (λ v. down_of τ.rows v 0 1) e ∙ placed_down τ.rows ρ d x 0 1 ∙ ap (λ v. down_of τ.rows (stack_at τ.rows StkVar x) v 1) (sym z) ∙ w.stays in
      let p : take_s 1 (drop_s j (stack_under τ [] ρ d h)) ≡ take_s 1 (type_s τ [] ρ d s) = same_under τ ρ d w ∙ ap (λ v. take_s 1 (drop_s v (stack_under τ [] ρ d x))) z ∙ ap (take_s 1) (stack_read τ [] ρ d 0 x refl e refl) in
      rw f (from_form s k q p)

  past_form : (s : Stk) → (i ≡ 0 → ⊥) → down_of τ.rows s i 1 ≡ None → drop_s i (build_s (mean_v τ) (mean_s τ) s) ≡ nil
  past_form Nil z q = drop_nil i
  past_form (StkVar k) z q = drop_last i k z
  past_form (StkFill k) z q = drop_nil i
  past_form (Push t y) z q = stays_push τ.rows t y i 1 z q
  past_form (Join a b) z q = stays_join τ.rows a b i q

  pub item_none : (i ≡ 0 → ⊥) → ItemOf τ ρ d h (stack_under τ [] ρ d h) j None
  unfolding stack_under walk
  item_none z =
      let q : drop_s i (mean_s τ x) ≡ nil = ap (drop_s i) (stack_is τ x) ∙ past_form (stack_at τ.rows StkVar x) z w.stays in
      from_nil (same_under τ ρ d w ∙ ap (take_s 1) (drop_lift ρ d i (mean_s τ x) ∙ ap (walk (acting [] ρ) d) q) ∙ take_nil 1)
