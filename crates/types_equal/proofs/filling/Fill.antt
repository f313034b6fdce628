-- Laws of code types filled by arguments.
use mathlib.Core.Path.{◌≡◌, refl, ap, ap₂, sym, ◌∙◌, subst, fun_ext}
use mathlib.Core.Bool.{Bool, true, false, ◌&&◌}
use mathlib.Core.List.{List, [], ◌∷◌, map}
use Prim.Native.Nat.{ℕ, zero, suc, ◌+◌, ◌-◌, ◌*◌, ◌<◌, ◌≤◌}
use native.Mathlib.Omega.{arith}
use native.Mathlib.Nat.{not-suc-le-zero, add-zero}
use lib.Dec.{leb, ltb}
use lib.ListN.{length, get_or, take}
use borrow.Author.Tests.{le-leb, lt-leb, ltb-true}
use Rattle.syntax.specs.Partial.{guarded}
use Rattle.syntax.specs.Syntax.{Kind, value, stack}
use Rattle.types.specs.Types.{Ty, int, junk, var, tuple, pointer, hidden, code, nil, push, svar, gap, variable, below, Act, walk, Arg, place, filling, fill, fits_kind, meets, filled, a_stack, Wf}
use Rattle.types.specs.Equal.{same, same_letters}
use Rattle.types.specs.Rows.{type_at, types_of, all_below}
use Rattle.types.proofs.Equal.{and_inv}
use Rattle.types.proofs.Filling.{Side, lo, hi, side, below_lt, below_ge, fuse, walk_variable}
use Rattle.tables.specs.Tables.{RowTable, span, letter_of, rows_in}
use Rattle.types_rows.specs.declared.Val.{Val}
use Rattle.types_rows.specs.declared.Val.TheVariants.{Int, Junk, ValVar, ValFill, Tuple, Pointer, Code, Hidden}
use Rattle.types_rows.specs.Read.{lower, value_at, parts_of, mean_v, mean_s, placed, acting, lift, value_under, stack_under, parts_under, code_of, arg_of, args_of, place_v, OkV}
use Rattle.types_rows.specs.Environments.{var_in, read_in, shifted}
use Rattle.types_rows.proofs.Laws.{no_arg, type_v, value_read}
use Rattle.types_rows.proofs.Bridge.{arg_at}
use Rattle.types_rows.proofs.Environments.{acting_low, acting_high, read_var, shifted_plain}
use Rattle.types_equal.specs.value_pairs.Pairs.{letters_from}
use Rattle.types_equal.specs.Bounds.{Tabled, Spare, big}
use Rattle.types_equal.specs.stack_pairs.Fit.{fit_values, fit_parts, same_stacks}
use Rattle.types_equal.specs.filling.Filling.{is_full, fills_to, fill_codes, packs_to}
use Rattle.types_equal.proofs.pending.Meets.{and_false, and_true, and_swap, meets_join, fits_past, length_args}
use Rattle.types_equal.proofs.Laws.{same_sym}
use Rattle.types_equal.proofs.Items.{room_most}
use Rattle.types_equal.proofs.Values.{length_letters, letters_at_lem}
use Rattle.types_equal.proofs.Plain.{plain_value, plain_stack, plain_parts, plain_code, now_lift, link_few, link_type}

pub big_most : (m : ℕ) → big m ≤ 134217728
big_most zero = omega arith
big_most (suc m) = omega arith

-- ---- filling, as a context
placed_place : (κ : Kind) (d : ℕ) (A : List Arg) (j : ℕ) → placed κ (lift 0) d A j ≡ place κ d A j
unfolding placed place
placed_place κ d [] j = let q : (j + 0) + d ≡ j + d = omega arith in ap (variable κ) q
placed_place κ d (a ∷ A) zero = refl
placed_place κ d (a ∷ A) (suc j) = placed_place κ d A j

acting_fills : (A : List Arg) → acting A (lift 0) ≡ filling A
unfolding acting filling
acting_fills A = fun_ext (λ d. fun_ext (λ κ. fun_ext (λ k. ap (λ (f : ℕ → Ty κ). below d k (variable κ k) f) (fun_ext (placed_place κ d A)))))

pub fill_walk : (A : List Arg) (d : ℕ) {κ : Kind} (t : Ty κ) → fill d A t ≡ walk (acting A (lift 0)) d t
unfolding fill
fill_walk A d t = ap (λ (f : Act). walk f d t) (sym (acting_fills A))

-- ---- filling what was read in an environment: the variables past the arguments are those that ρ gives
place_past : (κ : Kind) (d : ℕ) (A : List Arg) (j : ℕ) → place κ d A (j + length A) ≡ variable κ (j + d)
unfolding place
place_past κ d [] j = let q : j + 0 ≡ j = omega arith in rw q refl
place_past κ d (a ∷ A) j = let q : j + suc (length A) ≡ suc (j + length A) = omega arith in rw q (place_past κ d A j)

module _ (ρ : ℕ → ℕ) where
  placed_past : (κ : Kind) (d : ℕ) (A : List Arg) (j : ℕ) → placed κ ρ d A (j + length A) ≡ variable κ (ρ j + d)
  unfolding placed
  placed_past κ d [] j = let q : j + 0 ≡ j = omega arith in rw q refl
  placed_past κ d (a ∷ A) j = let q : j + suc (length A) ≡ suc (j + length A) = omega arith in rw q (placed_past κ d A j)

  placed_in : (κ : Kind) (d : ℕ) (A : List Arg) (j : ℕ) → j < length A → place κ d A j ≡ placed κ ρ d A j
  unfolding place placed
  placed_in κ d [] j l = absurd (not-suc-le-zero l)
  placed_in κ d (a ∷ A) zero l = refl
  placed_in κ d (a ∷ A) (suc j) l = placed_in κ d A j (omega arith)

  module _ (A : List Arg) where
    both_low : (e : ℕ) (κ : Kind) (k : ℕ) → k < e + length A → Side e k → filling A e κ k ≡ acting A ρ e κ k
    unfolding filling acting
    both_low e κ k l (lo h) = below_lt e k (variable κ k) (place κ e A) h ∙ sym (below_lt e k (variable κ k) (placed κ ρ e A) h)
    both_low e κ k l (hi j p) = rw p (below_ge e j (variable κ (j + e)) (place κ e A) ∙ placed_in κ e A j (omega arith) ∙ sym (below_ge e j (variable κ (j + e)) (placed κ ρ e A)))

    read_high : (e : ℕ) (κ : Kind) (j : ℕ) → filling A e κ (ρ j + (e + length A)) ≡ acting A ρ e κ (j + (e + length A))
    unfolding filling acting
    read_high e κ j =
        let p : ρ j + (e + length A) ≡ (ρ j + length A) + e = omega arith in
        let q : j + (e + length A) ≡ (j + length A) + e = omega arith in
        ap (λ z. below e z (variable κ z) (place κ e A)) p ∙ below_ge e (ρ j + length A) (variable κ ((ρ j + length A) + e)) (place κ e A) ∙ place_past κ e A (ρ j)
        ∙ sym (ap (λ z. below e z (variable κ z) (placed κ ρ e A)) q ∙ below_ge e (j + length A) (variable κ ((j + length A) + e)) (placed κ ρ e A) ∙ placed_past κ e A j)

    read_at : (e : ℕ) (κ : Kind) (k : ℕ) → Side (e + length A) k → walk (filling A) e (acting [] ρ (e + length A) κ k) ≡ acting A ρ e κ k
    read_at e κ k (lo h) = rw (acting_low ρ (e + length A) κ k h, walk_variable) (both_low e κ k h (side e k))
    read_at e κ k (hi j p) = rw (p, acting_high ρ (e + length A) κ j, walk_variable) (read_high e κ j)

    pub fill_read : (d y : ℕ) → y ≡ d + length A → {κ : Kind} (t : Ty κ) → fill d A (walk (acting [] ρ) y t) ≡ walk (acting A ρ) d t
    unfolding fill
    fill_read d y p t = fuse (filling A) (acting [] ρ) (acting A ρ) 0 (length A) (λ e κ k. rw add-zero (read_at e κ k (side (e + length A) k))) d d y (omega arith) p t

    -- no argument fills another variable then
    meets_variable : (d : ℕ) (κ : Kind) (k : ℕ) → meets A d (variable κ k) ≡ below d k true (fits_kind κ A)
    unfolding meets variable
    meets_variable d value k = refl
    meets_variable d stack k = and_true (below d k true (fits_kind stack A))

    meets_high : (d y : ℕ) (κ : Kind) (j : ℕ) → y ≡ d + length A → below d (j + y) true (fits_kind κ A) ≡ true
    meets_high d y κ j p =
        let q : j + y ≡ (j + length A) + d = omega arith in
        rw q (below_ge d (j + length A) true (fits_kind κ A) ∙ fits_past κ A (j + length A) (omega arith))

    meets_at : (d y : ℕ) (κ : Kind) (k : ℕ) → y ≡ d + length A → Side y k → meets A d (acting [] ρ y κ k) ≡ below d k true (fits_kind κ A)
    meets_at d y κ k p (lo h) = ap (meets A d) (acting_low ρ y κ k h) ∙ meets_variable d κ k
    meets_at d y κ k p (hi j q) = rw (q, acting_high ρ y κ j) (meets_variable d κ (ρ j + y) ∙ meets_high d y κ (ρ j) p ∙ sym (meets_high d y κ j p))

    pub meets_read : (d y : ℕ) → y ≡ d + length A → {κ : Kind} (t : Ty κ) → meets A d (walk (acting [] ρ) y t) ≡ meets A d t
    unfolding walk meets
    meets_read d y p int = refl
    meets_read d y p junk = refl
    meets_read d y p (var k) = meets_at d y value k p (side y k)
    meets_read d y p (tuple a) = meets_read d y p a
    meets_read d y p (pointer a) = meets_read d y p a
    meets_read d y p (hidden t) = meets_read (suc d) (suc y) (omega arith) t
    meets_read d y p (code q a r) = ap₂ ◌&&◌ (meets_read (length q + d) (length q + y) (omega arith) a) (meets_read (length q + d) (length q + y) (omega arith) r)
    meets_read d y p nil = refl
    meets_read d y p (push t a) = ap₂ ◌&&◌ (meets_read d y p t) (meets_read d y p a)
    meets_read d y p (svar k a) = meets_join A d (acting [] ρ y stack k) (walk (acting [] ρ) y a) ∙ ap₂ ◌&&◌ (meets_at d y stack k p (side y k)) (meets_read d y p a)
    meets_read d y p (gap a) = meets_read d y p a

-- ---- the filled type against another
full_is : (u t : Ty value) (b : Bool) → is_full u (guarded b t) ≡ same t u && b
unfolding is_full
full_is u t true = same_sym u t ∙ sym (and_true (same t u))
full_is u t false = sym (and_false (same t u))

take_letters : (ps : List ℕ) (p n k : ℕ) → k ≤ n → take k (letters_from ps p n) ≡ letters_from ps p k
unfolding letters_from span
take_letters ps p n zero h = refl
take_letters ps p zero (suc k) h = absurd (not-suc-le-zero h)
take_letters ps p (suc n) (suc k) h = ap (◌∷◌ (letter_of (get_or ps p 0))) (take_letters ps (suc p) n k (omega arith))

-- the code type of row l, under ρ
module _ (τ : RowTable) (ρ : ℕ → ℕ) (l x p a : ℕ) (f : a ≡ get_or τ.parts (p + 8) 0) where
  read_letters : walk (acting [] ρ) 0 (code_of τ l x p) ≡ code (letters_from τ.parts (p + 9) a) (walk (acting [] ρ) a (mean_s τ x)) (walk (acting [] ρ) a (parts_of (mean_v τ) τ.parts true l p 8))
  unfolding code_of walk
  read_letters = rw (letters_at_lem τ p a f, length_letters τ.parts (p + 9) a, add-zero a) refl

module _ (τ : RowTable) (args : List ℕ) (ρ : ℕ → ℕ) (l r x p y q m a b : ℕ) (u : m ≡ length args) (f : a ≡ get_or τ.parts (p + 8) 0) (g : b ≡ get_or τ.parts (q + 8) 0) where
  abbrev A : List Arg
  A = args_of τ args m

  abbrev S : Ty stack
  S = walk (acting [] ρ) a (mean_s τ x)

  abbrev T : Ty stack
  T = walk (acting [] ρ) a (parts_of (mean_v τ) τ.parts true l p 8)

  shape : fill_codes τ args ρ l x p r y q
      ≡ leb m a && is_full (code_of τ r y q) (guarded (meets A (a - m) S && meets A (a - m) T) (code (letters_from τ.parts (p + 9) (a - m)) (fill (a - m) A S) (fill (a - m) A T)))
  unfolding fill_codes fills_to filled
  shape =
      rw (← u, read_letters τ ρ l x p a f, length_args τ args m, length_letters τ.parts (p + 9) a, take_letters τ.parts (p + 9) a (a - m) (omega arith), length_letters τ.parts (p + 9) (a - m)) refl

  -- what is compared, by parts
  code_parts : m ≤ a → same (code (letters_from τ.parts (p + 9) (a - m)) (fill (a - m) A S) (fill (a - m) A T)) (code_of τ r y q)
      ≡ same_letters (letters_from τ.parts (p + 9) (a - m)) (letters_from τ.parts (q + 9) b)
      && (same (stack_under τ A ρ (a - m) x) (mean_s τ y) && same (parts_under τ A ρ (a - m) true l p 8) (parts_of (mean_v τ) τ.parts true r q 8))
  unfolding same code_of stack_under parts_under
  code_parts h =
      let k : a ≡ (a - m) + length A = let z = length_args τ args m in omega arith in
      rw (letters_at_lem τ q b g, fill_read ρ A (a - m) a k (mean_s τ x), fill_read ρ A (a - m) a k (parts_of (mean_v τ) τ.parts true l p 8)) refl

  codes_fill : m ≤ a → fill_codes τ args ρ l x p r y q
      ≡ (same_letters (letters_from τ.parts (p + 9) (a - m)) (letters_from τ.parts (q + 9) b)
      && (same (stack_under τ A ρ (a - m) x) (mean_s τ y) && same (parts_under τ A ρ (a - m) true l p 8) (parts_of (mean_v τ) τ.parts true r q 8)))
      && (meets A (a - m) (mean_s τ x) && meets A (a - m) (parts_of (mean_v τ) τ.parts true l p 8))
  codes_fill h =
      let k : a ≡ (a - m) + length A = let z = length_args τ args m in omega arith in
      let M : Bool = meets A (a - m) S && meets A (a - m) T in
      let t : Ty value = code (letters_from τ.parts (p + 9) (a - m)) (fill (a - m) A S) (fill (a - m) A T) in
      shape ∙ rw (le-leb m a h) (full_is (code_of τ r y q) t M ∙ ap₂ ◌&&◌ (code_parts h) (ap₂ ◌&&◌ (meets_read ρ A (a - m) a k (mean_s τ x)) (meets_read ρ A (a - m) a k (parts_of (mean_v τ) τ.parts true l p 8))))

  pub f_many : a < m → false ≡ fill_codes τ args ρ l x p r y q
  f_many h = rw (shape, lt-leb m a h) refl

  pub f_off : {s : Bool} → m ≤ a → s ≡ same_letters (letters_from τ.parts (p + 9) (a - m)) (letters_from τ.parts (q + 9) b) → s ≡ false → false ≡ fill_codes τ args ρ l x p r y q
  f_off h i j = rw (codes_fill h, ← i, j) refl

  -- the right one is read now
  pub f_on : {ρ₂ ρ₃ : ℕ → ℕ} {s : Bool} → ρ₂ ≡ lift 0 → ρ₃ ≡ lift 0 → m ≤ a → s ≡ same_letters (letters_from τ.parts (p + 9) (a - m)) (letters_from τ.parts (q + 9) b) → s ≡ true
      → same_stacks τ A ρ (a - m) x ρ₂ b y && fit_parts τ A ρ (a - m) true l p ρ₃ b r q 8 ≡ fill_codes τ args ρ l x p r y q
  unfolding same_stacks fit_parts
  f_on v w h i j =
      rw (codes_fill h, ← i, j, v, w, plain_stack τ b y, plain_parts τ b true r q 8)
      (sym (and_swap (same (stack_under τ A ρ (a - m) x) (mean_s τ y)) (same (parts_under τ A ρ (a - m) true l p 8) (parts_of (mean_v τ) τ.parts true r q 8)) (meets A (a - m) (mean_s τ x)) (meets A (a - m) (parts_of (mean_v τ) τ.parts true l p 8))))

-- ---- rows that are no code rows
abbrev pub NoCode : Val → Type 0
NoCode n = (x p : ℕ) → n ≡ Code x p → ⊥

module _ (τ : RowTable) (A : List Arg) (E : List ℕ) (e : ℕ) where
  other_left : (l : ℕ) (u : Ty value) (n : Val) → OkV 0 l n → NoCode n → false ≡ fills_to A (read_in E e (type_v τ [] (lift 0) 0 l n)) u
  unfolding fills_to read_in walk
  other_left l u Int o k = refl
  other_left l u Junk o k = refl
  other_left l u (ValVar i) o k = sym (ap (λ z. fills_to A z u) (read_var E e i))
  other_left l u (ValFill h) o k = absurd (not-suc-le-zero o)
  other_left l u (Tuple p c) o k = refl
  other_left l u (Pointer x) o k = refl
  other_left l u (Code x p) o k = absurd (k x p refl)
  other_left l u (Hidden x) o k = refl

  -- a code type is no other type
  code_not : (q : List Kind) (a s : Ty stack) (u : Ty value) → ((k : List Kind) (b c : Ty stack) → same (code k b c) u ≡ false) → false ≡ fills_to A (code q a s) u
  unfolding fills_to filled
  code_not q a s u h =
      let k : List Kind = take (length q - length A) q in
      sym (ap (λ z. leb (length A) (length q) && z) (full_is u (code k (fill (length k) A a) (fill (length k) A s)) (meets A (length k) a && meets A (length k) s) ∙ ap (λ z. z && (meets A (length k) a && meets A (length k) s)) (h k (fill (length k) A a) (fill (length k) A s)))
      ∙ and_false (leb (length A) (length q)))

  other_right : (q : List Kind) (a s : Ty stack) (r : ℕ) (w : Val) → OkV 0 r w → NoCode w → false ≡ fills_to A (code q a s) (type_v τ [] (lift 0) 0 r w)
  unfolding same
  other_right q a s r Int o k = code_not q a s int (λ k b c. refl)
  other_right q a s r Junk o k = code_not q a s junk (λ k b c. refl)
  other_right q a s r (ValVar i) o k = code_not q a s (var i) (λ k b c. refl)
  other_right q a s r (ValFill h) o k = absurd (not-suc-le-zero o)
  other_right q a s r (Tuple p c) o k = code_not q a s (tuple (parts_under τ [] (lift 0) 0 false r p c)) (λ k b c. refl)
  other_right q a s r (Pointer x) o k = code_not q a s (pointer (stack_under τ [] (lift 0) 0 x)) (λ k b c. refl)
  other_right q a s r (Code x p) o k = absurd (k x p refl)
  other_right q a s r (Hidden x) o k = code_not q a s (hidden (value_under τ [] (lift 0) 1 x)) (λ k b c. refl)

-- ---- the form n of row l
module _ (τ : RowTable) (l : ℕ) {n : Val} (f : n ≡ value_at τ.rows (place_v 0 (lift 0) 0) l) where
  form : mean_v τ l ≡ type_v τ [] (lift 0) 0 l n
  form = sym (plain_value τ 0 l) ∙ value_read τ [] (lift 0) 0 0 l refl f

  pub code_form_lem : {x p : ℕ} → n ≡ Code x p → mean_v τ l ≡ code_of τ l x p
  code_form_lem {x} {p} h = form ∙ ap (type_v τ [] (lift 0) 0 l) h ∙ plain_code τ 0 l x p

  module _ (A : List Arg) (E : List ℕ) (e : ℕ) where
    pub fill_left : (u : Ty value) → OkV 0 l n → NoCode n → false ≡ fills_to A (read_in E e (mean_v τ l)) u
    fill_left u o k = other_left τ A E e l u n o k ∙ ap (λ z. fills_to A (read_in E e z) u) (sym form)

    pub fill_right : (h x p : ℕ) {t : Ty value} → t ≡ code_of τ h x p → OkV 0 l n → NoCode n → false ≡ fills_to A (read_in E e t) (mean_v τ l)
    unfolding read_in
    fill_right h x p g o k =
        other_right τ A E e (letters_from τ.parts (p + 9) (get_or τ.parts (p + 8) 0)) _ _ l n o k ∙ ap₂ (fills_to A) (sym (ap (read_in E e) g ∙ read_letters τ (var_in E e) h x p (get_or τ.parts (p + 8) 0) refl)) (sym form)

-- what a code row names
pub code_low : (l : ℕ) {n : Val} {x p : ℕ} → n ≡ Code x p → OkV 0 l n → (x < l) × (p ≤ 65535)
code_low l e o = rw e at o

-- ---- the rows args of n rows
span_cons : (x : ℕ) (l : List ℕ) (i n : ℕ) → span (x ∷ l) (suc i) n ≡ span l i n
unfolding span
span_cons x l i zero = refl
span_cons x l i (suc n) = ap (◌∷◌ (get_or l i 0)) (span_cons x l (suc i) n)

span_all : (l : List ℕ) → span l 0 (length l) ≡ l
unfolding span
span_all [] = refl
span_all (x ∷ l) = ap (◌∷◌ x) (span_cons x l 0 (length l) ∙ span_all l)

below_at : (n : ℕ) (l : List ℕ) (j : ℕ) → all_below n l ≡ true → j < length l → get_or l j 0 < n
unfolding all_below
below_at n [] j e h = absurd (not-suc-le-zero h)
below_at n (x ∷ l) zero e h = ltb-true x n (and_inv (ltb x n) (all_below n l) e).0
below_at n (x ∷ l) (suc j) e h = below_at n l j (and_inv (ltb x n) (all_below n l) e).1 (omega arith)

module _ (τ : RowTable) (n : ℕ) where
  map_args : (l : List ℕ) → all_below n l ≡ true → map (λ (x : ℕ). get_or (types_of (rows_in τ n)) x no_arg) l ≡ map (arg_of τ) l
  unfolding all_below
  map_args [] e = refl
  map_args (x ∷ l) e =
      let h = and_inv (ltb x n) (all_below n l) e in
      ap₂ ◌∷◌ (arg_at τ n x (ltb-true x n h.0)) (map_args l h.1)

  args_are : (args : List ℕ) → all_below n args ≡ true → map (λ (x : ℕ). get_or (types_of (rows_in τ n)) x no_arg) args ≡ args_of τ args (length args)
  unfolding args_of
  args_are args e = map_args args e ∙ ap (map (arg_of τ)) (sym (span_all args))

  pub tabled_args : (args : List ℕ) (l r c t : ℕ) → n ≤ 514 → all_below n args ≡ true → l ≡ lower (n + 1) c → r ≡ lower (n + 1) t → Tabled τ args (length args) l r
  tabled_args args l r c t k e f g = record { top = n; few = k; left = link_few τ args n l c f; right = link_few τ args n r t g; given = λ j h. below_at n args j e h }

  pub spare_args : (args : List ℕ) (l r c t : ℕ) → n ≤ 514 → l ≡ lower (n + 1) c → r ≡ lower (n + 1) t → Spare (length args) l r 1543
  spare_args args l r c t k f g =
      let a = link_few τ args n l c f in
      let b = link_few τ args n r t g in
      let d = room_most (length args) in
      (omega arith, omega arith)

  -- one argument, row a
  pub tabled_one : (given : List ℕ) (a l r c t : ℕ) → n ≤ 514 → a < n → get_or given 0 0 ≡ a → l ≡ lower (n + 1) c → r ≡ lower (n + 1) t → Tabled τ given 1 l r
  tabled_one given a l r c t k b e f g =
      record { top = n; few = k; left = link_few τ given n l c f; right = link_few τ given n r t g; given = λ j h. let z : j ≡ 0 = omega arith in rw (z, e) b }

  pub spare_one : (l r c t : ℕ) → n ≤ 514 → l ≡ lower (n + 1) c → r ≡ lower (n + 1) t → Spare 1 l r 1543
  spare_one l r c t k f g = let a = link_few τ [] n l c f in let b = link_few τ [] n r t g in (omega arith, omega arith)

  pub fill_types : (args E : List ℕ) (i l r c t : ℕ) {o : Bool} → all_below n args ≡ true → l ≡ lower (n + 1) c → r ≡ lower (n + 1) t → o ≡ fills_to (args_of τ args (length args)) (read_in E i (mean_v τ l)) (mean_v τ r)
      → o ≡ fills_to (map (λ (x : ℕ). get_or (types_of (rows_in τ n)) x no_arg) args) (read_in E i (type_at value (types_of (rows_in τ n)) c)) (type_at value (types_of (rows_in τ n)) t)
  fill_types args E i l r c t e f g h = h ∙ rw (args_are args e, link_type τ args n value l c f, link_type τ args n value r t g) refl

-- two code rows by their parts
pub codes_of : (τ : RowTable) (args E : List ℕ) (e l r x p y q : ℕ) {o : Bool} {t u : Ty value} → e ≤ 65535 → t ≡ code_of τ l x p → u ≡ code_of τ r y q → o ≡ fill_codes τ args (shifted E e 0) l x p r y q → o ≡ fills_to (args_of τ args (length args)) (read_in E e t) u
unfolding fill_codes read_in
codes_of τ args E e l r x p y q k f g h = h ∙ ap (λ (ρ : ℕ → ℕ). fills_to (args_of τ args (length args)) (walk (acting [] ρ) 0 (code_of τ l x p)) (code_of τ r y q)) (shifted_plain E e k) ∙ ap₂ (λ z w. fills_to (args_of τ args (length args)) (read_in E e z) w) (sym f) (sym g)

-- a closed row that is a code row
pub closed_code : (τ : RowTable) (args : List ℕ) (n c l x p : ℕ) {b : Bool} → l ≡ lower (n + 1) c → mean_v τ l ≡ code_of τ l x p → (b ≡ true → Wf [] a_stack (type_at value (types_of (rows_in τ n)) c)) → b ≡ true → Wf [] a_stack (code_of τ l x p)
closed_code τ args n c l x p e f h t = subst (λ (z : Ty value). Wf [] a_stack z) (link_type τ args n value l c e ∙ f) (h t)

-- ---- the inside of a package, filled by row a
pub packs_are : (τ : RowTable) (given E : List ℕ) (n x e a l r t i : ℕ) {o : Bool} → e ≤ 65535 → get_or given 0 0 ≡ a → a < n → x ≡ 2 * length E → l ≡ lower (n + 1) t → r ≡ lower (n + 1) i
    → o ≡ fit_values τ (args_of τ given 1) (shifted E x 0) 0 l (shifted E e 0) 0 r → o ≡ packs_to (get_or (types_of (rows_in τ n)) a no_arg) (type_at value (types_of (rows_in τ n)) t) (read_in E e (type_at value (types_of (rows_in τ n)) i))
unfolding fit_values value_under packs_to read_in args_of span
packs_are τ given E n x e a l r t i k g b w f h q =
    q
    ∙ rw (g, now_lift E x 0 w, shifted_plain E e k, link_type τ given n value l t f, link_type τ given n value r i h, arg_at τ n a b, fill_walk (arg_of τ a ∷ []) 0 (mean_v τ l))
    refl
