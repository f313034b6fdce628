-- Laws of the variables of one row.
use Prim.Native.Nat.{ℕ, zero, suc, ◌+◌, ◌-◌, ◌*◌, ◌<◌, ◌≤◌}
use native.Mathlib.Nat.{zero-add, add-zero, add-suc, suc-add, sub-zero, not-suc-le-zero, le_of_suc-le-suc}
use native.Mathlib.Numerals.{add-one}
use native.Mathlib.Omega.{arith}
use mathlib.Core.Path.{◌≡◌, refl, ap, ap₂, sym, ◌∙◌}
use mathlib.Core.Bool.{Bool, true, false, ◌&&◌, cond}
use mathlib.Core.Option.{Option, none, some}
use mathlib.Core.List.{List, ◌∷◌, ◌++◌, map, reverse-reverse}
use lib.Dec.{eqb}
use Rattle.std.specs.Prelude.{Option as Maybe, Some, None}
use Rattle.std.specs.Option.{SomeIff}
use Rattle.std.specs.List.{list_all, range_with_len}
use lib.ListN.{length, get_or, get_elem?, replicate, length-map, length-reverse}
use borrow.Author.Tests.{eq-eqb, ne_eqb, lt-ltb, le-ltb, eqb-true, eqb-false}
use Rattle.syntax.specs.Syntax.{Kind, value, Row, row_k, row_a}
use Rattle.tables.specs.Tables.{span, letter_of, known_of, letters_at, code_row_at, row_from}
use Rattle.valid_scope.specs.Letters.{letters_of}
use Rattle.valid_scope.specs.declared.BlockLetters.{BlockLetters}
use Rattle.valid_scope.specs.variables.Free.{both, use_of, fits, fit_to}
use Rattle.valid_scope.specs.variables.Uses.{parts_at, row_named, use_at, part_use, parts_use, code_use, row_use, respected_at, part_respected, parts_respected, row_respected}
use Rattle.valid_scope.proofs.variables.WellFormed.{fits_unused}

-- ---- tests
and-true : (a : Bool) → a && true ≡ a
and-true true = refl
and-true false = refl

and-assoc : (a b c : Bool) → (a && b) && c ≡ a && (b && c)
and-assoc true b c = refl
and-assoc false b c = refl

false_beside : (a b : Bool) → false ≡ (a && false) && b
false_beside true b = refl
false_beside false b = refl

-- ---- one use beside another
pub both_right : (u w : ℕ) → w ≡ 0 → u ≡ both u w
unfolding both
both_right u w e = go (eqb u 0) refl
  where
    go : (b : Bool) → eqb u 0 ≡ b → u ≡ cond b w (cond (eqb w 0) u (cond (eqb u w) u 3))
    go true q = eqb-true u 0 q ∙ sym e
    go false q = rw (eq-eqb w 0 e) refl

-- ---- one entry
pub use_past : (uses : List ℕ) (k t : ℕ) → 64 ≤ k → 0 ≡ use_at uses k t
unfolding use_at
use_past uses k t h = rw (le-ltb k 64 h)

pub use_in : (uses : List ℕ) (k t : ℕ) → k < 64 → get_or uses (64 * t + k) 0 ≡ use_at uses k t
unfolding use_at
use_in uses k t h = rw (lt-ltb k 64 h)

-- ---- parts
components_at : (ps : List ℕ) (p n : ℕ) → parts_at ps p n 1 ≡ map some (span ps p n)
unfolding parts_at span known_of
components_at ps p zero = refl
components_at ps p (suc n) = ap₂ (λ (x : Option ℕ) (l : List (Option ℕ)). x ∷ l) (ap known_of (add-one (get_or ps p 0))) (components_at ps (suc p) n)

registers_at : (ps : List ℕ) (p n : ℕ) → parts_at ps p n 0 ≡ map known_of (span ps p n)
unfolding parts_at span
registers_at ps p zero = refl
registers_at ps p (suc n) = ap₂ (λ (x : Option ℕ) (l : List (Option ℕ)). x ∷ l) (ap known_of (add-zero (get_or ps p 0))) (registers_at ps (suc p) n)

-- the row that a part names
pub named_by : (o : Maybe ℕ) (n : ℕ) {x : ℕ} → SomeIff o (1 ≤ n) (n - 1) → n ≡ x → row_named o ≡ known_of x
unfolding known_of
named_by None zero s e = ap known_of e
named_by None (suc n) s e = absurd (s (omega arith))
named_by (Some t) zero s e = absurd (omega (arith, s.0))
named_by (Some t) (suc n) s e = let q : t ≡ n = omega (arith, s.1) in ap some q ∙ ap known_of e

pub named_low : (o : Maybe ℕ) (n : ℕ) → SomeIff o (1 ≤ n) (n - 1) → n ≤ 65536 → (t : ℕ) → o ≡ Some t → t ≤ 65535
named_low None n s l t e = absurd (cc)
named_low (Some u) n s l t e = let q : u ≡ t = cc in omega (arith, s.1)

pub part_none : (uses : List ℕ) (k : ℕ) {o : Maybe ℕ} {p : Option ℕ} → o ≡ None → row_named o ≡ p → 0 ≡ part_use uses k p
unfolding part_use
part_none uses k e f = ap (part_use uses k) (ap row_named (sym e) ∙ f)

pub part_some : (uses : List ℕ) (k : ℕ) {o : Maybe ℕ} {p : Option ℕ} {t u : ℕ} → o ≡ Some t → row_named o ≡ p → u ≡ use_at uses k t → u ≡ part_use uses k p
unfolding part_use
part_some uses k e f g = g ∙ ap (part_use uses k) (ap row_named (sym e) ∙ f)

-- the parts from i on: none, one more in front, all
pub parts_none : (uses ps : List ℕ) (p n off k i : ℕ) → n ≤ i → 0 ≡ parts_use uses k (parts_at ps p (n - i) off)
unfolding parts_use parts_at span
parts_none uses ps p n off k i h = let e : n - i ≡ 0 = omega arith in rw e

pub parts_more : (uses ps : List ℕ) (p n off k i : ℕ) {u v w : ℕ} → 0 < i → i ≤ n → u ≡ parts_use uses k (parts_at ps (p + i) (n - i) off) → w ≡ part_use uses k (known_of (get_or ps (p + (i - 1)) 0 + off)) → v ≡ both w u → v ≡ parts_use uses k (parts_at ps (p + (i - 1)) (n - (i - 1)) off)
unfolding parts_use parts_at span
parts_more uses ps p n off k i z l d e f =
    let g : n - (i - 1) ≡ suc (n - i) = omega arith in
    let h : suc (p + (i - 1)) ≡ p + i = omega arith in
    f ∙ rw (e, d, g, h)

pub parts_all : (uses ps : List ℕ) (p n off k i : ℕ) {u : ℕ} → i ≤ 0 → u ≡ parts_use uses k (parts_at ps (p + i) (n - i) off) → u ≡ parts_use uses k (parts_at ps p n off)
parts_all uses ps p n off k i l e = let z : i ≡ 0 = omega arith in e ∙ rw (z, add-zero, sub-zero)

pub respected_none : (tops : List ℕ) {o : Maybe ℕ} {p : Option ℕ} → o ≡ None → row_named o ≡ p → true ≡ part_respected tops p
unfolding part_respected
respected_none tops e f = ap (part_respected tops) (ap row_named (sym e) ∙ f)

pub respected_some : (tops : List ℕ) {o : Maybe ℕ} {p : Option ℕ} {t : ℕ} {b : Bool} → o ≡ Some t → row_named o ≡ p → b ≡ respected_at tops t → b ≡ part_respected tops p
unfolding part_respected
respected_some tops e f g = g ∙ ap (part_respected tops) (ap row_named (sym e) ∙ f)

respected_from : (tops ps : List ℕ) (p off i n : ℕ) → list_all (λ j. part_respected tops (known_of (get_or ps (p + j) 0 + off))) (range_with_len i n) ≡ parts_respected tops (parts_at ps (p + i) n off)
unfolding parts_respected parts_at span
respected_from tops ps p off i zero = refl
respected_from tops ps p off i (suc n) =
    let e : p + (i + 1) ≡ suc (p + i) = omega arith in
    ap (λ b. part_respected tops (known_of (get_or ps (p + i) 0 + off)) && b) (respected_from tops ps p off (i + 1) n ∙ ap (λ j. parts_respected tops (parts_at ps j n off)) e)

pub respected_all : (tops ps : List ℕ) (p n off : ℕ) → list_all (λ j. part_respected tops (known_of (get_or ps (p + j) 0 + off))) (range_with_len 0 n) ≡ parts_respected tops (parts_at ps p n off)
respected_all tops ps p n off = respected_from tops ps p off 0 n ∙ ap (λ j. parts_respected tops (parts_at ps j n off)) (add-zero p)

-- ---- letters
pub letter_v : (x : ℕ) → x ≡ 0 → 1 ≡ use_of (letter_of x)
unfolding use_of letter_of
letter_v x e = rw e

pub letter_s : (x : ℕ) → (x ≡ 0 → ⊥) → 2 ≡ use_of (letter_of x)
unfolding use_of letter_of
letter_s zero h = absurd (h refl)
letter_s (suc x) h = refl

letter_in : (ps : List ℕ) (l q k : ℕ) → k < q → get_elem? (map letter_of (span ps l q)) k ≡ some (letter_of (get_or ps (l + k) 0))
unfolding span
letter_in ps l zero k h = absurd (not-suc-le-zero h)
letter_in ps l (suc q) zero h = ap (λ i. some (letter_of (get_or ps i 0))) (sym (add-zero l))
letter_in ps l (suc q) (suc k) h = letter_in ps (suc l) q k (le_of_suc-le-suc h) ∙ ap (λ i. some (letter_of (get_or ps i 0))) (suc-add l k ∙ sym (add-suc l k))

letter_past : (ps : List ℕ) (l q k : ℕ) → q ≤ k → get_elem? (map letter_of (span ps l q)) k ≡ none
unfolding span
letter_past ps l zero k h = refl
letter_past ps l (suc q) zero h = absurd (not-suc-le-zero h)
letter_past ps l (suc q) (suc k) h = letter_past ps (suc l) q k (le_of_suc-le-suc h)

pub bound_unused : (u : ℕ) (o : Option Kind) → u ≡ 0 → true ≡ fits u o
bound_unused u o e = rw (e, fits_unused)

pub bound_past : (ps : List ℕ) (u k q l : ℕ) → (u ≡ 0 → ⊥) → q ≤ k → false ≡ fits u (get_elem? (map letter_of (span ps l q)) k)
unfolding fits
bound_past ps u k q l n h = rw (letter_past ps l q k h, ne_eqb u 0 n)

pub bound_in : (ps : List ℕ) (u k q l : ℕ) {m x : ℕ} → (u ≡ 0 → ⊥) → k < q → x ≡ get_or ps (l + k) 0 → m ≡ use_of (letter_of x) → eqb u m ≡ fits u (get_elem? (map letter_of (span ps l q)) k)
unfolding fits
bound_in ps u k q l n h e f = rw (letter_in ps l q k h, ne_eqb u 0 n, f, e)

pub fits_value : (u : ℕ) → (u ≡ 0 → ⊥) → eqb u 1 ≡ fits u (some value)
unfolding fits use_of
fits_value u n = rw (ne_eqb u 0 n)

-- the hidden variables, then the block's letters
hidden_letter : (h k : ℕ) (Δ : List Kind) → k < h → get_elem? (replicate h value ++ Δ) k ≡ some value
hidden_letter zero k Δ l = absurd (not-suc-le-zero l)
hidden_letter (suc h) zero Δ l = refl
hidden_letter (suc h) (suc k) Δ l = hidden_letter h k Δ (le_of_suc-le-suc l)

block_letter : (h k : ℕ) (Δ : List Kind) → h ≤ k → get_elem? (replicate h value ++ Δ) k ≡ get_elem? Δ (k - h)
block_letter zero k Δ l = ap (get_elem? Δ) (sym (sub-zero k))
block_letter (suc h) zero Δ l = absurd (not-suc-le-zero l)
block_letter (suc h) (suc k) Δ l = let e : k - h ≡ suc k - suc h = omega arith in block_letter h k Δ (le_of_suc-le-suc l) ∙ ap (get_elem? Δ) e

module _ (ps : List ℕ) (w : BlockLetters) (u k : ℕ) {x : Bool} where
  pub in_hidden : k < w.hidden → x ≡ fits u (some value) → x ≡ fits u (get_elem? (letters_of ps w) k)
  in_hidden l e = e ∙ ap (fits u) (sym (hidden_letter w.hidden k (map letter_of (span ps w.start w.count)) l))

  pub in_letters : w.hidden ≤ k → x ≡ fits u (get_elem? (map letter_of (span ps w.start w.count)) (k - w.hidden)) → x ≡ fits u (get_elem? (letters_of ps w) k)
  in_letters l e = e ∙ ap (fits u) (sym (block_letter w.hidden k (map letter_of (span ps w.start w.count)) l))

-- the variables below n
module _ (Δ : List Kind) (f : ℕ → ℕ) where
  fit_none : fit_to Δ f 0 ≡ true
  unfolding fit_to
  fit_none = refl

  pub fit_every : (n : ℕ) → ((k : ℕ) → fits (f k) (get_elem? Δ k) ≡ true) → fit_to Δ f n ≡ true
  unfolding fit_to
  fit_every zero h = refl
  fit_every (suc n) h = rw (fit_every n h, h n) refl

  fit_from : (i n : ℕ) → fit_to Δ f i && list_all (λ k. fits (f k) (get_elem? Δ k)) (range_with_len i n) ≡ fit_to Δ f (n + i)
  unfolding fit_to
  fit_from i zero = and-true (fit_to Δ f i) ∙ ap (fit_to Δ f) (sym (zero-add i))
  fit_from i (suc n) =
      let e : i + 1 ≡ suc i = omega arith in
      let g : n + suc i ≡ suc n + i = omega arith in
      sym (and-assoc (fit_to Δ f i) (fits (f i) (get_elem? Δ i)) (list_all (λ k. fits (f k) (get_elem? Δ k)) (range_with_len (i + 1) n)))
      ∙ ap (λ j. fit_to Δ f (suc i) && list_all (λ k. fits (f k) (get_elem? Δ k)) (range_with_len j n)) e
      ∙ fit_from (suc i) n
      ∙ ap (fit_to Δ f) g

  pub fit_all : (n : ℕ) → list_all (λ k. fits (f k) (get_elem? Δ k)) (range_with_len 0 n) ≡ fit_to Δ f n
  fit_all n = sym (ap (λ b. b && list_all (λ k. fits (f k) (get_elem? Δ k)) (range_with_len 0 n)) fit_none) ∙ fit_from 0 n ∙ ap (fit_to Δ f) (add-zero n)

-- the letters of a code row, of which there are q
pub letters_from : (ps : List ℕ) (p : ℕ) (f : ℕ → ℕ) {q : ℕ} {b : Bool} → q ≡ get_or ps (p + 8) 0 → b ≡ fit_to (map letter_of (span ps (p + 9) q)) f q → b ≡ fit_to (letters_at ps p) f (get_or ps (p + 8) 0)
unfolding letters_at
letters_from ps p f e h = rw e at h

span_length : (ps : List ℕ) (p n : ℕ) → length (span ps p n) ≡ n
unfolding span
span_length ps p zero = refl
span_length ps p (suc n) = ap suc (span_length ps (suc p) n)

letters_length : (ps : List ℕ) (p : ℕ) → length (letters_at ps p) ≡ get_or ps (p + 8) 0
unfolding letters_at
letters_length ps p = length-map (span ps (p + 9) (get_or ps (p + 8) 0)) letter_of ∙ span_length ps (p + 9) (get_or ps (p + 8) 0)

-- ---- a row of kind c with the numbers a and b: how variable k is free in it
-- what holds of K and of A rows holds of every kind past 8
two_rows : (ps : List ℕ) (c a b : ℕ) → 8 < c → (P : Row → Type 0) → P (row_k a b) → P (row_a a b) → P (row_from ps c a b)
unfolding row_from
two_rows ps c a b h P p q =
    rw (
      ne_eqb c 0 (λ e. omega arith),
      ne_eqb c 1 (λ e. omega arith),
      ne_eqb c 2 (λ e. omega arith),
      ne_eqb c 3 (λ e. omega arith),
      ne_eqb c 4 (λ e. omega arith),
      ne_eqb c 5 (λ e. omega arith),
      ne_eqb c 6 (λ e. omega arith),
      ne_eqb c 7 (λ e. omega arith),
      ne_eqb c 8 (λ e. omega arith),
    ) (go (eqb c 9))
  where
    go : (t : Bool) → P (cond t (row_k a b) (row_a a b))
    go true = p
    go false = q

module _ (uses ps : List ℕ) (c a b k : ℕ) where
  pub use_value : {u : ℕ} → u ≡ cond (eqb a k) 1 0 → c ≡ 2 → u ≡ row_use uses k (row_from ps c a b)
  unfolding row_use row_from
  use_value h e = rw e h

  pub use_stack : {u : ℕ} → u ≡ cond (eqb a k) 2 0 → c ≡ 8 → u ≡ row_use uses k (row_from ps c a b)
  unfolding row_use row_from
  use_stack h e = rw e h

  pub use_tuple : {u : ℕ} → u ≡ parts_use uses k (parts_at ps a b 1) → c ≡ 3 → u ≡ row_use uses k (row_from ps c a b)
  unfolding row_use row_from
  use_tuple h e = rw e (h ∙ ap (parts_use uses k) (components_at ps a b))

  pub use_pointer : {u : ℕ} → u ≡ use_at uses k a → c ≡ 4 → u ≡ row_use uses k (row_from ps c a b)
  unfolding row_use row_from
  use_pointer h e = rw e h

  pub use_code : {u q : ℕ} → q ≡ get_or ps (b + 8) 0 → u ≡ code_use uses a (parts_at ps b 8 0) (q + k) → c ≡ 5 → u ≡ row_use uses k (row_from ps c a b)
  unfolding row_use row_from code_row_at
  use_code p h e = rw e (h ∙ rw (p, registers_at, length-reverse, letters_length))

  pub use_hidden : {u : ℕ} → u ≡ use_at uses (k + 1) a → c ≡ 6 → u ≡ row_use uses k (row_from ps c a b)
  unfolding row_use row_from
  use_hidden h e = rw e (h ∙ ap (λ j. use_at uses j a) (add-one k))

  pub use_two : {u v w : ℕ} → u ≡ both v w → v ≡ use_at uses k a → w ≡ use_at uses k b → 8 < c → u ≡ row_use uses k (row_from ps c a b)
  unfolding row_use
  use_two p q e h = p ∙ ap₂ both q e ∙ two_rows ps c a b h (λ r. both (use_at uses k a) (use_at uses k b) ≡ row_use uses k r) refl refl

pub use_leaf : (uses ps : List ℕ) (c a b k : ℕ) → (c ≡ 2 → ⊥) → (c ≡ 8 → ⊥) → (c ≡ 3 → ⊥) → (c ≡ 4 → ⊥) → (c ≡ 5 → ⊥) → (c ≡ 6 → ⊥) → c ≤ 8 → 0 ≡ row_use uses k (row_from ps c a b)
unfolding row_use row_from
use_leaf uses ps zero a b k x₂ x₈ x₃ x₄ x₅ x₆ h = refl
use_leaf uses ps (suc zero) a b k x₂ x₈ x₃ x₄ x₅ x₆ h = refl
use_leaf uses ps (suc (suc c)) a b k x₂ x₈ x₃ x₄ x₅ x₆ h = let e : suc (suc c) ≡ 7 = omega arith in rw e

-- ---- and whether each variable that is bound inside it is of its letter
module _ (uses tops ps : List ℕ) (s p : ℕ) where
  -- a code row: its stack, its registers, its own letters
  code_row : (respected_at tops s && parts_respected tops (parts_at ps p 8 0)) && fit_to (letters_at ps p) (code_use uses s (parts_at ps p 8 0)) (get_or ps (p + 8) 0) ≡ row_respected uses tops (code_row_at ps s p)
  unfolding row_respected code_row_at
  code_row = rw (registers_at, reverse-reverse, length-reverse, letters_length)

  pub code_stack : {x : Bool} → x ≡ respected_at tops s → x ≡ false → false ≡ row_respected uses tops (code_row_at ps s p)
  code_stack e t = rw (sym e ∙ t) at code_row

  pub code_registers : {y : Bool} → y ≡ parts_respected tops (parts_at ps p 8 0) → y ≡ false → false ≡ row_respected uses tops (code_row_at ps s p)
  code_registers e t = false_beside (respected_at tops s) (fit_to (letters_at ps p) (code_use uses s (parts_at ps p 8 0)) (get_or ps (p + 8) 0)) ∙ (rw (sym e ∙ t) at code_row)

  pub code_letters : {x y z : Bool} → x ≡ respected_at tops s → x ≡ true → y ≡ parts_respected tops (parts_at ps p 8 0) → y ≡ true → z ≡ fit_to (letters_at ps p) (code_use uses s (parts_at ps p 8 0)) (get_or ps (p + 8) 0) → z ≡ row_respected uses tops (code_row_at ps s p)
  code_letters e t f u g = g ∙ (rw (sym e ∙ t, sym f ∙ u) at code_row)

-- one test, then another
module _ {x p : Bool} (q : Bool) (e : x ≡ p) where
  pub two_first : x ≡ false → x ≡ p && q
  two_first t = t ∙ rw (sym e ∙ t)

  pub two_second : {y : Bool} → x ≡ true → y ≡ q → y ≡ p && q
  two_second t f = rw (sym e ∙ t) f

module _ (uses tops ps : List ℕ) (c a b : ℕ) where
  pub respected_tuple : {x : Bool} → x ≡ parts_respected tops (parts_at ps a b 1) → c ≡ 3 → x ≡ row_respected uses tops (row_from ps c a b)
  unfolding row_respected row_from
  respected_tuple h e = rw e (h ∙ ap (parts_respected tops) (components_at ps a b))

  pub respected_pointer : {x : Bool} → x ≡ respected_at tops a → c ≡ 4 → x ≡ row_respected uses tops (row_from ps c a b)
  unfolding row_respected row_from
  respected_pointer h e = rw e h

  pub respected_code : {x : Bool} → x ≡ row_respected uses tops (code_row_at ps a b) → c ≡ 5 → x ≡ row_respected uses tops (row_from ps c a b)
  unfolding row_from
  respected_code h e = rw e h

  pub respected_hidden : {x : Bool} → x ≡ respected_at tops a && fits (use_at uses 0 a) (some value) → c ≡ 6 → x ≡ row_respected uses tops (row_from ps c a b)
  unfolding row_respected row_from
  respected_hidden h e = rw e h

  pub respected_two : {x : Bool} → x ≡ respected_at tops a && respected_at tops b → 8 < c → x ≡ row_respected uses tops (row_from ps c a b)
  unfolding row_respected
  respected_two p h = p ∙ two_rows ps c a b h (λ r. respected_at tops a && respected_at tops b ≡ row_respected uses tops r) refl refl

pub respected_leaf : (uses tops ps : List ℕ) (c a b : ℕ) → (c ≡ 3 → ⊥) → (c ≡ 4 → ⊥) → (c ≡ 5 → ⊥) → (c ≡ 6 → ⊥) → c ≤ 8 → true ≡ row_respected uses tops (row_from ps c a b)
unfolding row_respected row_from
respected_leaf uses tops ps zero a b x₃ x₄ x₅ x₆ h = refl
respected_leaf uses tops ps (suc zero) a b x₃ x₄ x₅ x₆ h = refl
respected_leaf uses tops ps (suc (suc zero)) a b x₃ x₄ x₅ x₆ h = refl
respected_leaf uses tops ps (suc (suc (suc c))) a b x₃ x₄ x₅ x₆ h = go (eqb (suc (suc (suc c))) 7) refl
  where
    go : (t : Bool) → eqb (suc (suc (suc c))) 7 ≡ t → true ≡ row_respected uses tops (row_from ps (suc (suc (suc c))) a b)
    go true e = rw (eqb-true (suc (suc (suc c))) 7 e)
    go false e =
        let d = eqb-false (suc (suc (suc c))) 7 e in
        let q : suc (suc (suc c)) ≡ 8 = omega arith in
        rw q
