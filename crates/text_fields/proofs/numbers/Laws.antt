-- Laws of the numbers of a field.
-- Assumes nothing.
use Rattle.std.proofs.Common.{◌≡◌, ℕ, ◌+◌, ◌-◌, ◌*◌, ◌<◌, ◌≤◌, Bool, true, false, ◌&&◌, eqb, leb, List, [], ◌∷◌, length, get_or, take, drop, sym, refl, ap, ◌∙◌, le_trans, le_refl, add-one, arith, length-drop, take_all, drop-cons, ne_eqb, eqb-true, le-leb, leb-false, leb-true}
use Rattle.std.specs.Char.{is_ascii_digit}
use mathlib.Core.Bool.{false≢true}
use mathlib.Core.Option.{Option, none, some, none-ne-some, some-injective}
use borrow.Author.Tests.{lt-leb, eqb-false}
use Rattle.syntax.specs.Bits.{modulus, half}
use Rattle.syntax.specs.Partial.{chain, guarded}
use Rattle.text.specs.Bytes.{is_digit, all_digits, is_decimal, spelled, number, literal}
use Rattle.text.specs.Grammar.{register}
use Rattle.text_fields.specs.numbers.Numbers.{with_digit, up_to, zero_led}

and_true : (b : Bool) → (b && true) ≡ b
and_true true = refl
and_true false = refl

and_false : (b : Bool) → (b && false) ≡ false
and_false true = refl
and_false false = refl

-- ---- digits
module _ (high n b : ℕ) where
  pub digit_none : is_ascii_digit b ≡ false → none ≡ with_digit high n b
  unfolding with_digit is_digit
  digit_none e = simp e

  pub digit_over : is_ascii_digit b ≡ true → high < n * 10 + (b - 48) → none ≡ with_digit high n b
  unfolding with_digit is_digit
  digit_over e h = simp (e, lt-leb (n * 10 + (b - 48)) high h)

  pub digit_some : is_ascii_digit b ≡ true → n * 10 + (b - 48) ≤ high → some (n * 10 + (b - 48)) ≡ with_digit high n b
  unfolding with_digit is_digit
  digit_some e h = simp (e, le-leb (n * 10 + (b - 48)) high h)

spelled_grows : (s : List ℕ) (n : ℕ) → n ≤ spelled n s
unfolding spelled
spelled_grows [] n = le_refl n
spelled_grows (b ∷ s) n = le_trans (omega arith) (spelled_grows s (n * 10 + (b - 48)))

too_high : (high n : ℕ) (s : List ℕ) → high < n → up_to high n s ≡ none
unfolding up_to
too_high high n s h =
    let q : high < spelled n s = omega (arith, spelled_grows s n) in
    simp (lt-leb (spelled n s) high q, and_false)

pub digit_from : (high n b m : ℕ) → some m ≡ with_digit high n b → 48 ≤ b
unfolding with_digit is_digit
digit_from high n b m h = go (leb 48 b) refl h
  where
    go : (x : Bool) → leb 48 b ≡ x → some m ≡ guarded ((x && leb b 57) && leb (n * 10 + (b - 48)) high) (n * 10 + (b - 48)) → 48 ≤ b
    go true p e = leb-true 48 b p
    go false p e = absurd (none-ne-some m (sym e))

-- what one byte more does
module _ (high n b : ℕ) (s : List ℕ) where
  pub up_none : none ≡ with_digit high n b → up_to high n (b ∷ s) ≡ none
  unfolding with_digit up_to all_digits spelled
  up_none h = go (is_digit b) (leb (n * 10 + (b - 48)) high) refl refl h
    where
      go : (x y : Bool) → is_digit b ≡ x → leb (n * 10 + (b - 48)) high ≡ y → none ≡ guarded (x && y) (n * 10 + (b - 48)) → up_to high n (b ∷ s) ≡ none
      go false y p q e = simp p
      go true false p q e = simp p (too_high high (n * 10 + (b - 48)) s (leb-false (n * 10 + (b - 48)) high q))
      go true true p q e = absurd (none-ne-some (n * 10 + (b - 48)) e)

  pub up_some : (m : ℕ) → some m ≡ with_digit high n b → (m ≤ high) × (up_to high n (b ∷ s) ≡ up_to high m s)
  unfolding with_digit up_to all_digits spelled
  up_some m h = go (is_digit b) (leb (n * 10 + (b - 48)) high) refl refl h
    where
      go : (x y : Bool) → is_digit b ≡ x → leb (n * 10 + (b - 48)) high ≡ y → some m ≡ guarded (x && y) (n * 10 + (b - 48)) → (m ≤ high) × (up_to high n (b ∷ s) ≡ up_to high m s)
      go false y p q e = absurd (none-ne-some m (sym e))
      go true false p q e = absurd (none-ne-some m (sym e))
      go true true p q e =
          let w : m ≡ n * 10 + (b - 48) = some-injective m (n * 10 + (b - 48)) e in
          let l : m ≤ high = (let u = leb-true (n * 10 + (b - 48)) high q in omega arith) in
          (l, simp p (ap (λ (k : ℕ). up_to high k s) (sym w)))

pub up_end : (high n : ℕ) → n ≤ high → up_to high n [] ≡ some n
unfolding up_to all_digits spelled
up_end high n h = simp (le-leb n high h)

-- ---- a number
-- its digits, with the bounds taken one after the other
bounds : (low high v : ℕ) (d : Bool) → guarded (d && (leb low v && leb v high)) v ≡ chain (guarded (d && leb v high) v) (λ x. guarded (leb low x) x)
bounds low high v false = refl
bounds low high v true = go (leb v high)
  where
    go : (h : Bool) → guarded (leb low v && h) v ≡ chain (guarded h v) (λ x. guarded (leb low x) x)
    go true = simp and_true
    go false = simp and_false

module _ (low high : ℕ) where
  pub number_none : (s : List ℕ) → length s ≡ 0 → none ≡ number low high s
  unfolding number is_decimal
  number_none [] e = refl
  number_none (b ∷ s) e = absurd (omega arith)

  pub number_led : (s : List ℕ) → zero_led s ≡ true → none ≡ number low high s
  unfolding number is_decimal zero_led
  number_led [] e = refl
  number_led (b ∷ []) e = absurd (false≢true e)
  number_led (b ∷ c ∷ s) e = simp e

  pub number_is : (s : List ℕ) → (length s ≡ 0 → ⊥) → zero_led s ≡ false → chain (up_to high 0 s) (λ v. guarded (leb low v) v) ≡ number low high s
  unfolding number is_decimal zero_led up_to all_digits
  number_is [] h e = absurd (h refl)
  number_is (b ∷ []) h e = simp (and_true (is_digit b)) (sym (bounds low high (spelled 0 (b ∷ [])) (is_digit b)))
  number_is (b ∷ c ∷ s) h e = simp e (sym (bounds low high (spelled 0 (b ∷ c ∷ s)) (all_digits (b ∷ c ∷ s))))

  pub number_bounds : (s : List ℕ) (v : ℕ) → number low high s ≡ some v → (low ≤ v) × (v ≤ high)
  unfolding number
  number_bounds s v h = go (is_decimal s) (leb low (spelled 0 s)) (leb (spelled 0 s) high) refl refl h
    where
      go : (d l u : Bool) → leb low (spelled 0 s) ≡ l → leb (spelled 0 s) high ≡ u → guarded (d && (l && u)) (spelled 0 s) ≡ some v → (low ≤ v) × (v ≤ high)
      go false l u p q e = absurd (none-ne-some v e)
      go true false u p q e = absurd (none-ne-some v e)
      go true true false p q e = absurd (none-ne-some v e)
      go true true true p q e =
          let w = some-injective (spelled 0 s) v e in
          let l = leb-true low (spelled 0 s) p in
          let u = leb-true (spelled 0 s) high q in
          (omega arith, omega arith)

module _ (low high : ℕ) (f : List ℕ) where
  pub number_bad : up_to high 0 f ≡ none → number low high f ≡ none
  number_bad h = go (eqb (length f) 0) (zero_led f) refl refl
    where
      go : (a b : Bool) → eqb (length f) 0 ≡ a → zero_led f ≡ b → number low high f ≡ none
      go true b p q = sym (number_none low high f (eqb-true (length f) 0 p))
      go false true p q = sym (number_led low high f q)
      go false false p q = sym (number_is low high f (eqb-false (length f) 0 p) q) ∙ ap (λ (o : Option ℕ). chain o (λ v. guarded (leb low v) v)) h

  module _ (v : ℕ) (h : up_to high 0 f ≡ some v) (n : length f ≡ 0 → ⊥) (z : zero_led f ≡ false) where
    whole : guarded (leb low v) v ≡ number low high f
    whole = sym (ap (λ (o : Option ℕ). chain o (λ v. guarded (leb low v) v)) h) ∙ number_is low high f n z

    pub number_here : low ≤ v → number low high f ≡ some v
    number_here k = sym whole ∙ ap (λ (t : Bool). guarded t v) (le-leb low v k)

    pub number_low : v < low → number low high f ≡ none
    number_low k = sym whole ∙ ap (λ (t : Bool). guarded t v) (lt-leb low v k)

pub led_short : (s : List ℕ) → length s ≤ 1 → false ≡ zero_led s
unfolding zero_led
led_short [] h = refl
led_short (b ∷ []) h = refl
led_short (b ∷ c ∷ s) h = absurd (omega arith)

pub led_first : (s : List ℕ) → 1 < length s → eqb (get_or s 0 0) 48 ≡ zero_led s
unfolding zero_led
led_first [] h = absurd (omega arith)
led_first (b ∷ []) h = absurd (omega arith)
led_first (b ∷ c ∷ s) h = refl

-- ---- lists by their first bytes
pub drop_more : (s : List ℕ) (i : ℕ) → i < length s → drop i s ≡ get_or s i 0 ∷ drop (i + 1) s
drop_more s i h = drop-cons s i 0 h ∙ ap (λ (j : ℕ). get_or s i 0 ∷ drop j s) (sym (add-one i))

-- a list by its first byte
pub first_off : (s : List ℕ) (b : ℕ) → 1 ≤ length s → get_or s 0 0 ≡ b → s ≡ b ∷ drop 1 s
first_off [] b h e = absurd (omega arith)
first_off (c ∷ s) b h e = ap (λ (x : ℕ). x ∷ s) e

pub no_first : (s : List ℕ) → length s < 1 → get_or s 0 0 ≡ 0
no_first [] h = refl
no_first (b ∷ s) h = absurd (omega arith)

-- ---- literals and registers, by their first byte
-- a number from 1 on has a sign to change
literal_sign : (s : List ℕ) → literal (45 ∷ s) ≡ chain (number 1 half s) (λ n. some (modulus - n))
unfolding literal
literal_sign s = refl

pub literal_minus : (s : List ℕ) → 1 ≤ length s → get_or s 0 0 ≡ 45 → literal s ≡ chain (number 1 half (drop 1 s)) (λ n. some (modulus - n))
literal_minus s h e = ap literal (first_off s 45 h e) ∙ literal_sign (drop 1 s)

pub literal_plus : (s : List ℕ) → (get_or s 0 0 ≡ 45 → ⊥) → number 0 (half - 1) s ≡ literal s
unfolding literal number is_decimal
literal_plus [] e = refl
literal_plus (b ∷ s) e = simp (ne_eqb b 45 e)

pub register_none : register [] ≡ none
unfolding register
register_none = refl

pub register_is : (s : List ℕ) → register (114 ∷ s) ≡ chain (number 1 8 s) (λ v. some (v - 1))
unfolding register
register_is s = refl

pub register_first : (s : List ℕ) → 1 ≤ length s → get_or s 0 0 ≡ 114 → register s ≡ chain (number 1 8 (drop 1 s)) (λ v. some (v - 1))
register_first s h e = ap register (first_off s 114 h e) ∙ register_is (drop 1 s)

pub register_other : (s : List ℕ) → (get_or s 0 0 ≡ 114 → ⊥) → register s ≡ none
unfolding register
register_other [] e = refl
register_other (b ∷ s) e = simp (ne_eqb b 114 e)

pub empty_list : (s : List ℕ) → length s ≡ 0 → s ≡ []
empty_list [] e = refl
empty_list (b ∷ s) e = absurd (omega arith)

-- a part `&s[a..]` of a slice is the list from a on
pub part_from : (s : List ℕ) (a : ℕ) → take (length s - a) (drop a s) ≡ drop a s
part_from s a =
    let q : length (drop a s) ≤ length s - a = omega (arith, length-drop a s) in
    take_all (length s - a) (drop a s) q
