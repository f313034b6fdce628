-- Laws of a code row's fields: its letters and its registers.
-- Assumes nothing.
use Rattle.std.specs.List.{list_all}
use mir.Val.{bool_byte}
use Rattle.std.proofs.Common.{◌≡◌, ◌||◌, eqb-true, ℕ, suc, ◌-◌, ◌<◌, ◌≤◌, Bool, true, false, cond, ◌&&◌, eqb, leb, List, [], ◌∷◌, map, reverse, length, get_or, take, sym, refl, ap, ◌∙◌, ap₂, true≢false, pos_of_ne-zero, arith, take-suc, eq-eqb, ne_eqb, le-leb}
use mathlib.Core.List.{reverse_aux, reverse-append}
use mathlib.Core.Option.{Option, none, some, none-ne-some}
use lib.ListN.{length-map}
use borrow.Author.Tests.{lt-leb}
use Rattle.syntax.specs.Partial.{chain, guarded}
use Rattle.syntax.specs.Syntax.{Kind, value, stack}
use Rattle.text.specs.Bytes.{bytes, same_bytes}
use Rattle.text.specs.Grammar.{letter, each_letter, letters}
use Rattle.text_fields.specs.names.Letters.{count_of, kind_code, codes_of}
use Rattle.text_fields.specs.names.Pieces.{is_letter, letter_code, word_count}

and_true : (b : Bool) → (b && true) ≡ b
and_true true = refl
and_true false = refl

and_false : (b : Bool) → (b && false) ≡ false
and_false true = refl
and_false false = refl

-- ---- the dash
pub dash_one : (f : List ℕ) → length f ≡ 1 → get_or f 0 0 ≡ 45 → true ≡ same_bytes f (bytes "-")
unfolding same_bytes bytes
dash_one [] e h = absurd (omega arith)
dash_one (b ∷ []) e h = sym (and_true (eqb b 45) ∙ eq-eqb b 45 h)
dash_one (b ∷ c ∷ f) e h = absurd (omega arith)

pub dash_not : (f : List ℕ) → length f ≡ 1 → (get_or f 0 0 ≡ 45 → ⊥) → false ≡ same_bytes f (bytes "-")
unfolding same_bytes bytes
dash_not [] e h = absurd (omega arith)
dash_not (b ∷ []) e h = sym (and_true (eqb b 45) ∙ ne_eqb b 45 h)
dash_not (b ∷ c ∷ f) e h = absurd (omega arith)

pub dash_other : (f : List ℕ) → (length f ≡ 1 → ⊥) → false ≡ same_bytes f (bytes "-")
unfolding same_bytes bytes
dash_other [] h = refl
dash_other (b ∷ []) h = absurd (h refl)
dash_other (b ∷ c ∷ f) h = sym (and_false (eqb b 45))

-- ---- letters
pub letter_stack : (b : ℕ) → bool_byte (eqb b 115) ≡ letter_code b
unfolding letter_code
letter_stack b = go (eqb b 115)
  where
    go : (t : Bool) → bool_byte t ≡ cond t 1 0
    go true = refl
    go false = refl

-- the letter of a byte that is one
kind_of : ℕ → Kind
kind_of b = cond (eqb b 118) value stack

module _ (b : ℕ) where
  one_letter : is_letter b ≡ true → (letter b ≡ some (kind_of b)) × (kind_code (kind_of b) ≡ letter_code b)
  unfolding letter_code letter kind_of
  one_letter h = go (eqb b 118) (eqb b 115) refl refl h
    where
      go : (t u : Bool) → eqb b 118 ≡ t → eqb b 115 ≡ u → (t || u) ≡ true → (letter b ≡ some (kind_of b)) × (kind_code (kind_of b) ≡ letter_code b)
      go true u p q e =
          let w : eqb b 115 ≡ false = ne_eqb b 115 (λ z. let y = eqb-true b 118 p in omega arith) in
          (simp p, simp (p, w))
      go false true p q e = (simp (p, q), simp (p, q))
      go false false p q e = absurd (true≢false (sym e))

  no_letter : is_letter b ≡ false → letter b ≡ none
  unfolding letter
  no_letter h = go (eqb b 118) (eqb b 115) refl refl h
    where
      go : (t u : Bool) → eqb b 118 ≡ t → eqb b 115 ≡ u → (t || u) ≡ false → letter b ≡ none
      go true u p q e = absurd (true≢false e)
      go false true p q e = absurd (true≢false e)
      go false false p q e = simp (p, q)

all_good : (f : List ℕ) → list_all is_letter f ≡ true → (each_letter f ≡ some (map kind_of f)) × (map kind_code (map kind_of f) ≡ map letter_code f)
unfolding each_letter
all_good [] h = (refl, refl)
all_good (b ∷ f) h = go (is_letter b) refl h (all_good f)
  where
    go : (t : Bool) → is_letter b ≡ t → (t && list_all is_letter f) ≡ true → (list_all is_letter f ≡ true
        → (each_letter f ≡ some (map kind_of f)) × (map kind_code (map kind_of f) ≡ map letter_code f))
        → (each_letter (b ∷ f) ≡ some (map kind_of (b ∷ f))) × (map kind_code (map kind_of (b ∷ f)) ≡ map letter_code (b ∷ f))
    go false p e r = absurd (true≢false (sym e))
    go true p e r =
        let w = one_letter b p in
        let v = r e in
        (simp (w.0, v.0), ap₂ (λ (x : ℕ) (xs : List ℕ). x ∷ xs) w.1 v.1)

not_good : (f : List ℕ) → list_all is_letter f ≡ false → each_letter f ≡ none
unfolding each_letter
not_good [] h = absurd (true≢false h)
not_good (b ∷ f) h = go (is_letter b) refl h (not_good f)
  where
    go : (t : Bool) → is_letter b ≡ t → (t && list_all is_letter f) ≡ false → (list_all is_letter f ≡ false → each_letter f ≡ none) → each_letter (b ∷ f) ≡ none
    go false p e r = simp (no_letter b p)
    go true p e r = simp ((one_letter b p).0, r e)

-- the count of letters, on each way
module _ (f : List ℕ) where
  pub word_empty : length f ≡ 0 → none ≡ word_count f
  unfolding word_count each_letter
  word_empty e = go f e
    where
      go : (s : List ℕ) → length s ≡ 0 → none ≡ word_count s
      go [] p = refl
      go (b ∷ s) p = absurd (omega arith)

  pub word_long : 8 < length f → none ≡ word_count f
  unfolding word_count
  word_long h = go (list_all is_letter f) refl
    where
      go : (t : Bool) → list_all is_letter f ≡ t → none ≡ word_count f
      go true e = simp ((all_good f e).0, length-map, lt-leb (length f) 8 h, and_false)
      go false e = simp (not_good f e)

  pub word_bad : list_all is_letter f ≡ false → none ≡ word_count f
  unfolding word_count
  word_bad e = simp (not_good f e)

  pub word_is_lem : (length f ≡ 0 → ⊥) → length f ≤ 8 → list_all is_letter f ≡ true → some (length f) ≡ word_count f
  unfolding word_count
  word_is_lem p q e = simp ((all_good f e).0, length-map, le-leb 1 (length f) (pos_of_ne-zero p), le-leb (length f) 8 q)

-- the letters in the order of their variables, one after the other from the last on
pub codes_one : (f : List ℕ) (i : ℕ) → 0 < i → i ≤ length f → map letter_code (reverse (take i f)) ≡ letter_code (get_or f (i - 1) 0) ∷ map letter_code (reverse (take (i - 1) f))
codes_one f i h l =
    let p : i ≡ suc (i - 1) = omega arith in
    let q : i - 1 < length f = omega arith in
    ap (λ (j : ℕ). map letter_code (reverse (take j f))) p
    ∙ ap (λ (s : List ℕ). map letter_code (reverse s)) (take-suc f (i - 1) 0 q)
    ∙ ap (map letter_code) (reverse-append (take (i - 1) f) (get_or f (i - 1) 0 ∷ []))

-- ---- the whole field
map_reverse : {A B : Type 0} (g : A → B) (l r : List A) → map g (reverse_aux l r) ≡ reverse_aux (map g l) (map g r)
map_reverse g [] r = refl
map_reverse g (x ∷ l) r = map_reverse g l (x ∷ r)

abbrev sized : List Kind → Bool
sized q = leb 1 (length q) && leb (length q) 8

count_guarded : (t : Bool) (q : List Kind) → guarded t (length q) ≡ count_of (guarded t q)
unfolding count_of
count_guarded true q = refl
count_guarded false q = refl

count_chain : (o : Option (List Kind)) → chain o (λ q. guarded (sized q) (length q)) ≡ count_of (chain o (λ q. guarded (sized q) q))
unfolding count_of
count_chain none = refl
count_chain (some q) = count_guarded (sized q) q

no_codes : (o : Option (List Kind)) → count_of o ≡ none → codes_of o ≡ []
unfolding count_of codes_of
no_codes none e = refl
no_codes (some q) e = absurd (none-ne-some (length q) (sym e))

some_codes : (t : Bool) (q : List Kind) (n : ℕ) → count_of (guarded t q) ≡ some n → codes_of (guarded t q) ≡ map kind_code (reverse q)
unfolding count_of codes_of
some_codes true q n e = refl
some_codes false q n e = absurd (none-ne-some n e)

module _ (f : List ℕ) where
  letters_dash : same_bytes f (bytes "-") ≡ true → letters f ≡ some []
  unfolding letters
  letters_dash e = simp e

  pub dash_count : same_bytes f (bytes "-") ≡ true → some 0 ≡ count_of (letters f)
  unfolding count_of
  dash_count e = sym (ap count_of (letters_dash e))

  pub dash_codes : same_bytes f (bytes "-") ≡ true → [] ≡ codes_of (letters f)
  unfolding codes_of
  dash_codes e = sym (ap codes_of (letters_dash e))

  module _ (d : same_bytes f (bytes "-") ≡ false) where
    letters_word : letters f ≡ chain (each_letter f) (λ q. guarded (sized q) q)
    unfolding letters
    letters_word = simp d

    pub count_is : word_count f ≡ count_of (letters f)
    unfolding word_count
    count_is = count_chain (each_letter f) ∙ sym (ap count_of letters_word)

    pub codes_bad : word_count f ≡ none → [] ≡ codes_of (letters f)
    codes_bad e = sym (no_codes (letters f) (sym count_is ∙ e))

    pub codes_are : (n : ℕ) → word_count f ≡ some n → map letter_code (reverse f) ≡ codes_of (letters f)
    codes_are n e = go (list_all is_letter f) refl
      where
        go : (t : Bool) → list_all is_letter f ≡ t → map letter_code (reverse f) ≡ codes_of (letters f)
        go false p = absurd (none-ne-some n (word_bad f p ∙ e))
        go true p =
            let g = all_good f p in
            let q : List Kind = map kind_of f in
            let w : letters f ≡ guarded (sized q) q = letters_word ∙ ap (λ (o : Option (List Kind)). chain o (λ x. guarded (sized x) x)) g.0 in
            map_reverse letter_code f []
            ∙ ap reverse (sym g.1)
            ∙ sym (map_reverse kind_code q [])
            ∙ sym (some_codes (sized q) q n (ap count_of (sym w) ∙ sym count_is ∙ e))
            ∙ ap codes_of (sym w)
