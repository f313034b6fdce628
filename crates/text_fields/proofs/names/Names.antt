-- Laws of the names of the forms.
-- Assumes nothing.
use Rattle.std.proofs.Common.{◌≡◌, ℕ, zero, suc, ◌+◌, ◌*◌, ◌^◌, ◌<◌, ◌≤◌, Bool, true, false, cond, ◌&&◌, T, eqb, ltb, leb, List, [], ◌∷◌, length, get_or, take, drop, sym, refl, ap, ◌∙◌, subst, suc-le-suc, zero-le, not-suc-le-zero, add-zero, add-suc, add-one, arith, lit<, ltb→lt, leb→le, length-drop, drop_of_length-le, get_or-drop, drop-cons, eq-eqb, ne_eqb, eqb-true}
use borrow.Author.Tests.{eqb-false}
use Rattle.text.specs.Bytes.{bytes, same_bytes}
use Rattle.text.specs.Grammar.{Named, forms, form_named, entry_of}
use Rattle.text_fields.specs.names.Names.{place_of, name_code, form_at}
use Rattle.text_fields.specs.names.Pieces.{packed, keys_of, key_place}

-- ---- for callers: a line's form, by the code of its first field
pub form_there : (ns : List Named) (f : List ℕ) (fs : List (List ℕ)) → form_named ns f fs ≡ form_at ns (place_of ns f) fs
unfolding form_named form_at place_of
form_there [] f fs = refl
form_there (n ∷ ns) f fs = go (same_bytes (bytes n.name) f) refl (form_there ns f fs)
  where
    go : (t : Bool) → same_bytes (bytes n.name) f ≡ t → form_named ns f fs ≡ form_at ns (place_of ns f) fs → form_named (n ∷ ns) f fs ≡ form_at (n ∷ ns) (place_of (n ∷ ns) f) fs
    go true e h = simp e
    go false e h = simp (e, h)

pub entry_by_code : (f : List ℕ) (fs : List (List ℕ)) → entry_of (f ∷ fs) ≡ form_at forms (name_code f) fs
unfolding entry_of name_code
entry_by_code f fs = form_there forms f fs

-- ---- bytes and their number
abbrev pub Small : List ℕ → Type 0
Small s = (i : ℕ) → get_or s i 0 < 256

tail_small : (b : ℕ) (s : List ℕ) → Small (b ∷ s) → Small s
tail_small b s h i = h (suc i)

pub packed_pos : (s : List ℕ) → 1 ≤ packed s
unfolding packed
packed_pos [] = omega arith
packed_pos (b ∷ s) = let q = packed_pos s in omega arith

-- two numbers are equal if their last digits and the digits before are
digits_eq : (b c x y : ℕ) → b < 256 → c < 256 → (eqb b c && eqb x y) ≡ eqb (x * 256 + b) (y * 256 + c)
digits_eq b c x y p q = go (eqb b c) (eqb x y) refl refl
  where
    go : (t u : Bool) → eqb b c ≡ t → eqb x y ≡ u → (t && u) ≡ eqb (x * 256 + b) (y * 256 + c)
    go true true e f = let g = eqb-true b c e in let h = eqb-true x y f in sym (eq-eqb (x * 256 + b) (y * 256 + c) (omega arith))
    go true false e f =
        let g = eqb-true b c e in
        sym (ne_eqb (x * 256 + b) (y * 256 + c) (λ w. eqb-false x y f (omega arith)))
    go false u e f = sym (ne_eqb (x * 256 + b) (y * 256 + c) (λ w. eqb-false b c e (omega arith)))

same_is : (s t : List ℕ) → Small s → Small t → same_bytes s t ≡ eqb (packed s) (packed t)
unfolding same_bytes packed
same_is [] [] p q = refl
same_is [] (c ∷ t) p q = sym (ne_eqb 1 (packed t * 256 + c) (λ e. let h = packed_pos t in omega arith))
same_is (b ∷ s) [] p q = sym (ne_eqb (packed s * 256 + b) 1 (λ e. let h = packed_pos s in omega arith))
same_is (b ∷ s) (c ∷ t) p q =
    ap (λ (x : Bool). eqb b c && x) (same_is s t (tail_small b s p) (tail_small c t q)) ∙ digits_eq b c (packed s) (packed t) (p 0) (q 0)

-- ---- the names of a table, tested by computing: bytes, and at most six
all_bytes : List ℕ → Bool
all_bytes [] = true
all_bytes (b ∷ s) = ltb b 256 && all_bytes s

all_names : List Named → Bool
all_names [] = true
all_names (n ∷ ns) = (all_bytes (bytes n.name) && leb (length (bytes n.name)) 6) && all_names ns

fst_of : (a b : Bool) → T (a && b) → T a
fst_of true b h = tt
fst_of false b h = h

snd_of : (a b : Bool) → T (a && b) → T b
snd_of true b h = h
snd_of false b h = absurd h

small_of : (s : List ℕ) → T (all_bytes s) → Small s
unfolding all_bytes
small_of [] h i = lit< tt
small_of (b ∷ s) h zero = ltb→lt b 256 (fst_of (ltb b 256) (all_bytes s) h)
small_of (b ∷ s) h (suc i) = small_of s (snd_of (ltb b 256) (all_bytes s) h) i

by_key : (ns : List Named) (f : List ℕ) → T (all_names ns) → Small f → key_place (keys_of ns) (packed f) ≡ place_of ns f
unfolding key_place keys_of place_of all_names
by_key [] f h p = refl
by_key (n ∷ ns) f h p =
    let u = fst_of (all_bytes (bytes n.name) && leb (length (bytes n.name)) 6) (all_names ns) h in
    let v = snd_of (all_bytes (bytes n.name) && leb (length (bytes n.name)) 6) (all_names ns) h in
    let w = small_of (bytes n.name) (fst_of (all_bytes (bytes n.name)) (leb (length (bytes n.name)) 6) u) in
    ap (λ (t : Bool). cond t 0 (suc (key_place (keys_of ns) (packed f)))) (sym (same_is (bytes n.name) f w p))
    ∙ ap (λ (k : ℕ). cond (same_bytes (bytes n.name) f) 0 (suc k)) (by_key ns f v p)

pub code_by_key : (f : List ℕ) → ((i : ℕ) → get_or f i 0 < 256) → key_place (keys_of forms) (packed f) ≡ name_code f
unfolding name_code all_names all_bytes bytes forms
code_by_key f p = by_key forms f tt p

longer : (s t : List ℕ) → length s < length t → same_bytes s t ≡ false
unfolding same_bytes
longer [] [] h = absurd (not-suc-le-zero h)
longer [] (c ∷ t) h = refl
longer (b ∷ s) [] h = absurd (not-suc-le-zero h)
longer (b ∷ s) (c ∷ t) h = go (eqb b c) (longer s t (omega arith))
  where
    go : (x : Bool) → same_bytes s t ≡ false → (x && same_bytes s t) ≡ false
    go true e = e
    go false e = refl

too_long : (ns : List Named) (f : List ℕ) → T (all_names ns) → 6 < length f → length ns ≡ place_of ns f
unfolding place_of all_names
too_long [] f h l = refl
too_long (n ∷ ns) f h l =
    let u = fst_of (all_bytes (bytes n.name) && leb (length (bytes n.name)) 6) (all_names ns) h in
    let v = snd_of (all_bytes (bytes n.name) && leb (length (bytes n.name)) 6) (all_names ns) h in
    let w = leb→le (length (bytes n.name)) 6 (snd_of (all_bytes (bytes n.name)) (leb (length (bytes n.name)) 6) u) in
    let o : length (bytes n.name) < length f = omega arith in
    simp (longer (bytes n.name) f o) (ap suc (too_long ns f v l))

pub code_too_long : (f : List ℕ) → 6 < length f → 36 ≡ name_code f
unfolding name_code all_names all_bytes bytes forms
code_too_long f l = too_long forms f tt l

-- ---- the bytes packed from the last on, and the search
pub packed_all : (f : List ℕ) (i : ℕ) → length f ≤ i → packed (drop i f) ≡ 1
unfolding packed
packed_all f i h = ap packed (drop_of_length-le f h)

pub packed_more : (f : List ℕ) (i : ℕ) → i < length f → packed (drop i f) ≡ packed (drop (i + 1) f) * 256 + get_or f i 0
unfolding packed
packed_more f i h = ap packed (drop-cons f i 0 h) ∙ ap (λ (k : ℕ). packed (drop k f) * 256 + get_or f i 0) (sym (add-one i))

limit : ℕ → ℕ
limit zero = 2
limit (suc n) = limit n * 256

limit_grows : (n m : ℕ) → n ≤ m → limit n ≤ limit m
unfolding limit
limit_grows zero zero h = omega arith
limit_grows zero (suc m) h = let q = limit_grows zero m zero-le in omega arith
limit_grows (suc n) zero h = absurd (not-suc-le-zero h)
limit_grows (suc n) (suc m) h = let q = limit_grows n m (omega arith) in omega arith

below_limit : (s : List ℕ) → Small s → packed s < limit (length s)
unfolding packed limit
below_limit [] p = omega arith
below_limit (b ∷ s) p = let q = below_limit s (tail_small b s p) in let h = p 0 in omega arith

pub packed_fits : (f : List ℕ) (i : ℕ) → Small f → length f ≤ 6 → 0 < i → packed (drop i f) < 2 ^ 41
unfolding limit
packed_fits f i p h l =
    let q = below_limit (drop i f) (λ (j : ℕ). subst (λ (x : ℕ). x < 256) (sym (get_or-drop i f j 0)) (p (i + j))) in
    let r : length (drop i f) ≤ 5 = omega (arith, length-drop i f) in
    let g = limit_grows (length (drop i f)) 5 r in
    omega arith

-- ---- the search: the keys as numbers, those of type lines and blocks, then those of instructions
abbrev pub row_keys : List ℕ
row_keys = 329 ∷ 334 ∷ 342 ∷ 341 ∷ 336 ∷ 323 ∷ 328 ∷ 325 ∷ 344 ∷ 331 ∷ 321 ∷ 322 ∷ []

abbrev pub instr_keys : List ℕ
instr_keys = 23356513 ∷ 23229811 ∷ 23885165 ∷ 24208738 ∷ 6197440098 ∷ 24405858 ∷ 24407138 ∷ 5997094754 ∷ 5997096034 ∷ 24538989 ∷ 91244 ∷ 95347 ∷ 390805188272493 ∷ 1582484972903 ∷ 1582484972915 ∷ 390805188272499 ∷ 1535005320819 ∷ 23358579 ∷ 24408947 ∷ 24145011 ∷ 24146803 ∷ 24145258 ∷ 6248227176 ∷ 399549557403253 ∷ []

pub rows_are : take 12 (keys_of forms) ≡ row_keys
unfolding keys_of packed bytes forms
rows_are = refl

pub instrs_are : drop 12 (keys_of forms) ≡ instr_keys
unfolding keys_of packed bytes forms
instrs_are = refl

-- k is one of them, or none
pub at_key : (ks xs : List ℕ) (k x : ℕ) → ks ≡ xs → k ≡ x → key_place xs x ≡ key_place ks k
at_key ks xs k x p q = ap (λ (l : List ℕ). key_place l x) (sym p) ∙ ap (key_place ks) (sym q)

-- A, and k is none of them
abbrev pub Apart : Type 0 → List ℕ → ℕ → Type 0
Apart A [] k = A
Apart A (x ∷ xs) k = Apart (A × (k ≡ x → ⊥)) xs k

apart_first : (A : Type 0) (xs : List ℕ) (k : ℕ) → Apart A xs k → A
apart_first A [] k h = h
apart_first A (x ∷ xs) k h = (apart_first (A × (k ≡ x → ⊥)) xs k h).0

apart_none : (A : Type 0) (xs : List ℕ) (k : ℕ) → Apart A xs k → length xs ≡ key_place xs k
unfolding key_place
apart_none A [] k h = refl
apart_none A (x ∷ xs) k h =
    let f = (apart_first (A × (k ≡ x → ⊥)) xs k h).1 in
    simp (ne_eqb x k (λ e. f (sym e))) (ap suc (apart_none (A × (k ≡ x → ⊥)) xs k h))

pub no_key : (ks xs : List ℕ) (k : ℕ) → ks ≡ xs → Apart Unit xs k → length xs ≡ key_place ks k
no_key ks xs k p h = apart_none Unit xs k h ∙ ap (λ (l : List ℕ). key_place l k) (sym p)

-- the two searches together
place_first : (n : ℕ) (ks : List ℕ) (k : ℕ) → key_place (take n ks) k < n → key_place (take n ks) k ≡ key_place ks k
unfolding key_place
place_first zero ks k h = absurd (not-suc-le-zero h)
place_first (suc n) [] k h = refl
place_first (suc n) (x ∷ ks) k h = go (place_first n ks k) (eqb x k) h
  where
    go : (key_place (take n ks) k < n → key_place (take n ks) k ≡ key_place ks k) → (t : Bool) → cond t 0 (suc (key_place (take n ks) k)) < suc n → cond t 0 (suc (key_place (take n ks) k)) ≡ cond t 0 (suc (key_place ks k))
    go r true l = refl
    go r false l = ap suc (r (omega arith))

place_later : (n : ℕ) (ks : List ℕ) (k : ℕ) → n ≤ key_place (take n ks) k → key_place (drop n ks) k + n ≡ key_place ks k
unfolding key_place
place_later zero ks k h = add-zero (key_place ks k)
place_later (suc n) [] k h = absurd (not-suc-le-zero h)
place_later (suc n) (x ∷ ks) k h = go (place_later n ks k) (eqb x k) h
  where
    go : (n ≤ key_place (take n ks) k → key_place (drop n ks) k + n ≡ key_place ks k) → (t : Bool) → suc n ≤ cond t 0 (suc (key_place (take n ks) k)) → key_place (drop n ks) k + suc n ≡ cond t 0 (suc (key_place ks k))
    go r true l = absurd (not-suc-le-zero l)
    go r false l = add-suc (key_place (drop n ks) k) n ∙ ap suc (r (omega arith))

-- a field's code, by what the searches give for its number
module _ (f : List ℕ) (small : (i : ℕ) → get_or f i 0 < 256) (k r : ℕ) (is : k ≡ packed f) (e : r ≡ key_place (take 12 (keys_of forms)) k) where
  code_is : key_place (keys_of forms) k ≡ name_code f
  code_is = ap (key_place (keys_of forms)) is ∙ code_by_key f small

  pub code_row : r < 12 → r ≡ name_code f
  code_row h =
      let q : key_place (take 12 (keys_of forms)) k < 12 = omega arith in
      e ∙ place_first 12 (keys_of forms) k q ∙ code_is

  pub code_instr : 12 ≤ r → (i : ℕ) → i ≡ key_place (drop 12 (keys_of forms)) k → i + 12 ≡ name_code f
  code_instr h i g =
      let q : 12 ≤ key_place (take 12 (keys_of forms)) k = omega arith in
      ap (λ (j : ℕ). j + 12) g ∙ place_later 12 (keys_of forms) k q ∙ code_is

place_le : (xs : List ℕ) (k : ℕ) → key_place xs k ≤ length xs
unfolding key_place
place_le [] k = zero-le
place_le (x ∷ xs) k = go (eqb x k) (place_le xs k)
  where
    go : (t : Bool) → key_place xs k ≤ length xs → cond t 0 (suc (key_place xs k)) ≤ suc (length xs)
    go true h = zero-le
    go false h = suc-le-suc h

pub instr_few : (k : ℕ) → key_place (drop 12 (keys_of forms)) k ≤ 24
instr_few k = rw instrs_are (place_le instr_keys k)
