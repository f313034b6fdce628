-- Laws of the first line of a text and of its fields, read up to the byte that ends them.
-- Assumes nothing.
use mathlib.Core.Path.{◌≡◌, refl, ap, sym, ◌∙◌}
use mathlib.Core.Bool.{Bool, true, false, ◌||◌, true≢false}
use mathlib.Core.List.{List, [], ◌∷◌, ◌++◌}
use Prim.Native.Nat.{ℕ, zero, suc, ◌+◌, ◌-◌, ◌<◌, ◌≤◌}
use native.Mathlib.Omega.{arith}
use native.Mathlib.Nat.{not-suc-le-zero, add-zero}
use native.Mathlib.Numerals.{add-one}
use lib.Dec.{eqb, ltb}
use lib.ListN.{length, get_or, take, drop, length-drop, take-append-drop}
use lib.Seq.{drop-cons, get_or-take, get_or-drop, take-append-le, drop-append-le}
use borrow.Author.Tests.{ne_eqb, eqb-true, eqb-false, ltb-true, ltb-false}
use Rattle.text_lines.specs.Parts.{first_part, line_in, field_in, InLine, StopAt, LastEnd}
use Rattle.text_lines.proofs.Parts.{first_at, first_past, first_none, cut, within, first_end, first_here, first_on, part_is}

-- ---- a byte of the first part
pub byte_in : (c : ℕ) (s : List ℕ) (i : ℕ) → i < length (first_part c s) → get_or (first_part c s) i 0 ≡ get_or s i 0
byte_in c s i h = ap (λ (l : List ℕ). get_or l i 0) (sym (cut c s)) ∙ get_or-take (length (first_part c s)) s i 0 h

byte_past : (c : ℕ) (s : List ℕ) (i : ℕ) → i < length (first_part c s) → get_or s i 0 ≡ c → ⊥
byte_past c [] i h e = let q = ap length (first_none c) in omega arith
byte_past c (b ∷ s) i h e = go (byte_past c s) (eqb b c) refl i h e
  where
    go : ((i : ℕ) → i < length (first_part c s) → get_or s i 0 ≡ c → ⊥) → (t : Bool) → eqb b c ≡ t → (i : ℕ) → i < length (first_part c (b ∷ s)) → get_or (b ∷ s) i 0 ≡ c → ⊥
    go r true g i k w = let q = ap length (first_at c b s g) in omega arith
    go r false g zero k w = eqb-false b c g w
    go r false g (suc i) k w = let q = ap length (first_past c b s g) in r i (omega arith) w

byte_end : (c : ℕ) (s : List ℕ) → length (first_part c s) < length s → get_or s (length (first_part c s)) 0 ≡ c
byte_end c [] h = absurd (not-suc-le-zero h)
byte_end c (b ∷ s) h = go (byte_end c s) (eqb b c) refl
  where
    go : (length (first_part c s) < length s → get_or s (length (first_part c s)) 0 ≡ c) → (t : Bool) → eqb b c ≡ t → get_or (b ∷ s) (length (first_part c (b ∷ s))) 0 ≡ c
    go r true g = ap (λ (l : List ℕ). get_or (b ∷ s) (length l) 0) (first_at c b s g) ∙ eqb-true b c g
    go r false g =
        let q = ap length (first_past c b s g) in
        ap (λ (l : List ℕ). get_or (b ∷ s) (length l) 0) (first_past c b s g) ∙ r (omega arith)

-- ---- a place of the first line
module _ (s : List ℕ) (i : ℕ) (p : InLine s i) where
  pub place_read : i < length s
  place_read = omega (arith, p.within, p.ended)

  pub not_lf : (get_or s i 0 ≡ 10 → ⊥) → i < length (line_in s)
  not_lf h = go (ltb i (length (line_in s))) refl
    where
      go : (t : Bool) → ltb i (length (line_in s)) ≡ t → i < length (line_in s)
      go true e = ltb-true i (length (line_in s)) e
      go false e =
          let l = ltb-false i (length (line_in s)) e in
          let q : i ≡ length (line_in s) = omega (arith, p.within) in
          absurd (h (ap (λ (k : ℕ). get_or s k 0) q ∙ byte_end 10 s p.ended))

  -- a byte other than comma and LF goes on the field
  module _ (c : get_or s i 0 ≡ 44 → ⊥) (l : get_or s i 0 ≡ 10 → ⊥) where
    pub next_place : InLine s (i + 1)
    next_place = let h = not_lf l in record { within = omega arith; ended = p.ended }

    pub field_on : field_in s i ≡ get_or s i 0 ∷ field_in s (i + 1)
    field_on =
        let h = not_lf l in
        let b = byte_in 10 s i h in
        ap (first_part 44) (drop-cons (line_in s) i 0 h)
        ∙ ap (λ (x : ℕ). first_part 44 (x ∷ drop (suc i) (line_in s))) b
        ∙ first_past 44 (get_or s i 0) (drop (suc i) (line_in s)) (ne_eqb (get_or s i 0) 44 c)
        ∙ ap (λ (k : ℕ). get_or s i 0 ∷ first_part 44 (drop k (line_in s))) (sym (add-one i))

    pub field_longer : i + length (field_in s i) ≡ i + 1 + length (field_in s (i + 1))
    field_longer = omega (arith, ap length field_on)

  pub field_lf : get_or s i 0 ≡ 10 → field_in s i ≡ []
  field_lf e = go (ltb i (length (line_in s))) refl
    where
      go : (t : Bool) → ltb i (length (line_in s)) ≡ t → field_in s i ≡ []
      go true q = absurd (byte_past 10 s i (ltb-true i (length (line_in s)) q) e)
      go false q = first_end 44 (line_in s) i (ltb-false i (length (line_in s)) q)

  pub field_comma : get_or s i 0 ≡ 44 → field_in s i ≡ []
  field_comma e =
      let h = not_lf (λ q. omega arith) in
      first_here 44 (line_in s) i h (byte_in 10 s i h ∙ e)

  pub comma_within : get_or s i 0 ≡ 44 → i < length (line_in s)
  comma_within e = not_lf (λ q. omega arith)

  -- what `is_stop` tells of the byte
  pub field_stop : (eqb (get_or s i 0) 44 || eqb (get_or s i 0) 10) ≡ true → field_in s i ≡ []
  field_stop h = go (eqb (get_or s i 0) 44) (eqb (get_or s i 0) 10) refl refl h
    where
      go : (a b : Bool) → eqb (get_or s i 0) 44 ≡ a → eqb (get_or s i 0) 10 ≡ b → (a || b) ≡ true → field_in s i ≡ []
      go true b x y w = field_comma (eqb-true (get_or s i 0) 44 x)
      go false true x y w = field_lf (eqb-true (get_or s i 0) 10 y)
      go false false x y w = absurd (true≢false (sym w))

  pub field_first : (length (field_in s i) ≡ 0 → ⊥) → get_or (field_in s i) 0 0 ≡ get_or s i 0
  field_first h = go (eqb (get_or s i 0) 44) (eqb (get_or s i 0) 10) refl refl
    where
      go : (a b : Bool) → eqb (get_or s i 0) 44 ≡ a → eqb (get_or s i 0) 10 ≡ b → get_or (field_in s i) 0 0 ≡ get_or s i 0
      go true b x y = absurd (h (ap length (field_comma (eqb-true (get_or s i 0) 44 x))))
      go false true x y = absurd (h (ap length (field_lf (eqb-true (get_or s i 0) 10 y))))
      go false false x y = ap (λ (l : List ℕ). get_or l 0 0) (field_on (eqb-false (get_or s i 0) 44 x) (eqb-false (get_or s i 0) 10 y))

pub no_stop : (b : ℕ) → (eqb b 44 || eqb b 10) ≡ false → (b ≡ 44 → ⊥) × (b ≡ 10 → ⊥)
no_stop b h = go (eqb b 44) (eqb b 10) refl refl h
  where
    go : (x y : Bool) → eqb b 44 ≡ x → eqb b 10 ≡ y → (x || y) ≡ false → (b ≡ 44 → ⊥) × (b ≡ 10 → ⊥)
    go true y p q w = absurd (true≢false w)
    go false true p q w = absurd (true≢false w)
    go false false p q w = (eqb-false b 44 p, eqb-false b 10 q)

-- ---- from one stop to the next
module _ (s : List ℕ) (i : ℕ) (p : StopAt s i) where
  pub stop_on : get_or s i 0 ≡ 44 → InLine s (i + 1)
  stop_on e = let h = comma_within s i p.place e in record { within = omega arith; ended = p.place.ended }

  pub stop_last : (get_or s i 0 ≡ 44 → ⊥) → i ≡ length (line_in s)
  stop_last h = go (ltb i (length (line_in s))) refl
    where
      go : (t : Bool) → ltb i (length (line_in s)) ≡ t → i ≡ length (line_in s)
      go true e = absurd (h (p.stops (ltb-true i (length (line_in s)) e)))
      go false e = let l = ltb-false i (length (line_in s)) e in omega (arith, p.place.within)

-- where a field of the line ends there is a stop
pub stop_behind : (s : List ℕ) (at e : ℕ) → InLine s at → e ≡ at + length (field_in s at) → StopAt s e
stop_behind s at e p is = record {
  place = record { within = omega (arith, within 44 (drop at (line_in s)), length-drop at (line_in s), p.within); ended = p.ended };
  stops = λ h.
      let k : length (field_in s at) < length (drop at (line_in s)) = omega (arith, length-drop at (line_in s)) in
      sym (byte_in 10 s e h) ∙ ap (λ (j : ℕ). get_or (line_in s) j 0) is ∙ sym (get_or-drop at (line_in s) (length (field_in s at)) 0) ∙ byte_end 44 (drop at (line_in s)) k;
}

-- the field, as `&s[at..e]` has it
module _ (s : List ℕ) (at e : ℕ) (p : InLine s at) (is : e ≡ at + length (field_in s at)) where
  pub field_read : e < length s
  field_read = omega (arith, (stop_behind s at e p is).place.within, p.ended)

  pub field_part : take (e - at) (drop at s) ≡ field_in s at
  field_part =
      let n : ℕ = length (line_in s) in
      let w : line_in s ++ drop n s ≡ s = ap (λ (l : List ℕ). l ++ drop n s) (sym (cut 10 s)) ∙ take-append-drop n s in
      let k : e - at ≤ length (drop at (line_in s)) = omega (arith, within 44 (drop at (line_in s))) in
      ap (λ (l : List ℕ). take (e - at) (drop at l)) (sym w)
      ∙ ap (take (e - at)) (drop-append-le at (line_in s) (drop n s) p.within)
      ∙ take-append-le (e - at) (drop at (line_in s)) (drop n s) k
      ∙ part_is 44 (line_in s) at e is

-- ---- the last LF of a text
pub last_back : (text : List ℕ) (i : ℕ) → 0 < i → i ≤ length text → (get_or text (i - 1) 0 ≡ 10 → ⊥) → i + length (first_part 10 (drop i text)) ≡ length text → i - 1 + length (first_part 10 (drop (i - 1) text)) ≡ length text
last_back text i a h e w =
    let q : i - 1 + 1 ≡ i = omega arith in
    let l : i - 1 < length text = omega arith in
    let f = first_on 10 text (i - 1) l e in
    let g = ap (λ (k : ℕ). length (first_part 10 (drop k text))) q in
    omega arith

-- before the last LF every line has one
pub line_before : (text : List ℕ) (at r : ℕ) → LastEnd text r → at < r → at + length (line_in (drop at text)) < r
line_before text at r l h = go (ltb (at + length (line_in (drop at text))) r) refl
  where
    go : (t : Bool) → ltb (at + length (line_in (drop at text))) r ≡ t → at + length (line_in (drop at text)) < r
    go true e = ltb-true (at + length (line_in (drop at text))) r e
    go false e =
        let q = ltb-false (at + length (line_in (drop at text))) r e in
        let k : r - 1 - at < length (line_in (drop at text)) = omega arith in
        let j : at + (r - 1 - at) ≡ r - 1 = omega arith in
        absurd (byte_past 10 (drop at text) (r - 1 - at) k (get_or-drop at text (r - 1 - at) 0 ∙ ap (λ (i : ℕ). get_or text i 0) j ∙ l.ended (omega arith)))

pub line_there : (text : List ℕ) (at r : ℕ) → LastEnd text r → at < r → InLine (drop at text) 0
line_there text at r l h = record { within = omega arith; ended = omega (arith, line_before text at r l h, l.within, length-drop at text) }

-- ---- from a place of the first line on
pub line_from_lem : (s : List ℕ) (f : ℕ) → f ≤ length (line_in s) → line_in (drop f s) ≡ drop f (line_in s)
line_from_lem s zero h = refl
line_from_lem [] (suc f) h = let q = ap length (first_none 10) in absurd (omega arith)
line_from_lem (b ∷ s) (suc f) h = go (line_from_lem s f) (eqb b 10) refl
  where
    go : (f ≤ length (line_in s) → line_in (drop f s) ≡ drop f (line_in s)) → (t : Bool) → eqb b 10 ≡ t → line_in (drop f s) ≡ drop (suc f) (line_in (b ∷ s))
    go r true g = let q = ap length (first_at 10 b s g) in absurd (omega arith)
    go r false g = let q = ap length (first_past 10 b s g) in r (omega arith) ∙ ap (drop (suc f)) (sym (first_past 10 b s g))

pub stop_from : (s : List ℕ) (f : ℕ) → StopAt s f → StopAt (drop f s) 0
stop_from s f p =
    let n : length (line_in (drop f s)) ≡ length (line_in s) - f = ap length (line_from_lem s f p.place.within) ∙ length-drop f (line_in s) in
    record {
      place = record { within = omega arith; ended = omega (arith, p.place.ended, p.place.within, length-drop f s) };
      stops = λ h. get_or-drop f s 0 0 ∙ ap (λ (i : ℕ). get_or s i 0) (add-zero f) ∙ p.stops (omega arith);
    }
