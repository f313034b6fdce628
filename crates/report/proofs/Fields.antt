-- Fields joined by commas are those that the line parts into, and back. And texts are compared exactly.
use Prim.Native.Nat.{ℕ, ◌≤◌}
use Prim.Native.Char.{code}
use native.Mathlib.Omega.{arith}
use mathlib.Core.Path.{◌≡◌, refl, ap, ap₂, sym, ◌∙◌}
use mathlib.Core.Bool.{Bool, true, false, ◌&&◌, not}
use mathlib.Core.List.{List, [], ◌∷◌, ◌++◌}
use lib.Dec.{eqb, ltb}
use borrow.Author.Tests.{eq-eqb, ne_eqb, eqb-true, ltb-true, not-true}
use Rattle.text.specs.Bytes.{same_bytes, part, split, fields_of}
use Rattle.types.proofs.Equal.{and_inv, none_true}
use Rattle.calls.proofs.All.{All}
use Rattle.print.specs.Lines.{parted}

-- ---- texts compared
-- texts that compare as equal are equal
pub same_bytes_lem : (s t : List ℕ) → same_bytes s t ≡ true → s ≡ t
unfolding same_bytes
same_bytes_lem [] [] e = refl
same_bytes_lem [] (c ∷ t) e = none_true e
same_bytes_lem (b ∷ s) [] e = none_true e
same_bytes_lem (b ∷ s) (c ∷ t) e = let j = and_inv (eqb b c) (same_bytes s t) e in ap₂ ◌∷◌ (eqb-true b c j.0) (same_bytes_lem s t j.1)

-- ---- bytes that are not there
-- no byte of the list is c
unfoldable pub lacks : ℕ → List ℕ → Bool
lacks c [] = true
lacks c (b ∷ s) = not (eqb b c) && lacks c s

-- each byte is more than that of a comma
unfoldable pub past_comma : List ℕ → Bool
past_comma [] = true
past_comma (b ∷ s) = ltb (code ",") b && past_comma s

past_lacks : (c : ℕ) → c ≤ code "," → (s : List ℕ) → past_comma s ≡ true → lacks c s ≡ true
unfolding past_comma lacks
past_lacks c h [] e = refl
past_lacks c h (b ∷ s) e =
    let j = and_inv (ltb (code ",") b) (past_comma s) e in
    let l = ltb-true (code ",") b j.0 in
    let q : b ≡ c → ⊥ = λ z. omega arith in
    rw (ne_eqb b c q) (past_lacks c h s j.1)

lacks_append : (c : ℕ) (s t : List ℕ) → lacks c s ≡ true → lacks c t ≡ true → lacks c (s ++ t) ≡ true
unfolding lacks
lacks_append c [] t h k = k
lacks_append c (b ∷ s) t h k = let j = and_inv (not (eqb b c)) (lacks c s) h in rw j.0 (lacks_append c s t j.1 k)

-- ---- a list parted at c
-- a list without c is one part
pub alone : (c : ℕ) (s : List ℕ) → lacks c s ≡ true → split c s ≡ s ∷ []
unfolding lacks split
alone c [] h = refl
alone c (b ∷ s) h =
    let j = and_inv (not (eqb b c)) (lacks c s) h in
    rw (not-true (eqb b c) j.0, alone c s j.1)

-- what stands before the first c is the first part
pub split_behind : (c : ℕ) (s t : List ℕ) → lacks c s ≡ true → split c (s ++ (c ∷ t)) ≡ s ∷ split c t
unfolding lacks split
split_behind c [] t h = rw (eq-eqb c c refl)
split_behind c (b ∷ s) t h =
    let j = and_inv (not (eqb b c)) (lacks c s) h in
    rw (not-true (eqb b c) j.0, split_behind c s t j.1)

-- there is a first part
pub some_part : (c : ℕ) (s : List ℕ) → (p : List ℕ) × (ps : List (List ℕ)) × (split c s ≡ p ∷ ps)
unfolding split
some_part c [] = ([], [], refl)
some_part c (b ∷ s) = go (eqb b c) (split c s)
  where
    go : (t : Bool) (qs : List (List ℕ)) → (p : List ℕ) × (ps : List (List ℕ)) × (part t b qs ≡ p ∷ ps)
    go true qs = ([], qs, refl)
    go false [] = (b ∷ [], [], refl)
    go false (q ∷ qs) = (b ∷ q, qs, refl)

-- ---- fields
-- the fields of a line, joined, are the line
pub parted_fields : (s : List ℕ) → parted (fields_of s) ≡ s
unfolding parted fields_of split
parted_fields [] = refl
parted_fields (b ∷ s) =
    let h = some_part (code ",") s in
    let k : parted (split (code ",") s) ≡ s = parted_fields s in
    rw h.2 (go (eqb b (code ",")) refl h.0 h.1 (rw h.2 at k))
  where
    go : (t : Bool) → eqb b (code ",") ≡ t → (p : List ℕ) (ps : List (List ℕ)) → parted (p ∷ ps) ≡ s → parted (part t b (p ∷ ps)) ≡ b ∷ s
    go true e p ps h = ap₂ ◌∷◌ (sym (eqb-true b (code ",") e)) h
    go false e p [] h = ap (◌∷◌ b) h
    go false e p (q ∷ ps) h = ap (◌∷◌ b) h

-- fields without a comma, joined, part into the same fields
pub fields_parted : (f : List ℕ) (fs : List (List ℕ)) → All (λ g. past_comma g ≡ true) (f ∷ fs) → fields_of (parted (f ∷ fs)) ≡ f ∷ fs
unfolding parted fields_of
fields_parted f [] h = alone (code ",") f (past_lacks (code ",") (omega arith) f h.0)
fields_parted f (g ∷ fs) h =
    split_behind (code ",") f (parted (g ∷ fs)) (past_lacks (code ",") (omega arith) f h.0)
    ∙ ap (◌∷◌ f) (fields_parted g fs h.1)

-- such a line holds no LF
pub parted_lacks : (fs : List (List ℕ)) → All (λ g. past_comma g ≡ true) fs → lacks (code "\n") (parted fs) ≡ true
unfolding parted lacks
parted_lacks [] h = refl
parted_lacks (f ∷ []) h = past_lacks (code "\n") (omega arith) f h.0
parted_lacks (f ∷ g ∷ fs) h =
    lacks_append (code "\n") f (code "," ∷ parted (g ∷ fs)) (past_lacks (code "\n") (omega arith) f h.0) (parted_lacks (g ∷ fs) h.1)
