-- A rule of a table, proved at all of its entries by one test that antt computes.
use Rattle.std.proofs.Common.{◌≡◌, ℕ, zero, suc, ◌+◌, ◌<◌, Bool, true, false, T, eqb, List, [], ◌∷◌, length, get_or, sym, ◌∙◌, subst, le_of_suc-le-suc, not-suc-le-zero, add-zero, add-suc, suc-add, zero-add, eqb→eq}

abbrev pub both : Bool → Bool → Bool
both true b = b
both false b = false

pub both_left : (a b : Bool) → T (both a b) → T a
both_left true b t = tt
both_left false b t = t

pub both_right : (a b : Bool) → T (both a b) → T b
both_right true b t = t
both_right false b t = absurd t

-- the test f passes at each entry of the list and its place, counted from i
abbrev pub every : {A : Type 0} → (ℕ → A → Bool) → ℕ → List A → Bool
every f i [] = true
every f i (x ∷ xs) = both (f i x) (every f (suc i) xs)

from : {A : Type 0} (d : A) (f : ℕ → A → Bool) (xs : List A) (i : ℕ) → T (every f i xs) → (k : ℕ) → k < length xs → T (f (i + k) (get_or xs k d))
from d f [] i t k h = absurd (not-suc-le-zero h)
from d f (x ∷ xs) i t zero h = subst (λ (m : ℕ). T (f m x)) (sym (add-zero i)) (both_left (f i x) (every f (suc i) xs) t)
from d f (x ∷ xs) i t (suc k) h =
    subst (λ (m : ℕ). T (f m (get_or xs k d))) (suc-add i k ∙ sym (add-suc i k))
    (from d f xs (suc i) (both_right (f i x) (every f (suc i) xs) t) k (le_of_suc-le-suc h))

pub at : {A : Type 0} (d : A) (f : ℕ → A → Bool) (xs : List A) → T (every f 0 xs) → (k : ℕ) → k < length xs → T (f k (get_or xs k d))
at d f xs t k h = subst (λ (m : ℕ). T (f m (get_or xs k d))) (zero-add k) (from d f xs 0 t k h)

-- the test at each row: as many entries as n, and f at each of them
abbrev pub row_test : {A : Type 0} → ℕ → (ℕ → ℕ → A → Bool) → ℕ → List A → Bool
row_test n f k row = both (eqb (length row) n) (every (f k) 0 row)

-- a table of rows of n entries each, tested at every entry
pub at2 : {A : Type 0} (d : A) (n : ℕ) (f : ℕ → ℕ → A → Bool) (t : List (List A)) → T (every (row_test n f) 0 t) → (k s : ℕ) → k < length t → s < n → T (f k s (get_or (get_or t k []) s d))
at2 d n f t ok k s hk hs =
    let row : List _ = get_or t k [] in
    let r : T (both (eqb (length row) n) (every (f k) 0 row)) = at [] (row_test n f) t ok k hk in
    let e : length row ≡ n = eqb→eq (length row) n (both_left (eqb (length row) n) (every (f k) 0 row) r) in
    at d (f k) row (both_right (eqb (length row) n) (every (f k) 0 row) r) s (subst (λ (m : ℕ). s < m) (sym e) hs)
