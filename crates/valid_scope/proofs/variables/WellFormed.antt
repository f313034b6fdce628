-- A type is well-formed exactly if each variable that is bound inside it is of its letter, each free variable is bound by Δ and of its
-- letter there, and its lists of items are as their use asks.
use Prim.Native.Nat.{ℕ, zero, suc, ◌+◌, ◌<◌}
use native.Mathlib.Nat.{zero-add, suc-add, add_comm, not-suc-le-zero, le_of_suc-le-suc}
use native.Mathlib.Omega.{arith}
use mathlib.Core.Path.{◌≡◌, refl, ap, sym, ◌∙◌}
use mathlib.Core.Bool.{Bool, true, false, ◌&&◌, ◌||◌, cond}
use mathlib.Core.Option.{Option, none, some}
use mathlib.Core.List.{List, [], ◌∷◌, ◌++◌}
use lib.Dec.{eqb}
use lib.ListN.{length, get_elem?}
use borrow.Author.Tests.{eqb-true, eqb-false, eq-eqb}
use Rattle.syntax.specs.Syntax.{Kind, value, stack}
use Rattle.types.specs.Types.{Ty, int, junk, var, tuple, pointer, hidden, code, nil, push, svar, gap, Use, a_stack, a_tuple, a_file}
use Rattle.types.proofs.Equal.{and_inv}
use Rattle.types.proofs.Filling.{Side, lo, hi, side}
use Rattle.valid.specs.Tests.{is_kind, is_stack, is_file, is_formed}
use Rattle.valid_scope.specs.variables.Free.{both, use_of, fits, fit_to, free_as, respected, proper}

-- ---- small facts
and_true : (b : Bool) → b && true ≡ b
and_true true = refl
and_true false = refl

and_same : (b : Bool) → b ≡ b && b
and_same true = refl
and_same false = refl

pub past : {A : Type 0} (q Δ : List A) (k : ℕ) → get_elem? (q ++ Δ) (length q + k) ≡ get_elem? Δ k
past [] Δ k = ap (get_elem? Δ) (zero-add k)
past (x ∷ q) Δ k = ap (get_elem? (x ∷ (q ++ Δ))) (suc-add (length q) k) ∙ past q Δ k

pub front : {A : Type 0} (q Δ : List A) (k : ℕ) → k < length q → get_elem? (q ++ Δ) k ≡ get_elem? q k
front [] Δ k h = absurd (not-suc-le-zero h)
front (x ∷ q) Δ zero h = refl
front (x ∷ q) Δ (suc k) h = front q Δ k (le_of_suc-le-suc h)

-- ---- letters
pub fits_unused : (o : Option Kind) → fits 0 o ≡ true
unfolding fits
fits_unused none = refl
fits_unused (some κ) = refl

value_fits : (o : Option Kind) → fits 1 o ≡ is_kind value o
unfolding fits is_kind use_of
value_fits none = refl
value_fits (some value) = refl
value_fits (some stack) = refl

stack_fits : (o : Option Kind) → fits 2 o ≡ is_kind stack o
unfolding fits is_kind use_of
stack_fits none = refl
stack_fits (some value) = refl
stack_fits (some stack) = refl

no_three : (κ : Kind) → eqb 3 (use_of κ) ≡ false
unfolding use_of
no_three value = refl
no_three stack = refl

-- what is used in two ways fits where both fit
pub fits_both : (u w : ℕ) (o : Option Kind) → fits (both u w) o ≡ fits u o && fits w o
unfolding fits both
fits_both u w none = go (eqb u 0) (eqb w 0) (eqb u w) refl refl
  where
    go : (a b c : Bool) → eqb u 0 ≡ a → eqb w 0 ≡ b → eqb (cond a w (cond b u (cond c u 3))) 0 ≡ a && b
    go true b c p q = q
    go false true c p q = p
    go false false true p q = p
    go false false false p q = refl
fits_both u w (some κ) = go (eqb u 0) (eqb w 0) (eqb u w) refl refl refl
  where
    m : ℕ
    m = use_of κ

    one : (a b : Bool) → eqb u m ≡ a → eqb w m ≡ b → eqb u w ≡ false → false ≡ a && b
    one false b p q r = refl
    one true false p q r = refl
    one true true p q r = absurd (eqb-false u w r (eqb-true u m p ∙ sym (eqb-true w m q)))

    go : (a b c : Bool) → eqb u 0 ≡ a → eqb w 0 ≡ b → eqb u w ≡ c → (eqb (cond a w (cond b u (cond c u 3))) 0 || eqb (cond a w (cond b u (cond c u 3))) m) ≡ (a || eqb u m) && (b || eqb w m)
    go true b c p q r = ap (λ z. z || eqb w m) q
    go false true c p q r = ap (λ z. z || eqb u m) p ∙ sym (and_true (eqb u m))
    go false false true p q r = ap (λ z. z || eqb u m) p ∙ and_same (eqb u m) ∙ ap (λ z. eqb u m && eqb z m) (eqb-true u w r)
    go false false false p q r = no_three κ ∙ one (eqb u m) (eqb w m) refl refl r

-- ---- the variables below n
pub below_suc : (P : ℕ → Type 0) (n : ℕ) → ((k : ℕ) → k < n → P k) → P n → (k : ℕ) → k < suc n → P k
below_suc P n h p k l = go (eqb k n) refl
  where
    go : (b : Bool) → eqb k n ≡ b → P k
    go true e = rw (eqb-true k n e) p
    go false e = let d = eqb-false k n e in h k (omega arith)

pub fit_each : (Δ : List Kind) (f : ℕ → ℕ) (n : ℕ) → fit_to Δ f n ≡ true → (k : ℕ) → k < n → fits (f k) (get_elem? Δ k) ≡ true
unfolding fit_to
fit_each Δ f zero e k h = absurd (not-suc-le-zero h)
fit_each Δ f (suc n) e k h = let j = and_inv _ _ e in below_suc (λ i. fits (f i) (get_elem? Δ i) ≡ true) n (fit_each Δ f n j.0) j.1 k h

pub fit_all : (Δ : List Kind) (f : ℕ → ℕ) (n : ℕ) → ((k : ℕ) → k < n → fits (f k) (get_elem? Δ k) ≡ true) → fit_to Δ f n ≡ true
unfolding fit_to
fit_all Δ f zero h = refl
fit_all Δ f (suc n) h = rw (fit_all Δ f n (λ k l. h k (omega arith)), h n (omega arith))

-- ---- one variable
used : (Δ : List Kind) (u j k : ℕ) → fits u (get_elem? Δ j) ≡ true → fits (cond (eqb j k) u 0) (get_elem? Δ k) ≡ true
used Δ u j k e = go (eqb j k) refl
  where
    go : (b : Bool) → eqb j k ≡ b → fits (cond b u 0) (get_elem? Δ k) ≡ true
    go true p = rw (← (eqb-true j k p)) e
    go false p = fits_unused (get_elem? Δ k)

own : (Δ : List Kind) (u j : ℕ) → fits (cond (eqb j j) u 0) (get_elem? Δ j) ≡ true → fits u (get_elem? Δ j) ≡ true
own Δ u j e = rw (eq-eqb j j refl) at e

parts : (Δ : List Kind) (k u w : ℕ) → fits (both u w) (get_elem? Δ k) ≡ true → (fits u (get_elem? Δ k) ≡ true) × (fits w (get_elem? Δ k) ≡ true)
parts Δ k u w e = and_inv _ _ (sym (fits_both u w (get_elem? Δ k)) ∙ e)

-- under the letters q: a variable is bound by them, or it is one further out
under : (q Δ : List Kind) (f g : ℕ → ℕ) → fit_to q (λ k. both (f k) (g k)) (length q) ≡ true → ((k : ℕ) → fits (both (f (length q + k)) (g (length q + k))) (get_elem? Δ k) ≡ true) → (k : ℕ) → (fits (f k) (get_elem? (q ++ Δ) k) ≡ true) × (fits (g k) (get_elem? (q ++ Δ) k) ≡ true)
under q Δ f g e h k = go (side (length q) k)
  where
    go : Side (length q) k → (fits (f k) (get_elem? (q ++ Δ) k) ≡ true) × (fits (g k) (get_elem? (q ++ Δ) k) ≡ true)
    go (lo l) = rw (front q Δ k l) (parts q k (f k) (g k) (fit_each q (λ k. both (f k) (g k)) (length q) e k l))
    go (hi j p) = rw (p ∙ add_comm j (length q), past q Δ j) (parts Δ j (f (length q + j)) (g (length q + j)) (h j))

-- under a package's variable
inside : (Δ : List Kind) (f : ℕ → ℕ) → fits (f 0) (some value) ≡ true → ((k : ℕ) → fits (f (suc k)) (get_elem? Δ k) ≡ true) → (k : ℕ) → fits (f k) (get_elem? (value ∷ Δ) k) ≡ true
inside Δ f e h zero = e
inside Δ f e h (suc k) = h k

-- ---- well-formed types
pub formed_free : (Δ : List Kind) (u : Use) {κ : Kind} (t : Ty κ) → is_formed Δ u t ≡ true → (k : ℕ) → fits (free_as k t) (get_elem? Δ k) ≡ true
unfolding is_formed free_as
formed_free Δ u int e k = fits_unused (get_elem? Δ k)
formed_free Δ u junk e k = fits_unused (get_elem? Δ k)
formed_free Δ u (var j) e k = used Δ 1 j k (value_fits (get_elem? Δ j) ∙ e)
formed_free Δ u (tuple a) e k = formed_free Δ a_tuple a e k
formed_free Δ u (pointer a) e k = formed_free Δ a_stack a e k
formed_free Δ u (hidden t) e k = formed_free (value ∷ Δ) a_stack t e (suc k)
formed_free Δ u (code q a r) e k =
    let h = and_inv _ _ e in
    let j = and_inv _ _ h.1 in
    let x = formed_free (q ++ Δ) a_stack a h.0 (length q + k) in
    let y = formed_free (q ++ Δ) a_file r j.0 (length q + k) in
    rw (fits_both, rw past at x, rw past at y)
formed_free Δ u nil e k = fits_unused (get_elem? Δ k)
formed_free Δ u (push t a) e k = let h = and_inv _ _ e in rw (fits_both, formed_free Δ u t h.0 k, formed_free Δ u a h.1 k)
formed_free Δ u (svar j a) e k =
    let h = and_inv (is_kind stack (get_elem? Δ j)) (is_formed Δ u a) (and_inv (is_stack u) _ e).1 in
    rw (fits_both, used Δ 2 j k (stack_fits (get_elem? Δ j) ∙ h.0), formed_free Δ u a h.1 k)
formed_free Δ u (gap a) e k = formed_free Δ u a (and_inv (is_file u) _ e).1 k

pub formed_respected : (Δ : List Kind) (u : Use) {κ : Kind} (t : Ty κ) → is_formed Δ u t ≡ true → respected t ≡ true
unfolding is_formed respected
formed_respected Δ u int e = refl
formed_respected Δ u junk e = refl
formed_respected Δ u (var j) e = refl
formed_respected Δ u (tuple a) e = formed_respected Δ a_tuple a e
formed_respected Δ u (pointer a) e = formed_respected Δ a_stack a e
formed_respected Δ u (hidden t) e = rw (formed_respected (value ∷ Δ) a_stack t e) (formed_free (value ∷ Δ) a_stack t e 0)
formed_respected Δ u (code q a r) e =
    let h = and_inv _ _ e in
    let j = and_inv _ _ h.1 in
    rw (formed_respected (q ++ Δ) a_stack a h.0, formed_respected (q ++ Δ) a_file r j.0)
    (fit_all q (λ k. both (free_as k a) (free_as k r)) (length q) λ k l.
    let x = formed_free (q ++ Δ) a_stack a h.0 k in
    let y = formed_free (q ++ Δ) a_file r j.0 k in
    rw (fits_both, rw (front q Δ k l) at x, rw (front q Δ k l) at y))
formed_respected Δ u nil e = refl
formed_respected Δ u (push t a) e = let h = and_inv _ _ e in rw (formed_respected Δ u t h.0, formed_respected Δ u a h.1)
formed_respected Δ u (svar j a) e = formed_respected Δ u a (and_inv (is_kind stack (get_elem? Δ j)) _ (and_inv (is_stack u) _ e).1).1
formed_respected Δ u (gap a) e = formed_respected Δ u a (and_inv (is_file u) _ e).1

pub formed_made : (Δ : List Kind) (u : Use) {κ : Kind} (t : Ty κ) → proper u t ≡ true → respected t ≡ true → ((k : ℕ) → fits (free_as k t) (get_elem? Δ k) ≡ true) → is_formed Δ u t ≡ true
unfolding is_formed proper respected free_as
formed_made Δ u int p e f = refl
formed_made Δ u junk p e f = refl
formed_made Δ u (var j) p e f = sym (value_fits (get_elem? Δ j)) ∙ own Δ 1 j (f j)
formed_made Δ u (tuple a) p e f = formed_made Δ a_tuple a p e f
formed_made Δ u (pointer a) p e f = formed_made Δ a_stack a p e f
formed_made Δ u (hidden t) p e f = let j = and_inv _ _ e in formed_made (value ∷ Δ) a_stack t p j.0 (inside Δ (λ k. free_as k t) j.1 f)
formed_made Δ u (code q a r) p e f =
    let h = and_inv _ _ p in
    let i = and_inv _ _ h.1 in
    let j = and_inv _ _ e in
    let l = and_inv _ _ j.0 in
    let g = under q Δ (λ k. free_as k a) (λ k. free_as k r) j.1 f in
    rw (formed_made (q ++ Δ) a_stack a h.0 l.0 (λ k. (g k).0), formed_made (q ++ Δ) a_file r i.0 l.1 (λ k. (g k).1)) i.1
formed_made Δ u nil p e f = refl
formed_made Δ u (push t a) p e f =
    let h = and_inv _ _ p in
    let j = and_inv _ _ e in
    rw (formed_made Δ u t h.0 j.0 (λ k. (parts Δ k (free_as k t) (free_as k a) (f k)).0), formed_made Δ u a h.1 j.1 (λ k. (parts Δ k (free_as k t) (free_as k a) (f k)).1))
formed_made Δ u (svar j a) p e f =
    let h = and_inv (is_stack u) (proper u a) p in
    rw (h.0, sym (stack_fits (get_elem? Δ j)) ∙ own Δ 2 j (parts Δ j (cond (eqb j j) 2 0) (free_as j a) (f j)).0, formed_made Δ u a h.1 e (λ k. (parts Δ k (cond (eqb j k) 2 0) (free_as k a) (f k)).1))
formed_made Δ u (gap a) p e f = let h = and_inv (is_file u) (proper u a) p in rw h.0 (formed_made Δ u a h.1 e f)
