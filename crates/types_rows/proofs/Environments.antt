-- Laws of environments.
use mathlib.Core.Path.{◌≡◌, refl, ap, ap₂, sym, ◌∙◌, subst, fun_ext}
use mathlib.Core.Bool.{Bool, true, false, cond}
use mathlib.Core.List.{List, [], ◌∷◌, ◌++◌}
use Prim.Native.Nat.{ℕ, zero, suc, ◌+◌, ◌-◌, ◌*◌, ◌/◌, ◌%◌, ◌<◌, ◌≤◌}
use native.Mathlib.Omega.{arith}
use native.Mathlib.Nat.{add-zero, not-suc-le-zero}
use lib.Dec.{eqb, ltb}
use lib.ListN.{length, length-append, get_or, set, get_or-append}
use lib.Seq.{get_or_at, get_or-set_same, get_or-set_other}
use borrow.Author.Tests.{eq-eqb, ne_eqb, eqb-true, eqb-false, lt-ltb, le-ltb, ltb-true, ltb-false}
use Rattle.syntax.specs.Syntax.{Kind, value, stack}
use Rattle.types.specs.Types.{Ty, int, junk, var, tuple, pointer, hidden, code, nil, push, svar, gap, join, items, variable, Act, walk, raising, raise, Use, Wf}
use Rattle.types.proofs.Filling.{Side, lo, hi, side, below_lt, below_ge, fuse, walk_variable, walk_closed, walk_join, walk_items}
use Rattle.tables.specs.Tables.{cell}
use Rattle.types_rows.specs.declared.Val.TheVariants.{ValVar, ValFill}
use Rattle.types_rows.specs.declared.Stk.TheVariants.{StkVar, StkFill}
use Rattle.std.specs.Prelude.{Option, Some, None}
use Rattle.types_rows.specs.Read.{placed, acting, lift, value_with, stack_with, place_v, place_s, value_at, stack_at}
use Rattle.types_rows.specs.Environments.{var_in, read_in, name_at, name_in, shifted, free_at, Known}
use Rattle.types_rows.proofs.Laws.{never}

-- ---- variables
-- an even environment: the count of hidden variables then
pub var_even : (E : List ℕ) (e j : ℕ) → e % 2 ≡ 0 → var_in E e j ≡ j + (length E - e / 2)
unfolding var_in
var_even E e zero h = let q : suc e / 2 ≡ e / 2 = omega arith in rw q (omega arith)
var_even E e (suc j) h = rw (eq-eqb (e % 2) 0 h) refl

-- the inside of a package: the new variable, and the others
pub var_first : (E : List ℕ) (e : ℕ) → var_in E e 0 ≡ length E - suc e / 2
unfolding var_in
var_first E e = refl

pub var_rest : (E : List ℕ) (e j : ℕ) → (e % 2 ≡ 0 → ⊥) → var_in E e (suc j) ≡ var_in E (get_or E (e / 2) 0) j
unfolding var_in
var_rest E e j h = rw (ne_eqb (e % 2) 0 h) refl

pub var_now : (E : List ℕ) (j : ℕ) → var_in E (2 * length E) j ≡ j
var_now E j = let h = var_even E (2 * length E) j (omega arith) in let q : (2 * length E) / 2 ≡ length E = omega arith in omega arith

-- what the loop of the code comes to
pub var_step : (E : List ℕ) (x k : ℕ) {y : ℕ} → (x % 2 ≡ 0 → ⊥) → (k ≡ 0 → ⊥) → y ≡ get_or E (x / 2) 0 → var_in E y (k - 1) ≡ var_in E x k
var_step E x zero n z e = absurd (z refl)
var_step E x (suc k) n z e = let q : suc k - 1 ≡ k = omega arith in rw (q, e) (sym (var_rest E x k n))

pub var_zero : (E : List ℕ) (x k : ℕ) → k ≡ 0 → length E - (x + 1) / 2 ≡ var_in E x k
var_zero E x k z = let q : x + 1 ≡ suc x = omega arith in rw (z, q) (sym (var_first E x))

-- one more package opened
module _ (E : List ℕ) (p : ℕ) (k : Known E) where
  length_more : length (E ++ p ∷ []) ≡ suc (length E)
  length_more = length-append E (p ∷ []) ∙ omega arith

  pub var_more : (e j : ℕ) → e ≤ 2 * length E → var_in (E ++ p ∷ []) e j ≡ suc (var_in E e j)
  var_more e zero l = let h = length_more in var_first (E ++ p ∷ []) e ∙ omega (arith, var_first E e)
  var_more e (suc j) l = go (eqb (e % 2) 0) refl (λ x. var_more x j)
    where
      go : (b : Bool) → eqb (e % 2) 0 ≡ b → ((x : ℕ) → x ≤ 2 * length E → var_in (E ++ p ∷ []) x j ≡ suc (var_in E x j)) → var_in (E ++ p ∷ []) e (suc j) ≡ suc (var_in E e (suc j))
      go true q r =
          let z = eqb-true (e % 2) 0 q in
          let h = length_more in
          let a = var_even (E ++ p ∷ []) e (suc j) z in
          let b = var_even E e (suc j) z in
          omega arith
      go false q r =
          let z = eqb-false (e % 2) 0 q in
          let x : e / 2 < length E = omega arith in
          let u = k.exist (e / 2) x in
          let y : get_or E (e / 2) 0 ≤ 2 * length E = omega arith in
          var_rest (E ++ p ∷ []) e j z ∙ ap (λ v. var_in (E ++ p ∷ []) v j) (get_or-append E (p ∷ []) 0 (e / 2) x) ∙ r (get_or E (e / 2) 0) y ∙ ap suc (sym (var_rest E e j z))

  -- the new package
  pub var_opened : (j : ℕ) → p ≤ 2 * length E → var_in (E ++ p ∷ []) (suc (2 * length E)) (suc j) ≡ suc (var_in E p j)
  var_opened j l =
      let z : suc (2 * length E) % 2 ≡ 0 → ⊥ = λ w. omega arith in
      let q : suc (2 * length E) / 2 ≡ length E = omega arith in
      var_rest (E ++ p ∷ []) (suc (2 * length E)) j z ∙ ap (λ v. var_in (E ++ p ∷ []) v j) (ap (λ v. get_or (E ++ p ∷ []) v 0) q ∙ get_or_at E p [] 0 (length E) refl) ∙ var_more p j l

  pub var_new : var_in (E ++ p ∷ []) (suc (2 * length E)) 0 ≡ 0
  var_new = let h = length_more in let q : suc (suc (2 * length E)) / 2 ≡ suc (length E) = omega arith in var_first (E ++ p ∷ []) (suc (2 * length E)) ∙ omega arith

pub known_none : Known []
known_none = record { exist = λ i l. absurd (not-suc-le-zero l) }

pub known_more : (E : List ℕ) (p : ℕ) → Known E → p ≤ 2 * length E → Known (E ++ p ∷ [])
known_more E p k l = record { exist = at }
  where
    at : (i : ℕ) → i < length (E ++ p ∷ []) → get_or (E ++ p ∷ []) i 0 ≤ 2 * i
    at i h = go (eqb i (length E)) refl
      where
        go : (b : Bool) → eqb i (length E) ≡ b → get_or (E ++ p ∷ []) i 0 ≤ 2 * i
        go true e =
            let q = eqb-true i (length E) e in
            let g : get_or (E ++ p ∷ []) i 0 ≡ p = ap (λ v. get_or (E ++ p ∷ []) v 0) q ∙ get_or_at E p [] 0 (length E) refl in
            omega arith
        go false e =
            let q = eqb-false i (length E) e in
            let m = length_more E p k in
            let w : i < length E = omega arith in
            let g = get_or-append E (p ∷ []) 0 i w in
            let u = k.exist i w in
            omega arith

-- ---- what stands for a variable
-- environments that are no tables: even ones, and small ones
pub name_even : (E : List ℕ) (e j : ℕ) → e % 2 ≡ 0 → name_in E e j ≡ var_in E e j
unfolding name_in
name_even E e j h = rw (eq-eqb (e % 2) 0 h) refl

pub name_small : (E : List ℕ) (e j : ℕ) → e < 65536 → name_in E e j ≡ var_in E e j
unfolding name_in
name_small E e j h = rw (lt-ltb e 65536 h) (both (eqb (e % 2) 0))
  where
    both : (b : Bool) → cond b (var_in E e j) (var_in E e j) ≡ var_in E e j
    both true = refl
    both false = refl

-- a table of names
pub name_listed : (E : List ℕ) (e j : ℕ) → (e % 2 ≡ 0 → ⊥) → 65536 ≤ e → name_in E e j ≡ name_at E (e / 2 - 32768) j
unfolding name_in
name_listed E e j n h = rw (ne_eqb (e % 2) 0 n, le-ltb e 65536 h) refl

shifted_at : (E : List ℕ) (e by j : ℕ) → shifted E e by j ≡ name_in E e j + by
unfolding shifted
shifted_at E e by j = refl

pub shifted_now : (E : List ℕ) (by : ℕ) → shifted E (2 * length E) by ≡ lift by
shifted_now E by = fun_ext (λ j. shifted_at E (2 * length E) by j ∙ ap (λ z. z + by) (name_even E (2 * length E) j (omega arith) ∙ var_now E j))

pub shifted_none : (by : ℕ) → shifted [] 0 by ≡ lift by
shifted_none by = shifted_now [] by

pub shifted_plain : (E : List ℕ) (e : ℕ) → e ≤ 65535 → shifted E e 0 ≡ var_in E e
shifted_plain E e h = fun_ext (λ j. shifted_at E e 0 j ∙ omega (arith, name_small E e j (omega arith)))

-- the same variables under another number, in a list that has tables
pub shifted_as : (E N : List ℕ) (e c by : ℕ) → e ≤ 65535 → ((j : ℕ) → name_in N c j ≡ var_in E e j) → shifted N c by ≡ shifted E e by
shifted_as E N e c by h f = fun_ext (λ j. shifted_at N c by j ∙ ap (λ z. z + by) (f j ∙ sym (name_small E e j (omega arith))) ∙ sym (shifted_at E e by j))

-- ---- tables of names
name_low : (N : List ℕ) (f j : ℕ) → j < 64 → name_at N f j ≡ get_or N (f + j) 0
unfolding name_at
name_low N f j h = rw (lt-ltb j 64 h) refl

name_high : (N : List ℕ) (f j : ℕ) → 64 ≤ j → name_at N f j ≡ get_or N (f + 64) 0 + (j - 64)
unfolding name_at
name_high N f j h = rw (le-ltb j 64 h) refl

-- what the code of a look-up comes to
pub listed_low : (N : List ℕ) (f j : ℕ) {o : ℕ} → j < 64 → o ≡ get_or N (f + j) 0 → o ≡ name_at N f j
listed_low N f j h e = e ∙ sym (name_low N f j h)

pub listed_high : (N : List ℕ) (f j : ℕ) {o : ℕ} → 64 ≤ j → o ≡ get_or N (f + 64) 0 → o + (j - 64) ≡ name_at N f j
listed_high N f j h e = ap (λ z. z + (j - 64)) e ∙ sym (name_high N f j h)

-- a table that is kept
pub names_kept : (N M : List ℕ) (f j : ℕ) → ((i : ℕ) → i < f + 65 → get_or M i 0 ≡ get_or N i 0) → name_at M f j ≡ name_at N f j
names_kept N M f j h = go (ltb j 64) refl
  where
    go : (b : Bool) → ltb j 64 ≡ b → name_at M f j ≡ name_at N f j
    go true q = let l = ltb-true j 64 q in name_low M f j l ∙ h (f + j) (omega arith) ∙ sym (name_low N f j l)
    go false q = let l = ltb-false j 64 q in name_high M f j l ∙ ap (λ z. z + (j - 64)) (h (f + 64) (omega arith)) ∙ sym (name_high N f j l)

-- a table under way: the variables of environment e from j on are those of x from k on, and the names of those before j are written from f on
pub record Naming (E : List ℕ) (e f : ℕ) (N₀ N : List ℕ) (x k j : ℕ) : Type 0 where
  pub rest : (i : ℕ) → var_in E x (k + i) ≡ var_in E e (j + i)
  pub first : (x % 2 ≡ 0 → ⊥) → k ≡ 0
  pub named : (i : ℕ) → i < j → get_or N (f + i) 0 ≡ var_in E e i
  pub before : (i : ℕ) → i < f → get_or N i 0 ≡ get_or N₀ i 0

module _ (E : List ℕ) (e f : ℕ) (N₀ : List ℕ) where
  module _ (N : List ℕ) (x k j y : ℕ) (g : Naming E e f N₀ N x k j) (l : f + j < length N) (v : y ≡ var_in E x k) where
    at_rest : (i : ℕ) {n m : ℕ} → n ≡ k + i → m ≡ j + i → var_in E x n ≡ var_in E e m
    at_rest i p q = ap (var_in E x) p ∙ g.rest i ∙ ap (var_in E e) (sym q)

    stored : (i : ℕ) → i < suc j → get_or (set N (f + j) y) (f + i) 0 ≡ var_in E e i
    stored i h = go (eqb i j) refl
      where
        go : (b : Bool) → eqb i j ≡ b → get_or (set N (f + j) y) (f + i) 0 ≡ var_in E e i
        go true q = let p = eqb-true i j q in rw p (get_or-set_same N (f + j) y 0 l ∙ v ∙ at_rest 0 (omega arith) (omega arith))
        go false q = let p = eqb-false i j q in get_or-set_other N (f + j) (f + i) y 0 (λ w. omega (arith, p)) ∙ g.named i (omega (arith, p))

    kept : (i : ℕ) → i < f → get_or (set N (f + j) y) i 0 ≡ get_or N₀ i 0
    kept i h = get_or-set_other N (f + j) i y 0 (λ w. omega arith) ∙ g.before i h

    -- one more name, of an even environment, and of the inside of a package
    pub naming_even : x % 2 ≡ 0 → Naming E e f N₀ (set N (f + j) y) x (k + 1) (j + 1)
    naming_even z =
        record {
          rest = λ i. at_rest (1 + i) (omega arith) (omega arith);
          first = λ n. absurd (n z);
          named = λ i h. stored i (omega arith);
          before = kept;
        }

    pub naming_odd : (x % 2 ≡ 0 → ⊥) → {w : ℕ} → w ≡ get_or E (x / 2) 0 → Naming E e f N₀ (set N (f + j) y) w k (j + 1)
    naming_odd n {w} q =
        let c = g.first n in
        record {
          rest = λ i. ap (λ z. var_in E z (k + i)) q ∙ ap (var_in E (get_or E (x / 2) 0)) (let p : k + i ≡ i = omega arith in p) ∙ sym (var_rest E x i n) ∙ at_rest (suc i) (omega arith) (omega arith);
          first = λ _. c;
          named = λ i h. stored i (omega arith);
          before = kept;
        }

    -- the last entry: from there on names go up by one each
    pub names_all : j ≡ 64 → x % 2 ≡ 0 → ((i : ℕ) → name_at (set N (f + 64) y) f i ≡ var_in E e i) × ((i : ℕ) → i < f → get_or (set N (f + 64) y) i 0 ≡ get_or N₀ i 0)
    names_all q z = subst (λ m. ((i : ℕ) → name_at (set N (f + m) y) f i ≡ var_in E e i) × ((i : ℕ) → i < f → get_or (set N (f + m) y) i 0 ≡ get_or N₀ i 0)) q (all, kept)
      where
        all : (i : ℕ) → name_at (set N (f + j) y) f i ≡ var_in E e i
        all i = go (ltb i 64) refl
          where
            go : (b : Bool) → ltb i 64 ≡ b → name_at (set N (f + j) y) f i ≡ var_in E e i
            go true p = let h = ltb-true i 64 p in name_low _ f i h ∙ stored i (omega arith)
            go false p =
                let h = ltb-false i 64 p in
                let s : get_or (set N (f + j) y) (f + 64) 0 ≡ var_in E e j = rw (sym q) (stored j (omega arith)) in
                let o : var_in E x k ≡ var_in E e j = at_rest 0 (omega arith) (omega arith) in
                let r : var_in E x (k + (i - 64)) ≡ var_in E e i = at_rest (i - 64) refl (omega arith) in
                let u = var_even E x k z in
                let w = var_even E x (k + (i - 64)) z in
                name_high _ f i h ∙ omega (arith, s, o, r, u, w)

-- ---- walks that put variables for variables
items_variable : (i : ℕ) → items (variable stack i) ≡ 1
unfolding items variable
items_variable i = refl

module _ (ρ : ℕ → ℕ) where
  pub acting_low : (d : ℕ) (κ : Kind) (k : ℕ) → k < d → acting [] ρ d κ k ≡ variable κ k
  unfolding acting
  acting_low d κ k h = below_lt d k (variable κ k) (placed κ ρ d []) h

  pub acting_high : (d : ℕ) (κ : Kind) (j : ℕ) → acting [] ρ d κ (j + d) ≡ variable κ (ρ j + d)
  unfolding acting placed
  acting_high d κ j = below_ge d j (variable κ (j + d)) (placed κ ρ d [])

  -- each free variable stays one
  pub acting_items : (d k : ℕ) → items (acting [] ρ d stack k) ≡ 1
  acting_items d k = go (side d k)
    where
      go : Side d k → items (acting [] ρ d stack k) ≡ 1
      go (lo h) = ap items (acting_low d stack k h) ∙ items_variable k
      go (hi j p) = ap (λ z. items (acting [] ρ d stack z)) p ∙ ap items (acting_high d stack j) ∙ items_variable (ρ j + d)

-- each variable for itself
walk_id : (f : Act) → ((d : ℕ) (κ : Kind) (k : ℕ) → f d κ k ≡ variable κ k) → (d : ℕ) {κ : Kind} (t : Ty κ) → walk f d t ≡ t
unfolding walk
walk_id f h d int = refl
walk_id f h d junk = refl
walk_id f h d (var k) = unfold variable in h d value k
walk_id f h d (tuple a) = ap tuple (walk_id f h d a)
walk_id f h d (pointer a) = ap pointer (walk_id f h d a)
walk_id f h d (hidden t) = ap hidden (walk_id f h (suc d) t)
walk_id f h d (code q a r) = ap₂ (code q) (walk_id f h (length q + d) a) (walk_id f h (length q + d) r)
walk_id f h d nil = refl
walk_id f h d (push t a) = ap₂ push (walk_id f h d t) (walk_id f h d a)
walk_id f h d (svar k a) = ap₂ join (h d stack k) (walk_id f h d a) ∙ (unfold variable join in refl)
walk_id f h d (gap a) = ap gap (walk_id f h d a)

stays : (d : ℕ) (κ : Kind) (k : ℕ) → acting [] (lift 0) d κ k ≡ variable κ k
stays d κ k = go (side d k)
  where
    go : Side d k → acting [] (lift 0) d κ k ≡ variable κ k
    go (lo h) = acting_low (lift 0) d κ k h
    go (hi j p) = let q : (j + 0) + d ≡ j + d = omega arith in rw p (acting_high (lift 0) d κ j ∙ ap (variable κ) q)

pub plain : (d : ℕ) {κ : Kind} (t : Ty κ) → walk (acting [] (lift 0)) d t ≡ t
plain d t = walk_id (acting [] (lift 0)) stays d t

-- raised after the walk
module _ (ρ ρ₂ : ℕ → ℕ) (h : (j : ℕ) → ρ₂ j ≡ suc (ρ j)) where
  raised_at : (e : ℕ) (κ : Kind) (k : ℕ) → Side e k → walk (raising 1) e (acting [] ρ e κ k) ≡ acting [] ρ₂ e κ k
  unfolding raising
  raised_at e κ k (lo l) = rw (acting_low ρ e κ k l, acting_low ρ₂ e κ k l, walk_variable) (below_lt e k (variable κ k) _ l)
  raised_at e κ k (hi j p) =
      let q : ρ j + (1 + e) ≡ ρ₂ j + e = omega (arith, h j) in
      rw (p, acting_high ρ e κ j, acting_high ρ₂ e κ j, walk_variable) (below_ge e (ρ j) (variable κ (ρ j + e)) _ ∙ ap (variable κ) q)

  walk_raised : {κ : Kind} (t : Ty κ) → walk (acting [] ρ₂) 0 t ≡ raise 1 (walk (acting [] ρ) 0 t)
  unfolding raise
  walk_raised t = sym (fuse (raising 1) (acting [] ρ) (acting [] ρ₂) 0 0 (λ e κ k. rw add-zero (raised_at e κ k (side e k))) 0 0 0 (omega arith) (omega arith) t)

-- one binder opened
module _ (ρ ρ₂ : ℕ → ℕ) (z : ρ₂ 0 ≡ 0) (h : (j : ℕ) → ρ₂ (suc j) ≡ suc (ρ j)) where
  opened_at : (e : ℕ) (κ : Kind) (k : ℕ) → Side e k → acting [] ρ (e + 1) κ k ≡ acting [] ρ₂ e κ k
  opened_at e κ k (lo l) = rw (acting_low ρ (e + 1) κ k (omega arith), acting_low ρ₂ e κ k l) refl
  opened_at e κ k (hi zero p) =
      let q : ρ₂ 0 + e ≡ 0 + e = omega (arith, z) in
      rw (p, acting_low ρ (e + 1) κ (0 + e) (omega arith), acting_high ρ₂ e κ 0) (ap (variable κ) (sym q))
  opened_at e κ k (hi (suc j) p) =
      let q : k ≡ j + (e + 1) = omega arith in
      let i : ρ j + (e + 1) ≡ ρ₂ (suc j) + e = omega (arith, h j) in
      ap (acting [] ρ (e + 1) κ) q ∙ acting_high ρ (e + 1) κ j ∙ ap (variable κ) i ∙ sym (acting_high ρ₂ e κ (suc j)) ∙ ap (acting [] ρ₂ e κ) (sym p)

  walk_opened : {κ : Kind} (t : Ty κ) → walk (acting [] ρ) 1 t ≡ walk (acting [] ρ₂) 0 t
  walk_opened t =
      sym (plain 0 (walk (acting [] ρ) 1 t))
      ∙ fuse (acting [] (lift 0)) (acting [] ρ) (acting [] ρ₂) 0 1 (λ e κ k. plain (e + 0) (acting [] ρ (e + 1) κ k) ∙ opened_at e κ k (side e k)) 0 0 1 (omega arith) (omega arith) t

-- ---- types read in an environment
pub read_now : (E : List ℕ) {κ : Kind} (t : Ty κ) → read_in E (2 * length E) t ≡ t
unfolding read_in
read_now E t =
    let q : var_in E (2 * length E) ≡ lift 0 = fun_ext (λ j. var_now E j ∙ omega arith) in
    ap (λ (f : ℕ → ℕ). walk (acting [] f) 0 t) q ∙ plain 0 t

pub read_none : {κ : Kind} (t : Ty κ) → read_in [] 0 t ≡ t
read_none t = read_now [] t

-- one more package opened: what is held counts one further outward
pub read_more : (E : List ℕ) (p e : ℕ) → Known E → e ≤ 2 * length E → {κ : Kind} (t : Ty κ) → read_in (E ++ p ∷ []) e t ≡ raise 1 (read_in E e t)
unfolding read_in
read_more E p e k l t = walk_raised (var_in E e) (var_in (E ++ p ∷ []) e) (λ j. var_more E p k e j l) t

-- its inside, in the new environment
pub read_opened : (E : List ℕ) (p : ℕ) → Known E → p ≤ 2 * length E → (t : Ty value) → read_in E p (hidden t) ≡ hidden (read_in (E ++ p ∷ []) (suc (2 * length E)) t)
unfolding read_in walk
read_opened E p k l t = ap hidden (walk_opened (var_in E p) (var_in (E ++ p ∷ []) (suc (2 * length E))) (var_new E p k) (λ j. var_opened E p k j l) t)

pub read_closed : (E : List ℕ) (e : ℕ) (m : Use) {κ : Kind} (t : Ty κ) → Wf [] m t → read_in E e t ≡ t
unfolding read_in
read_closed E e m t w = walk_closed (acting [] (var_in E e)) (acting_low (var_in E e)) [] m 0 (omega arith) t w

module _ (E : List ℕ) (e : ℕ) where
  -- by the form of the type
  pub read_int : read_in E e int ≡ int
  unfolding read_in walk
  read_int = refl

  pub read_junk : read_in E e junk ≡ junk
  unfolding read_in walk
  read_junk = refl

  pub read_var : (k : ℕ) → read_in E e (var k) ≡ var (var_in E e k)
  unfolding read_in walk variable
  read_var k = let q : k + 0 ≡ k = omega arith in let r : var_in E e k + 0 ≡ var_in E e k = omega arith in ap (acting [] (var_in E e) 0 value) (sym q) ∙ acting_high (var_in E e) 0 value k ∙ ap var r

  pub read_tuple : (a : Ty stack) → read_in E e (tuple a) ≡ tuple (read_in E e a)
  unfolding read_in walk
  read_tuple a = refl

  pub read_pointer : (a : Ty stack) → read_in E e (pointer a) ≡ pointer (read_in E e a)
  unfolding read_in walk
  read_pointer a = refl

  pub read_hidden : (t : Ty value) → read_in E e (hidden t) ≡ hidden (walk (acting [] (var_in E e)) 1 t)
  unfolding read_in walk
  read_hidden t = refl

  pub read_code : (q : List Kind) (a r : Ty stack) → read_in E e (code q a r) ≡ code q (walk (acting [] (var_in E e)) (length q) a) (walk (acting [] (var_in E e)) (length q) r)
  unfolding read_in walk
  read_code q a r = rw (add-zero (length q)) refl

  pub read_nil : read_in E e nil ≡ nil
  unfolding read_in walk
  read_nil = refl

  pub read_push : (t : Ty value) (a : Ty stack) → read_in E e (push t a) ≡ push (read_in E e t) (read_in E e a)
  unfolding read_in walk
  read_push t a = refl

  pub read_svar : (k : ℕ) (a : Ty stack) → read_in E e (svar k a) ≡ svar (var_in E e k) (read_in E e a)
  unfolding read_in walk variable join
  read_svar k a =
      let q : k + 0 ≡ k = omega arith in
      let r : var_in E e k + 0 ≡ var_in E e k = omega arith in
      ap (λ z. join z (walk (acting [] (var_in E e)) 0 a)) (ap (acting [] (var_in E e) 0 stack) (sym q) ∙ acting_high (var_in E e) 0 stack k) ∙ ap (λ z. svar z (walk (acting [] (var_in E e)) 0 a)) r

  pub read_gap : (a : Ty stack) → read_in E e (gap a) ≡ gap (read_in E e a)
  unfolding read_in walk
  read_gap a = refl

  pub read_join : (a b : Ty stack) → read_in E e (join a b) ≡ join (read_in E e a) (read_in E e b)
  unfolding read_in
  read_join a b = walk_join (acting [] (var_in E e)) 0 a b

  pub read_items : (a : Ty stack) → items (read_in E e a) ≡ items a
  unfolding read_in
  read_items a = walk_items (acting [] (var_in E e)) 0 (acting_items (var_in E e) 0) a

-- ---- a row that is a variable, in an environment
-- a variable that stays, is filled, or is free; v and w make it a form
module _ {A : Type 0} (v w : ℕ → A) (m d k : ℕ) where
  abbrev placing : (ℕ → ℕ) → A
  placing ρ = cond (ltb k d) (v k) (cond (ltb (k - d) m) (w (k - d)) (v (ρ ((k - d) - m) + d)))

  placing_other : (ρ ρ₂ : ℕ → ℕ) → k < d + m → placing ρ ≡ placing ρ₂
  placing_other ρ ρ₂ l = go (ltb k d) refl
    where
      go : (b : Bool) → ltb k d ≡ b → placing ρ ≡ placing ρ₂
      go true e = rw e refl
      go false e =
          let q = ltb-false k d e in
          rw (e, lt-ltb (k - d) m (omega arith)) refl

  placing_free : (ρ : ℕ → ℕ) → d + m ≤ k → v (ρ (k - (d + m)) + d) ≡ placing ρ
  placing_free ρ l =
      let q : k - (d + m) ≡ (k - d) - m = omega arith in
      rw (le-ltb k d (omega arith), le-ltb (k - d) m (omega arith), q) refl

module _ (rows : List ℕ) (m d : ℕ) where
  free_value : (ρ : ℕ → ℕ) (h x : ℕ) → free_at rows ρ 2 m d h ≡ Some x → ValVar x ≡ value_at rows (place_v m ρ d) h
  unfolding free_at value_with
  free_value ρ zero x e = never cc
  free_value ρ (suc r) x e = go (eqb (cell 4 rows r 0) 2) refl (ltb (cell 4 rows r 1) (d + m)) refl e
    where
      go : (a : Bool) → eqb (cell 4 rows r 0) 2 ≡ a → (b : Bool) → ltb (cell 4 rows r 1) (d + m) ≡ b
          → cond a (cond b None (Some (ρ (cell 4 rows r 1 - (d + m)) + d))) None ≡ Some x → ValVar x ≡ value_at rows (place_v m ρ d) (suc r)
      go true p false q f =
          let z : ρ (cell 4 rows r 1 - (d + m)) + d ≡ x = cc in
          rw (← z, eqb-true (cell 4 rows r 0) 2 p) (placing_free ValVar ValFill m d (cell 4 rows r 1) ρ (ltb-false (cell 4 rows r 1) (d + m) q))
      go true p true q f = never cc
      go false p b q f = never cc

  other_value : (ρ ρ₂ : ℕ → ℕ) (h : ℕ) → free_at rows ρ₂ 2 m d h ≡ None → value_at rows (place_v m ρ d) h ≡ value_at rows (place_v m ρ₂ d) h
  unfolding free_at value_with
  other_value ρ ρ₂ zero e = refl
  other_value ρ ρ₂ (suc r) e = go (eqb (cell 4 rows r 0) 2) refl (ltb (cell 4 rows r 1) (d + m)) refl e
    where
      go : (a : Bool) → eqb (cell 4 rows r 0) 2 ≡ a → (b : Bool) → ltb (cell 4 rows r 1) (d + m) ≡ b
          → cond a (cond b None (Some (ρ₂ (cell 4 rows r 1 - (d + m)) + d))) None ≡ None → value_at rows (place_v m ρ d) (suc r) ≡ value_at rows (place_v m ρ₂ d) (suc r)
      go true p true q f = rw (eqb-true (cell 4 rows r 0) 2 p) (placing_other ValVar ValFill m d (cell 4 rows r 1) ρ ρ₂ (ltb-true (cell 4 rows r 1) (d + m) q))
      go true p false q f = never cc
      go false p b q f = rw p refl

  free_stack : (ρ : ℕ → ℕ) (h x : ℕ) → free_at rows ρ 8 m d h ≡ Some x → StkVar x ≡ stack_at rows (place_s m ρ d) h
  unfolding free_at stack_with
  free_stack ρ zero x e = never cc
  free_stack ρ (suc r) x e = go (eqb (cell 4 rows r 0) 8) refl (ltb (cell 4 rows r 1) (d + m)) refl e
    where
      go : (a : Bool) → eqb (cell 4 rows r 0) 8 ≡ a → (b : Bool) → ltb (cell 4 rows r 1) (d + m) ≡ b
          → cond a (cond b None (Some (ρ (cell 4 rows r 1 - (d + m)) + d))) None ≡ Some x → StkVar x ≡ stack_at rows (place_s m ρ d) (suc r)
      go true p false q f =
          let z : ρ (cell 4 rows r 1 - (d + m)) + d ≡ x = cc in
          rw (← z, eqb-true (cell 4 rows r 0) 8 p) (placing_free StkVar StkFill m d (cell 4 rows r 1) ρ (ltb-false (cell 4 rows r 1) (d + m) q))
      go true p true q f = never cc
      go false p b q f = never cc

  other_stack : (ρ ρ₂ : ℕ → ℕ) (h : ℕ) → free_at rows ρ₂ 8 m d h ≡ None → stack_at rows (place_s m ρ d) h ≡ stack_at rows (place_s m ρ₂ d) h
  unfolding free_at stack_with
  other_stack ρ ρ₂ zero e = refl
  other_stack ρ ρ₂ (suc r) e = go (eqb (cell 4 rows r 0) 8) refl (ltb (cell 4 rows r 1) (d + m)) refl e
    where
      go : (a : Bool) → eqb (cell 4 rows r 0) 8 ≡ a → (b : Bool) → ltb (cell 4 rows r 1) (d + m) ≡ b
          → cond a (cond b None (Some (ρ₂ (cell 4 rows r 1 - (d + m)) + d))) None ≡ None → stack_at rows (place_s m ρ d) (suc r) ≡ stack_at rows (place_s m ρ₂ d) (suc r)
      go true p true q f = rw (eqb-true (cell 4 rows r 0) 8 p) (placing_other StkVar StkFill m d (cell 4 rows r 1) ρ ρ₂ (ltb-true (cell 4 rows r 1) (d + m) q))
      go true p false q f = never cc
      go false p b q f = rw p refl

  -- as the code finds it
  module _ (ρ : ℕ → ℕ) (h : ℕ) {o : Option ℕ} where
    pub value_free : {x : ℕ} → o ≡ free_at rows ρ 2 m d h → o ≡ Some x → ValVar x ≡ value_at rows (place_v m ρ d) h
    value_free {x} e f = free_value ρ h x (sym e ∙ f)

    pub value_other : (ρ₂ : ℕ → ℕ) → o ≡ free_at rows ρ 2 m d h → o ≡ None → value_at rows (place_v m ρ₂ d) h ≡ value_at rows (place_v m ρ d) h
    value_other ρ₂ e f = other_value ρ₂ ρ h (sym e ∙ f)

    pub stack_free : {x : ℕ} → o ≡ free_at rows ρ 8 m d h → o ≡ Some x → StkVar x ≡ stack_at rows (place_s m ρ d) h
    stack_free {x} e f = free_stack ρ h x (sym e ∙ f)

    pub stack_other : (ρ₂ : ℕ → ℕ) → o ≡ free_at rows ρ 8 m d h → o ≡ None → stack_at rows (place_s m ρ₂ d) h ≡ stack_at rows (place_s m ρ d) h
    stack_other ρ₂ e f = other_stack ρ₂ ρ h (sym e ∙ f)

-- what it finds
module _ (rows : List ℕ) (ρ : ℕ → ℕ) (κ m d h : ℕ) where
  pub free_none : h ≡ 0 → None ≡ free_at rows ρ κ m d h
  unfolding free_at
  free_none z = rw z refl

  free_at_lem : 0 < h → free_at rows ρ κ m d h ≡ cond (eqb (cell 4 rows (h - 1) 0) κ) (cond (ltb (cell 4 rows (h - 1) 1) (d + m)) None (Some (ρ (cell 4 rows (h - 1) 1 - (d + m)) + d))) None
  unfolding free_at
  free_at_lem p = go h p
    where
      go : (h : ℕ) → 0 < h → free_at rows ρ κ m d h ≡ cond (eqb (cell 4 rows (h - 1) 0) κ) (cond (ltb (cell 4 rows (h - 1) 1) (d + m)) None (Some (ρ (cell 4 rows (h - 1) 1 - (d + m)) + d))) None
      go zero p = absurd (not-suc-le-zero p)
      go (suc r) p = let q : suc r - 1 ≡ r = omega arith in rw q refl

  pub free_not : {k : ℕ} → 0 < h → k ≡ cell 4 rows (h - 1) 0 → (k ≡ κ → ⊥) → None ≡ free_at rows ρ κ m d h
  free_not p e n = rw (free_at_lem p, ne_eqb (cell 4 rows (h - 1) 0) κ (λ z. n (e ∙ z))) refl

  module _ {k a : ℕ} (p : 0 < h) (e : k ≡ cell 4 rows (h - 1) 0) (f : a ≡ cell 4 rows (h - 1) 1) (g : k ≡ κ) where
    pub free_low : a < d + m → None ≡ free_at rows ρ κ m d h
    free_low l = rw (free_at_lem p, eq-eqb (cell 4 rows (h - 1) 0) κ (sym e ∙ g), lt-ltb (cell 4 rows (h - 1) 1) (d + m) (omega arith)) refl

    pub free_named : {x : ℕ} → d + m ≤ a → x ≡ ρ (a - (d + m)) + d → Some x ≡ free_at rows ρ κ m d h
    free_named l z = rw (free_at_lem p, eq-eqb (cell 4 rows (h - 1) 0) κ (sym e ∙ g), le-ltb (cell 4 rows (h - 1) 1) (d + m) (omega arith), z, f) refl
