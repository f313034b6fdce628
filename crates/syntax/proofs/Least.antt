-- The least number of a line's faults, 0 for none, and how the lowest line with a fault is found in a pass.
use Prim.Native.Nat.{ℕ, zero, suc, ◌+◌, ◌≤◌, min}
use native.Mathlib.Omega.{arith, min_cases}
use native.Mathlib.Nat.{add-zero}
use mathlib.Core.Path.{◌≡◌, refl, sym, ap, ap₂, ◌∙◌}
use mathlib.Core.Bool.{Bool, true, false, cond}
use mathlib.Core.Option.{Option, none, some}
use mathlib.Core.List.{List, [], ◌∷◌, ◌++◌}
use lib.Dec.{eqb}
use lib.ListN.{length}
use borrow.Author.Tests.{eqb-true}
use Rattle.syntax.specs.Fault.{Fault, fault, unfit, number_of, given, Pass, Clear, Refusal, first_item, earlier, lowest, refuse, lowest_line, or_else}

-- ---- numbers, where 0 stands for none
-- the lower of two numbers
unfoldable pub least : ℕ → ℕ → ℕ
least zero b = b
least (suc a) zero = suc a
least (suc a) (suc b) = suc (min a b)

pub least_none : (a : ℕ) → least a 0 ≡ a
unfolding least
least_none zero = refl
least_none (suc a) = refl

pub least_comm : (a b : ℕ) → least a b ≡ least b a
unfolding least
least_comm zero zero = refl
least_comm zero (suc b) = refl
least_comm (suc a) zero = refl
least_comm (suc a) (suc b) = omega arith

pub least_assoc : (a b c : ℕ) → least (least a b) c ≡ least a (least b c)
unfolding least
least_assoc zero b c = refl
least_assoc (suc a) zero c = refl
least_assoc (suc a) (suc b) zero = refl
least_assoc (suc a) (suc b) (suc c) = omega arith

-- two pairs, each taken from both
pub least_swap : (a b c d : ℕ) → least (least a b) (least c d) ≡ least (least a c) (least b d)
least_swap a b c d =
    let q : least b (least c d) ≡ least c (least b d) = sym (least_assoc b c d) ∙ (ap (λ (x : ℕ). least x d) (least_comm b c) ∙ least_assoc c b d) in
    least_assoc a b (least c d) ∙ (ap (least a) q ∙ sym (least_assoc a c (least b d)))

-- a turn of a loop: f so far and l left make a; with y taken from what is left, g so far and m left make a
pub least_turn : (f g y l m a : ℕ) → g ≡ least f y → l ≡ least y m → least f l ≡ a → least g m ≡ a
least_turn f g y l m a eg el h = ap (λ (x : ℕ). least x m) eg ∙ (least_assoc f y m ∙ (ap (least f) (sym el) ∙ h))

-- ---- faults
-- the least number of a line's faults, 0 for none
unfoldable pub least_of : List Fault → ℕ
least_of [] = 0
least_of (f ∷ fs) = lowest (number_of f) fs

-- only no fault has the number 0
abbrev pub Numbered : List Fault → Type 0
Numbered fs = least_of fs ≡ 0 → fs ≡ []

pub least_given : (b : Bool) (n : ℕ) → least_of (given b n) ≡ cond b n 0
unfolding least_of given lowest number_of
least_given true n = refl
least_given false n = refl

pub numbered_given : (b : Bool) (n : ℕ) → Numbered (given b (suc n))
unfolding least_of given lowest number_of
numbered_given true n e = absurd (omega arith)
numbered_given false n e = refl

-- a list without the fault n has it not given
pub given_none : (b : Bool) (n : ℕ) → given b n ≡ [] → b ≡ false
unfolding given
given_none true n e = let z : ◌≡◌ {A = ℕ} 0 1 = cc in absurd (omega arith)
given_none false n e = refl

-- ---- items
-- `given` names none
pub item_given : (b : Bool) (n : ℕ) → first_item (given b n) ≡ none
unfolding given first_item
item_given true n = refl
item_given false n = refl

-- the first of two, where there are any
unfoldable pub first_of : Option ℕ → Option ℕ → Option ℕ
first_of none b = b
first_of (some i) b = earlier i b

earlier_first : (i : ℕ) (a b : Option ℕ) → earlier i (first_of a b) ≡ first_of (earlier i a) b
unfolding earlier first_of
earlier_first i none b = refl
earlier_first i (some j) none = refl
earlier_first i (some j) (some k) = ap some (omega arith)

pub item_append : (p q : List Fault) → first_item (p ++ q) ≡ first_of (first_item p) (first_item q)
unfolding first_item
item_append [] q = unfold first_of in refl
item_append (fault n ∷ p) q = item_append p q
item_append (unfit i ∷ p) q = ap (earlier i) (item_append p q) ∙ earlier_first i (first_item p) (first_item q)

pub no_item_append : (p q : List Fault) → first_item p ≡ none → first_item q ≡ none → first_item (p ++ q) ≡ none
unfolding first_of
no_item_append p q e h = item_append p q ∙ ap₂ first_of e h

-- item i is that of one of the faults
pub data Among (i : ℕ) : List Fault → Type 0 where
  here : {k : ℕ} {fs : List Fault} → k ≡ i → Among i (unfit k ∷ fs)
  there : {f : Fault} {fs : List Fault} → Among i fs → Among i (f ∷ fs)

some_is : {a b : ℕ} → ◌≡◌ {A = Option ℕ} (some a) (some b) → a ≡ b
some_is e = cc

first_among : (fs : List Fault) (i : ℕ) → first_item fs ≡ some i → Among i fs
unfolding first_item earlier
first_among [] i e = let z : ◌≡◌ {A = ℕ} 0 1 = cc in absurd (omega arith)
first_among (fault n ∷ fs) i e = there (first_among fs i e)
first_among (unfit k ∷ fs) i e = go (first_item fs) refl e (first_among fs)
  where
    go : (o : Option ℕ) → first_item fs ≡ o → earlier k o ≡ some i → ((j : ℕ) → first_item fs ≡ some j → Among j fs) → Among i (unfit k ∷ fs)
    go none h e ih = here (some_is e)
    go (some j) h e ih = min_cases k j (Among i (unfit k ∷ fs)) (λ l m. here (sym m ∙ some_is e)) (λ l m. there (rw (sym m ∙ some_is e) at (ih j h)))

none_among : (fs : List Fault) {j : ℕ} → first_item fs ≡ none → Among j fs → ⊥
unfolding first_item earlier
none_among [] {j = j} e a = elim a [ ]
none_among (fault n ∷ fs) e (there a) = none_among fs e a
none_among (unfit k ∷ fs) e a = go (first_item fs) e
  where
    go : (o : Option ℕ) → earlier k o ≡ none → ⊥
    go none e = let z : ◌≡◌ {A = ℕ} 0 1 = cc in omega arith
    go (some j) e = let z : ◌≡◌ {A = ℕ} 0 1 = cc in omega arith

first_lowest : (fs : List Fault) (i j : ℕ) → first_item fs ≡ some i → Among j fs → i ≤ j
unfolding first_item earlier
first_lowest [] i j e a = elim a [ ]
first_lowest (fault n ∷ fs) i j e (there a) = first_lowest fs i j e a
first_lowest (unfit k ∷ fs) i j e a = go (first_item fs) refl e a (first_lowest fs)
  where
    go : (o : Option ℕ) → first_item fs ≡ o → earlier k o ≡ some i → Among j (unfit k ∷ fs) → ((i j : ℕ) → first_item fs ≡ some i → Among j fs → i ≤ j) → i ≤ j
    go none h e (here p) ih = let q = some_is e in omega arith
    go none h e (there a) ih = absurd (none_among fs h a)
    go (some m) h e (here p) ih = let q = some_is e in omega arith
    go (some m) h e (there a) ih = let q = some_is e in let l = ih m j h a in omega arith

-- the first item is one of the faults' items, and no other of them is before it
pub first_least : (fs : List Fault) (i : ℕ) → first_item fs ≡ some i → Among i fs × ((j : ℕ) → Among j fs → i ≤ j)
first_least fs i e = (first_among fs i e, λ j a. first_lowest fs i j e a)

-- a refusal by faults without an item
pub refuse_plain : (n line : ℕ) (fs : List Fault) → first_item fs ≡ none → refuse n line fs ≡ record { number = n; line = line; item = none }
refuse_plain n line fs e = ap (λ (i : Option ℕ). record { number = n; line = line; item = i }) (either (eqb n 10))
  where
    either : (b : Bool) → cond b (first_item fs) none ≡ none
    either true = e
    either false = refl

lowest_min : (m n : ℕ) (fs : List Fault) → lowest (min m n) fs ≡ min m (lowest n fs)
unfolding lowest
lowest_min m n [] = refl
lowest_min m n (f ∷ fs) = ap (λ (k : ℕ). lowest k fs) (min_assoc m n (number_of f)) ∙ lowest_min m (min n (number_of f)) fs
  where
    min_assoc : (a b c : ℕ) → min (min a b) c ≡ min a (min b c)
    min_assoc a b c = omega arith

lowest_append : (n : ℕ) (p : List Fault) (f : Fault) (q : List Fault) → lowest n (p ++ f ∷ q) ≡ min (lowest n p) (lowest (number_of f) q)
unfolding lowest
lowest_append n [] f q = lowest_min n (number_of f) q
lowest_append n (g ∷ p) f q = lowest_append (min n (number_of g)) p f q

-- the least of two that are not 0
least_min : (a b : ℕ) → (a ≡ 0 → ⊥) → (b ≡ 0 → ⊥) → min a b ≡ least a b
unfolding least
least_min zero b h k = absurd (h refl)
least_min (suc a) zero h k = absurd (k refl)
least_min (suc a) (suc b) h k = omega arith

cons_nil : {X : Type 0} {f : Fault} {fs : List Fault} → f ∷ fs ≡ [] → X
cons_nil e = let z : ◌≡◌ {A = ℕ} 0 1 = cc in absurd (omega arith)

pub least_append : (p q : List Fault) → Numbered p → Numbered q → least_of (p ++ q) ≡ least (least_of p) (least_of q)
unfolding least_of least
least_append [] q h k = refl
least_append (f ∷ p) [] h k = ap (lowest (number_of f)) (append_none p) ∙ sym (least_none (lowest (number_of f) p))
  where
    append_none : (l : List Fault) → l ++ [] ≡ l
    append_none [] = refl
    append_none (x ∷ l) = ap (◌∷◌ x) (append_none l)
least_append (f ∷ p) (g ∷ q) h k =
    lowest_append (number_of f) p g q ∙ least_min (lowest (number_of f) p) (lowest (number_of g) q) (λ e. cons_nil (h e)) (λ e. cons_nil (k e))

-- where the least of two is none, both are
least_zero : (a b : ℕ) → least a b ≡ 0 → (a ≡ 0) × (b ≡ 0)
unfolding least
least_zero zero b e = (refl, e)
least_zero (suc a) zero e = absurd (omega arith)
least_zero (suc a) (suc b) e = absurd (omega arith)

pub numbered_append : (p q : List Fault) → Numbered p → Numbered q → Numbered (p ++ q)
numbered_append p q h k e =
    let z = least_zero (least_of p) (least_of q) (sym (least_append p q h k) ∙ e) in
    rw (h z.0, k z.1) refl

-- a refusal with an item is of number 10, and has the first of its faults
pub refuse_item : (n line : ℕ) (fs : List Fault) (i : ℕ) → (refuse n line fs).item ≡ some i → (n ≡ 10) × (first_item fs ≡ some i)
refuse_item n line fs i e = go (eqb n 10) refl e
  where
    go : (b : Bool) → eqb n 10 ≡ b → cond b (first_item fs) none ≡ some i → (n ≡ 10) × (first_item fs ≡ some i)
    go true h e = (eqb-true n 10 h, e)
    go false h e = let z : ◌≡◌ {A = ℕ} 0 1 = cc in absurd (omega arith)

-- ---- lines
-- an item is named with 10 alone
pub item_ten : (n : ℕ) (p : Pass) {r : Refusal} {i : ℕ} → lowest_line n p ≡ some r → r.item ≡ some i → r.number ≡ 10
unfolding lowest_line
item_ten n [] e h = let z : ◌≡◌ {A = ℕ} 0 1 = cc in absurd (omega arith)
item_ten n ([] ∷ p) e h = item_ten (suc n) p e h
item_ten n ((f ∷ fs) ∷ p) {r} {i} e h =
    let q : refuse (lowest (number_of f) fs) n (f ∷ fs) ≡ r = cc in
    sym (ap (λ (x : Refusal). x.number) q) ∙ (refuse_item (lowest (number_of f) fs) n (f ∷ fs) i (ap (λ (x : Refusal). x.item) q ∙ h)).0

-- a line without a fault is passed
pub line_next : (n : ℕ) (fs : List Fault) (p : Pass) → fs ≡ [] → lowest_line n (fs ∷ p) ≡ lowest_line (suc n) p
unfolding lowest_line
line_next n fs p e = rw e refl

-- a line with a fault is the lowest
pub line_here : (n : ℕ) (fs : List Fault) (p : Pass) → (least_of fs ≡ 0 → ⊥) → lowest_line n (fs ∷ p) ≡ some (refuse (least_of fs) n fs)
unfolding lowest_line least_of
line_here n [] p h = absurd (h refl)
line_here n (f ∷ fs) p h = refl

-- a pass in two parts: where the first has no fault the second goes on at its own lines
pub line_append : (n : ℕ) (p q : Pass) → lowest_line n (p ++ q) ≡ or_else (lowest_line n p) (lowest_line (n + length p) q)
unfolding lowest_line
line_append n [] q = ap (λ (k : ℕ). lowest_line k q) (sym (add-zero n))
line_append n ([] ∷ p) q =
    let e : suc n + length p ≡ n + suc (length p) = omega arith in
    line_append (suc n) p q ∙ ap (λ (k : ℕ). or_else (lowest_line (suc n) p) (lowest_line k q)) e
line_append n ((f ∷ fs) ∷ p) q = refl

pub line_clear : (n : ℕ) (p : Pass) → Clear p → lowest_line n p ≡ none
unfolding lowest_line
line_clear n [] c = refl
line_clear n ([] ∷ p) c = line_clear (suc n) p c.1
line_clear n ((f ∷ fs) ∷ p) c = cons_nil c.0

-- nothing in the first part
pub line_after : (n : ℕ) (p q : Pass) → Clear p → lowest_line n (p ++ q) ≡ lowest_line (n + length p) q
line_after n p q c = line_append n p q ∙ ap (λ (o : Option Refusal). or_else o (lowest_line (n + length p) q)) (line_clear n p c)
