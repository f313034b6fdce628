-- Parts of a list: what is written in one leaves the others.
use Prim.Native.Nat.{ℕ, ◌+◌, ◌-◌, ◌<◌, ◌≤◌}
use native.Mathlib.Omega.{arith}
use mathlib.Core.Path.{◌≡◌, refl, ap, sym, ◌∙◌}
use mathlib.Core.Bool.{Bool, true, false, cond}
use mathlib.Core.List.{List, ◌++◌}
use lib.Dec.{ltb}
use lib.ListN.{length, get_or, set, take, drop, length-set, length-drop, take-append-drop}
use lib.Seq.{take-append-le, drop-append-le, take_at, drop_at, drop-drop, length-take-le, get_or-take, get_or-drop, take-set-le, take-set-lt, drop-set-lt, drop-set-add}
use borrow.Author.Tests.{ltb-false, le-ltb, lt-ltb}
use borrow.Rule.Slice.PartMut.{put_mid, post_of, take_put, drop_put, same_len_mid}
use Rattle.image.specs.Sections.{part, Ordered, Outside}
use Rattle.image.specs.Layout.{no_places, small_places, small_shared_places, large_places, large_shared_places, places_of}

-- ---- parts
-- what stands before a is a part of the first a
front : (l : List ℕ) (a c n : ℕ) → c + n ≤ a → a ≤ length l → take n (drop c l) ≡ take n (drop c (take a l))
front l a c n h g =
    let q : length (take a l) ≡ a = length-take-le a l g in
    let i : c ≤ length (take a l) = omega arith in
    let k : n ≤ length (drop c (take a l)) = omega (arith, length-drop c (take a l)) in
    ap (λ (x : List ℕ). take n (drop c x)) (sym (take-append-drop a l)) ∙ ap (take n) (drop-append-le c (take a l) (drop a l) i) ∙ take-append-le n (drop c (take a l)) (drop a l) k

-- what stands from b on has what stands from c on, if c is not before b
later : (x : List ℕ) (b c : ℕ) → b ≤ c → drop c x ≡ drop (c - b) (drop b x)
later x b c h =
    let q : b + (c - b) ≡ c = omega arith in
    ap (λ (i : ℕ). drop i x) (sym q) ∙ sym (drop-drop (c - b) b x)

-- the first a have the first c, if c is not after a
sooner : (x : List ℕ) (a c : ℕ) → c ≤ a → a ≤ length x → take c x ≡ take c (take a x)
sooner x a c h g =
    let q : length (take a x) ≡ a = length-take-le a x g in
    let i : c ≤ length (take a x) = omega arith in
    ap (take c) (sym (take-append-drop a x)) ∙ take-append-le c (take a x) (drop a x) i

-- a part that was lent, and came back as y
pub back : (a b : ℕ) (l y : List ℕ) → a ≤ length l → length y ≡ b - a → part a b (put_mid a (b - a) l y) ≡ y
unfolding part
back a b l y ga ey = ap (take (b - a)) (drop_at (take a l) (y ++ post_of a (b - a) l) a (length-take-le a l ga)) ∙ take_at y (post_of a (b - a) l) (b - a) ey

pub part_length : (a b : ℕ) (l : List ℕ) → b ≤ length l → length (part a b l) ≡ b - a
unfolding part
part_length a b l h =
    let q : b - a ≤ length (drop a l) = omega (arith, length-drop a l) in
    length-take-le (b - a) (drop a l) q

-- entry i of a part
pub entry_in : (a b : ℕ) (l : List ℕ) (i : ℕ) → i < b - a → get_or l (a + i) 0 ≡ get_or (part a b l) i 0
unfolding part
entry_in a b l i h = sym (get_or-take (b - a) (drop a l) i 0 h ∙ get_or-drop a l i 0)

-- ---- what is outside a part that was written
pub nothing : (a b : ℕ) (l : List ℕ) → Outside a b l l
nothing a b l = record { size = refl; front = refl; rest = refl }

-- one entry is written
pub written : (a b : ℕ) (l : List ℕ) (i v : ℕ) → a ≤ i → i < b → Outside a b l (set l i v)
written a b l i v h g = record { size = length-set l i v; front = take-set-le a l i v h; rest = drop-set-lt b l i v g }

pub then : {a b : ℕ} {l l' l'' : List ℕ} → Outside a b l l' → Outside a b l' l'' → Outside a b l l''
then o q = record { size = q.size ∙ o.size; front = q.front ∙ o.front; rest = q.rest ∙ o.rest }

-- lists that agree outside a part agree outside a wider one
pub wider : (a b c d : ℕ) (l l' : List ℕ) → c ≤ a → b ≤ d → a ≤ length l → Outside a b l l' → Outside c d l l'
wider a b c d l l' hc hd ha o =
    let ha' : a ≤ length l' = omega (arith, o.size) in
    record {
      size = o.size;
      front = sooner l' a c hc ha' ∙ ap (take c) o.front ∙ sym (sooner l a c hc ha);
      rest = later l' b d hd ∙ ap (drop (d - b)) o.rest ∙ sym (later l b d hd);
    }

-- a part that ends before, or starts behind, stays
pub before : (a b : ℕ) (l l' : List ℕ) → a ≤ length l → Outside a b l l' → (c d : ℕ) → c ≤ d → d ≤ a → part c d l' ≡ part c d l
unfolding part
before a b l l' ha o c d cd h =
    let q : c + (d - c) ≤ a = omega arith in
    let ha' : a ≤ length l' = omega (arith, o.size) in
    front l' a c (d - c) q ha' ∙ ap (λ (x : List ℕ). take (d - c) (drop c x)) o.front ∙ sym (front l a c (d - c) q ha)

pub behind : (a b : ℕ) (l l' : List ℕ) → Outside a b l l' → (c d : ℕ) → b ≤ c → part c d l' ≡ part c d l
unfolding part
behind a b l l' o c d h = ap (take (d - c)) (later l' b c h ∙ ap (drop (c - b)) o.rest ∙ sym (later l b c h))

-- entry i of a part is written: that part, and nothing else
pub put_in : (a b : ℕ) (l : List ℕ) (i x : ℕ) → i < b - a → part a b (set l (a + i) x) ≡ set (part a b l) i x
unfolding part
put_in a b l i x h = ap (take (b - a)) (drop-set-add a l i x) ∙ take-set-lt (b - a) (drop a l) i x h

pub put_out : (a b : ℕ) (l : List ℕ) (i x : ℕ) → i < b - a → Outside a b l (set l (a + i) x)
put_out a b l i x h =
    record {
      size = length-set l (a + i) x;
      front = take-set-le a l (a + i) x (omega arith);
      rest = drop-set-lt b l (a + i) x (omega arith);
    }

-- a part is lent, and comes back as y: nothing else changes
pub lent : (a b : ℕ) (l y : List ℕ) → a ≤ b → b ≤ length l → length y ≡ length (part a b l) → Outside a b l (put_mid a (b - a) l y)
unfolding part
lent a b l y ab hb ey =
    let ha : a ≤ length l = omega arith in
    let n : length y ≡ b - a = ey ∙ part_length a b l hb in
    record {
      size = same_len_mid a (b - a) l y ey;
      front = take_put a (b - a) l y ha;
      rest = drop_put a b l y ab hb n;
    }

-- the same, and that the part is y
pub record Back (a b : ℕ) (l y l' : List ℕ) : Type 0 where
  pub here : part a b l' ≡ y
  pub outside : Outside a b l l'

pub returned : (a b : ℕ) (l y : List ℕ) → a ≤ b → b ≤ length l → length y ≡ length (part a b l) → Back a b l y (put_mid a (b - a) l y)
returned a b l y ab hb ey =
    let ha : a ≤ length l = omega arith in
    record { here = back a b l y ha (ey ∙ part_length a b l hb); outside = lent a b l y ab hb ey }

-- ---- the layouts
by_length : (n : ℕ) (x y z w : Bool) → ltb n 4423 ≡ x → ltb n 5162 ≡ y → ltb n 150900 ≡ z → ltb n 161694 ≡ w → Ordered (cond x no_places (cond y small_places (cond z small_shared_places (cond w large_places large_shared_places)))) n
by_length n true y z w ex ey ez ew = record { rows = omega arith; blocks = omega arith; instrs = omega arith; parts = omega arith; operands = omega arith; args = omega arith; uses = omega arith; tops = omega arith; shared = omega arith; slots = omega arith; fits = omega arith }
by_length n false true z w ex ey ez ew = record { rows = omega arith; blocks = omega arith; instrs = omega arith; parts = omega arith; operands = omega arith; args = omega arith; uses = omega arith; tops = omega arith; shared = omega arith; slots = omega arith; fits = ltb-false n 4423 ex }
by_length n false false true w ex ey ez ew = record { rows = omega arith; blocks = omega arith; instrs = omega arith; parts = omega arith; operands = omega arith; args = omega arith; uses = omega arith; tops = omega arith; shared = omega arith; slots = omega arith; fits = ltb-false n 5162 ey }
by_length n false false false true ex ey ez ew = record { rows = omega arith; blocks = omega arith; instrs = omega arith; parts = omega arith; operands = omega arith; args = omega arith; uses = omega arith; tops = omega arith; shared = omega arith; slots = omega arith; fits = ltb-false n 150900 ez }
by_length n false false false false ex ey ez ew =
    record {
      rows = omega arith;
      blocks = omega arith;
      instrs = omega arith;
      parts = omega arith;
      operands = omega arith;
      args = omega arith;
      uses = omega arith;
      tops = omega arith;
      shared = omega arith;
      slots = omega arith;
      fits = ltb-false n 161694 ew;
    }

-- the sections stand one behind the other
pub ordered : (n : ℕ) → Ordered (places_of n) n
unfolding places_of
ordered n = by_length n (ltb n 4423) (ltb n 5162) (ltb n 150900) (ltb n 161694) refl refl refl refl

pub short : (n : ℕ) → n < 4423 → places_of n ≡ no_places
unfolding places_of
short n h =
    let e0 : ltb n 4423 ≡ true = lt-ltb n 4423 h in
    rw e0 refl

pub small : (n : ℕ) → 4423 ≤ n → n < 5162 → places_of n ≡ small_places
unfolding places_of
small n g h =
    let e0 : ltb n 4423 ≡ false = le-ltb n 4423 (omega arith) in
    let e1 : ltb n 5162 ≡ true = lt-ltb n 5162 h in
    rw e0 (rw e1 refl)

pub small_shared : (n : ℕ) → 5162 ≤ n → n < 150900 → places_of n ≡ small_shared_places
unfolding places_of
small_shared n g h =
    let e0 : ltb n 4423 ≡ false = le-ltb n 4423 (omega arith) in
    let e1 : ltb n 5162 ≡ false = le-ltb n 5162 (omega arith) in
    let e2 : ltb n 150900 ≡ true = lt-ltb n 150900 h in
    rw e0 (rw e1 (rw e2 refl))

pub large : (n : ℕ) → 150900 ≤ n → n < 161694 → places_of n ≡ large_places
unfolding places_of
large n g h =
    let e0 : ltb n 4423 ≡ false = le-ltb n 4423 (omega arith) in
    let e1 : ltb n 5162 ≡ false = le-ltb n 5162 (omega arith) in
    let e2 : ltb n 150900 ≡ false = le-ltb n 150900 (omega arith) in
    let e3 : ltb n 161694 ≡ true = lt-ltb n 161694 h in
    rw e0 (rw e1 (rw e2 (rw e3 refl)))

pub large_shared : (n : ℕ) → 161694 ≤ n → places_of n ≡ large_shared_places
unfolding places_of
large_shared n g =
    let e0 : ltb n 4423 ≡ false = le-ltb n 4423 (omega arith) in
    let e1 : ltb n 5162 ≡ false = le-ltb n 5162 (omega arith) in
    let e2 : ltb n 150900 ≡ false = le-ltb n 150900 (omega arith) in
    let e3 : ltb n 161694 ≡ false = le-ltb n 161694 (omega arith) in
    rw e0 (rw e1 (rw e2 (rw e3 refl)))
