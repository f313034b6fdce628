-- Laws of the two lists that one holds.
use mathlib.Core.Path.{◌≡◌, refl, ap, sym, ◌∙◌}
use Rattle.types_equal.specs.declared.pending.Side.{Side}
use Rattle.types_equal.specs.declared.pending.Side.TheVariants.{Left, Right}
use mathlib.Core.List.{List, [], ◌∷◌, ◌++◌, map}
use Prim.Native.Nat.{ℕ, zero, suc, ◌-◌, ◌<◌, ◌≤◌}
use native.Mathlib.Omega.{arith}
use lib.ListN.{length, get_or, set, take, length-map, get_or-map, get_or-append}
use lib.Seq.{map-set_same, get_or-take, length-take-le}
use borrow.Rule.Slice.PartMut.{put_mid, post_of}
use Rattle.types_equal.specs.pending.Pending.{half, list_of, room, Low, Pends, Lower}
use Rattle.types_equal.proofs.pending.Lists.{Agree, Kept, low_fits, low_most, last_low}

-- ---- halves of a word
none : (b : Side) → half b 0 ≡ 0
unfolding half
none Left = refl
none Right = refl

-- ---- a list of halves
pub length_side : (b : Side) (ws : List ℕ) → length (list_of b ws) ≡ length ws
unfolding list_of
length_side b ws = length-map ws (half b)

pub side_at : (b : Side) (ws : List ℕ) (n : ℕ) → get_or (list_of b ws) n 0 ≡ half b (get_or ws n 0)
unfolding list_of
side_at b ws n = ap (get_or (map (half b) ws) n) (sym (none b)) ∙ get_or-map (half b) ws n 0

map_set : (f : ℕ → ℕ) (ws : List ℕ) (n w x : ℕ) → f w ≡ x → map f (set ws n w) ≡ set (map f ws) n x
map_set f [] n w x e = refl
map_set f (y ∷ ys) zero w x e = ap (λ z. z ∷ map f ys) e
map_set f (y ∷ ys) (suc n) w x e = ap (λ (zs : List ℕ). f y ∷ zs) (map_set f ys n w x e)

pub side_set : (b : Side) (ws : List ℕ) (n w x : ℕ) → half b w ≡ x → list_of b (set ws n w) ≡ set (list_of b ws) n x
unfolding list_of
side_set b ws n w x e = map_set (half b) ws n w x e

pub side_still : (b : Side) (ws : List ℕ) (n w : ℕ) → half b w ≡ half b (get_or ws n 0) → list_of b (set ws n w) ≡ list_of b ws
unfolding list_of
side_still b ws n w e = map-set_same (half b) ws n w 0 e

-- ---- a part lent and given back
pub agree_back : (b : Side) (n e k : ℕ) (ws ys : List ℕ) → n ≤ e → e ≤ length ws → Agree n (list_of b ws) (list_of b (put_mid e k ws ys))
agree_back b n e k ws ys h q i p =
    let c = length-take-le e ws q in
    let r : get_or (put_mid e k ws ys) i 0 ≡ get_or ws i 0 = get_or-append (take e ws) (ys ++ post_of e k ws) 0 i (omega arith) ∙ get_or-take e ws i 0 (omega arith) in
    side_at b (put_mid e k ws ys) i ∙ ap (half b) r ∙ sym (side_at b ws i)

-- ---- where the last entry of a side stands
pub record Spot (b : Side) (m : ℕ) (ws₀ : List ℕ) (top : ℕ) (ws : List ℕ) (n : ℕ) : Type 0 where
  pub last : n ≡ suc (n - 1)
  pub kept : Kept m (list_of b ws₀) top (list_of b ws) n
  pub within : n - 1 < length ws
  pub inside : n - 1 < length (list_of b ws)
  pub most : get_or (list_of b ws) (n - 1) 0 ≤ 33282
  pub short : length ws ≤ 32768
  pub lower : (x : ℕ) → ((l k : ℕ) → Low m l k (get_or (list_of b ws) (n - 1) 0) → Low m l k x) → x ≤ 33282
  pub two : (x : ℕ) → Lower m (get_or (list_of b ws) (n - 1) 0) x → (n < length ws) × (n < length (list_of b ws)) × (x ≤ 33282)

pub spot : (b : Side) (m : ℕ) (ws₀ : List ℕ) (top : ℕ) (ws : List ℕ) (n : ℕ) → 0 < n → Kept m (list_of b ws₀) top (list_of b ws) n → room m < length ws₀ → length ws₀ ≤ 32768 → Pends m (length ws₀ - suc (room m)) (list_of b ws₀) top → Spot b m ws₀ top ws n
spot b m ws₀ top ws n q g a c p =
    let i : ℕ = n - 1 in
    let l : ℕ = length ws₀ - suc (room m) in
    let e : n ≡ suc (n - 1) = omega arith in
    let f = last_low m (list_of b ws₀) top (list_of b ws) n (n - 1) e g l p in
    let h = low_fits m l (n - 1) (get_or (list_of b ws) (n - 1) 0) f in
    let j = g.long in
    let u = length_side b ws₀ in
    let v = length_side b ws in
    record {
      last = e;
      kept = g;
      within = omega arith;
      inside = omega arith;
      most = low_most m l (n - 1) (get_or (list_of b ws) (n - 1) 0) f;
      short = omega arith;
      lower = λ x w. low_most m l (n - 1) x (w l (n - 1) f);
      two = λ x w. let r = w.1 l (n - 1) f in let o = low_fits m l (suc (n - 1)) x r in (omega arith, omega arith, low_most m l (suc (n - 1)) x r);
    }
