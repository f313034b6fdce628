-- Laws of the entries and parts of the renamed table.
use Prim.Native.Nat.{ℕ, ◌+◌, ◌-◌, ◌*◌, ◌<◌, ◌≤◌}
use native.Mathlib.Omega.{arith}
use native.Mathlib.Numerals.{add-one, add-two, add-three}
use mathlib.Core.Path.{◌≡◌, refl, ap, sym, ◌∙◌}
use mathlib.Core.Bool.{Bool, true, false, not}
use mathlib.Core.List.{List, [], ◌∷◌, ◌++◌}
use lib.Dec.{eqb}
use lib.ListN.{length, get_or, set, take, drop, length-set}
use Rattle.std.proofs.Math.Seq.{take-length}
use Rattle.std.proofs.lemmas.Slice.{put_mid-paste}
use Rattle.std.proofs.lemmas.List.Edits.{sets-eq}
use lib.Seq.{sets, length-sets, get_or-set_same, get_or-set_other}
use borrow.Rule.Slice.PartMut.{put_mid}
use borrow.Author.Tests.{eqb-true, eqb-false}
use Rattle.types.proofs.Equal.{none_true}
use Rattle.tables.specs.Tables.{cell}
use Rattle.image.specs.declared.Places.{Places}
use Rattle.image.specs.Sections.{part, row_section, part_section, shared_section, slot_section, Ordered, Outside}
use Rattle.image.proofs.Laws.{back, part_length, entry_in, written, then, wider, before, lent}
use Rattle.valid_share.specs.declared.rename.Entries.{Entries}
use Rattle.valid_share.specs.rename.Renamed.{new_part, entry_at, NewEntries, part_at, FilledRows, FilledParts, HasParts, FilledRow, FilledIf}

-- four entries copied into a table
pub put_row : (l y vs : List ℕ) (i k : ℕ) → y ≡ vs → k ≡ length vs → i + length vs ≤ length l → put_mid i k l y ≡ sets l i vs
put_row l y vs i k e f h =
    put_mid-paste i k l y vs (length vs) e (sym f) refl ∙ ap (λ (w : List ℕ). take i l ++ w ++ drop (i + length vs) l) (take-length vs) ∙ sym (sets-eq vs l i h)

-- ---- a table filled record by record
module _ (base : ℕ) (g : ℕ → ℕ) (before : List ℕ) where
  pub row_first : FilledRow base 0 g before before
  row_first = (λ j h. absurd (omega arith), λ x h. refl)

  row_next : (l : List ℕ) (j x y : ℕ) → base + j < length l → x ≡ g j → y ≡ x → FilledRow base j g before l → FilledRow base (j + 1) g before (set l (base + j) y)
  row_next l j x y room e f F = (λ i m. go i m (eqb i j) refl, λ z m. get_or-set_other l (base + j) z y 0 (λ q. omega arith) ∙ F.1 z m)
    where
      go : (i : ℕ) → i < j + 1 → (b : Bool) → eqb i j ≡ b → get_or (set l (base + j) y) (base + i) 0 ≡ g i
      go i m true t =
          let z : i ≡ j = eqb-true i j t in
          rw z (get_or-set_same l (base + j) y 0 room ∙ f ∙ e)
      go i m false t =
          let z : i ≡ j → ⊥ = eqb-false i j t in
          get_or-set_other l (base + j) (base + i) y 0 (λ q. z (omega arith)) ∙ F.0 i (omega (arith, z))

  -- four entries
  four : (x y z w : ℕ) → base + 4 ≤ length before → x ≡ g 0 → y ≡ g 1 → z ≡ g 2 → w ≡ g 3 → FilledRow base 4 g before (sets before base (x ∷ y ∷ z ∷ w ∷ []))
  four x y z w room ex ey ez ew =
      let l1 : List ℕ = set before base x in
      let l2 : List ℕ = set l1 (base + 1) y in
      let l3 : List ℕ = set l2 (base + 2) z in
      let n1 : length l1 ≡ length before = length-set before base x in
      let n2 : length l2 ≡ length before = length-set l1 (base + 1) y ∙ n1 in
      let n3 : length l3 ≡ length before = length-set l2 (base + 2) z ∙ n2 in
      let q : base + 0 ≡ base = omega arith in
      let F1 : FilledRow base 1 g before (set before (base + 0) x) = row_next before 0 x x (omega arith) ex refl row_first in
      let G1 : FilledRow base 1 g before l1 = rw q at F1 in
      let G2 : FilledRow base 2 g before l2 = row_next l1 1 y y (omega arith) ey refl G1 in
      let G3 : FilledRow base 3 g before l3 = row_next l2 2 z z (omega arith) ez refl G2 in
      let G4 : FilledRow base 4 g before (set l3 (base + 3) w) = row_next l3 3 w w (omega arith) ew refl G3 in
      simp (add-one, add-two, add-three) at G4

rows_next : (g : ℕ → ℕ → ℕ) (before l : List ℕ) (r : ℕ) → ((s e : ℕ) → s < r → e < 4 → get_or before (4 * s + e) 0 ≡ g s e) → FilledRow (4 * r) 4 (g r) before l → (s e : ℕ) → s < r + 1 → e < 4 → get_or l (4 * s + e) 0 ≡ g s e
rows_next g before l r h F s e m k = go (eqb s r) refl
  where
    go : (b : Bool) → eqb s r ≡ b → get_or l (4 * s + e) 0 ≡ g s e
    go true t = let z : s ≡ r = eqb-true s r t in rw z (F.0 e k)
    go false t =
        let z : s ≡ r → ⊥ = eqb-false s r t in
        let q : s < r = omega (arith, z) in
        F.1 (4 * s + e) (omega arith) ∙ h s e q k

parts_next : (kind : ℕ → ℕ) (g : ℕ → ℕ → ℕ) (at : ℕ) (before l : List ℕ) (r : ℕ) → ((s j : ℕ) → s < r → HasParts (kind s) → j < 17
    → get_or before (at + 17 * s + j) 0 ≡ g s j) → FilledIf (kind r) (at + 17 * r) 17 (g r) before l → (s j : ℕ) → s < r + 1
    → HasParts (kind s) → j < 17 → get_or l (at + 17 * s + j) 0 ≡ g s j
parts_next kind g at before l r h F s j m p k = go (eqb s r) refl
  where
    go : (b : Bool) → eqb s r ≡ b → get_or l (at + 17 * s + j) 0 ≡ g s j
    go true t = let z : s ≡ r = eqb-true s r t in rw z (F.0 (rw z at p) j k)
    go false t =
        let z : s ≡ r → ⊥ = eqb-false s r t in
        let q : s < r = omega (arith, z) in
        F.1 (at + 17 * s + j) (omega arith) ∙ h s j q p k

-- a row without parts
pub no_parts : (k k' : ℕ) {o : Bool} (base n : ℕ) (g : ℕ → ℕ) (l : List ℕ) → k ≡ k' → (HasParts k → o ≡ true) → not o ≡ true → FilledIf k' base n g l l
no_parts k k' {o} base n g l e f h = (λ p. none_true (sym (go o h) ∙ f (rw (sym e) at p)), λ x m. refl)
  where
    go : (o : Bool) → not o ≡ true → o ≡ false
    go true q = sym q
    go false q = refl

-- the parts of a row that has them
module _ (first rows ps : List ℕ) (r k a b : ℕ) (ek : k ≡ cell 4 rows r 0) (ea : a ≡ cell 4 rows r 1) (eb : b ≡ cell 4 rows r 2) where
  part_is : (j o : ℕ) → o ≡ new_part first ps k a b j → o ≡ part_at first rows ps r j
  unfolding part_at
  part_is j o h = rw (← ek, ← ea, ← eb) h

  pub some_parts : (base n : ℕ) (before after : List ℕ) → FilledRow base n (new_part first ps k a b) before after → FilledIf (cell 4 rows r 0) base n (part_at first rows ps r) before after
  some_parts base n before after F = (λ p j h. part_is j (get_or after (base + j) 0) (F.0 j h), F.1)

-- ---- the sections of the image: rows from a to b, parts from c to d
-- a row's entries are put into the section from s to t
module _ {first l₀ l y : List ℕ} {a b s t r : ℕ} {x : Entries} (ab : a ≤ b) (bs : b ≤ s) (st : s ≤ t) (fits : t ≤ length l₀) (room : 4 * r + 4 ≤ t - s) where
  pub rows_turn : FilledRows first (part a b l₀) r (part s t l) → Outside s t l₀ l → NewEntries first (part a b l) r x → y ≡ sets (part s t l) (4 * r) (x.kind ∷ x.a ∷ x.b ∷ x.count ∷ [])
      → FilledRows first (part a b l₀) (r + 1) (part s t (put_mid s (t - s) l y)) × Outside s t l₀ (put_mid s (t - s) l y)
  rows_turn F o w e =
      let q : part a b l ≡ part a b l₀ = before s t l₀ l (omega arith) o a b ab bs in
      let n : length (part s t l) ≡ t - s = part_length s t l (omega (arith, o.size)) in
      let m : length y ≡ length (part s t l) = ap length e ∙ length-sets (part s t l) (4 * r) (x.kind ∷ x.a ∷ x.b ∷ x.count ∷ []) in
      let i : part s t (put_mid s (t - s) l y) ≡ sets (part s t l) (4 * r) (x.kind ∷ x.a ∷ x.b ∷ x.count ∷ []) = back s t l y (omega (arith, o.size)) (m ∙ n) ∙ e in
      let G : FilledRow (4 * r) 4 (entry_at first (part a b l) r) (part s t l) (sets (part s t l) (4 * r) (x.kind ∷ x.a ∷ x.b ∷ x.count ∷ [])) = four (4 * r) (entry_at first (part a b l) r) (part s t l) x.kind x.a x.b x.count (omega arith) w.kind w.a w.b w.count in
      let H : FilledRow (4 * r) 4 (entry_at first (part a b l₀) r) (part s t l) (part s t (put_mid s (t - s) l y)) = rw i (rw q at G) in
      (rows_next (entry_at first (part a b l₀)) (part s t l) (part s t (put_mid s (t - s) l y)) r F H, then o (lent s t l y st (omega (arith, o.size)) m))

-- one part of a row is written
module _ (first l₀ : List ℕ) (c d base k a b : ℕ) (cd : c ≤ d) (db : d ≤ base) (fits : base + 17 ≤ length l₀) where
  pub row_turn : (l : List ℕ) (j x y : ℕ) → j < 17 → FilledRow base j (new_part first (part c d l₀) k a b) l₀ l → Outside base (base + 17) l₀ l → x ≡ new_part first (part c d l) k a b j → y ≡ x
      → FilledRow base (j + 1) (new_part first (part c d l₀) k a b) l₀ (set l (base + j) y) × Outside base (base + 17) l₀ (set l (base + j) y)
  row_turn l j x y h F o e f =
      let q : part c d l ≡ part c d l₀ = before base (base + 17) l₀ l (omega arith) o c d cd db in
      (row_next base (new_part first (part c d l₀) k a b) l₀ l j x y (omega (arith, o.size)) (rw q at e) f F, then o (written base (base + 17) l (base + j) y (omega arith) (omega arith)))

-- the parts of the first r of n rows are written, from s on
pub record Turned (first l₀ : List ℕ) (a b c d s n : ℕ) (l : List ℕ) (r : ℕ) : Type 0 where
  pub filled : (q j : ℕ) → q < r → HasParts (cell 4 (part a b l₀) q 0) → j < 17 → get_or l (s + 17 * q + j) 0 ≡ part_at first (part a b l₀) (part c d l₀) q j
  pub outside : Outside s (s + 17 * n) l₀ l

module _ {first l₀ : List ℕ} {a b c d s n : ℕ} {l : List ℕ} {r : ℕ} (t : Turned first l₀ a b c d s n l r) (ab : a ≤ b) (bc : b ≤ c) (cd : c ≤ d) (ds : d ≤ s) (fits : s + 17 * n ≤ length l₀) where
  pub parts_turn : (l' : List ℕ) → r < n → FilledIf (cell 4 (part a b l) r 0) (s + 17 * r) 17 (part_at first (part a b l) (part c d l) r) l l' → Outside (s + 17 * r) (s + 17 * r + 17) l l' → Turned first l₀ a b c d s n l' (r + 1)
  parts_turn l' h G w =
      let x : part a b l ≡ part a b l₀ = before s (s + 17 * n) l₀ l (omega arith) t.outside a b ab (omega arith) in
      let y : part c d l ≡ part c d l₀ = before s (s + 17 * n) l₀ l (omega arith) t.outside c d cd ds in
      let H : FilledIf (cell 4 (part a b l₀) r 0) (s + 17 * r) 17 (part_at first (part a b l₀) (part c d l₀) r) l l' = rw (x, y) at G in
      record {
        filled = parts_next (λ (q : ℕ). cell 4 (part a b l₀) q 0) (part_at first (part a b l₀) (part c d l₀)) s l l' r t.filled H;
        outside = then t.outside (wider (s + 17 * r) (s + 17 * r + 17) s (s + 17 * n) l l' (omega arith) (omega arith) (omega (arith, t.outside.size)) w);
      }

  -- all of them, in the section from s to e
  pub turned : (e : ℕ) → s ≤ e → 17 * n ≤ e - s → n ≤ r → FilledParts first (part a b l₀) (part c d l₀) n (part s e l) × Outside s e l₀ l
  turned e se room h = (λ q j m p k. go q j m k ∙ t.filled q j (omega arith) p k, wider s (s + 17 * n) s e l₀ l (omega arith) (omega arith) (omega arith) t.outside)
    where
      go : (q j : ℕ) → q < n → j < 17 → get_or (part s e l) (17 * q + j) 0 ≡ get_or l (s + 17 * q + j) 0
      go q j m k =
          let z : s + (17 * q + j) ≡ s + 17 * q + j = omega arith in
          sym (entry_in s e l (17 * q + j) (omega arith)) ∙ ap (λ (i : ℕ). get_or l i 0) z

-- both tables, the rows first
pub both : {p : Places} {l l₁ l₂ : List ℕ} (first : List ℕ) (m n : ℕ) → Ordered p (length l) → FilledRows first (row_section p l) m
    (shared_section p l₁) → Outside p.shared p.slots l l₁ → FilledParts first (row_section p l₁) (part_section p l₁) n
    (slot_section p l₂) → Outside p.slots p.end l₁ l₂
    → FilledRows first (row_section p l) m (shared_section p l₂) × FilledParts first (row_section p l) (part_section p l) n (slot_section p l₂) × Outside p.shared p.end l l₂
both {p} {l} {l₁} {l₂} first m n o F u G v =
    let x : row_section p l₁ ≡ row_section p l = before p.shared p.slots l l₁ (omega arith) u p.rows p.blocks o.rows (omega arith) in
    let y : part_section p l₁ ≡ part_section p l = before p.shared p.slots l l₁ (omega arith) u p.parts p.operands o.parts (omega arith) in
    let z : shared_section p l₂ ≡ shared_section p l₁ = before p.slots p.end l₁ l₂ (omega (arith, u.size)) v p.shared p.slots o.shared (omega arith) in
    let u' : Outside p.shared p.end l l₁ = wider p.shared p.slots p.shared p.end l l₁ (omega arith) o.slots (omega arith) u in
    let v' : Outside p.shared p.end l₁ l₂ = wider p.slots p.end p.shared p.end l₁ l₂ o.shared (omega arith) (omega (arith, u.size)) v in
    (rw z F, rw (x, y) at G, then u' v')
