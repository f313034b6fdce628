-- The tables as sections of one image: what is held while they are filled.
use Prim.Native.Nat.{ℕ, suc, ◌+◌, ◌-◌, ◌*◌, ◌<◌, ◌≤◌}
use native.Mathlib.Nat.{not-suc-le-zero}
use native.Mathlib.Numerals.{add-one}
use native.Mathlib.Omega.{arith}
use mathlib.Core.Path.{◌≡◌, ◌∙◌}
use mathlib.Core.Bool.{Bool, cond}
use mathlib.Core.List.{List}
use lib.Dec.{eqb}
use lib.ListN.{length, set}
use borrow.Rule.Slice.PartMut.{put_mid}
use Rattle.tables.specs.Tables.{RowTable, row_at}
use Rattle.types_rows.specs.Read.{tab}
use Rattle.image.specs.declared.Places.{Places}
use Rattle.image.specs.Sections.{part, row_section, part_section, use_section, top_section, Ordered, Outside}
use Rattle.image.proofs.Laws.{part_length, back, lent, nothing, then, wider, before, behind, put_in, put_out}
use Rattle.valid_scope.specs.variables.Free.{top_of, free_in}
use Rattle.valid_scope.specs.variables.Uses.{row_respected}
use Rattle.valid_scope.specs.Scoped.{row_type, Free, Within, Cleared, Scoped, Checked}
use Rattle.valid_scope.proofs.Laws.{Filled, free_kept, filled_more, top_none, top_more, scoped_more}
use Rattle.valid_scope.proofs.Bounds.{free_filled}

-- ---- the uses of one row
-- the entries below k of row r are filled, the rows before it are right, and so is the top so far
pub record Filling (τ : RowTable) (r limit a b : ℕ) (l l' : List ℕ) (top k : ℕ) : Type 0 where
  pub few : k ≤ limit
  pub out : Outside a b l l'
  pub free : Free τ r (part a b l')
  pub filled : Filled τ r k (part a b l')
  pub highest : top ≡ top_of (λ j. free_in j (row_type τ r)) k

pub filling_first : {τ : RowTable} {r a b : ℕ} {l : List ℕ} (limit : ℕ) → Free τ r (part a b l) → Filling τ r limit a b l l 0 0
filling_first {τ} {r} {a} {b} {l} limit h = record { few = omega arith; out = nothing a b l; free = h; filled = λ j q. absurd (not-suc-le-zero q); highest = top_none (λ j. free_in j (row_type τ r)) }

module _ {τ : RowTable} {r limit a b : ℕ} {l l' : List ℕ} {top k : ℕ} (f : Filling τ r limit a b l l' top k) (hb : b ≤ length l) (room : 64 * r + 64 ≤ b - a) (small : limit ≤ 64) where
  pub filling_next : {u x : ℕ} → k < limit → u ≡ free_in k (row_type τ r) → x ≡ cond (eqb u 0) top (suc k) → Filling τ r limit a b l (set l' (a + (64 * r + k)) u) x (k + 1)
  filling_next {u} h e g =
      let i : 64 * r + k < b - a = omega arith in
      let n : length (part a b l') ≡ b - a = part_length a b l' (omega (arith, f.out.size)) in
      record {
        few = omega arith;
        out = then f.out (put_out a b l' (64 * r + k) u i);
        free = rw (put_in a b l' (64 * r + k) u i) (free_kept τ r k u (part a b l') f.free);
        filled = rw (put_in a b l' (64 * r + k) u i) (filled_more τ r k u (part a b l') (omega arith) e f.filled);
        highest = top_more (λ j. free_in j (row_type τ r)) k f.highest e g;
      }

  -- the rest is cleared
  pub filling_last : (y : List ℕ) → k ≡ limit → Checked τ r → ((j : ℕ) → limit ≤ j → free_in j (row_type τ r) ≡ 0) → length y ≡ length (part a b l') → Cleared (part a b l') y (64 * r + limit) (64 * r + 64) → Free τ (suc r) (part a b (put_mid a (b - a) l' y))
  filling_last y e z past n c =
      let hb' : b ≤ length l' = omega (arith, f.out.size) in
      let m : length y ≡ b - a = n ∙ part_length a b l' hb' in
      rw (back a b l' y (omega arith) m) (free_filled τ r limit (part a b l') y past c z f.free (rw e at f.filled))

  pub filling_out : (y : List ℕ) → length y ≡ length (part a b l') → Outside a b l (put_mid a (b - a) l' y)
  filling_out y n = then f.out (lent a b l' y (omega arith) (omega (arith, f.out.size)) n)

-- ---- both tables
-- row r in both: its uses, then its top
module _ (r : ℕ) {a b e : ℕ} {l l' : List ℕ} (ab : a ≤ b) (be : b ≤ e) (fits : e ≤ length l) (o : Outside a b l l') (v : ℕ) (room : 64 * r + 64 ≤ b - a) (h : r < e - b) where
  pub row_out : Outside a e l (set l' (b + r) v)
  row_out =
      let o' : Outside b e l' (set l' (b + r) v) = put_out b e l' r v h in
      then (wider a b a e l l' (omega arith) be (omega arith) o) (wider b e a e l' (set l' (b + r) v) ab (omega arith) (omega (arith, o.size)) o')

  pub row_scoped : {τ : RowTable} (m : ℕ) (x : Bool) → Checked τ r → Scoped τ r (part a b l) (part b e l) → x ≡ row_respected (part a b l)
      (part b e l) (row_at τ r) → m ≡ top_of (λ k. free_in k (row_type τ r)) 64 → v ≡ cond x m 255 → Free τ (suc r) (part a b l')
      → Scoped τ (suc r) (part a b (set l' (b + r) v)) (part b e (set l' (b + r) v))
  row_scoped {τ} m x z s q g w f =
      let hl : e ≤ length l' = omega (arith, o.size) in
      let n : length (part a b l') ≡ b - a = part_length a b l' (omega arith) in
      let n' : length (part b e l) ≡ e - b = part_length b e l fits in
      let c₁ : part a b (set l' (b + r) v) ≡ part a b l' = before b e l' (set l' (b + r) v) (omega arith) (put_out b e l' r v h) a b ab (omega arith) in
      let c₂ : part b e l' ≡ part b e l = behind a b l l' o b e (omega arith) in
      rw (c₁, put_in b e l' r v h, c₂) (scoped_more τ r v m x (part a b l) (part a b l') (part b e l) z s q g w (omega arith) (omega arith) f)

-- ---- the rows one by one
-- both tables are right for the first r rows of n, and nothing else has changed
pub record Finding (p : Places) (n : ℕ) (l l' : List ℕ) (bound r : ℕ) : Type 0 where
  pub few : r ≤ n
  pub out : Outside p.uses p.shared l l'
  pub scoped : Scoped (tab (row_section p l) (part_section p l)) r (use_section p l') (top_section p l')
  pub small : bound ≤ 64
  pub within : Within (tab (row_section p l) (part_section p l)) r bound

module _ {p : Places} {n : ℕ} {l l' : List ℕ} {bound r : ℕ} (o : Ordered p (length l)) (f : Finding p n l l' bound r) where
  pub same_rows : row_section p l' ≡ row_section p l
  same_rows = before p.uses p.shared l l' (omega arith) f.out p.rows p.blocks o.rows (omega arith)

  pub same_parts : part_section p l' ≡ part_section p l
  same_parts = before p.uses p.shared l l' (omega arith) f.out p.parts p.operands o.parts (omega arith)

  pub finding_next : {l'' : List ℕ} {out : ℕ} → r < n → Scoped (tab (row_section p l') (part_section p l')) (suc r) (use_section p l'') (top_section p l'') → out ≤ 64 → Within (tab (row_section p l') (part_section p l')) (suc r) out → Outside p.uses p.shared l' l'' → Finding p n l l'' out (r + 1)
  finding_next h s b w q =
      record {
        few = omega arith;
        out = then f.out q;
        scoped = rw add-one (rw (same_rows, same_parts) at s);
        small = b;
        within = rw add-one (rw (same_rows, same_parts) at w);
      }
