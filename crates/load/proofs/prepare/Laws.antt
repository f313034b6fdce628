-- Two rows more behind n rows, and counts, leave the n rows as they are.
use Prim.Native.Nat.{ℕ, zero, suc, ◌+◌, ◌-◌, ◌*◌, ◌≤◌, ◌<◌}
use native.Mathlib.Omega.{arith}
use mathlib.Core.Path.{◌≡◌, refl, ap, ap₂, sym, subst, ◌∙◌}
use mathlib.Core.Bool.{Bool, true, false}
use mathlib.Core.List.{List, [], ◌∷◌}
use lib.Dec.{eqb}
use lib.ListN.{length, get_or, set, length-set}
use lib.Seq.{get_or-set_same, get_or-set_other}
use borrow.Author.Tests.{eqb-true, eqb-false}
use borrow.Rule.Slice.PartMut.{put_mid}
use Rattle.syntax.specs.Syntax.{Row, row_i, row_n, row_e, row_v, row_x, row_p, row_h, row_u, row_k, row_a, row_c}
use Rattle.syntax.specs.Fault.{Clear}
use Rattle.types.specs.Rows.{row_refs, total, size_of, sizes_of, rows_faults}
use Rattle.tables.specs.Tables.{RowTable, cell, row_from, row_at, rows_from, rows_in}
use Rattle.types_rows.specs.Clear.{RowsClear}
use Rattle.types_rows.specs.Read.{tab}
use Rattle.types_rows.specs.item_counts.Counts.{SizesFit, CountsFilled}
use Rattle.image.specs.declared.Places.{Places}
use Rattle.image.specs.Sections.{part, row_section, part_section, use_section, top_section, Ordered, Outside}
use Rattle.image.proofs.Laws.{part_length, back, lent, then, before, behind}
use Rattle.valid_scope.specs.Scoped.{SmallVariable, Scoped, Checked}
use Rattle.valid_scope.proofs.Callers.{checked}
use Rattle.types_pass_two.proofs.Laws.{size_clear}
use Rattle.valid.specs.Bounds.{SmallRow}
use Rattle.load.specs.prepare.Prepared.{Prepared, Kept}

-- ---- rows of which the entries agree
row_agree : (l m parts : List ℕ) (r : ℕ) → ((k : ℕ) → k < 3 → cell 4 l r k ≡ cell 4 m r k) → row_at (tab l parts) r ≡ row_at (tab m parts) r
unfolding row_at
row_agree l m parts r h =
    let a : cell 4 l r 0 ≡ cell 4 m r 0 = h 0 (omega arith) in
    let b : cell 4 l r 1 ≡ cell 4 m r 1 = h 1 (omega arith) in
    let c : cell 4 l r 2 ≡ cell 4 m r 2 = h 2 (omega arith) in
    ap₂ (λ (x y : ℕ). row_from parts x y (cell 4 l r 2)) a b ∙ ap (row_from parts (cell 4 m r 0) (cell 4 m r 1)) c

rows_agree : (τ σ : RowTable) (i n : ℕ) → ((r : ℕ) → r < i + n → row_at τ r ≡ row_at σ r) → rows_from τ i n ≡ rows_from σ i n
unfolding rows_from
rows_agree τ σ i zero h = refl
rows_agree τ σ i (suc n) h = ap₂ ◌∷◌ (h i (omega arith)) (rows_agree τ σ (suc i) n (λ r l. h r (omega arith)))

small_variable : (r : Row) → SmallRow r → SmallVariable r
small_variable row_i h = tt
small_variable row_n h = tt
small_variable (row_v k) h = h
small_variable (row_u ts) h = tt
small_variable (row_p s) h = tt
small_variable (row_c q s rs) h = tt
small_variable (row_h t) h = tt
small_variable row_e h = tt
small_variable (row_x k) h = h
small_variable (row_k t s) h = tt
small_variable (row_a s₁ s₂) h = tt

-- ---- the two rows made
module _ (rows parts : List ℕ) (n : ℕ) (room : 4 * n + 8 ≤ length rows) where
  abbrev pub with_two : List ℕ
  with_two = set (set rows (4 * n) 0) (4 * n + 4) 1

  two_length : length (set (set rows (4 * n) 0) (4 * n + 4) 1) ≡ length rows
  two_length = length-set (set rows (4 * n) 0) (4 * n + 4) 1 ∙ length-set rows (4 * n) 0

  int_there : cell 4 with_two n 0 ≡ 0
  int_there =
      let q : 4 * n + 0 ≡ 4 * n = omega arith in
      ap (λ (i : ℕ). get_or with_two i 0) q ∙ get_or-set_other (set rows (4 * n) 0) (4 * n + 4) (4 * n) 1 0 (omega arith) ∙ get_or-set_same rows (4 * n) 0 0 (omega arith)

  junk_there : cell 4 with_two (n + 1) 0 ≡ 1
  junk_there =
      let q : 4 * (n + 1) + 0 ≡ 4 * n + 4 = omega arith in
      let l = length-set rows (4 * n) 0 in
      ap (λ (i : ℕ). get_or with_two i 0) q ∙ get_or-set_same (set rows (4 * n) 0) (4 * n + 4) 1 0 (omega arith)

  low_there : (r k : ℕ) → r < n → k < 3 → cell 4 with_two r k ≡ cell 4 rows r k
  low_there r k h l = get_or-set_other (set rows (4 * n) 0) (4 * n + 4) (4 * r + k) 1 0 (omega arith) ∙ get_or-set_other rows (4 * n) (4 * r + k) 0 0 (omega arith)

  row_there : (r : ℕ) → r < n → row_at (tab with_two parts) r ≡ row_at (tab rows parts) r
  row_there r h = row_agree with_two rows parts r (λ k l. low_there r k h l)

  rows_there : (m : ℕ) → m ≤ n → rows_in (tab with_two parts) m ≡ rows_in (tab rows parts) m
  rows_there m h = rows_agree (tab with_two parts) (tab rows parts) 0 m (λ r l. row_there r (omega arith))

  int_row_there : row_at (tab with_two parts) n ≡ row_i
  unfolding row_at row_from
  int_row_there = rw int_there refl

  junk_row_there : row_at (tab with_two parts) (n + 1) ≡ row_n
  unfolding row_at row_from
  junk_row_there = rw junk_there refl

  one_int : (S : List ℕ) (r : Row) → r ≡ row_i → size_of S r ≤ 4096
  unfolding size_of row_refs total
  one_int S r e = rw e (omega arith)

  one_junk : (S : List ℕ) (r : Row) → r ≡ row_n → size_of S r ≤ 4096
  unfolding size_of row_refs total
  one_junk S r e = rw e (omega arith)

  abbrev fits : ℕ → Type 0
  fits x = size_of (sizes_of (rows_in (tab with_two parts) x)) (row_at (tab with_two parts) x) ≤ 4096

  pub two_small : RowsClear (tab rows parts) n → (x : ℕ) → x < n + 2 → fits x
  two_small c x h = go (eqb x n) refl (eqb x (n + 1)) refl
    where
      low : x < n → fits x
      low l =
          let e : size_of (sizes_of (rows_in (tab with_two parts) x)) (row_at (tab with_two parts) x) ≡ size_of (sizes_of (rows_in (tab rows parts) x)) (row_at (tab rows parts) x) = ap₂ (λ (a : List Row) (b : Row). size_of (sizes_of a) b) (rows_there x (omega arith)) (row_there x l) in
          let k = size_clear (tab rows parts) n c x l in
          omega arith

      go : (b : Bool) → eqb x n ≡ b → (d : Bool) → eqb x (n + 1) ≡ d → fits x
      go true e d f = let q : n ≡ x = sym (eqb-true x n e) in subst fits q (one_int (sizes_of (rows_in (tab with_two parts) n)) (row_at (tab with_two parts) n) int_row_there)
      go false e true f = let q : n + 1 ≡ x = sym (eqb-true x (n + 1) f) in subst fits q (one_junk (sizes_of (rows_in (tab with_two parts) (n + 1))) (row_at (tab with_two parts) (n + 1)) junk_row_there)
      go false e false f =
          let p : x ≡ n → ⊥ = eqb-false x n e in
          let q : x ≡ n + 1 → ⊥ = eqb-false x (n + 1) f in
          low (omega (arith, p, q))

  -- ---- after the counts
  module _ (after : List ℕ) (f : CountsFilled with_two after parts (n + 2)) where
    row_kept : (r : ℕ) → r < n → row_at (tab after parts) r ≡ row_at (tab rows parts) r
    row_kept r h = row_agree after with_two parts r (λ k l. f.entries r k l) ∙ row_there r h

    rows_kept : rows_in (tab after parts) n ≡ rows_in (tab rows parts) n
    rows_kept = rows_agree (tab after parts) (tab rows parts) 0 n (λ r l. row_kept r (omega arith))

    pub all_checked : RowsClear (tab rows parts) n → ((r : ℕ) → r < n → SmallRow (row_at (tab rows parts) r)) → (r : ℕ) → r < n → Checked (tab after parts) r
    all_checked c s = checked (tab after parts) n (subst (λ l. Clear (rows_faults l 0 l)) (sym rows_kept) c) (λ r h. small_variable (row_at (tab after parts) r) (subst SmallRow (sym (row_kept r h)) (s r h)))

    pub all_prepared : (uses tops : List ℕ) → n ≤ 512 → Scoped (tab after parts) n uses tops → Prepared rows after parts n uses tops
    all_prepared uses tops few s = record {
      few = few;
      int_row = f.entries n 0 (omega arith) ∙ int_there;
      junk_row = f.entries (n + 1) 0 (omega arith) ∙ junk_there;
      counted = f.counted;
      scoped = s;
      row = λ r h. row_kept r h;
      rows = rows_kept;
    }

-- ---- the same of a list that is known to be the rows with the two made
module _ (rows parts : List ℕ) (n : ℕ) (room : 4 * n + 8 ≤ length rows) (two : List ℕ) (e : two ≡ set (set rows (4 * n) 0) (4 * n + 4) 1) where
  pub small_two : RowsClear (tab rows parts) n → (x : ℕ) → x < n + 2 → size_of (sizes_of (rows_in (tab two parts) x)) (row_at (tab two parts) x) ≤ 4096
  small_two c = subst (λ l. (x : ℕ) → x < n + 2 → size_of (sizes_of (rows_in (tab l parts) x)) (row_at (tab l parts) x) ≤ 4096) (sym e) (two_small rows parts n room c)

  pub room_two : 4 * (n + 2) ≤ length two
  room_two = let k : length two ≡ length rows = ap length e ∙ two_length rows parts n room in omega arith

  counts : (after : List ℕ) → CountsFilled two after parts (n + 2) → CountsFilled (set (set rows (4 * n) 0) (4 * n + 4) 1) after parts (n + 2)
  counts after f = subst (λ l. CountsFilled l after parts (n + 2)) e f

  pub checked_two : (after : List ℕ) → CountsFilled two after parts (n + 2) → RowsClear (tab rows parts) n → ((r : ℕ) → r < n → SmallRow (row_at (tab rows parts) r)) → (r : ℕ) → r < n → Checked (tab after parts) r
  checked_two after f = all_checked rows parts n room after (counts after f)

  pub prepared_two : (after : List ℕ) → CountsFilled two after parts (n + 2) → (uses tops : List ℕ) → n ≤ 512 → Scoped (tab after parts) n uses tops → Prepared rows after parts n uses tops
  prepared_two after f = all_prepared rows parts n room after (counts after f)

-- ---- the same of rows that are a section of an image: lent once for the two, y, and once for the counts, z
module _ (p : Places) (l : List ℕ) (n : ℕ) (o : Ordered p (length l)) (room : 4 * n + 8 ≤ p.blocks - p.rows) (y : List ℕ) (e : y ≡ set (set (row_section p l) (4 * n) 0) (4 * n + 4) 1) where
  row_room : 4 * n + 8 ≤ length (row_section p l)
  row_room = let q = part_length p.rows p.blocks l (omega arith) in omega arith

  long : length y ≡ length (row_section p l)
  long = ap length e ∙ two_length (row_section p l) [] n row_room

  two_out : Outside p.rows p.blocks l (put_mid p.rows (p.blocks - p.rows) l y)
  two_out = lent p.rows p.blocks l y o.rows (omega arith) long

  two_is : row_section p (put_mid p.rows (p.blocks - p.rows) l y) ≡ y
  two_is = back p.rows p.blocks l y (omega arith) (long ∙ part_length p.rows p.blocks l (omega arith))

  pub image_room : 4 * (n + 2) ≤ length (row_section p (put_mid p.rows (p.blocks - p.rows) l y))
  image_room = rw two_is (room_two (row_section p l) [] n row_room y e)

  pub image_sizes : RowsClear (tab (row_section p l) (part_section p l)) n → SizesFit (row_section p (put_mid p.rows (p.blocks - p.rows) l y)) (part_section p l) (n + 2)
  image_sizes c = rw two_is (small_two (row_section p l) (part_section p l) n row_room y e c)

  module _ (z : List ℕ) (g : length z ≡ length (row_section p (put_mid p.rows (p.blocks - p.rows) l y))) (f : CountsFilled (row_section p (put_mid p.rows (p.blocks - p.rows) l y)) z (part_section p l) (n + 2)) where
    abbrev l₁ : List ℕ
    l₁ = put_mid p.rows (p.blocks - p.rows) l y

    abbrev l₂ : List ℕ
    l₂ = put_mid p.rows (p.blocks - p.rows) l₁ z

    there : p.blocks ≤ length l₁
    there = omega (arith, two_out.size)

    pub counts_out : Outside p.rows p.blocks l l₂
    counts_out = then two_out (lent p.rows p.blocks l₁ z o.rows there g)

    counts_is : row_section p l₂ ≡ z
    counts_is = back p.rows p.blocks l₁ z (omega (arith, there)) (g ∙ part_length p.rows p.blocks l₁ there)

    behind_rows : (c d : ℕ) → p.blocks ≤ c → part c d l₂ ≡ part c d l
    behind_rows c d h = behind p.rows p.blocks l l₂ counts_out c d h

    parts_kept : part_section p l₂ ≡ part_section p l
    parts_kept = behind_rows p.parts p.operands (omega arith)

    filled : CountsFilled y z (part_section p l) (n + 2)
    filled = rw two_is at f

    pub image_ordered : Ordered p (length l₂)
    image_ordered = rw counts_out.size o

    pub image_checked : RowsClear (tab (row_section p l) (part_section p l)) n → ((r : ℕ) → r < n → SmallRow (row_at (tab (row_section p l) (part_section p l)) r)) → (r : ℕ) → r < n → Checked (tab (row_section p l₂) (part_section p l₂)) r
    image_checked c s = rw (counts_is, parts_kept) (checked_two (row_section p l) (part_section p l) n row_room y e z filled c s)

    module _ (l₃ : List ℕ) (q : Outside p.uses p.shared l₂ l₃) where
      before_uses : (c d : ℕ) → c ≤ d → d ≤ p.uses → part c d l₃ ≡ part c d l₂
      before_uses c d h k = before p.uses p.shared l₂ l₃ (omega (arith, counts_out.size)) q c d h k

      pub image_prepared : n ≤ 512 → Scoped (tab (row_section p l₂) (part_section p l₂)) n (use_section p l₃) (top_section p l₃) → Prepared (row_section p l) (row_section p l₃) (part_section p l) n (use_section p l₃) (top_section p l₃)
      image_prepared few s = rw (before_uses p.rows p.blocks o.rows (omega arith) ∙ counts_is) (prepared_two (row_section p l) (part_section p l) n row_room y e z filled (use_section p l₃) (top_section p l₃) few (rw (counts_is, parts_kept) at s))

      pub image_kept : Kept p l l₃
      image_kept =
          record {
            blocks = before_uses p.blocks p.instrs o.blocks (omega arith) ∙ behind_rows p.blocks p.instrs (omega arith);
            instrs = before_uses p.instrs p.parts o.instrs (omega arith) ∙ behind_rows p.instrs p.parts (omega arith);
            parts = before_uses p.parts p.operands o.parts (omega arith) ∙ behind_rows p.parts p.operands (omega arith);
            operands = before_uses p.operands p.args o.operands (omega arith) ∙ behind_rows p.operands p.args (omega arith);
            args = before_uses p.args p.uses o.args (omega arith) ∙ behind_rows p.args p.uses (omega arith);
            size = q.size ∙ counts_out.size;
          }
