-- Laws of item counts.
use mathlib.Core.Path.{◌≡◌, refl, ap, ap₂, sym, ◌∙◌, fun_ext}
use mathlib.Core.Bool.{Bool, true, false}
use mathlib.Core.List.{List, ◌∷◌}
use Prim.Native.Nat.{ℕ, zero, suc, ◌+◌, ◌*◌, ◌<◌, ◌≤◌}
use native.Mathlib.Omega.{arith}
use native.Mathlib.Nat.{not-suc-le-zero}
use lib.Dec.{eqb, leb}
use lib.ListN.{length, get_or, set, length-set}
use lib.Seq.{get_or-set_same, get_or-set_other}
use borrow.Author.Tests.{eqb-true, eqb-false, leb-true, leb-false}
use Rattle.syntax.specs.Syntax.{value, stack}
use Rattle.types.specs.Types.{Ty, nil, push, svar, join, items}
use Rattle.types.specs.Rows.{size_of, sizes_of}
use Rattle.types.proofs.Filling.{items_join}
use Rattle.tables.specs.Tables.{RowTable, cell, row_at, rows_from, rows_in}
use Rattle.types_rows.specs.declared.Val.TheVariants.{ValVar}
use Rattle.types_rows.specs.declared.Stk.{Stk}
use Rattle.types_rows.specs.declared.Stk.TheVariants.{Nil, StkVar, StkFill, Push, Join}
use Rattle.types_rows.specs.Read.{tab, value_at, stack_at, is_stack_at, place_s, lift, build_v, build_s, value_to, stack_to, mean_v, mean_s, items_at}
use Rattle.types_rows.proofs.Laws.{LowS, low_s_at, plain_stack, stack_is}
use Rattle.types_rows.proofs.Bridge.{kind_value, counted_from}
use Rattle.types_rows.specs.size.Size.{under_s, size_at}
use Rattle.types_rows.specs.item_counts.Counts.{CountsFilled}
use Rattle.types_rows.proofs.size.Laws.{size_is}
use Rattle.types_rows.proofs.measure.Sizes.{size_in}

-- ---- the count of a row, by the counts of lower rows
module _ (τ : RowTable) where
  pub count_by : (h : ℕ) {n k : Stk} → n ≡ stack_at τ.rows (place_s 0 (lift 0) 0) h → n ≡ k → items (build_s (mean_v τ) (mean_s τ) k) ≡ items (mean_s τ h)
  count_by h e f = sym (ap items (stack_is τ h ∙ ap (build_s (mean_v τ) (mean_s τ)) (sym (plain_stack τ.rows h) ∙ sym e ∙ f)))

  pub count_nil : {n : ℕ} → items nil ≡ n → 0 ≡ n
  unfolding items
  count_nil e = e

  pub count_var : {n : ℕ} (k : ℕ) → items (svar k nil) ≡ n → 1 ≡ n
  unfolding items
  count_var k e = e

  pub count_push : {n : ℕ} (t : Ty value) (x c : ℕ) → c ≡ items_at τ.rows x → items_at τ.rows x ≡ items (mean_s τ x) → items (push t (mean_s τ x)) ≡ n → c + 1 ≡ n
  unfolding items
  count_push t x c e f g = omega arith

  pub count_join : {n : ℕ} (x y c d : ℕ) → c ≡ items_at τ.rows x → items_at τ.rows x ≡ items (mean_s τ x) → d ≡ items_at τ.rows y → items_at τ.rows y ≡ items (mean_s τ y) → items (join (mean_s τ x) (mean_s τ y)) ≡ n → c + d ≡ n
  count_join x y c d e f g h i = let s = items_join (mean_s τ x) (mean_s τ y) in omega arith

  -- a form that is none of those
  pub count_rest : (h : ℕ) (n : Stk) → n ≡ stack_at τ.rows (place_s 0 (lift 0) 0) h → ((k : ℕ) → n ≡ StkVar k → ⊥) → ((t x : ℕ) → n ≡ Push t x → ⊥) → ((x y : ℕ) → n ≡ Join x y → ⊥) → 0 ≡ items (mean_s τ h)
  count_rest h Nil e v p j = count_nil (count_by h e refl)
  count_rest h (StkVar k) e v p j = absurd (v k refl)
  count_rest h (StkFill k) e v p j = count_nil (count_by h e refl)
  count_rest h (Push t x) e v p j = absurd (p t x refl)
  count_rest h (Join x y) e v p j = absurd (j x y refl)

  -- no stack has more items than its size
  items_build : (h : ℕ) (n : Stk) → LowS h n → ((x : ℕ) → x < h → items (mean_s τ x) ≤ size_at τ x) → items (build_s (mean_v τ) (mean_s τ) n) ≤ suc (under_s (size_at τ) n)
  unfolding items
  items_build h Nil l e = omega arith
  items_build h (StkVar k) l e = omega arith
  items_build h (StkFill k) l e = omega arith
  items_build h (Push t x) l e = let q = e x l.1 in omega arith
  items_build h (Join x y) l e = let p = e x l.0 in let q = e y l.1 in let s = items_join (mean_s τ x) (mean_s τ y) in omega arith

  items_size' : (n h : ℕ) → h < n → items (mean_s τ h) ≤ size_at τ h
  unfolding items
  items_size' zero h l = absurd (not-suc-le-zero l)
  items_size' (suc n) zero l = let q : items (mean_s τ 0) ≡ 0 = ap items (stack_is τ 0) in omega arith
  items_size' (suc n) (suc r) l = go (is_stack_at τ.rows r) refl (items_build (suc r) (stack_at τ.rows StkVar (suc r)) (low_s_at τ.rows (suc r)) (λ x k. items_size' n x (omega arith)))
    where
      go : (b : Bool) → is_stack_at τ.rows r ≡ b → items (build_s (mean_v τ) (mean_s τ) (stack_at τ.rows StkVar (suc r))) ≤ suc (under_s (size_at τ) (stack_at τ.rows StkVar (suc r))) → items (mean_s τ (suc r)) ≤ size_at τ (suc r)
      go true e i =
          let p : size_at τ (suc r) ≡ suc (under_s (size_at τ) (stack_at τ.rows StkVar (suc r))) = size_is τ r ∙ rw e refl in
          let q : items (mean_s τ (suc r)) ≡ items (build_s (mean_v τ) (mean_s τ) (stack_at τ.rows StkVar (suc r))) = ap items (stack_is τ (suc r)) in
          omega arith
      go false e i =
          let q : items (mean_s τ (suc r)) ≡ 0 = ap items (stack_is τ (suc r) ∙ ap (build_s (mean_v τ) (mean_s τ)) (kind_value τ (cell 4 τ.rows r 0) (cell 4 τ.rows r 1) (cell 4 τ.rows r 2) (suc r) (leb-false 7 (cell 4 τ.rows r 0) e))) in
          omega arith

  pub items_size : (h : ℕ) → items (mean_s τ h) ≤ size_at τ h
  items_size h = items_size' (suc h) h (omega arith)

-- ---- tables that differ in counts only
abbrev pub Entries : List ℕ → List ℕ → Type 0
Entries before after = (x k : ℕ) → k < 3 → cell 4 after x k ≡ cell 4 before x k

module _ (before after parts : List ℕ) (e : Entries before after) where
  same_value_at : (h : ℕ) → value_at after ValVar h ≡ value_at before ValVar h
  same_value_at zero = refl
  same_value_at (suc r) = rw (e r 0 (omega arith), e r 1 (omega arith), e r 2 (omega arith)) refl

  same_stack_at : (h : ℕ) → stack_at after StkVar h ≡ stack_at before StkVar h
  same_stack_at zero = refl
  same_stack_at (suc r) = rw (e r 0 (omega arith), e r 1 (omega arith), e r 2 (omega arith)) refl

  mutual
    unfolding value_to

    same_value : (n h : ℕ) → value_to n (tab after parts) h ≡ value_to n (tab before parts) h
    same_value zero h = refl
    same_value (suc n) h =
        ap (build_v (value_to n (tab after parts)) (stack_to n (tab after parts)) parts h) (same_value_at h)
        ∙ ap₂ (λ (v : ℕ → Ty value) (s : ℕ → Ty stack). build_v v s parts h (value_at before ValVar h)) (fun_ext (λ x. same_value n x)) (fun_ext (λ x. same_stack n x))

    same_stack : (n h : ℕ) → stack_to n (tab after parts) h ≡ stack_to n (tab before parts) h
    same_stack zero h = refl
    same_stack (suc n) h =
        ap (build_s (value_to n (tab after parts)) (stack_to n (tab after parts))) (same_stack_at h)
        ∙ ap₂ (λ (v : ℕ → Ty value) (s : ℕ → Ty stack). build_s v s (stack_at before StkVar h)) (fun_ext (λ x. same_value n x)) (fun_ext (λ x. same_stack n x))

  pub same_mean : (h : ℕ) → mean_s (tab after parts) h ≡ mean_s (tab before parts) h
  unfolding mean_s
  same_mean h = same_stack (suc h) h

  same_row : (r : ℕ) → row_at (tab after parts) r ≡ row_at (tab before parts) r
  unfolding row_at
  same_row r = rw (e r 0 (omega arith), e r 1 (omega arith), e r 2 (omega arith)) refl

  same_rows : (i n : ℕ) → rows_from (tab after parts) i n ≡ rows_from (tab before parts) i n
  unfolding rows_from
  same_rows i zero = refl
  same_rows i (suc n) = ap₂ ◌∷◌ (same_row i) (same_rows (suc i) n)

-- ---- filling in the counts
module _ (before parts : List ℕ) (n : ℕ) where
  -- the first r rows are counted
  abbrev pub Filling : List ℕ → ℕ → Type 0
  Filling after r = (r ≤ n) × (length after ≡ length before) × Entries before after × ((x : ℕ) → x ≤ r → items_at after x ≡ items (mean_s (tab before parts) x))

  pub filling_first : Filling before 0
  unfolding items
  filling_first = (omega arith, refl, λ x k l. refl, λ x l. go x l)
    where
      go : (x : ℕ) → x ≤ 0 → items_at before x ≡ items (mean_s (tab before parts) x)
      go zero l = sym (ap items (stack_is (tab before parts) 0))
      go (suc x) l = absurd (not-suc-le-zero l)

  module _ (after : List ℕ) (r : ℕ) (f : Filling after r) where
    pub filling_low : (h : ℕ) → h ≡ r + 1 → (x : ℕ) → x < h → items_at after x ≡ items (mean_s (tab after parts) x)
    filling_low h e x l = f.3 x (omega arith) ∙ ap items (sym (same_mean before after parts f.2 x))

    pub filling_count : (h c : ℕ) → h ≡ r + 1 → c ≡ items (mean_s (tab after parts) h) → c ≡ items (mean_s (tab before parts) (suc r))
    filling_count h c e g = g ∙ ap items (same_mean before after parts f.2 h ∙ ap (mean_s (tab before parts)) (e ∙ omega arith))

    pub filling_small : (c : ℕ) → r < n → ((x : ℕ) → x < n → size_of (sizes_of (rows_in (tab before parts) x)) (row_at (tab before parts) x) ≤ 4096) → c ≡ items (mean_s (tab before parts) (suc r)) → c ≤ 65535
    filling_small c l s e =
        let p = s r l in
        let q = size_in (tab before parts) r in
        let i = items_size (tab before parts) (suc r) in
        omega arith

    -- one row more
    pub filling_next : (c v : ℕ) → r < n → 4 * n ≤ length before → c ≡ items (mean_s (tab before parts) (suc r)) → v ≡ c → Filling (set after (4 * r + 3) v) (r + 1)
    filling_next c v l b e q = (omega arith, length-set after (4 * r + 3) v ∙ f.1, same, counts)
      where
        same : Entries before (set after (4 * r + 3) v)
        same x k u = get_or-set_other after (4 * r + 3) (4 * x + k) v 0 (apart (leb x r) refl) ∙ f.2 x k u
          where
            apart : (w : Bool) → leb x r ≡ w → 4 * x + k ≡ 4 * r + 3 → ⊥
            apart true g z = let h = leb-true x r g in omega arith
            apart false g z = let h = leb-false x r g in omega arith

        counts : (x : ℕ) → x ≤ r + 1 → items_at (set after (4 * r + 3) v) x ≡ items (mean_s (tab before parts) x)
        counts zero u = f.3 zero (omega arith)
        counts (suc x) u = go (eqb x r) refl
          where
            go : (w : Bool) → eqb x r ≡ w → get_or (set after (4 * r + 3) v) (4 * x + 3) 0 ≡ items (mean_s (tab before parts) (suc x))
            go true g =
                let p : x ≡ r = eqb-true x r g in
                let s = f.1 in
                rw p (get_or-set_same after (4 * r + 3) v 0 (omega arith) ∙ q ∙ e)
            go false g =
                let p = eqb-false x r g in
                get_or-set_other after (4 * r + 3) (4 * x + 3) v 0 (λ z. p (omega arith)) ∙ f.3 (suc x) (lower_than (leb (suc x) r) refl p)
              where
                lower_than : (w : Bool) → leb (suc x) r ≡ w → (x ≡ r → ⊥) → suc x ≤ r
                lower_than true h p = leb-true (suc x) r h
                lower_than false h p = let k = leb-false (suc x) r h in absurd (p (omega arith))

    pub filling_last : n ≤ r → n ≤ 65536 → CountsFilled before after parts n
    filling_last l s =
        record {
          counted = counted_from (tab after parts) n s (λ x u. f.3 x (low x u) ∙ ap items (sym (same_mean before after parts f.2 x)));
          rows = same_rows before after parts f.2 0 n;
          entries = f.2;
          size = f.1;
        }
      where
        low : (x : ℕ) → x ≤ n → x ≤ r
        low x u = omega arith
