-- The types of sp's items read and written through the array.
use Prim.Native.Nat.{ℕ, zero, suc, ◌+◌, ◌-◌, ◌*◌, ◌≤◌, ◌<◌}
use native.Mathlib.Omega.{arith}
use native.Mathlib.Nat.{add-zero, add-suc, sub-zero, suc-sub-suc}
use native.Mathlib.Numerals.{add-one}
use mathlib.Core.Path.{◌≡◌, refl, ap, ap₂, sym, ◌∙◌, subst}
use mathlib.Core.Bool.{Bool, true, false, ◌&&◌, and-false, cond}
use mathlib.Core.Option.{Option, none, some}
use mathlib.Core.List.{List}
use lib.Dec.{leb, ltb}
use lib.ListN.{length}
use borrow.Author.Tests.{lt-ltb, le-ltb, ltb-true, le-leb, leb-true}
use Rattle.std.specs.List.{range_with_len, list_all}
use Rattle.syntax.specs.Partial.{guarded}
use Rattle.syntax.specs.Syntax.{value, stack}
use Rattle.types.specs.Types.{Ty, junk, nil, push, svar, gap, join, items}
use Rattle.types.specs.Equal.{same}
use Rattle.types.proofs.Equal.{and_inv, none_true, same_sound, same_refl}
use Rattle.types.proofs.Filling.{items_join}
use Rattle.tables.specs.Tables.{cell}
use Rattle.valid.specs.Rules.{junks}
use Rattle.valid.specs.Tests.{item_at, replaced, under, above}
use Rattle.valid.proofs.Reading.{above_sound, above_complete}
use Rattle.valid_context.specs.Context.{Reading, with_entry, linked, first_var, on_item, sp_of, sp_above, are_values}
use Rattle.valid_context.proofs.Cells.{put_first, put_second, put_other}

-- entries that are not there are no value types
pub values_fit : (sp : List ℕ) (d k : ℕ) → are_values sp d k ≡ true → k ≤ d
unfolding are_values
values_fit sp d zero e = omega arith
values_fit sp zero (suc k) e = none_true e
values_fit sp (suc d) (suc k) e = let h = values_fit sp d k (and_inv (ltb (cell 2 sp d 0) first_var) (are_values sp d k) e).1 in omega arith

and_swap : (x y z : Bool) → x && (y && z) ≡ y && (x && z)
and_swap true true z = refl
and_swap true false z = refl
and_swap false true z = refl
and_swap false false z = refl

-- the lowest of the entries looked at first
values_first : (sp : List ℕ) (a n : ℕ) → are_values sp (suc (a + n)) (suc n) ≡ ltb (cell 2 sp a 0) first_var && are_values sp (suc (a + n)) n
unfolding are_values
values_first sp a zero = simp add-zero
values_first sp a (suc n) =
    let h = values_first sp a n in
    rw (add-suc a n) (ap (λ (b : Bool). ltb (cell 2 sp (suc (a + n)) 0) first_var && b) h ∙ and_swap (ltb (cell 2 sp (suc (a + n)) 0) first_var) (ltb (cell 2 sp a 0) first_var) (are_values sp (suc (a + n)) n))

-- all of them from place a on
pub values_list : (sp : List ℕ) (a n : ℕ) → list_all (λ (i : ℕ). ltb (cell 2 sp i 0) first_var) (range_with_len a n) ≡ are_values sp (a + n) n
values_list sp a zero = unfold are_values in refl
values_list sp a (suc n) =
    let e : a + 1 + n ≡ suc (a + n) = omega arith in
    rw (add-suc a n) (ap (λ (b : Bool). ltb (cell 2 sp a 0) first_var && b) (values_list sp (a + 1) n ∙ ap (λ (j : ℕ). are_values sp j n) e) ∙ sym (values_first sp a n))

values_step : (sp : List ℕ) (d k : ℕ) → cell 2 sp d 0 < first_var → are_values sp (suc d) (suc k) ≡ are_values sp d k
unfolding are_values
values_step sp d k h = rw (lt-ltb (cell 2 sp d 0) first_var h)

-- one entry further down
pub values_more : (sp : List ℕ) (d k i : ℕ) → k ≤ d → i < k → cell 2 sp (d - i - 1) 0 < first_var → are_values sp (d - i) (k - i) ≡ are_values sp (d - (i + 1)) (k - (i + 1))
values_more sp d k i h q x =
    let p : d - i ≡ suc (d - i - 1) = omega arith in
    let r : k - i ≡ suc (k - i - 1) = omega arith in
    let u : d - (i + 1) ≡ d - i - 1 = omega arith in
    let v : k - (i + 1) ≡ k - i - 1 = omega arith in
    ap₂ (are_values sp) p r ∙ values_step sp (d - i - 1) (k - i - 1) x ∙ ap₂ (are_values sp) (sym u) (sym v)

pub values_end : (sp : List ℕ) (d k i : ℕ) → k ≤ d → i < k → first_var ≤ cell 2 sp (d - i - 1) 0 → are_values sp (d - i) (k - i) ≡ false
values_end sp d k i h q x =
    let p : d - i ≡ suc (d - i - 1) = omega arith in
    let r : k - i ≡ suc (k - i - 1) = omega arith in
    rw (p, r) (unfold are_values in rw (le-ltb (cell 2 sp (d - i - 1) 0) first_var x))

pub values_few : (sp : List ℕ) (d k : ℕ) → d < k → are_values sp d k ≡ false
values_few sp d k h = go (are_values sp d k) refl
  where
    go : (b : Bool) → are_values sp d k ≡ b → b ≡ false
    go true e = let p = values_fit sp d k e in absurd (omega arith)
    go false e = refl

-- the lowest of them is the row of a value type
values_low : (sp : List ℕ) (d k : ℕ) → are_values sp d (suc k) ≡ true → cell 2 sp (d - suc k) 0 < first_var
unfolding are_values
values_low sp zero k e = none_true e
values_low sp (suc d) zero e = rw (suc-sub-suc, sub-zero) (ltb-true (cell 2 sp d 0) first_var (and_inv (ltb (cell 2 sp d 0) first_var) true e).0)
values_low sp (suc d) (suc k) e = rw suc-sub-suc (values_low sp d k (and_inv (ltb (cell 2 sp d 0) first_var) (are_values sp d (suc k)) e).1)

pub values_all : (sp : List ℕ) (d k i : ℕ) → k ≤ i → are_values sp (d - i) (k - i) ≡ true
values_all sp d k i h = let p : k - i ≡ 0 = omega arith in rw p (unfold are_values in refl)

-- an item is a value type or a stack variable
item_by : (T : Reading) (Q : Ty stack → Type 0) (e x : ℕ) (a : Ty stack) → (ltb x first_var ≡ true → Q (push (T.type e x) a)) → (ltb x first_var ≡ false → Q (svar (T.variable e (x - first_var)) a)) → Q (on_item T e x a)
item_by T Q e x a f g = go (ltb x first_var) f g
  where
    go : (b : Bool) → (b ≡ true → Q (push (T.type e x) a)) → (b ≡ false → Q (svar (T.variable e (x - first_var)) a)) → Q (cond b (push (T.type e x) a) (svar (T.variable e (x - first_var)) a))
    go true f g = f refl
    go false f g = g refl

module _ (T : Reading) where
  -- entry d of sp on top of a stack
  abbrev top : List ℕ → ℕ → Ty stack → Ty stack
  top sp d a = on_item T (cell 2 sp d 1) (cell 2 sp d 0) a

  top_by : (Q : Ty stack → Type 0) (sp : List ℕ) (d : ℕ) (a : Ty stack) → (ltb (cell 2 sp d 0) first_var ≡ true → Q (push (T.type (cell 2 sp d 1) (cell 2 sp d 0)) a))
      → (ltb (cell 2 sp d 0) first_var ≡ false → Q (svar (T.variable (cell 2 sp d 1) (cell 2 sp d 0 - first_var)) a)) → Q (top sp d a)
  top_by Q sp d a f g = item_by T Q (cell 2 sp d 1) (cell 2 sp d 0) a f g

  pub items_is : (sp : List ℕ) (d : ℕ) → items (sp_of T sp d) ≡ d
  unfolding sp_of items
  items_is sp zero = refl
  items_is sp (suc d) = let h = items_is sp d in top_by (λ a. items a ≡ suc d) sp d (sp_of T sp d) (λ e. ap suc h) (λ e. ap suc h)

  -- arrays with the same entries stand for the same items
  pub sp_agree : (l m : List ℕ) (d : ℕ) → ((k c : ℕ) → k < d → c ≤ 1 → cell 2 l k c ≡ cell 2 m k c) → sp_of T l d ≡ sp_of T m d
  unfolding sp_of
  sp_agree l m zero h = refl
  sp_agree l m (suc d) h = rw (h d 0 (omega arith) (omega arith), h d 1 (omega arith) (omega arith), sp_agree l m d (λ k c q u. h k c (omega arith) u))

  pub above_agree : (l m : List ℕ) (d k : ℕ) → ((j c : ℕ) → d ≤ j → c ≤ 1 → cell 2 l j c ≡ cell 2 m j c) → sp_above T l d k ≡ sp_above T m d k
  unfolding sp_above
  above_agree l m d zero h = refl
  above_agree l m d (suc k) h = rw (h (d + k) 0 (omega arith) (omega arith), h (d + k) 1 (omega arith) (omega arith), above_agree l m d k h)

  -- an entry written above the items changes none of them, one below changes none of those above
  pub sp_set : (l : List ℕ) (d i x e : ℕ) → d ≤ i → sp_of T (with_entry l i x e) d ≡ sp_of T l d
  sp_set l d i x e h = sp_agree (with_entry l i x e) l d (λ k c q u. put_other l i x e k c (omega arith) u)

  pub above_set : (l : List ℕ) (d k i x e : ℕ) → i < d → sp_above T (with_entry l i x e) d k ≡ sp_above T l d k
  above_set l d k i x e h = above_agree (with_entry l i x e) l d k (λ j c q u. put_other l i x e j c (omega arith) u)

  -- the items above and below a depth
  pub join_is : (sp : List ℕ) (d k : ℕ) → join (sp_above T sp d k) (sp_of T sp d) ≡ sp_of T sp (d + k)
  unfolding sp_above join sp_of
  join_is sp d zero = rw add-zero
  join_is sp d (suc k) =
      let h = join_is sp d k in
      rw (add-suc d k) (top_by (λ a. join a (sp_of T sp d) ≡ top sp (d + k) (sp_of T sp (d + k))) sp (d + k) (sp_above T sp d k) (λ e. rw (h, e)) (λ e. rw (h, e)))

  -- what is under the first k items
  pub under_is : (sp : List ℕ) (d k : ℕ) → under k (sp_of T sp d) ≡ guarded (are_values sp d k) (sp_of T sp (d - k))
  unfolding under are_values sp_of
  under_is sp d zero = rw sub-zero
  under_is sp zero (suc k) = refl
  under_is sp (suc d) (suc k) =
      let h = under_is sp d k in
      rw suc-sub-suc (top_by (λ a. under (suc k) a ≡ guarded (ltb (cell 2 sp d 0) first_var && are_values sp d k) (sp_of T sp (d - k))) sp d (sp_of T sp d) (λ e. rw e h) (λ e. rw e))

  -- the type of the entry at place j
  abbrev pub entry_type : List ℕ → ℕ → Ty value
  entry_type sp j = T.type (cell 2 sp j 1) (cell 2 sp j 0)

  pub item_is_lem : (sp : List ℕ) (d i : ℕ) → item_at (sp_of T sp d) i ≡ guarded (are_values sp d (suc i)) (entry_type sp (d - suc i))
  unfolding item_at are_values sp_of
  item_is_lem sp zero i = refl
  item_is_lem sp (suc d) zero =
      rw (suc-sub-suc, sub-zero) (top_by (λ a. item_at a 0 ≡ guarded (ltb (cell 2 sp d 0) first_var && true) (entry_type sp d)) sp d (sp_of T sp d) (λ e. rw e) (λ e. rw e))
  item_is_lem sp (suc d) (suc i) =
      let h = item_is_lem sp d i in
      rw suc-sub-suc (top_by (λ a. item_at a (suc i) ≡ guarded (ltb (cell 2 sp d 0) first_var && are_values sp d (suc i)) (entry_type sp (d - suc i))) sp d (sp_of T sp d) (λ e. rw e h) (λ e. rw e))

  -- the list with another value type for an item
  put_down : (f x i : ℕ) (t : Ty value) (a : Ty stack) (b : Bool) (c : Ty stack) → replaced a i t ≡ guarded b c → replaced (on_item T f x a) (suc i) t ≡ guarded (ltb x first_var && b) (on_item T f x c)
  unfolding replaced
  put_down f x i t a b c e = go (ltb x first_var) b e
    where
      go : (v b : Bool) → replaced a i t ≡ guarded b c → replaced (cond v (push (T.type f x) a) (svar (T.variable f (x - first_var)) a)) (suc i) t ≡ guarded (v && b) (cond v (push (T.type f x) c) (svar (T.variable f (x - first_var)) c))
      go true true e = rw e
      go true false e = rw e
      go false b e = refl

  put_last : (sp : List ℕ) (d row env : ℕ) → 2 * d + 1 < length sp → row < first_var → replaced (sp_of T sp (suc d)) 0 (T.type env row) ≡ guarded (are_values sp (suc d) 1) (sp_of T (with_entry sp d row env) (suc d))
  unfolding are_values sp_of
  put_last sp d row env p q =
      rw (put_first sp d row env p, put_second sp d row env p, sp_set sp d d row env (omega arith), lt-ltb row first_var q)
      (unfold replaced in top_by (λ a. replaced a 0 (T.type env row) ≡ guarded (ltb (cell 2 sp d 0) first_var && true) (push (T.type env row) (sp_of T sp d))) sp d (sp_of T sp d) (λ e. rw e) (λ e. rw e))

  pub put_is : (sp : List ℕ) (d i row env : ℕ) → 2 * d ≤ length sp → row < first_var → replaced (sp_of T sp d) i (T.type env row) ≡ guarded (are_values sp d (suc i)) (sp_of T (with_entry sp (d - suc i) row env) d)
  unfolding are_values sp_of
  put_is sp zero i row env h q = unfold replaced in refl
  put_is sp (suc d) zero row env h q =
      let z : d ≡ suc d - 1 = omega arith in
      subst (λ (k : ℕ). replaced (sp_of T sp (suc d)) 0 (T.type env row) ≡ guarded (are_values sp (suc d) 1) (sp_of T (with_entry sp k row env) (suc d))) z
      (put_last sp d row env (omega arith) q)
  put_is sp (suc d) (suc i) row env h q =
      let z : d - suc i ≡ suc d - suc (suc i) = sym (suc-sub-suc d (suc i)) in
      subst (λ (k : ℕ). replaced (sp_of T sp (suc d)) (suc i) (T.type env row) ≡ guarded (are_values sp (suc d) (suc (suc i))) (sp_of T (with_entry sp k row env) (suc d))) z
      (go (are_values sp d (suc i)) refl (put_is sp d i row env (omega arith) q))
    where
      l : List ℕ
      l = with_entry sp (d - suc i) row env

      go : (b : Bool) → are_values sp d (suc i) ≡ b → replaced (sp_of T sp d) i (T.type env row) ≡ guarded b (sp_of T l d) → replaced (top sp d (sp_of T sp d)) (suc i) (T.type env row) ≡ guarded (ltb (cell 2 sp d 0) first_var && b) (top l d (sp_of T l d))
      go true v e =
          let k = values_fit sp d (suc i) v in
          rw (put_other sp (d - suc i) row env d 0 (omega arith) (omega arith), put_other sp (d - suc i) row env d 1 (omega arith) (omega arith))
          (put_down (cell 2 sp d 1) (cell 2 sp d 0) i (T.type env row) (sp_of T sp d) true (sp_of T l d) e)
      go false v e = rw and-false (rw and-false at (put_down (cell 2 sp d 1) (cell 2 sp d 0) i (T.type env row) (sp_of T sp d) false (sp_of T l d) e))

  -- junk items on top, one after the other
  pub junks_none : (l : List ℕ) (d : ℕ) → junks 0 (sp_of T l d) ≡ sp_of T l (d + 0)
  unfolding junks
  junks_none l d = rw add-zero

  pub junks_next : (l₀ l : List ℕ) (d k x e : ℕ) → 2 * (d + k) + 1 < length l → x < first_var → T.type e x ≡ junk → junks k (sp_of T l₀ d) ≡ sp_of T l (d + k) → junks (k + 1) (sp_of T l₀ d) ≡ sp_of T (with_entry l (d + k) x e) (d + (k + 1))
  junks_next l₀ l d k x e h q j r =
      let p : d + (k + 1) ≡ suc (d + k) = omega arith in
      rw (p, add-one) (unfold junks sp_of in rw (put_first l (d + k) x e h, put_second l (d + k) x e h, lt-ltb x first_var q, j, sp_set l (d + k) (d + k) x e (omega arith), r))

  -- ---- tails
  push_on : (t : Ty value) (f x : ℕ) (a b : Ty stack) → push t a ≡ on_item T f x b → a ≡ b
  push_on t f x a b e = item_by T (λ c. push t a ≡ c → a ≡ b) f x b (λ h p. cc) (λ h p. let z : ◌≡◌ {A = ℕ} 0 1 = cc in absurd (omega arith)) e

  svar_on : (k f x : ℕ) (a b : Ty stack) → svar k a ≡ on_item T f x b → a ≡ b
  svar_on k f x a b e = item_by T (λ c. svar k a ≡ c → a ≡ b) f x b (λ h p. let z : ◌≡◌ {A = ℕ} 0 1 = cc in absurd (omega arith)) (λ h p. cc) e

  no_gap : {Q : Type 0} (f x : ℕ) (a b : Ty stack) → gap a ≡ on_item T f x b → Q
  no_gap {Q} f x a b e = item_by T (λ c. gap a ≡ c → Q) f x b (λ h p. let z : ◌≡◌ {A = ℕ} 0 1 = cc in absurd (omega arith)) (λ h p. let z : ◌≡◌ {A = ℕ} 0 1 = cc in absurd (omega arith)) e

  -- a tail of the items is the items below its own number
  tail_of : (sp : List ℕ) (a b : Ty stack) (d : ℕ) → join a b ≡ sp_of T sp d → b ≡ sp_of T sp (items b)
  unfolding join sp_of
  tail_of sp nil b d e = let h : items b ≡ d = ap items e ∙ items_is sp d in rw h e
  tail_of sp (push t a) b zero e = let z : ◌≡◌ {A = ℕ} 0 1 = cc in absurd (omega arith)
  tail_of sp (push t a) b (suc d) e = tail_of sp a b d (push_on t (cell 2 sp d 1) (cell 2 sp d 0) (join a b) (sp_of T sp d) e)
  tail_of sp (svar k a) b zero e = let z : ◌≡◌ {A = ℕ} 0 1 = cc in absurd (omega arith)
  tail_of sp (svar k a) b (suc d) e = tail_of sp a b d (svar_on k (cell 2 sp d 1) (cell 2 sp d 0) (join a b) (sp_of T sp d) e)
  tail_of sp (gap a) b zero e = let z : ◌≡◌ {A = ℕ} 0 1 = cc in absurd (omega arith)
  tail_of sp (gap a) b (suc d) e = no_gap (cell 2 sp d 1) (cell 2 sp d 0) (join a b) (sp_of T sp d) e

  split_is : (sp : List ℕ) (m d : ℕ) → m ≤ d → sp_of T sp d ≡ join (sp_above T sp m (d - m)) (sp_of T sp m)
  split_is sp m d h = let e : m + (d - m) ≡ d = omega arith in sym (join_is sp m (d - m) ∙ ap (sp_of T sp) e)

  pub is_tail : (sp : List ℕ) (d : ℕ) (b : Ty stack) → items b ≤ d → b ≡ sp_of T sp (items b) → above b (sp_of T sp d) ≡ some (sp_above T sp (items b) (d - items b))
  is_tail sp d b h e = let a = sp_above T sp (items b) (d - items b) in ap (above b) (split_is sp (items b) d h ∙ ap (join a) (sym e)) ∙ above_complete a b

  pub tail_is : (sp : List ℕ) (d : ℕ) (b : Ty stack) → above b (sp_of T sp d) ≡ guarded (leb (items b) d && same b (sp_of T sp (items b))) (sp_above T sp (items b) (d - items b))
  tail_is sp d b = go (leb (items b) d && same b (sp_of T sp (items b))) refl
    where
      -- a tail meets the test
      meets : (c : Ty stack) → sp_of T sp d ≡ join c b → leb (items b) d && same b (sp_of T sp (items b)) ≡ true
      meets c e =
          let h : items c + items b ≡ d = sym (items_join c b) ∙ ap items (sym e) ∙ items_is sp d in
          let k : b ≡ sp_of T sp (items b) = tail_of sp c b d (sym e) in
          rw (le-leb (items b) d (omega arith), ← k) (same_refl b)

      other : (o : Option (Ty stack)) → above b (sp_of T sp d) ≡ o → leb (items b) d && same b (sp_of T sp (items b)) ≡ false → o ≡ none
      other none e f = refl
      other (some c) e f = none_true (sym f ∙ meets c (above_sound b (sp_of T sp d) c e))

      go : (v : Bool) → leb (items b) d && same b (sp_of T sp (items b)) ≡ v → above b (sp_of T sp d) ≡ guarded v (sp_above T sp (items b) (d - items b))
      go true e = let k = and_inv (leb (items b) d) (same b (sp_of T sp (items b))) e in is_tail sp d b (leb-true (items b) d k.0) (same_sound b (sp_of T sp (items b)) k.1)
      go false e = other (above b (sp_of T sp d)) refl e

-- ---- what the functions of this crate promise
pub values_told : (sp : List ℕ) (d k : ℕ) {b : Bool} → b ≡ are_values sp d k → (b ≡ are_values sp d k) × ((T : Reading) → under k (sp_of T sp d) ≡ guarded b (sp_of T sp (d - k)))
values_told sp d k e = (e, λ T. under_is T sp d k ∙ ap (λ (v : Bool). guarded v (sp_of T sp (d - k))) (sym e))

pub item_none : (sp : List ℕ) (d i : ℕ) → are_values sp d (suc i) ≡ false → (T : Reading) → item_at (sp_of T sp d) i ≡ linked T 0 0
unfolding linked
item_none sp d i e T = item_is_lem T sp d i ∙ ap (λ (v : Bool). guarded v (entry_type T sp (d - suc i))) e

pub item_some : (sp : List ℕ) (d i x f : ℕ) → are_values sp d (suc i) ≡ true → x ≡ cell 2 sp (d - i - 1) 0 → f ≡ cell 2 sp (d - i - 1) 1 → (T : Reading) → item_at (sp_of T sp d) i ≡ linked T f (x + 1)
unfolding linked
item_some sp d i x f e q r T =
    let j : d - i - 1 ≡ d - suc i = omega arith in
    let n : x + 1 ≡ suc (cell 2 sp (d - suc i) 0) = add-one x ∙ ap suc (q ∙ ap (λ (j : ℕ). cell 2 sp j 0) j) in
    let m : f ≡ cell 2 sp (d - suc i) 1 = r ∙ ap (λ (j : ℕ). cell 2 sp j 1) j in
    rw (n, m) (item_is_lem T sp d i ∙ ap (λ (v : Bool). guarded v (entry_type T sp (d - suc i))) e)

pub item_low : (sp : List ℕ) (d i x : ℕ) → are_values sp d (suc i) ≡ true → x ≡ cell 2 sp (d - i - 1) 0 → x + 1 ≤ 1024
item_low sp d i x e q =
    let n : d - suc i ≡ d - i - 1 = omega arith in
    let h = rw n at (values_low sp d i e) in
    omega arith

pub put_none : (sp : List ℕ) (d i row env : ℕ) → 2 * d ≤ length sp → row < first_var → are_values sp d (suc i) ≡ false → (T : Reading) → replaced (sp_of T sp d) i (T.type env row) ≡ none
put_none sp d i row env h q e T = put_is T sp d i row env h q ∙ ap (λ (v : Bool). guarded v (sp_of T (with_entry sp (d - suc i) row env) d)) e

pub put_some : (sp : List ℕ) (d i row env : ℕ) → 2 * d ≤ length sp → row < first_var → are_values sp d (suc i) ≡ true → (T : Reading)
    → replaced (sp_of T sp d) i (T.type env row) ≡ some (sp_of T (with_entry sp (d - i - 1) row env) d)
put_some sp d i row env h q e T =
    let n : d - suc i ≡ d - i - 1 = omega arith in
    put_is T sp d i row env h q ∙ ap₂ (λ (v : Bool) (j : ℕ). guarded v (sp_of T (with_entry sp j row env) d)) e n
