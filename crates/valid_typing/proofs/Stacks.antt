-- The items of a stack row against those of sp.
use Prim.Native.Nat.{ℕ, zero, suc, ◌+◌, ◌-◌, ◌*◌, ◌≤◌, ◌<◌}
use native.Mathlib.Omega.{arith}
use native.Mathlib.Nat.{sub-zero}
use mathlib.Core.Path.{◌≡◌, refl, ap, ap₂, sym, ◌∙◌}
use mathlib.Core.Bool.{Bool, true, false, ◌&&◌, cond}
use mathlib.Core.Option.{Option, none, some}
use Rattle.std.specs.Prelude.{Option as CodeOption, Some, None}
use mathlib.Core.List.{List, []}
use lib.Dec.{ltb, eqb}
use lib.ListN.{length}
use borrow.Author.Tests.{eqb-true, eqb-false, lt-ltb, le-ltb, le-leb, lt-leb}
use Rattle.syntax.specs.Partial.{guarded}
use Rattle.syntax.specs.Syntax.{value, stack}
use Rattle.types.specs.Types.{Ty, nil, push, svar, gap, join, items}
use Rattle.types.specs.Rows.{type_at}
use Rattle.types.specs.Equal.{same}
use Rattle.types.proofs.Equal.{same_false}
use Rattle.types.proofs.Filling.{join_assoc, join_nil}
use Rattle.tables.specs.Tables.{RowTable, cell}
use Rattle.valid.specs.Tests.{item_at, above}
use Rattle.types_rows.specs.Read.{tab, lift, mean_v, mean_s, value_under, stack_under, drop_s, ItemOf, items_at, CountedTo}
use Rattle.types_rows.specs.Environments.{var_in, read_in}
use Rattle.types_rows.specs.declared.Item.{Item}
use Rattle.types_rows.specs.declared.Item.TheVariants.{Val as ValItem, Var as VarItem}
use Rattle.types_rows.proofs.Laws.{items_drop, empty_nil}
use Rattle.types_rows.proofs.Bridge.{counted_to}
use Rattle.types_rows.proofs.Environments.{plain, read_nil, read_push, read_svar, read_items}
use Rattle.valid_context.specs.Context.{Reading, linked, first_var, on_item, sp_of, sp_above, with_entry, EnvsIn}
use Rattle.valid_context.proofs.Cells.{put_first, put_second, put_other}
use Rattle.valid_context.proofs.Sp.{items_is, tail_is, above_set, join_is}
use Rattle.valid_typing.specs.Typing.{types_in, held_in, Ready, item_is, LowItem, LinkIs, SmallVars, SmallItem, EntryIs}
use Rattle.valid_typing.proofs.Reading.{over, read_item}

-- item j of the stack a, the stack row h as it is read
abbrev pub ItemIs : RowTable → ℕ → Ty stack → ℕ → CodeOption Item → Type 0
ItemIs τ h a j None = drop_s j a ≡ nil
ItemIs τ h a j (Some (ValItem t)) = (t < h) × (drop_s j a ≡ push (mean_v τ t) (drop_s (suc j) a))
ItemIs τ h a j (Some (VarItem k)) = drop_s j a ≡ svar k (drop_s (suc j) a)

pub item_read : (τ : RowTable) (h j : ℕ) (it : CodeOption Item) → ItemOf τ (lift 0) 0 h (stack_under τ [] (lift 0) 0 h) j it → ItemIs τ h (mean_s τ h) j it
unfolding stack_under value_under
item_read τ h j None e = rw (plain 0 (mean_s τ h)) at e
item_read τ h j (Some (ValItem t)) e = (e.0, rw (plain 0 (mean_s τ h), plain 0 (mean_v τ t)) at e.1)
item_read τ h j (Some (VarItem k)) e = rw (plain 0 (mean_s τ h)) at e

-- the same in an environment, with the variable as it counts now
abbrev pub ItemNow : RowTable → List ℕ → ℕ → ℕ → Ty stack → ℕ → CodeOption Item → Type 0
ItemNow τ E e h a j None = drop_s j a ≡ nil
ItemNow τ E e h a j (Some (ValItem t)) = (t < h) × (drop_s j a ≡ push (read_in E e (mean_v τ t)) (drop_s (suc j) a))
ItemNow τ E e h a j (Some (VarItem k)) = drop_s j a ≡ svar k (drop_s (suc j) a)

pub item_now : (τ : RowTable) (E : List ℕ) (e h j : ℕ) (it : CodeOption Item) → ItemOf τ (var_in E e) 0 h (stack_under τ [] (var_in E e) 0 h) j it → ItemNow τ E e h (read_in E e (mean_s τ h)) j it
unfolding stack_under value_under read_in
item_now τ E e h j None q = q
item_now τ E e h j (Some (ValItem t)) q = q
item_now τ E e h j (Some (VarItem k)) q = q

module _ (rows parts : List ℕ) (n : ℕ) (E : List ℕ) (e : ℕ) where
  abbrev T : Reading
  T = held_in rows parts n E

  -- ---- equal items
  same_top : (h : ℕ) (a b : Ty stack) (j f y : ℕ) (it : CodeOption Item) → ItemNow (tab rows parts) E e h a j it → same (drop_s j a) (on_item T f y b) ≡ item_is rows parts n E e it f y && same (drop_s (suc j) a) b
  same_top h a b j f y None q = rw q (go (ltb y first_var))
    where
      go : (v : Bool) → same nil (cond v (push (T.type f y) b) (svar (T.variable f (y - first_var)) b)) ≡ item_is rows parts n E e None f y && same (drop_s (suc j) a) b
      go true = unfold same item_is in refl
      go false = unfold same item_is in refl
  same_top h a b j f y (Some (ValItem t)) q = rw q.1 (unfold item_is in go (ltb y first_var))
    where
      go : (v : Bool)
          → same (push (read_in E e (mean_v (tab rows parts) t)) (drop_s (suc j) a)) (cond v (push (T.type f y) b) (svar (T.variable f (y - first_var)) b))
          ≡ cond v (same (read_in E e (mean_v (tab rows parts) t)) (T.type f y)) false && same (drop_s (suc j) a) b
      go true = unfold same in refl
      go false = unfold same in refl
  same_top h a b j f y (Some (VarItem k)) q = rw q (unfold item_is in go (ltb y first_var))
    where
      go : (v : Bool) → same (svar k (drop_s (suc j) a)) (cond v (push (T.type f y) b) (svar (T.variable f (y - first_var)) b)) ≡ cond v false (eqb k (var_in E f (y - first_var))) && same (drop_s (suc j) a) b
      go true = unfold same in refl
      go false = unfold same in refl

  -- from the top: the items passed are equal
  module _ (sp : List ℕ) (m h : ℕ) (a : Ty stack) where
    abbrev pub RestSame : ℕ → Type 0
    RestSame i = same a (sp_of T sp m) ≡ same (drop_s i a) (sp_of T sp (m - i))

    pub same_first : RestSame 0
    unfolding drop_s
    same_first = rw sub-zero

    module _ (i : ℕ) (it : CodeOption Item) (y f : ℕ) (l : i < m) (q : ItemNow (tab rows parts) E e h a i it) (g : y ≡ cell 2 sp (m - i - 1) 0) (d : f ≡ cell 2 sp (m - i - 1) 1) (r : RestSame i) where
      one_on : same a (sp_of T sp m) ≡ item_is rows parts n E e it f y && same (drop_s (suc i) a) (sp_of T sp (m - i - 1))
      one_on =
          let o : m - i ≡ suc (m - i - 1) = omega arith in
          r ∙ ap (λ (k : ℕ). same (drop_s i a) (sp_of T sp k)) o ∙ rw (g, d) (unfold sp_of in same_top h a (sp_of T sp (m - i - 1)) i (cell 2 sp (m - i - 1) 1) (cell 2 sp (m - i - 1) 0) it q)

      pub same_next : {v : Bool} → v ≡ item_is rows parts n E e it f y → v ≡ true → RestSame (i + 1)
      same_next u w =
          let p : i + 1 ≡ suc i = omega arith in
          let o : m - suc i ≡ m - i - 1 = omega arith in
          rw (p, o, one_on, ← u, w)

      pub same_fails : {v : Bool} → v ≡ item_is rows parts n E e it f y → v ≡ false → false ≡ same a (sp_of T sp m)
      same_fails u w = rw (one_on, ← u, w)

    pub same_count : {c : ℕ} → c ≡ items a → (c ≡ m → ⊥) → false ≡ same a (sp_of T sp m)
    same_count q h = sym (same_false a (sp_of T sp m) (λ p. h (q ∙ ap items p ∙ items_is T sp m)))

    pub same_done : (i : ℕ) {c : ℕ} → c ≡ items a → c ≡ m → i ≤ m → m ≤ i → RestSame i → true ≡ same a (sp_of T sp m)
    same_done i q g l k r =
        let z : items (drop_s i a) ≡ 0 = items_drop i a ∙ omega arith in
        let o : m - i ≡ 0 = omega arith in
        sym (r ∙ rw (empty_nil (drop_s i a) z, o) (unfold sp_of same in refl))

-- ---- single items
-- which item there is
pub which_item : (it : CodeOption Item) (x y : Item) → x ≡ y → it ≡ Some x → it ≡ Some y
which_item it x y e h = h ∙ ap Some e

pub low_item : {h t : ℕ} {it : CodeOption Item} → it ≡ Some (ValItem t) → LowItem h it → t ≤ h
low_item e l = rw e at l

pub small_item : {k : ℕ} {it : CodeOption Item} → it ≡ Some (VarItem k) → SmallItem it → k ≤ 60000
small_item e l = rw e at l

pub link_none : (n : ℕ) {it : CodeOption Item} → it ≡ None → LinkIs n it 0
link_none n e = rw e refl

pub link_var : (n k : ℕ) {it : CodeOption Item} → it ≡ Some (VarItem k) → LinkIs n it 0
link_var n k e = rw e refl

pub link_val : (n t r : ℕ) {it : CodeOption Item} → it ≡ Some (ValItem t) → ((rows parts : List ℕ) → Ready rows parts n → type_at value (types_in rows parts n) r ≡ mean_v (tab rows parts) t) → LinkIs n it (r + 1)
link_val n t r e h = rw e ((λ z. omega arith), λ rows parts y. let q : r + 1 - 1 ≡ r = omega arith in rw q (h rows parts y))

pub entry_none : (n : ℕ) {it : CodeOption Item} → it ≡ None → EntryIs n it 0
entry_none n e = rw e tt

pub entry_val : (n t r : ℕ) {it : CodeOption Item} → it ≡ Some (ValItem t) → r < first_var → ((rows parts : List ℕ) → Ready rows parts n → type_at value (types_in rows parts n) r ≡ mean_v (tab rows parts) t) → EntryIs n it r
entry_val n t r e l h = rw e (λ rows parts E f b y. rw (lt-ltb r first_var l, h rows parts y))

pub entry_var : (n k : ℕ) {it : CodeOption Item} → it ≡ Some (VarItem k) → EntryIs n it (k + 1024)
entry_var n k e = rw e (λ T f b. let q : k + 1024 - first_var ≡ k = omega arith in rw (le-ltb (k + 1024) first_var (omega arith), q))

module _ (rows parts : List ℕ) (n : ℕ) (E : List ℕ) (e f y : ℕ) {it : CodeOption Item} where
  pub is_none : it ≡ None → false ≡ item_is rows parts n E e it f y
  unfolding item_is
  is_none q = rw q

  pub is_val : (t : ℕ) {v : Bool} → it ≡ Some (ValItem t) → y < first_var → v ≡ same (read_in E e (mean_v (tab rows parts) t)) ((held_in rows parts n E).type f y) → v ≡ item_is rows parts n E e it f y
  unfolding item_is
  is_val t q l h = rw (q, lt-ltb y first_var l) h

  pub val_var : (t : ℕ) → it ≡ Some (ValItem t) → first_var ≤ y → false ≡ item_is rows parts n E e it f y
  unfolding item_is
  val_var t q l = rw (q, le-ltb y first_var l)

  pub var_val : (k : ℕ) → it ≡ Some (VarItem k) → y < first_var → false ≡ item_is rows parts n E e it f y
  unfolding item_is
  var_val k q l = rw (q, lt-ltb y first_var l)

  pub is_var : (k w : ℕ) → it ≡ Some (VarItem k) → first_var ≤ y → w ≡ var_in E f (y - first_var) → eqb k w ≡ item_is rows parts n E e it f y
  unfolding item_is
  is_var k w q l h = rw (q, le-ltb y first_var l, h)

-- ---- rows that have been counted
module _ (rows parts : List ℕ) (n x : ℕ) (r : Ready rows parts n) (l : x ≤ n + 2) where
  pub counted_link : CountedTo (tab rows parts) x
  counted_link y k = counted_to (tab rows parts) (n + 2) r.counted y (omega arith)

  pub count_is : items_at rows x ≡ items (mean_s (tab rows parts) x)
  count_is = counted_link x (omega arith)

  pub item_asks : (0 ≤ 1099511627776) × (x ≤ 65536) × CountedTo (tab rows parts) x
  item_asks = (omega arith, (let f = r.few in omega arith), counted_link)

  pub now_low : (E : List ℕ) (e : ℕ) (a : Ty stack) (j : ℕ) (it : CodeOption Item) → ItemNow (tab rows parts) E e x a j it → LowItem (n + 2) it
  now_low E e a j None q = tt
  now_low E e a j (Some (ValItem t)) q = let h = q.0 in omega arith
  now_low E e a j (Some (VarItem k)) q = tt

  pub item_low : (a : Ty stack) (j : ℕ) (it : CodeOption Item) → ItemIs (tab rows parts) x a j it → LowItem (n + 2) it
  item_low a j None e = tt
  item_low a j (Some (ValItem t)) e = let h = e.0 in omega arith
  item_low a j (Some (VarItem k)) e = tt

small_drop : (j : ℕ) (a : Ty stack) → SmallVars a → SmallVars (drop_s j a)
unfolding drop_s
small_drop zero a s = s
small_drop (suc j) nil s = tt
small_drop (suc j) (push t a) s = small_drop j a s
small_drop (suc j) (svar k a) s = small_drop j a s.1
small_drop (suc j) (gap a) s = small_drop j a s

pub item_small : (τ : RowTable) (x : ℕ) (a : Ty stack) (j : ℕ) (it : CodeOption Item) → SmallVars a → ItemIs τ x a j it → SmallItem it
item_small τ x a j None s e = tt
item_small τ x a j (Some (ValItem t)) s e = tt
item_small τ x a j (Some (VarItem k)) s e = let h = rw e at (small_drop j a s) in h.0

item_top : (t : Ty value) (a : Ty stack) → item_at (push t a) 0 ≡ some t
unfolding item_at
item_top t a = refl

item_under : (t : Ty value) (a : Ty stack) (i : ℕ) → item_at (push t a) (suc i) ≡ item_at a i
unfolding item_at
item_under t a i = refl

-- a link as the type of its row
abbrev pub row_link : List ℕ → List ℕ → ℕ → ℕ → Option (Ty value)
row_link rows parts n zero = none
row_link rows parts n (suc u) = some (type_at value (types_in rows parts n) u)

row_link_lem : (rows parts : List ℕ) (n u : ℕ) → (u ≡ 0 → ⊥) → row_link rows parts n u ≡ some (type_at value (types_in rows parts n) (u - 1))
row_link_lem rows parts n zero h = absurd (h refl)
row_link_lem rows parts n (suc u) h = let q : suc u - 1 ≡ u = omega arith in rw q

pub link_read : (rows parts : List ℕ) (n x i u : ℕ) → item_at (mean_s (tab rows parts) x) i ≡ row_link rows parts n u → (E : List ℕ) (e : ℕ) → item_at (read_in E e (mean_s (tab rows parts) x)) i ≡ linked (held_in rows parts n E) e u
unfolding linked
link_read rows parts n x i zero q E e = read_item E e (mean_s (tab rows parts) x) i ∙ ap (over (read_in E e)) q
link_read rows parts n x i (suc u) q E e = read_item E e (mean_s (tab rows parts) x) i ∙ ap (over (read_in E e)) q

-- ---- item i of a stack row, by the items above it
module _ (rows parts : List ℕ) (n x : ℕ) (a : Ty stack) where
  abbrev pub RestItem : ℕ → ℕ → Type 0
  RestItem i j = item_at a i ≡ item_at (drop_s j a) (i - j)

  pub item_first : (i : ℕ) → RestItem i 0
  unfolding drop_s
  item_first i = rw sub-zero

  module _ (i j : ℕ) (it : CodeOption Item) (u : ℕ) (e : ItemIs (tab rows parts) x a j it) (k : LinkIs n it u) (r : RestItem i j) where
    pub item_ends : u ≡ 0 → item_at a i ≡ row_link rows parts n 0
    item_ends z = r ∙ go it e k
      where
        go : (it : CodeOption Item) → ItemIs (tab rows parts) x a j it → LinkIs n it u → item_at (drop_s j a) (i - j) ≡ none
        go None e k = rw e (unfold item_at in refl)
        go (Some (ValItem t)) e k = absurd (k.0 z)
        go (Some (VarItem v)) e k = rw e (unfold item_at in refl)

    pub item_next : (u ≡ 0 → ⊥) → j < i → RestItem i (j + 1)
    item_next z l = r ∙ go it e k
      where
        go : (it : CodeOption Item) → ItemIs (tab rows parts) x a j it → LinkIs n it u → item_at (drop_s j a) (i - j) ≡ item_at (drop_s (j + 1) a) (i - (j + 1))
        go None e k = absurd (z k)
        go (Some (ValItem t)) e k =
            let p : i - j ≡ suc (i - (j + 1)) = omega arith in
            let q : j + 1 ≡ suc j = omega arith in
            rw (e.1, p) (item_under (mean_v (tab rows parts) t) (drop_s (suc j) a) (i - (j + 1)) ∙ ap (λ (m : ℕ). item_at (drop_s m a) (i - (j + 1))) (sym q))
        go (Some (VarItem v)) e k = absurd (z k)

    pub item_last : Ready rows parts n → i ≡ j → item_at a i ≡ row_link rows parts n u
    item_last y q = r ∙ ap (λ (m : ℕ). item_at (drop_s j a) (i - m)) (sym q) ∙ go it e k
      where
        go : (it : CodeOption Item) → ItemIs (tab rows parts) x a j it → LinkIs n it u → item_at (drop_s j a) (i - i) ≡ row_link rows parts n u
        go None e k = rw (e, k) (unfold item_at in refl)
        go (Some (ValItem t)) e k =
            let p : i - i ≡ 0 = omega arith in
            rw (e.1, p) (item_top (mean_v (tab rows parts) t) (drop_s (suc j) a) ∙ ap some (sym (k.1 rows parts y)) ∙ sym (row_link_lem rows parts n u k.0))
        go (Some (VarItem v)) e k = rw (e, k) (unfold item_at in refl)

-- ---- the items of a stack row put into sp
join_item : (T : Reading) (f y : ℕ) (a b : Ty stack) → join (on_item T f y a) b ≡ on_item T f y (join a b)
join_item T f y a b = go (ltb y first_var)
  where
    go : (v : Bool) → join (cond v (push (T.type f y) a) (svar (T.variable f (y - first_var)) a)) b ≡ cond v (push (T.type f y) (join a b)) (svar (T.variable f (y - first_var)) (join a b))
    go true = unfold join in refl
    go false = unfold join in refl

nil_join : (a : Ty stack) → join nil a ≡ a
unfolding join
nil_join a = refl

sp_none : (T : Reading) (sp : List ℕ) → sp_of T sp 0 ≡ nil
unfolding sp_of
sp_none T sp = refl

-- the lowest of the items above a depth
above_low : (T : Reading) (sp : List ℕ) (d k : ℕ) → sp_above T sp d (suc k) ≡ join (sp_above T sp (suc d) k) (on_item T (cell 2 sp d 1) (cell 2 sp d 0) nil)
unfolding sp_above
above_low T sp d zero = let q : d + 0 ≡ d = omega arith in rw q (unfold join in refl)
above_low T sp d (suc k) =
    let q : d + suc k ≡ suc d + k = omega arith in
    ap₂ (λ (i : ℕ) (c : Ty stack). on_item T (cell 2 sp i 1) (cell 2 sp i 0) c) q (above_low T sp d k)
    ∙ sym (join_item T (cell 2 sp (suc d + k) 1) (cell 2 sp (suc d + k) 0) (sp_above T sp (suc d) k) (on_item T (cell 2 sp d 1) (cell 2 sp d 0) nil))

-- with the items passed above it, the rest is the whole
module _ (rows parts : List ℕ) (n m x e : ℕ) (a : Ty stack) where
  abbrev pub Written : List ℕ → ℕ → Type 0
  Written sp i = (E : List ℕ) → join (sp_above (held_in rows parts n E) sp (m - i) i) (read_in E e (drop_s i a)) ≡ read_in E e a

  entry_item : (E : List ℕ) (i y : ℕ) (it : CodeOption Item) → i < m → items a ≡ m → Ready rows parts n → ItemIs (tab rows parts) x a i it → EntryIs n it y → on_item (held_in rows parts n E) e y (read_in E e (drop_s (suc i) a)) ≡ read_in E e (drop_s i a)
  entry_item E i y None l c r q k = let z = items_drop i a in let w : items (drop_s i a) ≡ 0 = ap items q ∙ unfold items in refl in absurd (omega arith)
  entry_item E i y (Some (ValItem t)) l c r q k = k rows parts E e (read_in E e (drop_s (suc i) a)) r ∙ sym (ap (read_in E e) q.1 ∙ read_push E e (mean_v (tab rows parts) t) (drop_s (suc i) a))
  entry_item E i y (Some (VarItem v)) l c r q k = k (held_in rows parts n E) e (read_in E e (drop_s (suc i) a)) ∙ sym (ap (read_in E e) q ∙ read_svar E e v (drop_s (suc i) a))

  pub written_none : (sp : List ℕ) → Written sp 0
  unfolding sp_above join drop_s
  written_none sp E = refl

  pub written_next : (sp : List ℕ) (i y : ℕ) (it : CodeOption Item) → i < m → 2 * m ≤ length sp → items a ≡ m → Ready rows parts n → ItemIs (tab rows parts) x a i it → EntryIs n it y → Written sp i → Written (with_entry sp (m - i - 1) y e) (i + 1)
  written_next sp i y it l h c r q k w E =
      let T = held_in rows parts n E in
      let s = with_entry sp (m - i - 1) y e in
      let p : m - (i + 1) ≡ m - i - 1 = omega arith in
      let g : suc (m - i - 1) ≡ m - i = omega arith in
      let o : i + 1 ≡ suc i = omega arith in
      let b : 2 * (m - i - 1) + 1 < length sp = omega arith in
      let top : cell 2 s (m - i - 1) 0 ≡ y = put_first sp (m - i - 1) y e b in
      let env : cell 2 s (m - i - 1) 1 ≡ e = put_second sp (m - i - 1) y e b in
      let up : sp_above T s (m - i) i ≡ sp_above T sp (m - i) i = above_set T sp (m - i) i (m - i - 1) y e (omega arith) in
      let A = sp_above T sp (m - i) i in
      let D = read_in E e (drop_s (suc i) a) in
      rw (p, o, above_low T s (m - i - 1) i, g, top, env, up)
      (join_assoc A (on_item T e y nil) D ∙ ap (join A) (join_item T e y nil D ∙ ap (on_item T e y) (nil_join D) ∙ entry_item E i y it l c r q k) ∙ w E)

  pub written_all : (sp : List ℕ) (i : ℕ) → i ≤ m → m ≤ i → items a ≡ m → Written sp i → (E : List ℕ) → sp_of (held_in rows parts n E) sp (items a) ≡ read_in E e a
  written_all sp i l k c w E =
      let T = held_in rows parts n E in
      let z : items (drop_s i a) ≡ 0 = items_drop i a ∙ omega arith in
      let p : m - i ≡ 0 = omega arith in
      let q : 0 + i ≡ items a = omega arith in
      let g : read_in E e (drop_s i a) ≡ nil = ap (read_in E e) (empty_nil (drop_s i a) z) ∙ read_nil E e in
      let j : sp_above T sp (m - i) i ≡ read_in E e a = sym (join_nil (sp_above T sp (m - i) i)) ∙ ap (join (sp_above T sp (m - i) i)) (sym g) ∙ w E in
      sym (ap (sp_of T sp) q) ∙ sym (join_is T sp 0 i) ∙ ap (join (sp_above T sp 0 i)) (sp_none T sp) ∙ join_nil (sp_above T sp 0 i) ∙ (rw p at j)

-- the environments of the highest i of the m entries are e
module _ (m e : ℕ) where
  abbrev pub EnvsDone : List ℕ → ℕ → Type 0
  EnvsDone sp i = (j : ℕ) → m - i ≤ j → j < m → cell 2 sp j 1 ≤ e

  pub envs_none : (sp : List ℕ) → EnvsDone sp 0
  envs_none sp j h l = absurd (omega arith)

  pub envs_on : (sp : List ℕ) (i y : ℕ) → i < m → 2 * m ≤ length sp → EnvsDone sp i → EnvsDone (with_entry sp (m - i - 1) y e) (i + 1)
  envs_on sp i y l h d j p q = go (eqb j (m - i - 1)) refl
    where
      go : (t : Bool) → eqb j (m - i - 1) ≡ t → cell 2 (with_entry sp (m - i - 1) y e) j 1 ≤ e
      go true r = let s : j ≡ m - i - 1 = eqb-true j (m - i - 1) r in rw (s, put_second sp (m - i - 1) y e (omega arith)) (omega arith)
      go false r =
          let s : j ≡ m - i - 1 → ⊥ = eqb-false j (m - i - 1) r in
          rw (put_other sp (m - i - 1) y e j 1 s (omega arith)) (d j (omega arith) q)

  pub envs_all : (sp : List ℕ) (i : ℕ) → m ≤ i → EnvsDone sp i → EnvsIn e sp m
  envs_all sp i l d = record { low = λ j q. d j (omega arith) q }

-- ---- tails
module _ (T : Reading) (sp : List ℕ) (d m : ℕ) (b : Ty stack) (e : m ≡ items b) where
  pub tail_short : d < m → above b (sp_of T sp d) ≡ none
  tail_short l = tail_is T sp d b ∙ rw (lt-leb (items b) d (omega arith))

  pub tail_same : {v : Bool} → m ≤ d → v ≡ same b (sp_of T sp m) → above b (sp_of T sp d) ≡ guarded v (sp_above T sp (items b) (d - items b))
  tail_same l h = tail_is T sp d b ∙ rw (le-leb (items b) d (omega arith), ← e, ← h)

-- the same of a stack that was read in an environment
module _ (T : Reading) (sp : List ℕ) (d m : ℕ) (E : List ℕ) (e : ℕ) (b : Ty stack) (q : m ≡ items b) where
  pub read_short : d < m → above (read_in E e b) (sp_of T sp d) ≡ none
  read_short l = tail_short T sp d m (read_in E e b) (q ∙ sym (read_items E e b)) l

  pub read_tail : {v : Bool} → m ≤ d → v ≡ same (read_in E e b) (sp_of T sp m) → above (read_in E e b) (sp_of T sp d) ≡ guarded v (sp_above T sp (items b) (d - items b))
  read_tail l h = tail_same T sp d m (read_in E e b) (q ∙ sym (read_items E e b)) l h ∙ rw (read_items E e b)
