-- The registers' types read and written through the array of links.
use Prim.Native.Nat.{ℕ, zero, suc, ◌+◌, ◌*◌, ◌≤◌, ◌<◌}
use native.Mathlib.Omega.{arith}
use mathlib.Core.Path.{◌≡◌, refl, ap, ap₂, ◌∙◌, subst}
use mathlib.Core.Option.{none, some}
use mathlib.Core.List.{List}
use lib.ListN.{length}
use Rattle.syntax.specs.Syntax.{value, stack}
use Rattle.types.specs.Types.{Ty}
use Rattle.tables.specs.Tables.{cell}
use Rattle.valid.specs.Tests.{item_at, replaced}
use Rattle.valid_context.specs.Context.{Reading, with_entry, linked, on_link, regs_from, regs_of}
use Rattle.valid_context.proofs.Cells.{put_first, put_second, put_other}

module _ (T : Reading) where
  item_top : (e x : ℕ) (a : Ty stack) → item_at (on_link T e x a) 0 ≡ linked T e x
  unfolding item_at linked
  item_top e zero a = refl
  item_top e (suc t) a = refl

  item_down : (e x r : ℕ) (a : Ty stack) → item_at (on_link T e x a) (suc r) ≡ item_at a r
  unfolding item_at
  item_down e zero r a = refl
  item_down e (suc t) r a = refl

  -- register r of n, and one past them
  pub regs_item : (l : List ℕ) (i n r : ℕ) → r < n → item_at (regs_from T l i n) r ≡ linked T (cell 2 l (i + r) 1) (cell 2 l (i + r) 0)
  unfolding regs_from
  regs_item l i zero r h = absurd (omega arith)
  regs_item l i (suc n) zero h = let e : i + 0 ≡ i = omega arith in rw e (item_top (cell 2 l i 1) (cell 2 l i 0) (regs_from T l (suc i) n))
  regs_item l i (suc n) (suc r) h =
      let k : r < n = omega arith in
      let e : suc i + r ≡ i + suc r = omega arith in
      item_down (cell 2 l i 1) (cell 2 l i 0) r (regs_from T l (suc i) n) ∙ regs_item l (suc i) n r k ∙ ap (λ (j : ℕ). linked T (cell 2 l j 1) (cell 2 l j 0)) e

  pub regs_past : (l : List ℕ) (i n r : ℕ) → n ≤ r → item_at (regs_from T l i n) r ≡ none
  unfolding regs_from
  regs_past l i zero r h = unfold item_at in refl
  regs_past l i (suc n) zero h = absurd (omega arith)
  regs_past l i (suc n) (suc r) h =
      let k : n ≤ r = omega arith in
      item_down (cell 2 l i 1) (cell 2 l i 0) r (regs_from T l (suc i) n) ∙ regs_past l (suc i) n r k

  -- arrays with the same links stand for the same registers
  pub regs_agree : (l m : List ℕ) (i j n : ℕ) → ((k c : ℕ) → k < n → c ≤ 1 → cell 2 l (i + k) c ≡ cell 2 m (j + k) c) → regs_from T l i n ≡ regs_from T m j n
  unfolding regs_from
  regs_agree l m i j zero h = refl
  regs_agree l m i j (suc n) h =
      let p : i + 0 ≡ i = omega arith in
      let q : j + 0 ≡ j = omega arith in
      let top : cell 2 l i 0 ≡ cell 2 m j 0 = rw (p, q) at (h 0 0 (omega arith) (omega arith)) in
      let env : cell 2 l i 1 ≡ cell 2 m j 1 = rw (p, q) at (h 0 1 (omega arith) (omega arith)) in
      let rest = regs_agree l m (suc i) (suc j) n (λ k c r u. let v : suc i + k ≡ i + suc k = omega arith in let w : suc j + k ≡ j + suc k = omega arith in rw (v, w) (h (suc k) c (omega arith) u)) in
      rw (top, env, rest)

  put_top : (e x f t : ℕ) (a : Ty stack) → replaced (on_link T e x a) 0 (T.type f t) ≡ some (on_link T f (suc t) a)
  unfolding replaced
  put_top e zero f t a = refl
  put_top e (suc u) f t a = refl

  put_down : (e x d : ℕ) (t : Ty value) (a b : Ty stack) → replaced a d t ≡ some b → replaced (on_link T e x a) (suc d) t ≡ some (on_link T e x b)
  unfolding replaced
  put_down e zero d t a b q = rw q
  put_down e (suc u) d t a b q = rw q

  first_put : (l : List ℕ) (i n e t : ℕ) → 2 * i + 1 < length l → replaced (regs_from T l i (suc n)) 0 (T.type e t) ≡ some (regs_from T (with_entry l i (suc t) e) i (suc n))
  unfolding regs_from
  first_put l i n e t p =
      let m : List ℕ = with_entry l i (suc t) e in
      let rest : regs_from T m (suc i) n ≡ regs_from T l (suc i) n = regs_agree m l (suc i) (suc i) n (λ k c r u. put_other l i (suc t) e (suc i + k) c (omega arith) u) in
      rw (put_first l i (suc t) e p, put_second l i (suc t) e p, rest) (put_top (cell 2 l i 1) (cell 2 l i 0) e t (regs_from T l (suc i) n))

  -- a link written
  pub regs_put : (l : List ℕ) (i n d e t : ℕ) → d < n → 2 * (i + d) + 1 < length l → replaced (regs_from T l i n) d (T.type e t) ≡ some (regs_from T (with_entry l (i + d) (suc t) e) i n)
  unfolding regs_from
  regs_put l i zero d e t h q = absurd (omega arith)
  regs_put l i (suc n) zero e t h q =
      let z : i ≡ i + 0 = omega arith in
      subst (λ (k : ℕ). replaced (regs_from T l i (suc n)) 0 (T.type e t) ≡ some (regs_from T (with_entry l k (suc t) e) i (suc n))) z
      (first_put l i n e t (omega arith))
  regs_put l i (suc n) (suc d) e t h q =
      let z : suc i + d ≡ i + suc d = omega arith in
      let m : List ℕ = with_entry l (suc i + d) (suc t) e in
      let top : cell 2 m i 0 ≡ cell 2 l i 0 = put_other l (suc i + d) (suc t) e i 0 (omega arith) (omega arith) in
      let env : cell 2 m i 1 ≡ cell 2 l i 1 = put_other l (suc i + d) (suc t) e i 1 (omega arith) (omega arith) in
      subst (λ (k : ℕ). replaced (regs_from T l i (suc n)) (suc d) (T.type e t) ≡ some (regs_from T (with_entry l k (suc t) e) i (suc n))) z
      (rw (top, env) (put_down (cell 2 l i 1) (cell 2 l i 0) d (T.type e t) (regs_from T l (suc i) n) (regs_from T m (suc i) n)
      (regs_put l (suc i) n d e t (omega arith) (omega arith))))

  put_none : (e x d : ℕ) (t : Ty value) (a : Ty stack) → replaced a d t ≡ none → replaced (on_link T e x a) (suc d) t ≡ none
  unfolding replaced
  put_none e zero d t a q = rw q
  put_none e (suc u) d t a q = rw q

  pub regs_put_past : (l : List ℕ) (i n d : ℕ) (t : Ty value) → n ≤ d → replaced (regs_from T l i n) d t ≡ none
  unfolding regs_from
  regs_put_past l i zero d t h = unfold replaced in refl
  regs_put_past l i (suc n) zero t h = absurd (omega arith)
  regs_put_past l i (suc n) (suc d) t h = put_none (cell 2 l i 1) (cell 2 l i 0) d t (regs_from T l (suc i) n) (regs_put_past l (suc i) n d t (omega arith))

  -- the eight
  pub register_is : (l : List ℕ) (r : ℕ) → r < 8 → item_at (regs_of T l) r ≡ linked T (cell 2 l r 1) (cell 2 l r 0)
  register_is l r h = let e : 0 + r ≡ r = omega arith in regs_item l 0 8 r h ∙ ap (λ (j : ℕ). linked T (cell 2 l j 1) (cell 2 l j 0)) e

  pub register_past : (l : List ℕ) (r : ℕ) → 8 ≤ r → item_at (regs_of T l) r ≡ linked T 0 0
  unfolding linked
  register_past l r h = regs_past l 0 8 r h

  pub assign_is : (l : List ℕ) (d t e : ℕ) → d < 8 → 16 ≤ length l → replaced (regs_of T l) d (T.type e t) ≡ some (regs_of T (with_entry l d (t + 1) e))
  assign_is l d t e h q =
      let z : 0 + d ≡ d = omega arith in
      let n : suc t ≡ t + 1 = omega arith in
      regs_put l 0 8 d e t h (omega arith) ∙ ap₂ (λ (j x : ℕ). some (regs_of T (with_entry l j x e))) z n
