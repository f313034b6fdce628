-- What each function for an instruction answers, by the tests that it makes. `w` is a word that the code read, and `e` says which.
use mathlib.Core.Path.{◌≡◌, ap, ap₂, sym, ◌∙◌}
use mathlib.Core.List.{List}
use Prim.Native.Nat.{ℕ, suc, ◌+◌, ◌-◌, ◌<◌, ◌≤◌}
use native.Mathlib.Omega.{arith}
use borrow.Author.Tests.{lt-ltb, le-ltb, le-leb, lt-leb, eq-eqb, ne_eqb}
use Rattle.syntax.specs.Syntax.{Operand, Arith}
use Rattle.exec.specs.Machine.{Memory, at, component_at, compute, word_of}
use Rattle.tables.specs.Tables.{cell}
use Rattle.exec_words.specs.declared.memory.Word.{Word as Pair}
use Rattle.exec_words.specs.memory.Lent.{word_is}
use Rattle.exec_machine.specs.declared.Stop.TheVariants.{StackFull, HeapFull, Stuck}
use Rattle.exec_machine.specs.Step.{pair, given, provided, next_arith, next_jump, next_load, next_store, next_tuple, next_cut, next_push, next_pop, next_read, next_write, next_read_through, next_write_through, Next, Go, Register, Stack, Heap, Depth, Junk, Tuple, End}

-- the word that was read, with another name for its index
word_at : (M : Memory) {i j : ℕ} (w : Pair) → word_is w ≡ at M i → i ≡ j → w ≡ pair (at M j)
word_at M w e q = ap pair (e ∙ ap (at M) q)

-- ---- arithmetic
module _ (R : Memory) (to : ℕ) (o : Arith) (d s : ℕ) (v : Operand) (x : Pair) (ex : word_is x ≡ at R s) where
  pub arith_left : {r : Next} → r ≡ End Stuck → (x.kind ≡ 0 → ⊥) → r ≡ next_arith R to o d s v
  unfolding next_arith given
  arith_left h n = h ∙ sym (simp (← ex, ne_eqb x.kind 0 n))

  module _ (y : Pair) (ey : word_is y ≡ word_of R v) (l : x.kind ≡ 0) where
    pub arith_right : {r : Next} → r ≡ End Stuck → (y.kind ≡ 0 → ⊥) → r ≡ next_arith R to o d s v
    unfolding next_arith given
    arith_right h n = h ∙ sym (simp (← ex, ← ey, eq-eqb x.kind 0 l, ne_eqb y.kind 0 n))

    pub arith_done : {e n : ℕ} → y.kind ≡ 0 → n ≡ compute o x.number y.number → e ≡ d → Register e (record { kind = 0; number = n }) to ≡ next_arith R to o d s v
    unfolding next_arith given
    arith_done q c p = ap₂ (λ (a b : ℕ). Register a (record { kind = 0; number = b }) to) p c ∙ sym (simp (← ex, ← ey, eq-eqb x.kind 0 l, eq-eqb y.kind 0 q))

-- ---- jumps
module _ (β : List ℕ) (labels : ℕ) (w : Pair) where
  pub jump_kind : {r : Next} → r ≡ End Stuck → (w.kind ≡ 1 → ⊥) → r ≡ next_jump β labels (word_is w)
  unfolding next_jump given
  jump_kind h n = h ∙ sym (simp (ne_eqb w.kind 1 n))

  module _ (l : ℕ) (e : l ≡ w.number) (q : w.kind ≡ 1) where
    pub jump_label : {r : Next} → r ≡ End Stuck → labels ≤ l → r ≡ next_jump β labels (word_is w)
    unfolding next_jump given provided
    jump_label h k = h ∙ sym (simp (eq-eqb w.kind 1 q, ← e, le-ltb l labels k))

    pub jump_done : {p : ℕ} → l < labels → p ≡ cell 2 β l 1 → Go p ≡ next_jump β labels (word_is w)
    unfolding next_jump given provided
    jump_done k c = ap Go c ∙ sym (simp (eq-eqb w.kind 1 q, ← e, lt-ltb l labels k))

-- ---- tuples
module _ (R H : Memory) (to d s i : ℕ) (w : Pair) (e : word_is w ≡ at R s) where
  pub load_kind : {r : Next} → r ≡ End Stuck → (w.kind ≡ 2 → ⊥) → r ≡ next_load R H to d s i
  unfolding next_load given
  load_kind h n = h ∙ sym (simp (← e, ne_eqb w.kind 2 n))

  module _ (a : ℕ) (ea : a ≡ w.number) (q : w.kind ≡ 2) (l : Pair) (el : word_is l ≡ at H a) where
    pub load_past : {r : Next} {n : ℕ} → r ≡ End Stuck → n ≡ l.number → n ≤ i → r ≡ next_load R H to d s i
    unfolding next_load given provided
    load_past h en k = h ∙ sym (simp (← e, eq-eqb w.kind 2 q, ← ea, ← el, ← en, le-ltb i _ k))

    pub load_done : {n : ℕ} (x : Pair) → n ≡ l.number → i < n → word_is x ≡ at H (a + i + 1) → Register d x to ≡ next_load R H to d s i
    unfolding next_load given provided
    load_done x en k ex =
        let p : a + i + 1 ≡ component_at a i = omega arith in
        ap (λ (u : Pair). Register d u to) (word_at H x ex p) ∙ sym (simp (← e, eq-eqb w.kind 2 q, ← ea, ← el, ← en, lt-ltb i _ k))

module _ (R H : Memory) (to d i s : ℕ) (w : Pair) (e : word_is w ≡ at R d) where
  pub store_kind : {r : Next} → r ≡ End Stuck → (w.kind ≡ 2 → ⊥) → r ≡ next_store R H to d i s
  unfolding next_store given
  store_kind h n = h ∙ sym (simp (← e, ne_eqb w.kind 2 n))

  module _ (a : ℕ) (ea : a ≡ w.number) (q : w.kind ≡ 2) (l : Pair) (el : word_is l ≡ at H a) where
    pub store_past : {r : Next} {n : ℕ} → r ≡ End Stuck → n ≡ l.number → n ≤ i → r ≡ next_store R H to d i s
    unfolding next_store given provided
    store_past h en k = h ∙ sym (simp (← e, eq-eqb w.kind 2 q, ← ea, ← el, ← en, le-ltb i _ k))

    pub store_done : {n : ℕ} (x : Pair) → n ≡ l.number → i < n → word_is x ≡ at R s → Heap (a + i + 1) x to ≡ next_store R H to d i s
    unfolding next_store given provided
    store_done x en k ex =
        let p : a + i + 1 ≡ component_at a i = omega arith in
        ap₂ (λ (j : ℕ) (u : Pair). Heap j u to) p (ap pair ex) ∙ sym (simp (← e, eq-eqb w.kind 2 q, ← ea, ← el, ← en, lt-ltb i _ k))

module _ (used to d v n : ℕ) where
  pub tuple_done : used + n + 1 ≤ 2048 → Tuple used d v n (used + n + 1) to ≡ next_tuple used to d v n
  unfolding next_tuple provided
  tuple_done h = sym (simp (le-leb (used + n + 1) 2048 h))

  pub tuple_full : 2048 < used + n + 1 → End HeapFull ≡ next_tuple used to d v n
  unfolding next_tuple provided
  tuple_full h = sym (simp (lt-leb (used + n + 1) 2048 h))

-- ---- the stack
module _ (R : Memory) (depth to s : ℕ) (w : Pair) (e : word_is w ≡ at R s) where
  pub cut_kind : {r : Next} → r ≡ End Stuck → (w.kind ≡ 3 → ⊥) → r ≡ next_cut R depth to s
  unfolding next_cut given
  cut_kind h n = h ∙ sym (simp (← e, ne_eqb w.kind 3 n))

  pub cut_above : {r : Next} → r ≡ End Stuck → w.kind ≡ 3 → depth < w.number → r ≡ next_cut R depth to s
  unfolding next_cut given provided
  cut_above h q k = h ∙ sym (simp (← e, eq-eqb w.kind 3 q, lt-leb w.number depth k))

  pub cut_done : w.kind ≡ 3 → w.number ≤ depth → Depth w.number to ≡ next_cut R depth to s
  unfolding next_cut given provided
  cut_done q k = sym (simp (← e, eq-eqb w.kind 3 q, le-leb w.number depth k))

module _ (depth to n : ℕ) where
  pub push_done : depth + n ≤ 256 → Junk n (depth + n) to ≡ next_push depth to n
  unfolding next_push provided
  push_done h = sym (simp (le-leb (depth + n) 256 h))

  pub push_full : 256 < depth + n → End StackFull ≡ next_push depth to n
  unfolding next_push provided
  push_full h = sym (simp (lt-leb (depth + n) 256 h))

  pub pop_past : {r : Next} → r ≡ End Stuck → depth < n → r ≡ next_pop depth to n
  unfolding next_pop provided
  pop_past h k = h ∙ sym (simp (lt-leb n depth k))

  pub pop_done : n ≤ depth → Depth (depth - n) to ≡ next_pop depth to n
  unfolding next_pop provided
  pop_done k = sym (simp (le-leb n depth k))

module _ (S : Memory) (depth to d i : ℕ) where
  pub read_past : {r : Next} → r ≡ End Stuck → depth ≤ i → r ≡ next_read S depth to d i
  unfolding next_read provided
  read_past h k = h ∙ sym (simp (le-ltb i depth k))

  pub read_done : (x : Pair) → i < depth → word_is x ≡ at S (depth - i - 1) → Register d x to ≡ next_read S depth to d i
  unfolding next_read provided
  read_done x k ex =
      let p : depth - i - 1 ≡ depth - suc i = omega arith in
      ap (λ (u : Pair). Register d u to) (word_at S x ex p) ∙ sym (simp (lt-ltb i depth k))

module _ (R : Memory) (depth to i s : ℕ) where
  pub write_past : {r : Next} → r ≡ End Stuck → depth ≤ i → r ≡ next_write R depth to i s
  unfolding next_write provided
  write_past h k = h ∙ sym (simp (le-ltb i depth k))

  pub write_done : (x : Pair) → i < depth → word_is x ≡ at R s → Stack (depth - i - 1) x to ≡ next_write R depth to i s
  unfolding next_write provided
  write_done x k ex =
      let p : depth - i - 1 ≡ depth - suc i = omega arith in
      ap₂ (λ (j : ℕ) (u : Pair). Stack j u to) p (ap pair ex) ∙ sym (simp (lt-ltb i depth k))

module _ (R S : Memory) (depth to d s i : ℕ) (w : Pair) (e : word_is w ≡ at R s) where
  pub through_kind : {r : Next} → r ≡ End Stuck → (w.kind ≡ 3 → ⊥) → r ≡ next_read_through R S depth to d s i
  unfolding next_read_through given
  through_kind h n = h ∙ sym (simp (← e, ne_eqb w.kind 3 n))

  module _ (p : ℕ) (ep : p ≡ w.number) (q : w.kind ≡ 3) where
    pub through_above : {r : Next} → r ≡ End Stuck → depth < p → r ≡ next_read_through R S depth to d s i
    unfolding next_read_through given provided
    through_above h k = h ∙ sym (simp (← e, eq-eqb w.kind 3 q, ← ep, lt-leb p depth k))

    pub through_past : {r : Next} → r ≡ End Stuck → p ≤ depth → p ≤ i → r ≡ next_read_through R S depth to d s i
    unfolding next_read_through given provided
    through_past h k l = h ∙ sym (simp (← e, eq-eqb w.kind 3 q, ← ep, le-leb p depth k, le-ltb i p l))

    pub through_done : (x : Pair) → p ≤ depth → i < p → word_is x ≡ at S (p - i - 1) → Register d x to ≡ next_read_through R S depth to d s i
    unfolding next_read_through given provided
    through_done x k l ex =
        let z : p - i - 1 ≡ p - suc i = omega arith in
        ap (λ (u : Pair). Register d u to) (word_at S x ex z) ∙ sym (simp (← e, eq-eqb w.kind 3 q, ← ep, le-leb p depth k, lt-ltb i p l))

module _ (R : Memory) (depth to d i s : ℕ) (w : Pair) (e : word_is w ≡ at R d) where
  pub into_kind : {r : Next} → r ≡ End Stuck → (w.kind ≡ 3 → ⊥) → r ≡ next_write_through R depth to d i s
  unfolding next_write_through given
  into_kind h n = h ∙ sym (simp (← e, ne_eqb w.kind 3 n))

  module _ (p : ℕ) (ep : p ≡ w.number) (q : w.kind ≡ 3) where
    pub into_above : {r : Next} → r ≡ End Stuck → depth < p → r ≡ next_write_through R depth to d i s
    unfolding next_write_through given provided
    into_above h k = h ∙ sym (simp (← e, eq-eqb w.kind 3 q, ← ep, lt-leb p depth k))

    pub into_past : {r : Next} → r ≡ End Stuck → p ≤ depth → p ≤ i → r ≡ next_write_through R depth to d i s
    unfolding next_write_through given provided
    into_past h k l = h ∙ sym (simp (← e, eq-eqb w.kind 3 q, ← ep, le-leb p depth k, le-ltb i p l))

    pub into_done : (x : Pair) → p ≤ depth → i < p → word_is x ≡ at R s → Stack (p - i - 1) x to ≡ next_write_through R depth to d i s
    unfolding next_write_through given provided
    into_done x k l ex =
        let z : p - i - 1 ≡ p - suc i = omega arith in
        ap₂ (λ (j : ℕ) (u : Pair). Stack j u to) z (ap pair ex) ∙ sym (simp (← e, eq-eqb w.kind 3 q, ← ep, le-leb p depth k, lt-ltb i p l))
