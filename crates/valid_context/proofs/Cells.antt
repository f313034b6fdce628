-- Entries of two numbers, read and written; and the environments of entries.
use Prim.Native.Nat.{ℕ, ◌+◌, ◌*◌, ◌≤◌, ◌<◌}
use native.Mathlib.Omega.{arith}
use mathlib.Core.Path.{◌≡◌, refl, ◌∙◌}
use mathlib.Core.Bool.{Bool, true, false}
use mathlib.Core.List.{List}
use lib.Dec.{eqb}
use lib.ListN.{length, set, length-set}
use lib.Seq.{get_or-set_same, get_or-set_other}
use borrow.Author.Tests.{eqb-true, eqb-false}
use Rattle.tables.specs.Tables.{cell}
use Rattle.valid_context.specs.Context.{with_entry, EnvsIn}

module _ (l : List ℕ) (d x e : ℕ) where
  pub put_first : 2 * d + 1 < length l → cell 2 (with_entry l d x e) d 0 ≡ x
  put_first h =
      let z : 2 * d + 0 ≡ 2 * d = omega arith in
      rw z (get_or-set_other (set l (2 * d) x) (2 * d + 1) (2 * d) e 0 (omega arith) ∙ get_or-set_same l (2 * d) x 0 (omega arith))

  pub put_second : 2 * d + 1 < length l → cell 2 (with_entry l d x e) d 1 ≡ e
  put_second h = get_or-set_same (set l (2 * d) x) (2 * d + 1) e 0 (simp length-set h)

  pub put_other : (i k : ℕ) → (i ≡ d → ⊥) → k ≤ 1 → cell 2 (with_entry l d x e) i k ≡ cell 2 l i k
  put_other i k h q =
      get_or-set_other (set l (2 * d) x) (2 * d + 1) (2 * i + k) e 0 (omega arith) ∙ get_or-set_other l (2 * d) (2 * i + k) x 0 (omega arith)

  -- environments that are written exist
  pub put_envs : (b n : ℕ) → 2 * d + 1 < length l → e ≤ b → EnvsIn b l n → EnvsIn b (with_entry l d x e) n
  put_envs b n h q g = record { low = λ i r. go i r (eqb i d) refl }
    where
      go : (i : ℕ) → i < n → (t : Bool) → eqb i d ≡ t → cell 2 (with_entry l d x e) i 1 ≤ b
      go i r true p = let s : i ≡ d = eqb-true i d p in rw (s, put_second h) q
      go i r false p = rw (put_other i 1 (eqb-false i d p) (omega arith)) (g.low i r)

-- fewer entries, and a greater bound
pub envs_less : {b c m n : ℕ} {l : List ℕ} → b ≤ c → n ≤ m → EnvsIn b l m → EnvsIn c l n
envs_less h q g = record { low = λ i r. let k = g.low i (omega arith) in omega arith }

-- one more entry, in environment 0
pub envs_next : (b : ℕ) (l : List ℕ) (d k x : ℕ) → 2 * (d + k) + 1 < length l → EnvsIn b l (d + k) → EnvsIn b (with_entry l (d + k) x 0) (d + (k + 1))
envs_next b l d k x h g = record { low = λ i r. go i r (eqb i (d + k)) refl }
  where
    go : (i : ℕ) → i < d + (k + 1) → (t : Bool) → eqb i (d + k) ≡ t → cell 2 (with_entry l (d + k) x 0) i 1 ≤ b
    go i r true p = let s : i ≡ d + k = eqb-true i (d + k) p in rw (s, put_second l (d + k) x 0 h) (omega arith)
    go i r false p =
        let n : i ≡ d + k → ⊥ = eqb-false i (d + k) p in
        rw (put_other l (d + k) x 0 i 1 n (omega arith)) (g.low i (omega arith))
