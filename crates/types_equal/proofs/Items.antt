-- Laws of the rows that the two sides lead to, and of the room for what is pending.
use mathlib.Core.Path.{◌≡◌, refl}
use mathlib.Core.List.{List}
use Prim.Native.Nat.{ℕ, zero, suc, ◌+◌, ◌-◌, ◌<◌, ◌≤◌}
use native.Mathlib.Omega.{arith}
use native.Mathlib.Nat.{not-suc-le-zero}
use lib.ListN.{length, get_or, take}
use lib.Seq.{length-take-le}
use Rattle.tables.specs.Tables.{RowTable}
use Rattle.types_rows.specs.Environments.{EnvironmentIn}
use Rattle.std.proofs.Common.{max}
use Rattle.types_equal.specs.pending.Pending.{room, Givens, RowLow}
use Rattle.types_equal.specs.declared.pending.Source.{Source}
use Rattle.types_equal.specs.declared.pending.Source.TheVariants.{Own, Given}
use Rattle.types_equal.specs.Bounds.{Tabled, Rooms, Spare}
use Rattle.types_equal.specs.declared.stack_pairs.Context.{Context}

pub room_of : (j m : ℕ) → j < m → room m ≡ 514
room_of j zero h = absurd (not-suc-le-zero h)
room_of j (suc m) h = refl

pub room_most : (m : ℕ) → room m ≤ 514
room_most zero = omega arith
room_most (suc m) = omega arith

-- the environments of the two sides
pub left_in : {E : List ℕ} {k : Context} {l r : ℕ} → Rooms E k l r → EnvironmentIn E k.env
left_in h = let a = h.envs in record { few = omega arith; small = h.env }

pub right_in : {E : List ℕ} {k : Context} {l r : ℕ} → Rooms E k l r → EnvironmentIn E k.env2
right_in h = let a = h.envs in record { few = omega arith; small = h.env2 }

module _ (τ : RowTable) (args : List ℕ) where
  pub tabled_low : {m l r : ℕ} (x y : ℕ) → Tabled τ args m l r → x ≤ l → y ≤ r → Tabled τ args m x y
  tabled_low x y k p q =
      let a = k.left in
      let b = k.right in
      record { top = k.top; few = k.few; left = omega arith; right = omega arith; given = k.given }

  -- a row of an argument
  pub tabled_given : {m l r : ℕ} (x y : ℕ) → Tabled τ args m l r → x ≤ 514 → y ≤ r → Tabled τ args 0 x y
  tabled_given x y k p q =
      let b = k.right in
      let c = k.few in
      record { top = 514; few = omega arith; left = p; right = omega arith; given = λ i z. absurd (omega arith) }

  -- at argument j
  pub tabled_arg : {m l r : ℕ} (j a y : ℕ) → Tabled τ args m l r → j < m → a ≡ get_or args j 0 → y ≤ r → Tabled τ args 0 (a + 1) y
  tabled_arg j a y k h e q =
      let g = k.given j h in
      let c = k.few in
      tabled_given (a + 1) y k (omega arith) q

  pub few_left : {m l r : ℕ} → Tabled τ args m l r → l ≤ 514
  few_left k = let a = k.left in let b = k.few in omega arith

  pub few_right : {m l r : ℕ} → Tabled τ args m l r → r ≤ 514
  few_right k = let a = k.right in let b = k.few in omega arith

  pub few_arg : {m l r : ℕ} (j : ℕ) → Tabled τ args m l r → j < m → suc (get_or args j 0) ≤ 514
  few_arg j k h = let a = k.given j h in let b = k.few in omega arith

  pub few_args : {m l r : ℕ} → Tabled τ args m l r → Givens args m
  few_args k j h = few_arg j k h

pub spare_low : (m l r n x y : ℕ) → Spare m l r n → x ≤ l → y ≤ r → Spare m x y n
spare_low m l r n x y s p q = let s0 = s.0 in (omega arith, s.1)

-- at argument j
pub spare_arg : (m l r n x j : ℕ) → Spare m l r n → j < m → x ≤ 514 → Spare 0 x r n
spare_arg m l r n x j s h p = let s0 = s.0 in let k = room_of j m h in (omega arith, s.1)

-- the first words
pub length_first : (n : ℕ) (ws : List ℕ) → n ≤ length ws → length (take n ws) ≡ n
length_first n ws h = length-take-le n ws h

pub spare_kept : (m l r n x : ℕ) → Spare m l r n → x ≡ n → Spare m l r x
spare_kept m l r n x s p = let s0 = s.0 in let s1 = s.1 in (omega arith, omega arith)

-- e is the greater of a and b: what is pending behind a entries on the left and b on the right starts there
module _ (m l r n a t b u : ℕ) {e : ℕ} (g : e ≡ max a b) (s : Spare m l r n) where
  pub rows_room : (f : Source) → RowLow m f l a t × (b + u ≤ r) → (e < n) × (n ≤ 32768)
  rows_room Own w = let w0 = w.0 in let w1 = w.1 in let s0 = s.0 in (omega arith, s.1)
  rows_room Given w =
      let h = room_of 0 m w.0.0 in let w2 = w.0.2 in let w3 = w.1 in let s0 = s.0 in (omega arith, s.1)

  -- x of n words are left from there on
  pub spare_own : (x : ℕ) → (a + t ≤ l) × (b + u ≤ r) → x ≡ n - e → Spare m t u x
  spare_own x w f = let w0 = w.0 in let w1 = w.1 in let s0 = s.0 in let s1 = s.1 in (omega arith, omega arith)

  -- the same behind a row of an argument
  pub spare_given : (x : ℕ) → (0 < m) × (t < 514) × (a + t ≤ 514 + l) → b + u ≤ r → x ≡ n - e → Spare 0 t u x
  spare_given x w w3 f =
      let h = room_of 0 m w.0 in let w1 = w.1 in let w2 = w.2 in let s0 = s.0 in let s1 = s.1 in (omega arith, omega arith)
