-- Laws of the operations, of the signed reading, and of signs.
use Rattle.std.proofs.Common.{min, cond, ◌≡◌, ℕ, zero, suc, ◌+◌, ◌-◌, ◌%◌, ◌^◌, ◌<◌, ◌≤◌, Bool, true, false, not, T, List, [], ◌∷◌, get_or, ℤ, pos, negsuc, sym, refl, ap, ◌∙◌, arith, to_z-of_z, w32, to_z, of_z, le-ltb, lt-ltb, ne_eqb}
use lib.Signed.{mag}
use Rattle.std.specs.Ordering.{int_cmp}
use Rattle.std.specs.declared.cmp.Ordering.{Ordering}
use Rattle.std.specs.declared.cmp.Ordering.TheVariants.{Less, Equal, Greater}
use Rattle.syntax.specs.Bits.{signed}
use Rattle.syntax.specs.Syntax.{add, sub, mul}
use Rattle.exec.specs.Machine.{compute, Sign, negative, null, positive, sign_of, taken}
use Rattle.exec_words.specs.arith.Codes.{arith_of, branch_of, sign_at, column}
use Rattle.exec_words.proofs.arith.Table.{at2}

-- ---- operations
-- what is left of x without y, with 2^32 lent
pub differs : (x y : ℕ) → y < 2 ^ 32 → (x + (2 ^ 32 - y)) % 2 ^ 32 ≡ compute sub x y
unfolding compute
differs x y h = let e : y % 2 ^ 32 ≡ y = omega arith in rw e refl

-- an operation past the second
pub third : (op : ℕ) → (op ≡ 0 → ⊥) → (op ≡ 1 → ⊥) → mul ≡ arith_of op
unfolding arith_of
third zero n m = absurd (n refl)
third (suc zero) n m = absurd (m refl)
third (suc (suc k)) n m = refl

-- a difference is the sum with the number taken from 0
pub sub_is_add : (x y : ℕ) → compute sub x y ≡ compute add x (compute sub 0 y)
unfolding compute
sub_is_add x y = omega arith

-- ---- the signed reading
pub signed_is : (x : ℕ) {z : ℤ} → mag z < 2 ^ 31 → z ≡ to_z w32 x → to_z w32 (of_z w32 z) ≡ signed x
unfolding signed
signed_is x {z} k e = to_z-of_z {w = w32} (record { sfits = k }) ∙ e ∙ refl

-- ---- signs
order_of : Sign → Ordering
order_of negative = Less
order_of null = Equal
order_of positive = Greater

abbrev pub column_in : Ordering → ℕ
column_in Less = 0
column_in Equal = 1
column_in Greater = 2

-- a number's sign is the order of its signed reading and 0
ordered_at : (b : Bool) (n m : ℕ) → int_cmp (cond b (pos (suc n)) (negsuc m)) (pos 0) ≡ order_of (cond b positive negative)
unfolding order_of
ordered_at true n m = let h : 0 ≤ suc n = omega arith in let l : 0 < suc n = omega arith in simp (le-ltb (suc n) 0 h, lt-ltb 0 (suc n) l)
ordered_at false n m = refl

ordered : (x : ℕ) → int_cmp (signed x) (pos 0) ≡ order_of (sign_of x)
unfolding signed sign_of order_of
ordered zero = refl
ordered (suc n) = ordered_at _ n _ ∙ ap order_of (sym (simp (ne_eqb (suc n) 0 (λ e. omega arith))))

column_is : (s : Sign) → column_in (order_of s) ≡ column s
unfolding column order_of
column_is negative = refl
column_is null = refl
column_is positive = refl

-- the column by the order of a number that has the bits x
pub by_order : (x : ℕ) {z : ℤ} (o : Ordering) {k : ℕ} → mag z < 2 ^ 31 → z ≡ signed x → o ≡ int_cmp (to_z w32 (of_z w32 z)) (pos 0) → k ≡ column_in o → k ≡ column (sign_of x)
by_order x {z} o b e h c =
    let f : to_z w32 (of_z w32 z) ≡ signed x = to_z-of_z {w = w32} (record { sfits = b }) ∙ e in
    c ∙ ap column_in (h ∙ ap (λ (y : ℤ). int_cmp y (pos 0)) f ∙ ordered x) ∙ column_is (sign_of x)

-- ---- branches
abbrev pub table : List (List Bool)
table =
    (false ∷ true ∷ false ∷ [])
    ∷ (true ∷ false ∷ true ∷ [])
    ∷ (false ∷ false ∷ true ∷ [])
    ∷ (true ∷ false ∷ false ∷ [])
    ∷ (false ∷ true ∷ true ∷ [])
    ∷ (true ∷ true ∷ false ∷ [])
    ∷ []

same : Bool → Bool → Bool
same true b = b
same false b = not b

same_eq : (a b : Bool) → T (same a b) → a ≡ b
unfolding same
same_eq true true t = refl
same_eq true false t = absurd t
same_eq false true t = absurd t
same_eq false false t = refl

right : ℕ → ℕ → Bool → Bool
right k s b = same b (taken (branch_of k) (sign_at s))

-- a test at each of the eighteen entries, which antt computes
pub taken_is : (k s : ℕ) → k < 6 → s < 3 → get_or (get_or table k []) s false ≡ taken (branch_of k) (sign_at s)
unfolding right same taken branch_of sign_at
taken_is k s hk hs = same_eq (get_or (get_or table k []) s false) (taken (branch_of k) (sign_at s)) (at2 false 3 right table tt k s hk hs)

column_small : (s : Sign) → column s < 3
unfolding column
column_small negative = omega arith
column_small null = omega arith
column_small positive = omega arith

pub in_table : {k : ℕ} (x : ℕ) → k ≡ column (sign_of x) → k < 3
in_table x e = let h = column_small (sign_of x) in omega arith

sign_back : (s : Sign) → sign_at (column s) ≡ s
unfolding sign_at column
sign_back negative = refl
sign_back null = refl
sign_back positive = refl

pub as_taken : {r : Bool} (kind x : ℕ) {k : ℕ} → k ≡ column (sign_of x) → r ≡ taken (branch_of kind) (sign_at k) → r ≡ taken (branch_of kind) (sign_of x)
as_taken kind x e h = h ∙ ap (λ (j : ℕ). taken (branch_of kind) (sign_at j)) e ∙ ap (λ (s : Sign). taken (branch_of kind) s) (sign_back (sign_of x))

pub last_kind : (kind : ℕ) → branch_of (min kind 5) ≡ branch_of kind
unfolding branch_of
last_kind zero = refl
last_kind (suc zero) = refl
last_kind (suc (suc zero)) = refl
last_kind (suc (suc (suc zero))) = refl
last_kind (suc (suc (suc (suc zero)))) = refl
last_kind (suc (suc (suc (suc (suc k))))) = let e : min (suc (suc (suc (suc (suc k))))) 5 ≡ 5 = omega arith in rw e refl
