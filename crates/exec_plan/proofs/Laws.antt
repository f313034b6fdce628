-- Laws of the functions that make a row, and of rows in the table.
use mathlib.Core.Path.{◌≡◌, refl, ap, ap₂, sym, ◌∙◌, subst}
use mathlib.Core.Bool.{Bool, cond}
use mathlib.Core.List.{List, [], ◌∷◌}
use Prim.Native.Nat.{ℕ, zero, suc, ◌+◌, ◌-◌, ◌*◌, ◌%◌, ◌^◌, ◌<◌, ◌≤◌}
use native.Mathlib.Nat.{add-zero, add-suc, suc-add, le_of_suc-le-suc, not-suc-le-zero}
use native.Mathlib.Omega.{arith}
use Rattle.std.proofs.Common.{◌++◌, append_assoc, take, drop, length-take-le, length-drop, drop-drop}
use Rattle.syntax.specs.Syntax.{sub}
use lib.Dec.{T, ltb, eqb, eqb→eq}
use lib.ListN.{length, get_or, set, length-set, get_or-eq_default}
use borrow.Rule.Slice.PartMut.{put_mid}
use Rattle.std.proofs.lemmas.List.Edits.{sets-eq}
use lib.Seq.{sets, get_or-set_same, get_or-set_other}
use native.Mathlib.Decide.{dec_lt}
use borrow.Author.Tests.{lt-ltb, le-ltb, eq-eqb, ne_eqb}
use Rattle.exec.specs.Machine.{compute, sign_of, taken}
use Rattle.tables.specs.Tables.{cell}
use Rattle.exec_words.specs.arith.Codes.{branch_of}
use Rattle.exec_words.specs.memory.Lent.{base_kind}
use Rattle.exec_words.proofs.memory.Laws.{any_default}
use Rattle.exec_words.proofs.arith.Table.{every, at, at2}
use Rattle.exec_machine.specs.Step.{Tables, tables}
use Rattle.exec_plan.specs.declared.Column.{Column}
use Rattle.exec_plan.specs.declared.Column.TheVariants.{Nothing, First, Second, Third, Target, Operand, Branch, Constant}
use Rattle.exec_plan.specs.Plan.{forms, halts, columns, column_number, chosen, class_of, fifth_of, form_in, added_of, last_of, put_row, kind_at, column_at, form_for, form_at, goal_at, goal_in, last_at, row_of, stuck_row, Plan}

-- ---- past a table of rows
-- the table of columns, tested at each of its entries
abbrev pub choices : List (List Column)
choices =
    (First ∷ Second ∷ Nothing ∷ [])
    ∷ (First ∷ Second ∷ Nothing ∷ [])
    ∷ (First ∷ Second ∷ Nothing ∷ [])
    ∷ (First ∷ Branch ∷ Nothing ∷ [])
    ∷ (First ∷ Branch ∷ Nothing ∷ [])
    ∷ (First ∷ Branch ∷ Nothing ∷ [])
    ∷ (First ∷ Branch ∷ Nothing ∷ [])
    ∷ (First ∷ Branch ∷ Nothing ∷ [])
    ∷ (First ∷ Branch ∷ Nothing ∷ [])
    ∷ (First ∷ Constant ∷ Nothing ∷ [])
    ∷ (First ∷ Second ∷ Third ∷ [])
    ∷ (First ∷ Third ∷ Second ∷ [])
    ∷ (First ∷ Nothing ∷ Operand ∷ [])
    ∷ (First ∷ Nothing ∷ Nothing ∷ [])
    ∷ (First ∷ Nothing ∷ Nothing ∷ [])
    ∷ (Nothing ∷ Nothing ∷ First ∷ [])
    ∷ (Nothing ∷ Nothing ∷ First ∷ [])
    ∷ (First ∷ Nothing ∷ Second ∷ [])
    ∷ (Nothing ∷ Second ∷ First ∷ [])
    ∷ (First ∷ Second ∷ Third ∷ [])
    ∷ (First ∷ Third ∷ Second ∷ [])
    ∷ (Nothing ∷ Nothing ∷ Target ∷ [])
    ∷ (Nothing ∷ Nothing ∷ Nothing ∷ [])
    ∷ (First ∷ Constant ∷ Nothing ∷ [])
    ∷ []

same_column : ℕ → ℕ → Column → Bool
same_column k i x = eqb (column_number x) (get_or (get_or columns k []) i 0)

pub column_in_lem : (k i : ℕ) → k < 24 → i < 3 → column_number (get_or (get_or choices k []) i Nothing) ≡ get_or (get_or columns k []) i 0
unfolding same_column
column_in_lem k i hk hi = eqb→eq (column_number (get_or (get_or choices k []) i Nothing)) (get_or (get_or columns k []) i 0) (at2 Nothing 3 same_column choices tt k i hk hi)

-- all rows have three entries
three : (t : List (List ℕ)) → T (every (λ (k : ℕ) (r : List ℕ). eqb (length r) 3) 0 t) → (k : ℕ) → k < length t → length (get_or t k []) ≡ 3
three t ok k h = eqb→eq (length (get_or t k [])) 3 (at [] (λ (k : ℕ) (r : List ℕ). eqb (length r) 3) t ok k h)

any_row_lem : (t : List (List ℕ)) (k : ℕ) (d e : List ℕ) → k < length t → get_or t k d ≡ get_or t k e
any_row_lem [] k d e h = absurd (not-suc-le-zero h)
any_row_lem (r ∷ t) zero d e h = refl
any_row_lem (r ∷ t) (suc k) d e h = any_row_lem t k d e (le_of_suc-le-suc h)

pub form_in_lem : (k i : ℕ) → k < 24 → i < 3 → get_or (get_or forms k []) i 0 ≡ get_or (get_or forms k halts) i 24
form_in_lem k i h l = any_default (get_or forms k []) i 0 24 (omega (arith, three forms tt k h)) ∙ ap (λ (r : List ℕ). get_or r i 24) (any_row_lem forms k [] halts h)

same3 : (a k : ℕ) → k < 3 → get_or (a ∷ a ∷ a ∷ []) k 24 ≡ a
same3 a zero h = refl
same3 a (suc zero) h = refl
same3 a (suc (suc zero)) h = refl
same3 a (suc (suc (suc k))) h = absurd (omega arith)

pub all_three : (a k : ℕ) {r : List ℕ} → k < 3 → r ≡ a ∷ a ∷ a ∷ [] → get_or r k 24 ≡ a
all_three a k h e = ap (λ (r : List ℕ). get_or r k 24) e ∙ same3 a k h

pub past_form : (k i : ℕ) → 24 ≤ k → i < 3 → 23 ≡ get_or (get_or forms k halts) i 24
past_form k i h l = sym (all_three 23 i l (get_or-eq_default forms halts h))

-- ---- leaves
module _ (f k l : ℕ) where
  abbrev pub kept : ℕ
  kept = cond (ltb k l) f (cond (eqb f 4) 22 (cond (eqb f 7) 24 f))

-- ---- forms in a row
pub fifth_goal : (f g : ℕ) → f < 15 → g ≡ fifth_of f g
unfolding fifth_of
fifth_goal f g h = sym (simp (lt-ltb f 15 h))

pub form_back : (f g : ℕ) → form_in (class_of f) (fifth_of f g) ≡ f
unfolding class_of fifth_of form_in
form_back f g = pick (dec_lt f 15)
  where
    pick : Dec (f < 15) → cond (ltb (cond (ltb f 15) f 15) 15) (cond (ltb f 15) f 15) (cond (ltb f 15) g f) ≡ f
    pick (yes h) = simp (lt-ltb f 15 h)
    pick (no n) = simp (le-ltb f 15 (omega arith))

pub class_small : (f : ℕ) → class_of f < 16
unfolding class_of
class_small f = pick (dec_lt f 15)
  where
    pick : Dec (f < 15) → cond (ltb f 15) f 15 < 16
    pick (yes h) = subst (λ (b : Bool). cond b f 15 < 16) (sym (lt-ltb f 15 h)) (omega arith)
    pick (no n) = subst (λ (b : Bool). cond b f 15 < 16) (sym (le-ltb f 15 (omega arith))) (omega arith)

pub fifth_low : (f g : ℕ) → class_of f ≡ 15 → 15 ≤ fifth_of f g
unfolding class_of fifth_of
fifth_low f g e = pick (dec_lt f 15)
  where
    pick : Dec (f < 15) → 15 ≤ cond (ltb f 15) g f
    pick (yes h) = absurd (let q : f ≡ 15 = sym (simp (lt-ltb f 15 h)) ∙ e in omega arith)
    pick (no n) = subst (λ (b : Bool). 15 ≤ cond b g f) (sym (le-ltb f 15 (omega arith))) (omega arith)

-- ---- column 4
pub added_is : (kind n : ℕ) {r : ℕ} → kind ≡ 1 → n < 2 ^ 32 → r < 2 ^ 32 → (r + n) % 2 ^ 32 ≡ 0 → r ≡ added_of kind n
unfolding added_of compute
added_is kind n e l k h = let m : _ ≡ compute sub 0 n = omega arith in m ∙ sym (simp (eq-eqb kind 1 e))

pub added_else : (kind n : ℕ) → (kind ≡ 1 → ⊥) → n ≡ added_of kind n
unfolding added_of
added_else kind n e = sym (simp (ne_eqb kind 1 e))

-- ---- rows in the table
put_row_is : (s : List ℕ) (p : ℕ) (vs : List ℕ) → put_row s p vs ≡ sets s p vs
unfolding put_row
put_row_is s p [] = refl
put_row_is s p (v ∷ vs) = put_row_is (set s p v) (suc p) vs

-- a row that is copied over the eight numbers from p on
pub eight : (s : List ℕ) (p : ℕ) {ws : List ℕ} (vs : List ℕ) → length ws ≡ length (take (p + 8 - p) (drop p s)) → ws ≡ vs → p + 8 ≤ length s → put_mid p (p + 8 - p) s ws ≡ put_row s p vs
eight s p {ws} vs h e l =
    let n : length vs ≡ 8 = omega (arith, length-take-le (p + 8 - p) (drop p s) (omega (arith, length-drop p s)), ap length e, h) in
    let q : p + (p + 8 - p) ≡ p + length vs = omega arith in
    ap (λ (t : List ℕ). put_mid p (p + 8 - p) s t) e ∙ ap (λ (t : List ℕ). take p s ++ (vs ++ t)) (drop-drop (p + 8 - p) p s ∙ ap (λ (k : ℕ). drop k s) q) ∙ sym (append_assoc (take p s) vs (drop (p + length vs) s)) ∙ sym (sets-eq vs s p (omega arith)) ∙ sym (put_row_is s p vs)

-- an entry before the row, and one within it
pub before_row : (s : List ℕ) (p : ℕ) (vs : List ℕ) (q : ℕ) → q < p → get_or (put_row s p vs) q 0 ≡ get_or s q 0
unfolding put_row
before_row s p [] q h = refl
before_row s p (v ∷ vs) q h =
    let n : q ≡ p → ⊥ = λ e. omega arith in
    let k : q < suc p = omega arith in
    before_row (set s p v) (suc p) vs q k ∙ get_or-set_other s p q v 0 n

pub in_row : (s : List ℕ) (p : ℕ) (vs : List ℕ) (k : ℕ) → p + length vs ≤ length s → k < length vs → get_or (put_row s p vs) (p + k) 0 ≡ get_or vs k 0
unfolding put_row
in_row s p [] k h l = absurd (not-suc-le-zero l)
in_row s p (v ∷ vs) zero h l =
    let k : p < suc p = omega arith in
    let m : p < length s = omega arith in
    ap (λ (q : ℕ). get_or (put_row (set s p v) (suc p) vs) q 0) (add-zero p) ∙ before_row (set s p v) (suc p) vs p k ∙ get_or-set_same s p v 0 m
in_row s p (v ∷ vs) (suc k) h l =
    let m : suc p + length vs ≤ length (set s p v) = omega (arith, length-set s p v) in
    ap (λ (q : ℕ). get_or (put_row (set s p v) (suc p) vs) q 0) (add-suc p k ∙ sym (suc-add p k)) ∙ in_row (set s p v) (suc p) vs k m (le_of_suc-le-suc l)

-- ---- the rows made so far
pub PlanTo : Tables → List ℕ → ℕ → Type 0
PlanTo T φ m = (j k : ℕ) → j < m → k < 8 → cell 8 φ j k ≡ get_or (row_of T j) k 0

module _ (T : Tables) where
  eight_long : (j : ℕ) → length (row_of T j) ≡ 8
  unfolding row_of
  eight_long j = refl

  pub row_next : (φ : List ℕ) (m : ℕ) {ψ : List ℕ} → PlanTo T φ m → 8 * m + 8 ≤ length φ → ψ ≡ put_row φ (8 * m) (row_of T m) → PlanTo T ψ (m + 1)
  unfolding PlanTo
  row_next φ m {ψ} h l e j k hj hk = ap (λ (s : List ℕ). get_or s (8 * j + k) 0) e ∙ pick (dec_lt j m)
    where
      pick : Dec (j < m) → get_or (put_row φ (8 * m) (row_of T m)) (8 * j + k) 0 ≡ get_or (row_of T j) k 0
      pick (yes b) =
          let q : 8 * j + k < 8 * m = omega arith in
          before_row φ (8 * m) (row_of T m) (8 * j + k) q ∙ h j k b hk
      pick (no n) =
          let q : j ≡ m = omega arith in
          let w : 8 * m + length (row_of T m) ≤ length φ = omega (arith, eight_long m) in
          let r : k < length (row_of T m) = omega (arith, eight_long m) in
          ap (λ (i : ℕ). get_or (put_row φ (8 * m) (row_of T m)) (8 * i + k) 0) q ∙ in_row φ (8 * m) (row_of T m) k w r ∙ ap (λ (i : ℕ). get_or (row_of T i) k 0) (sym q)

  pub no_rows : (φ : List ℕ) → PlanTo T φ 0
  unfolding PlanTo
  no_rows φ j k h hk = absurd (not-suc-le-zero h)

  -- and the row behind them
  pub all_rows : (φ : List ℕ) (m : ℕ) {ψ : List ℕ} → PlanTo T φ m → m ≡ T.count → 8 * T.count + 8 ≤ length φ → ψ ≡ put_row φ (8 * T.count) stuck_row → Plan T ψ
  unfolding PlanTo
  all_rows φ m {ψ} h q l e = record { rows = before; last = behind }
    where
      before : (j k : ℕ) → j < T.count → k < 8 → cell 8 ψ j k ≡ get_or (row_of T j) k 0
      before j k hj hk =
          let a : 8 * j + k < 8 * T.count = omega arith in
          let b : j < m = omega arith in
          ap (λ (s : List ℕ). get_or s (8 * j + k) 0) e ∙ before_row φ (8 * T.count) stuck_row (8 * j + k) a ∙ h j k b hk

      behind : (k : ℕ) → k < 8 → cell 8 ψ T.count k ≡ get_or stuck_row k 0
      behind k hk = ap (λ (s : List ℕ). get_or s (8 * T.count + k) 0) e ∙ in_row φ (8 * T.count) stuck_row k l hk

-- ---- the row that the function makes, from what it reads
module _ (ι os bs β : List ℕ) (l j : ℕ) {code a b c v m kind n t o q raw : ℕ} (ek : code ≡ cell 8 ι j 0) (ea : a ≡ cell 8 ι j 1)
    (eb : b ≡ cell 8 ι j 2) (ec : c ≡ cell 8 ι j 3) (ev : v ≡ cell 8 ι j 5) (em : m ≡ cell 8 ι j 6) (er : raw ≡ cell 4 os v 0)
    (eo : kind ≡ base_kind raw) (en : n ≡ get_or bs v 0) (et : t ≡ cell 2 β n 1) (eb3 : o ≡ code - 3)
    (eq1 : q ≡ kind - 1) where
  number_of : n ≡ get_or bs (cell 8 ι j 5) 0
  number_of = en ∙ ap (λ (i : ℕ). get_or bs i 0) ev

  target_of : t ≡ cell 2 β (get_or bs (cell 8 ι j 5) 0) 1
  target_of = et ∙ ap (λ (x : ℕ). cell 2 β x 1) number_of

  branch_of_lem : o ≡ cell 8 ι j 0 - 3
  branch_of_lem = eb3 ∙ ap (λ (x : ℕ). x - 3) ek

  module _ (total : ℕ) where
    abbrev T0 : Tables
    T0 = tables ι os bs β total l

    kind_of : kind ≡ kind_at T0 j
    unfolding kind_at
    kind_of = eo ∙ ap base_kind (er ∙ ap (λ (i : ℕ). cell 4 os i 0) ev)

    constant_of : q ≡ kind_at T0 j - 1
    constant_of = eq1 ∙ ap (λ (k : ℕ). k - 1) kind_of

    column_of : (i : ℕ) {k r : ℕ} → k ≡ get_or (get_or columns code []) i 0 → r ≡ chosen k a b c t v o q → r ≡ column_at T0 j i
    unfolding column_at
    column_of i {k} {r} e h =
        let w : k ≡ get_or (get_or columns (cell 8 ι j 0) []) i 0 = e ∙ ap (λ (x : ℕ). get_or (get_or columns x []) i 0) ek in
        h ∙ (λ x. chosen (w x) (ea x) (eb x) (ec x) (target_of x) (ev x) (branch_of_lem x) (constant_of x))

    form_of : {f g : ℕ} → g ≡ get_or (get_or forms code halts) kind 24 → f ≡ kept g n l → f ≡ form_at T0 j
    unfolding form_at form_for
    form_of {f} {g} eg h =
        let s : g ≡ get_or (get_or forms (cell 8 ι j 0) halts) (kind_at T0 j) 24 = eg ∙ ap₂ (λ (x y : ℕ). get_or (get_or forms x halts) y 24) ek kind_of in
        h ∙ ap₂ (λ (x y : ℕ). kept x y l) s number_of

    last_is : {r : ℕ} → r ≡ last_of code kind m n → r ≡ last_at T0 j
    unfolding last_at
    last_is h = h ∙ (λ i. last_of (ek i) (kind_of i) (em i) (number_of i))

    goal_of : (x : ℕ) {r : ℕ} → r ≡ 8 * cond (taken (branch_of o) (sign_of x)) t (j + 1) → r ≡ 8 * goal_at T0 j x
    unfolding goal_at
    goal_of x h = h ∙ ap₂ (λ (k s : ℕ). 8 * cond (taken (branch_of k) (sign_of x)) s (j + 1)) branch_of_lem target_of

    pub row_is : {k0 k1 k2 x y z g f nf r p0 p1 p2 p5 : ℕ} → k0 ≡ get_or (get_or columns code []) 0 0 → x ≡ chosen k0 a b c t v o q
        → k1 ≡ get_or (get_or columns code []) 1 0 → y ≡ chosen k1 a b c t v o q → k2 ≡ get_or (get_or columns code []) 2 0 → z ≡ chosen k2 a b c
        t v o q → g ≡ get_or (get_or forms code halts) kind 24 → f ≡ kept g n l → nf ≡ class_of f
        → r ≡ last_of code kind m n → p0 ≡ 8 * cond (taken (branch_of o) (sign_of 2147483648)) t (j + 1) → p5 ≡ fifth_of f p0 → p1 ≡ 8 * cond
        (taken (branch_of o) (sign_of 0)) t (j + 1) → p2 ≡ 8 * cond (taken (branch_of o) (sign_of 1)) t (j + 1)
        → (nf ∷ x ∷ y ∷ z ∷ r ∷ p5 ∷ p1 ∷ p2 ∷ []) ≡ row_of T0 j
    unfolding row_of goal_in
    row_is e0 ex e1 ey e2 ez eg ef qf er g0 q5 g1 g2 =
        λ i. (qf ∙ ap class_of (form_of eg ef)) i ∷ column_of 0 e0 ex i ∷ column_of 1 e1 ey i ∷ column_of 2 e2 ez i ∷ last_is er i ∷ (q5 ∙ ap₂ fifth_of (form_of eg ef) (goal_of 2147483648 g0)) i ∷ goal_of 0 g1 i ∷ goal_of 1 g2 i ∷ []
