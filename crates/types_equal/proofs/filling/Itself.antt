-- Laws of arguments that are variables, each the one that it fills: what they fill stays as it is.
use mathlib.Core.Path.{◌≡◌, refl, ap, ap₂, sym, ◌∙◌, subst}
use mathlib.Core.Bool.{Bool, true, false, ◌&&◌, not}
use mathlib.Core.Option.{some}
use mathlib.Core.List.{List, [], ◌∷◌, ◌++◌, append-nil}
use Prim.Native.Nat.{ℕ, zero, suc, ◌+◌, ◌-◌, ◌<◌, ◌≤◌}
use native.Mathlib.Omega.{arith}
use lib.ListN.{length, get_or, get_elem?}
use borrow.Author.Tests.{lt-ltb}
use Rattle.syntax.specs.Syntax.{Kind, value, stack}
use Rattle.types.specs.Types.{Ty, int, junk, var, tuple, pointer, hidden, code, nil, push, svar, gap, join, variable, below, walk, raise, Arg, fits_kind, meets, Use, a_stack, a_tuple, a_file, Wf}
use Rattle.types.specs.Equal.{same}
use Rattle.types.proofs.Equal.{same_refl}
use Rattle.types.proofs.Filling.{raise_variable, Side, lo, hi, side, below_lt, below_ge, get_lt, get_high}
use Rattle.tables.specs.Tables.{RowTable, span, letter_of, letters_at}
use Rattle.types_rows.specs.Read.{value_with, stack_with, is_stack_at, mean_v, mean_s, mean, placed, acting, lift, stack_under, code_of, args_of}
use Rattle.types_rows.proofs.Laws.{value_is, stack_is, placed_is}
use Rattle.types_equal.proofs.pending.Meets.{length_args, arg_type, fits_stack, fits_value}
use Rattle.types_equal.specs.value_pairs.Pairs.{letters_from}
use Rattle.types_equal.specs.stack_pairs.Fit.{same_stacks}
use Rattle.types_equal.specs.filling.Filling.{variable_kind, Itself, Themselves}
use Rattle.types_equal.proofs.Values.{length_letters, letters_at_lem}
use Rattle.types_equal.proofs.Plain.{plain_stack}

-- ---- types
module _ (A : List Arg) (ρ : ℕ → ℕ) where
  -- argument j stands for variable j, of kind κ, under any binders
  record Stands (κ : Kind) (j : ℕ) : Type 0 where
    pub put : (e : ℕ) → placed κ ρ e A j ≡ variable κ (j + e)
    pub fit : fits_kind κ A j ≡ true

  var_kept : (d k : ℕ) (κ : Kind) → ((j : ℕ) → k ≡ j + d → Stands κ j) → (acting A ρ d κ k ≡ variable κ k) × (below d k true (fits_kind κ A) ≡ true)
  unfolding acting
  var_kept d k κ h = go (side d k)
    where
      go : Side d k → (below d k (variable κ k) (placed κ ρ d A) ≡ variable κ k) × (below d k true (fits_kind κ A) ≡ true)
      go (lo l) = (below_lt d k (variable κ k) (placed κ ρ d A) l, below_lt d k true (fits_kind κ A) l)
      go (hi j e) = let i = h j e in rw e (below_ge d j (variable κ (j + d)) (placed κ ρ d A) ∙ i.put d, below_ge d j true (fits_kind κ A) ∙ i.fit)

  -- Γ are the letters in force, from d on those that the arguments fill
  kept : (Γ : List Kind) (u : Use) (d : ℕ) → ((j : ℕ) (κ : Kind) → get_elem? Γ (j + d) ≡ some κ → Stands κ j) → {κ : Kind} (t : Ty κ) → Wf Γ u t → (walk (acting A ρ) d t ≡ t) × (meets A d t ≡ true)
  unfolding walk meets
  kept Γ u d h int w = (refl, refl)
  kept Γ u d h junk w = (refl, refl)
  kept Γ u d h (var k) w = unfold variable in var_kept d k value (λ j e. h j value (rw e at w))
  kept Γ u d h (tuple a) w = let i = kept Γ a_tuple d h a w in (ap tuple i.0, i.1)
  kept Γ u d h (pointer a) w = let i = kept Γ a_stack d h a w in (ap pointer i.0, i.1)
  kept Γ u d h (hidden t) w = let i = kept (value ∷ Γ) a_stack (suc d) (λ j κ e. let z : j + suc d ≡ suc (j + d) = omega arith in h j κ (rw z at e)) t w in (ap hidden i.0, i.1)
  kept Γ u d h (code q a r) w =
      let i = kept (q ++ Γ) a_stack (length q + d) (under q) a w.0 in
      let k = kept (q ++ Γ) a_file (length q + d) (under q) r w.1 in
      (ap₂ (code q) i.0 k.0, rw i.1 k.1)
    where
      under : (q : List Kind) (j : ℕ) (κ : Kind) → get_elem? (q ++ Γ) (j + (length q + d)) ≡ some κ → Stands κ j
      under q j κ e = let z : j + (length q + d) ≡ (j + d) + length q = omega arith in h j κ (get_high q Γ (j + d) κ (rw z at e))
  kept Γ u d h nil w = (refl, refl)
  kept Γ u d h (push t a) w =
      let i = kept Γ u d h t w.0 in
      let k = kept Γ u d h a w.1 in
      (ap₂ push i.0 k.0, rw i.1 k.1)
  kept Γ u d h (svar k a) w =
      let v = var_kept d k stack (λ j e. h j stack (rw e at w.1)) in
      let i = kept Γ u d h a w.2 in
      (ap₂ join v.0 i.0 ∙ (unfold variable join in refl), rw v.1 i.1)
  kept Γ u d h (gap a) w = let i = kept Γ u d h a w.1 in (ap gap i.0, i.1)

-- ---- what the code finds
-- ---- rows
module _ (τ : RowTable) (a j : ℕ) where
  value_itself : Itself τ.rows 0 a j → (mean_v τ (suc a) ≡ var j) × (is_stack_at τ.rows a ≡ false)
  unfolding value_with variable_kind
  value_itself i = (value_is τ (suc a) ∙ rw (i.kind, i.number) refl, rw i.kind refl)

  stack_itself : (x : ℕ) → Itself τ.rows (suc x) a j → (mean_s τ (suc a) ≡ svar j nil) × (is_stack_at τ.rows a ≡ true)
  unfolding stack_with variable_kind
  stack_itself x i = (stack_is τ (suc a) ∙ rw (i.kind, i.number) refl, rw i.kind refl)

module _ (τ : RowTable) (args : List ℕ) (ρ : ℕ → ℕ) (m j : ℕ) (h : j < m) where
  stands : (κ : Kind) → mean τ κ (suc (get_or args j 0)) ≡ variable κ j → fits_kind κ (args_of τ args m) j ≡ true → Stands (args_of τ args m) ρ κ j
  stands κ e f = record { put = at; fit = f }
    where
      at : (d : ℕ) → placed κ ρ d (args_of τ args m) j ≡ variable κ (j + d)
      at d =
          let l = length_args τ args m in
          placed_is κ ρ d (args_of τ args m) j ∙ rw (lt-ltb j (length (args_of τ args m)) (omega arith)) (ap (raise d) (arg_type τ args m j (get_or args j 0) h refl κ ∙ e) ∙ raise_variable d κ j)

  row_stands : (x : ℕ) → Itself τ.rows x (get_or args j 0) j → Stands (args_of τ args m) ρ (letter_of x) j
  unfolding letter_of variable
  row_stands zero i = let v = value_itself τ (get_or args j 0) j i in stands value v.0 (fits_value τ args m j (get_or args j 0) h refl refl ∙ ap not v.1)
  row_stands (suc x) i = let v = stack_itself τ (get_or args j 0) j x i in stands stack v.0 (fits_stack τ args m j (get_or args j 0) h refl refl ∙ v.1)

-- ---- letters
letter_get : (ps : List ℕ) (p n k : ℕ) (κ : Kind) → get_elem? (letters_from ps p n) k ≡ some κ → κ ≡ letter_of (get_or ps (p + k) 0)
unfolding letters_from span
letter_get ps p zero k κ e = let z : ◌≡◌ {A = ℕ} 0 1 = cc in absurd (omega arith)
letter_get ps p (suc n) zero κ e = let z : p + 0 ≡ p = omega arith in rw z (let y : letter_of (get_or ps p 0) ≡ κ = cc in sym y)
letter_get ps p (suc n) (suc k) κ e = let z : p + suc k ≡ suc p + k = omega arith in rw z (letter_get ps (suc p) n k κ e)

-- ---- the stack of a closed code type
pub stack_kept : (τ : RowTable) (args : List ℕ) (ρ : ℕ → ℕ) (a x p y b m : ℕ) → m ≤ a → a ≡ get_or τ.parts (p + 8) 0 → Wf (letters_at τ.parts p) a_stack (mean_s τ x) → x ≡ y → Themselves τ.rows τ.parts ((p + 9) + (a - m)) args m
    → true ≡ same_stacks τ (args_of τ args m) ρ (a - m) x (lift 0) b y
unfolding same_stacks stack_under
stack_kept τ args ρ a x p y b m l e w z h =
    let k = kept (args_of τ args m) ρ (letters_at τ.parts p) a_stack (a - m) each (mean_s τ x) w in
    sym (ap₂ ◌&&◌ (ap₂ same k.0 (plain_stack τ b y ∙ ap (mean_s τ) (sym z)) ∙ same_refl (mean_s τ x)) k.1)
  where
    each : (j : ℕ) (κ : Kind) → get_elem? (letters_at τ.parts p) (j + (a - m)) ≡ some κ → Stands (args_of τ args m) ρ κ j
    each j κ g =
        let q : get_elem? (letters_from τ.parts (p + 9) a) (j + (a - m)) ≡ some κ = ap (λ (v : List Kind). get_elem? v (j + (a - m))) (sym (letters_at_lem τ p a e)) ∙ g in
        let n = get_lt (letters_from τ.parts (p + 9) a) (j + (a - m)) κ q in
        let o = length_letters τ.parts (p + 9) a in
        let i : j < m = omega arith in
        let s : (p + 9) + (j + (a - m)) ≡ ((p + 9) + (a - m)) + j = omega arith in
        rw (letter_get τ.parts (p + 9) a (j + (a - m)) κ q, s) (row_stands τ args ρ m j i (get_or τ.parts (((p + 9) + (a - m)) + j) 0) (h j i))

-- what is asked of a closed code type, of its stack
pub closed_stack : (τ : RowTable) (l x p : ℕ) {c : Bool} → (c ≡ true → Wf [] a_stack (code_of τ l x p)) → c ≡ true → Wf (letters_at τ.parts p) a_stack (mean_s τ x)
unfolding code_of
closed_stack τ l x p f t = subst (λ (z : List Kind). Wf z a_stack (mean_s τ x)) (append-nil (letters_at τ.parts p)) (f t).0
