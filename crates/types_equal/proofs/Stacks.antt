-- Laws of the comparison of stack rows.
use mathlib.Core.Path.{◌≡◌, refl, ap, ap₂, sym, ◌∙◌, subst}
use mathlib.Core.Bool.{Bool, true, false, ◌&&◌, not}
use mathlib.Core.List.{List, []}
use Prim.Native.Nat.{ℕ, ◌+◌, ◌-◌, ◌<◌, ◌≤◌}
use native.Mathlib.Omega.{arith}
use lib.ListN.{length, get_or, set, take, drop, length-drop}
use lib.Seq.{get_or-set_same, length-take-le}
use Rattle.types.specs.Types.{nil, join, Arg, meets}
use Rattle.types.specs.Equal.{same}
use Rattle.types.proofs.Filling.{join_nil}
use Rattle.tables.specs.Tables.{RowTable}
use Rattle.types_rows.specs.Read.{mean_s, stack_under}
use Rattle.types_equal.specs.pending.Pending.{list_of, entry_type, pending_type, entry_meets, pending_meets, Low, Pends, RowLow, mass}
use Rattle.types_equal.proofs.pending.Meets.{and_true}
use Rattle.types_equal.proofs.pending.Entries.{own_type, own_meets}
use Rattle.types_equal.proofs.pending.Sides.{length_side}
use Rattle.types_equal.proofs.pending.Lists.{Agree, mass_agree, pends_agree, type_agree, meets_agree}
use Rattle.types_equal.specs.declared.stack_pairs.Duo.{Duo}
use Rattle.types_equal.specs.declared.stack_pairs.Duo.TheVariants.{Over, Onward, Rows}
use Rattle.types_equal.specs.declared.pending.Source.{Source}
use Rattle.types_equal.specs.declared.pending.Side.TheVariants.{Left, Right}
use Rattle.std.specs.Prelude.{Option, Some, None}
use Rattle.types_equal.specs.stack_pairs.Fit.{fit_rows, same_stacks, fit_pending, DuoIs}

-- ---- a part lent
pub length_part : (n : ℕ) (ws : List ℕ) → length (take (length ws - n) (drop n ws)) ≡ length ws - n
length_part n ws = let a = length-drop n ws in length-take-le (length ws - n) (drop n ws) (omega arith)

pub pends_more : (m l k n : ℕ) (ws : List ℕ) → l ≤ k → Pends m l ws n → Pends m k ws n
pends_more m l k n ws h p i b =
    let f = p i b in
    ((λ z. let g = f.0 z in omega arith), (λ z. let g = f.1 z in let u = g.2 in (g.0, g.1, omega arith)))

fit_agree : (τ : RowTable) (A : List Arg) (ρ : ℕ → ℕ) (d : ℕ) (ρ₂ : ℕ → ℕ) (d₂ n o : ℕ) (ls ls₃ rs rs₃ : List ℕ) → Agree n ls ls₃ → Agree o rs rs₃ → fit_pending τ A ρ d ρ₂ d₂ ls₃ n rs₃ o ≡ fit_pending τ A ρ d ρ₂ d₂ ls n rs o
unfolding fit_pending
fit_agree τ A ρ d ρ₂ d₂ n o ls ls₃ rs rs₃ p q = ap₂ ◌&&◌ (ap₂ same (type_agree τ A ρ d n ls ls₃ p) (type_agree τ [] ρ₂ d₂ o rs rs₃ q)) (meets_agree τ A ρ d n ls ls₃ p)

-- ---- stack rows l and r under way
module _ (τ : RowTable) (A : List Arg) (m : ℕ) (ρ : ℕ → ℕ) (d l : ℕ) (ρ₂ : ℕ → ℕ) (d₂ r : ℕ) where
  pub record Matching (ls : List ℕ) (i : ℕ) (rs : List ℕ) (j : ℕ) : Type 0 where
    pub lefts : Pends m l ls i
    pub rights : Pends 0 r rs j
    pub fit : fit_pending τ A ρ d ρ₂ d₂ ls i rs j ≡ same_stacks τ A ρ d l ρ₂ d₂ r

  first_type : (B : List Arg) (b : ℕ → ℕ) (e x : ℕ) (ws : List ℕ) → x < 32768 → 0 < length ws → pending_type τ B b e (set ws 0 x) 1 ≡ stack_under τ B b e x
  unfolding pending_type
  first_type B b e x ws h k = ap (λ z. join (entry_type τ B b e z) nil) (get_or-set_same ws 0 x 0 k) ∙ join_nil (entry_type τ B b e x) ∙ own_type τ B b e x h

  first_meets : (x : ℕ) (ws : List ℕ) → x < 32768 → 0 < length ws → pending_meets τ A d (set ws 0 x) 1 ≡ meets A d (mean_s τ x)
  unfolding pending_meets
  first_meets x ws h k = ap (λ z. entry_meets τ A d z && true) (get_or-set_same ws 0 x 0 k) ∙ and_true (entry_meets τ A d x) ∙ own_meets τ A d x h

  first_pends : (n x : ℕ) (ws : List ℕ) → x < 32768 → 0 < length ws → Pends n x (set ws 0 x) 1
  first_pends n x ws h k i b =
      let q : i ≡ 0 = omega arith in
      subst (λ z. Low n x z (get_or (set ws 0 x) z 0)) (sym q) (subst (λ z. Low n x 0 z) (sym (get_or-set_same ws 0 x 0 k)) ((λ u. omega arith), (λ u. absurd (omega arith))))

  pub match_first : (ls rs : List ℕ) → l ≤ 514 → r ≤ 514 → 0 < length ls → 0 < length rs → Matching (set ls 0 l) 1 (set rs 0 r) 1
  unfolding fit_pending same_stacks
  match_first ls rs a b p q =
      record {
        lefts = first_pends m l ls (omega arith) p;
        rights = first_pends 0 r rs (omega arith) q;
        fit = ap₂ ◌&&◌ (ap₂ same (first_type A ρ d l ls (omega arith) p) (first_type [] ρ₂ d₂ r rs (omega arith) q)) (first_meets l ls (omega arith) p);
      }

  -- the rows are stored in a list of two: ws at first, then ws₂, then ws₃
  pub match_stored : (ws ws₂ ws₃ : List ℕ) → l ≤ 514 → r ≤ 514 → 0 < length ws → list_of Left ws₂ ≡ set (list_of Left ws) 0 l → list_of Right ws₂ ≡ list_of Right ws → list_of Right ws₃ ≡ set (list_of Right ws₂) 0 r → list_of Left ws₃ ≡ list_of Left ws₂
      → Matching (list_of Left ws₃) 1 (list_of Right ws₃) 1
  match_stored ws ws₂ ws₃ a b p e f g h =
      let u = length_side Left ws in
      let v = length_side Right ws in
      let x : list_of Left ws₃ ≡ set (list_of Left ws) 0 l = h ∙ e in
      let y : list_of Right ws₃ ≡ set (list_of Right ws) 0 r = g ∙ ap (λ (z : List ℕ). set z 0 r) f in
      rw (x, y) (match_first (list_of Left ws) (list_of Right ws) a b (omega arith) (omega arith))

  module _ (ls : List ℕ) (i : ℕ) (rs : List ℕ) (j : ℕ) (g : Matching ls i rs j) (ls₂ rs₂ : List ℕ) where
    abbrev D : Option Duo → Type 0
    D o = DuoIs τ A m ρ d ρ₂ d₂ ls i rs j ls₂ rs₂ o

    abbrev D_at : {o p : Option Duo} → D o → o ≡ p → D p
    D_at {o} {p} f e = subst (λ (z : Option Duo). D z) e f

    pub match_over : (o : Option Duo) → D o → o ≡ Some Over → true ≡ same_stacks τ A ρ d l ρ₂ d₂ r
    match_over o f e = sym (D_at f e) ∙ g.fit

    pub match_unlike : (o : Option Duo) → D o → o ≡ None → false ≡ same_stacks τ A ρ d l ρ₂ d₂ r
    match_unlike o f e = sym (D_at f e) ∙ g.fit

    pub match_onward : (x : Option Duo) (n o : ℕ) → D x → x ≡ Some (Onward n o) → Matching ls₂ n rs₂ o × (mass ls₂ n < mass ls i)
    match_onward x n o f e =
        let h = D_at f e in
        (record { lefts = h.1.keeps l g.lefts; rights = h.2.keeps r g.rights; fit = sym h.0 ∙ g.fit }, h.1.less)

    -- two value rows
    module _ (x : Option Duo) (s : Source) (t n u o : ℕ) (f : D x) (e : x ≡ Some (Rows s t n u o)) {v : Bool} (w : v ≡ fit_rows τ A ρ d ρ₂ d₂ s t u) where
      pub match_rows : (ls₃ rs₃ : List ℕ) → Agree n ls₂ ls₃ → Agree o rs₂ rs₃ → v ≡ true → Matching ls₃ n rs₃ o × (mass ls₃ n < mass ls i)
      match_rows ls₃ rs₃ p q z =
          let h = D_at f e in
          let y = h.1.less in
          let k = mass_agree n ls₂ ls₃ p in (
            record {
              lefts = pends_agree m l n ls₂ ls₃ p (h.1.keeps l g.lefts);
              rights = pends_agree 0 r o rs₂ rs₃ q (h.2.keeps r g.rights);
              fit = fit_agree τ A ρ d ρ₂ d₂ n o ls₂ ls₃ rs₂ rs₃ p q ∙ ap (λ b. b && fit_pending τ A ρ d ρ₂ d₂ ls₂ n rs₂ o) (sym z ∙ w) ∙ sym h.0 ∙ g.fit;
            },
            omega arith,
          )

      pub rows_not : v ≡ false → false ≡ same_stacks τ A ρ d l ρ₂ d₂ r
      rows_not z = let h = D_at f e in ap (λ b. b && fit_pending τ A ρ d ρ₂ d₂ ls₂ n rs₂ o) (sym z ∙ w) ∙ sym h.0 ∙ g.fit

    -- how far the two rows and what is pending reach
    pub rows_low : (x : Option Duo) (s : Source) (t n u o : ℕ) → D x → x ≡ Some (Rows s t n u o) → RowLow m s l n t × (o + u ≤ r)
    rows_low x s t n u o f e = let h = D_at f e in (h.3 l g.lefts, h.4 r g.rights)

-- ---- tests
pub not_true : {b : Bool} → not b ≡ false → b ≡ true
not_true {b} e = go b e
  where
    go : (b : Bool) → not b ≡ false → b ≡ true
    go true e = refl
    go false e = sym e

pub not_false : {b : Bool} → not b ≡ true → b ≡ false
not_false {b} e = go b e
  where
    go : (b : Bool) → not b ≡ true → b ≡ false
    go true e = sym e
    go false e = refl
