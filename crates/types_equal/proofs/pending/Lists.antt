-- Laws of what is pending.
use mathlib.Core.Path.{◌≡◌, refl, ap, ap₂, sym, ◌∙◌, subst}
use mathlib.Core.Bool.{Bool, true, false, ◌&&◌}
use mathlib.Core.List.{List}
use Prim.Native.Nat.{ℕ, zero, suc, ◌+◌, ◌*◌, ◌<◌, ◌≤◌}
use native.Mathlib.Omega.{arith}
use native.Mathlib.Nat.{not-suc-le-zero}
use lib.Dec.{eqb, ltb}
use lib.ListN.{length, get_or, set, length-set}
use lib.Seq.{get_or-set_same, get_or-set_other}
use borrow.Author.Tests.{eqb-true, eqb-false, ltb-true, ltb-false}
use Rattle.syntax.specs.Syntax.{stack}
use Rattle.types.specs.Types.{Ty, push, join, Arg}
use Rattle.types.proofs.Filling.{join_assoc}
use Rattle.tables.specs.Tables.{RowTable}
use Rattle.std.specs.Prelude.{Some, None}
use Rattle.types_equal.specs.declared.pending.Form.TheVariants.{Skip, One, Two, Top, Var as VarTop}
use Rattle.types_equal.specs.declared.pending.Next.TheVariants.{End, Row, Var as VarNext}
use Rattle.types_equal.specs.declared.pending.Source.{Source}
use Rattle.types_equal.specs.pending.Pending.{entry_type, pending_type, entry_meets, pending_meets, Low, Pends, room, weight, power, mass, Lower, row_type, row_meets, RowLow, FormOf, Rest, NextIs}
use Rattle.types_equal.proofs.pending.Meets.{and_assoc}

-- ---- what falls
power_some : (n : ℕ) → 1 ≤ power n
unfolding power
power_some zero = omega arith
power_some (suc n) = let h = power_some n in omega arith

power_less : (a b : ℕ) → a < b → 3 * power a ≤ power b
unfolding power
power_less a zero h = absurd (not-suc-le-zero h)
power_less a (suc b) h = go (power_less a b) (ltb a b) refl
  where
    go : (a < b → 3 * power a ≤ power b) → (t : Bool) → ltb a b ≡ t → 3 * power a ≤ 3 * power b
    go f true e = let g = f (ltb-true a b e) in omega arith
    go f false e = let g = ltb-false a b e in let q : a ≡ b = omega arith in subst (λ z. 3 * power a ≤ 3 * power z) q (omega arith)

-- ---- lists that agree in the first n entries
abbrev pub Agree : ℕ → List ℕ → List ℕ → Type 0
Agree n ws out = (i : ℕ) → i < n → get_or out i 0 ≡ get_or ws i 0

agree_set : (n i x : ℕ) (ws : List ℕ) → n ≤ i → Agree n ws (set ws i x)
agree_set n i x ws h j k = get_or-set_other ws i j x 0 (λ e. omega arith)

pub mass_agree : (n : ℕ) (ws out : List ℕ) → Agree n ws out → mass out n ≡ mass ws n
unfolding mass
mass_agree zero ws out h = refl
mass_agree (suc n) ws out h = ap₂ ◌+◌ (ap (λ z. power (weight z)) (h n (omega arith))) (mass_agree n ws out (λ i k. h i (omega arith)))

pub pends_agree : (m l n : ℕ) (ws out : List ℕ) → Agree n ws out → Pends m l ws n → Pends m l out n
pends_agree m l n ws out h p i k = subst (λ z. Low m l i z) (sym (h i k)) (p i k)

module _ (τ : RowTable) (A : List Arg) (ρ : ℕ → ℕ) (d : ℕ) where
  pub type_agree : (n : ℕ) (ws out : List ℕ) → Agree n ws out → pending_type τ A ρ d out n ≡ pending_type τ A ρ d ws n
  unfolding pending_type
  type_agree zero ws out h = refl
  type_agree (suc n) ws out h = ap₂ join (ap (entry_type τ A ρ d) (h n (omega arith))) (type_agree n ws out (λ i k. h i (omega arith)))

  pub meets_agree : (n : ℕ) (ws out : List ℕ) → Agree n ws out → pending_meets τ A d out n ≡ pending_meets τ A d ws n
  unfolding pending_meets
  meets_agree zero ws out h = refl
  meets_agree (suc n) ws out h = ap₂ ◌&&◌ (ap (entry_meets τ A d) (h n (omega arith))) (meets_agree n ws out (λ i k. h i (omega arith)))

-- ---- entry i replaced by x, and the entries up to it
put_mass : (ws : List ℕ) (i x : ℕ) → i < length ws → mass (set ws i x) (suc i) ≡ power (weight x) + mass ws i
unfolding mass
put_mass ws i x h = ap₂ ◌+◌ (ap (λ z. power (weight z)) (get_or-set_same ws i x 0 h)) (mass_agree i ws (set ws i x) (agree_set i i x ws (omega arith)))

put_pends : (m l : ℕ) (ws : List ℕ) (i x : ℕ) → i < length ws → Pends m l ws i → Low m l i x → Pends m l (set ws i x) (suc i)
put_pends m l ws i x h p q j k = go (eqb j i) refl
  where
    go : (t : Bool) → eqb j i ≡ t → Low m l j (get_or (set ws i x) j 0)
    go true e =
        let f = eqb-true j i e in
        subst (λ z. Low m l z (get_or (set ws i x) z 0)) (sym f) (subst (λ z. Low m l i z) (sym (get_or-set_same ws i x 0 h)) q)
    go false e =
        let f = eqb-false j i e in
        subst (λ z. Low m l j z) (sym (get_or-set_other ws i j x 0 f)) (p j (let g : (j ≡ i → ⊥) = f in omega (arith, g)))

module _ (τ : RowTable) (A : List Arg) (ρ : ℕ → ℕ) (d : ℕ) where
  put_type : (ws : List ℕ) (i x : ℕ) → i < length ws → pending_type τ A ρ d (set ws i x) (suc i) ≡ join (entry_type τ A ρ d x) (pending_type τ A ρ d ws i)
  unfolding pending_type
  put_type ws i x h = ap₂ join (ap (entry_type τ A ρ d) (get_or-set_same ws i x 0 h)) (type_agree τ A ρ d i ws (set ws i x) (agree_set i i x ws (omega arith)))

  put_meets : (ws : List ℕ) (i x : ℕ) → i < length ws → pending_meets τ A d (set ws i x) (suc i) ≡ entry_meets τ A d x && pending_meets τ A d ws i
  unfolding pending_meets
  put_meets ws i x h = ap₂ ◌&&◌ (ap (entry_meets τ A d) (get_or-set_same ws i x 0 h)) (meets_agree τ A ρ d i ws (set ws i x) (agree_set i i x ws (omega arith)))

-- ---- how far an entry may stand
pub low_fits : (m l i e : ℕ) → Low m l i e → i ≤ l + room m
low_fits m l i e f = go m f (ltb e 32768) refl
  where
    go : (m : ℕ) → Low m l i e → (t : Bool) → ltb e 32768 ≡ t → i ≤ l + room m
    go m f true h = let g = f.0 (ltb-true e 32768 h) in omega arith
    go zero f false h = absurd (not-suc-le-zero (f.1 (ltb-false e 32768 h)).0)
    go (suc m) f false h = let g = (f.1 (ltb-false e 32768 h)).2 in let k = ltb-false e 32768 h in omega arith

pub low_most : (m l i e : ℕ) → Low m l i e → e ≤ 33282
low_most m l i e f = go (ltb e 32768) refl
  where
    go : (t : Bool) → ltb e 32768 ≡ t → e ≤ 33282
    go true h = let g = ltb-true e 32768 h in omega arith
    go false h = (f.1 (ltb-false e 32768 h)).1

pub low_down : (m l i x : ℕ) → Low m l (suc i) x → Low m l i x
low_down m l i x f = ((λ z. let g = f.0 z in omega arith), (λ z. let g = f.1 z in let u = g.2 in (g.0, g.1, omega arith)))

-- ---- what holds while the next item is sought: n entries of `out` are as much as the top entries of ws
pub record Kept (m : ℕ) (ws : List ℕ) (top : ℕ) (out : List ℕ) (n : ℕ) : Type 0 where
  pub most : mass out n ≤ mass ws top
  pub keeps : (l : ℕ) → Pends m l ws top → Pends m l out n
  pub long : length out ≡ length ws

pub record Means (τ : RowTable) (A : List Arg) (ρ : ℕ → ℕ) (d : ℕ) (ws : List ℕ) (top : ℕ) (out : List ℕ) (n : ℕ) : Type 0 where
  pub type : pending_type τ A ρ d out n ≡ pending_type τ A ρ d ws top
  pub fits : pending_meets τ A d out n ≡ pending_meets τ A d ws top

pub kept_first : (m : ℕ) (ws : List ℕ) (top : ℕ) → Kept m ws top ws top
kept_first m ws top = record { most = omega arith; keeps = λ l p. p; long = refl }

pub means_first : (τ : RowTable) (A : List Arg) (ρ : ℕ → ℕ) (d : ℕ) (ws : List ℕ) (top : ℕ) → Means τ A ρ d ws top ws top
means_first τ A ρ d ws top = record { type = refl; fits = refl }

pop_mass : (out : List ℕ) (n i : ℕ) → n ≡ suc i → mass out n ≡ power (weight (get_or out i 0)) + mass out i
unfolding mass
pop_mass out n i e = ap (mass out) e

module _ (m : ℕ) (ws : List ℕ) (top : ℕ) (out : List ℕ) (n i : ℕ) (e : n ≡ suc i) (g : Kept m ws top out n) where
  -- where the last entry stands
  pub last_low : (l : ℕ) → Pends m l ws top → Low m l i (get_or out i 0)
  last_low l p = g.keeps l p i (omega arith)

  pub less_skip : mass out i < mass out n
  less_skip = let h = pop_mass out n i e in let k = power_some (weight (get_or out i 0)) in omega arith

  pub kept_skip : Kept m ws top out i
  kept_skip = let h = less_skip in let k = g.most in record { most = omega arith; keeps = λ l p j q. g.keeps l p j (omega arith); long = g.long }

  module _ (x : ℕ) (b : i < length out) (w : weight x < weight (get_or out i 0)) (f : (l k : ℕ) → Low m l k (get_or out i 0) → Low m l k x) where
    pub less_one : mass (set out i x) n < mass out n
    less_one =
        let h = pop_mass out n i e in
        let k = power_less (weight x) (weight (get_or out i 0)) w in
        let q = power_some (weight x) in
        let p : mass (set out i x) n ≡ power (weight x) + mass out i = ap (mass (set out i x)) e ∙ put_mass out i x b in
        omega arith

    pub kept_one : Kept m ws top (set out i x) n
    kept_one =
        let h = less_one in
        let k = g.most in
        record {
          most = omega arith;
          keeps = λ l p. subst (λ z. Pends m l (set out i x) z) (sym e) (put_pends m l out i x b (λ j q. g.keeps l p j (omega arith)) (f l i (last_low l p)));
          long = length-set out i x ∙ g.long;
        }

    pub rest_one : Rest m ws top (set out i x) n
    rest_one = let h = less_one in let k = g.most in record { less = omega arith; keeps = kept_one.keeps }

  pub rest_skip : Rest m ws top out i
  rest_skip = let h = less_skip in let k = g.most in record { less = omega arith; keeps = kept_skip.keeps }

  module _ (x y : ℕ) (b : n < length out) (v : Lower m (get_or out i 0) x) (w : Lower m (get_or out i 0) y) where
    fits_both : n < length (set out i y)
    fits_both = let h = length-set out i y in omega arith

    mass_both : mass (set (set out i y) n x) (n + 1) ≡ power (weight x) + (power (weight y) + mass out i)
    mass_both =
        let q : n + 1 ≡ suc n = omega arith in
        ap (mass (set (set out i y) n x)) q ∙ put_mass (set out i y) n x fits_both ∙ ap (λ z. power (weight x) + z) (ap (mass (set out i y)) e ∙ put_mass out i y (omega arith))

    pub less_two : mass (set (set out i y) n x) (n + 1) < mass out n
    less_two =
        let h = pop_mass out n i e in
        let j = power_less (weight x) (weight (get_or out i 0)) v.0 in
        let k = power_less (weight y) (weight (get_or out i 0)) w.0 in
        let p = power_some (weight x) in
        let q = mass_both in
        omega arith

    pub kept_two : Kept m ws top (set (set out i y) n x) (n + 1)
    kept_two =
        let h = less_two in
        let k = g.most in
        let q : n + 1 ≡ suc n = omega arith in
        record {
          most = omega arith;
          keeps = λ l p.
              let u = last_low l p in
              let s : Pends m l (set out i y) n = subst (λ z. Pends m l (set out i y) z) (sym e) (put_pends m l out i y (omega arith) (λ j r. g.keeps l p j (omega arith)) (low_down m l i y (w.1 l i u))) in
              subst (λ z. Pends m l (set (set out i y) n x) z) (sym q) (put_pends m l (set out i y) n x fits_both s (subst (λ z. Low m l z x) (sym e) (v.1 l i u)));
          long = length-set (set out i y) n x ∙ length-set out i y ∙ g.long;
        }

module _ (τ : RowTable) (A : List Arg) (ρ : ℕ → ℕ) (d : ℕ) (m : ℕ) (ws : List ℕ) (top : ℕ) (out : List ℕ) (n i : ℕ) (e : n ≡ suc i) (g : Means τ A ρ d ws top out n) where
  abbrev pub entry : ℕ
  entry = get_or out i 0

  -- what the last entry stands for, and those below it
  top_type : pending_type τ A ρ d ws top ≡ join (entry_type τ A ρ d entry) (pending_type τ A ρ d out i)
  unfolding pending_type
  top_type = sym g.type ∙ ap (pending_type τ A ρ d out) e

  top_meets : pending_meets τ A d ws top ≡ entry_meets τ A d entry && pending_meets τ A d out i
  unfolding pending_meets
  top_meets = sym g.fits ∙ ap (pending_meets τ A d out) e

  pub means_skip : FormOf τ A ρ d m entry (Some Skip) → Means τ A ρ d ws top out i
  unfolding join
  means_skip f =
      record {
        type = sym (top_type ∙ ap (λ z. join z (pending_type τ A ρ d out i)) f.0);
        fits = sym (top_meets ∙ ap (λ z. z && pending_meets τ A d out i) f.1);
      }

  pub means_one : (x : ℕ) → i < length out → FormOf τ A ρ d m entry (Some (One x)) → Means τ A ρ d ws top (set out i x) n
  means_one x b f =
      record {
        type = ap (pending_type τ A ρ d (set out i x)) e ∙ put_type τ A ρ d out i x b ∙ sym (top_type ∙ ap (λ z. join z (pending_type τ A ρ d out i)) f.0);
        fits = ap (pending_meets τ A d (set out i x)) e ∙ put_meets τ A ρ d out i x b ∙ sym (top_meets ∙ ap (λ z. z && pending_meets τ A d out i) f.1);
      }

  pub means_two : (x y : ℕ) → n < length out → FormOf τ A ρ d m entry (Some (Two x y)) → Means τ A ρ d ws top (set (set out i y) n x) (n + 1)
  means_two x y b f =
      let q : n + 1 ≡ suc n = omega arith in
      let h = length-set out i y in
      let P : Ty stack = pending_type τ A ρ d out i in
      let M : Bool = pending_meets τ A d out i in
      let s : i < length out = omega arith in
      let t : n < length (set out i y) = omega arith in
      record {
        type = ap (pending_type τ A ρ d (set (set out i y) n x)) q ∙ put_type τ A ρ d (set out i y) n x t ∙ ap (join (entry_type τ A ρ d x)) (ap (pending_type τ A ρ d (set out i y)) e ∙ put_type τ A ρ d out i y s)
            ∙ sym (top_type ∙ ap (λ z. join z P) f.0 ∙ join_assoc (entry_type τ A ρ d x) (entry_type τ A ρ d y) P);
        fits = ap (pending_meets τ A d (set (set out i y) n x)) q ∙ put_meets τ A ρ d (set out i y) n x t ∙ ap (λ z. entry_meets τ A d x && z) (ap (pending_meets τ A d (set out i y)) e ∙ put_meets τ A ρ d out i y s)
            ∙ sym (top_meets ∙ ap (λ z. z && M) f.1 ∙ sym (and_assoc (entry_meets τ A d x) (entry_meets τ A d y) M));
      }

  -- ---- an item is found
  module _ (k : Kept m ws top out n) where
    row_low : (s : Source) (t l : ℕ) → RowLow m s l (suc i) t → (0 < n) × RowLow m s l n t
    row_low s t l h = (omega arith, subst (λ z. RowLow m s l z t) (sym e) h)

    pub next_row : (s : Source) (t x : ℕ) → i < length out → FormOf τ A ρ d m entry (Some (Top s t x)) → NextIs τ A ρ d m ws top (set out i x) (Some (Row s t n))
    unfolding join
    next_row s t x b f =
        let w = f.3 in (
          top_type ∙ ap (λ z. join z (pending_type τ A ρ d out i)) f.0 ∙ ap (push (row_type τ A ρ d s t)) (sym (ap (pending_type τ A ρ d (set out i x)) e ∙ put_type τ A ρ d out i x b)),
          top_meets ∙ ap (λ z. z && pending_meets τ A d out i) f.1 ∙ sym (and_assoc (row_meets τ A ρ d s t) (entry_meets τ A d x) (pending_meets τ A d out i)) ∙ ap (λ z. row_meets τ A ρ d s t && z) (sym (ap (pending_meets τ A d (set out i x)) e ∙ put_meets τ A ρ d out i x b)),
          rest_one m ws top out n i e k x b w.0 (λ l j z. low_down m l j x (w.1 l j z)),
          (λ l p. row_low s t l (f.2 l i (last_low m ws top out n i e k l p))),
        )

    pub next_var : (a : ℕ) → FormOf τ A ρ d m entry (Some (VarTop a)) → NextIs τ A ρ d m ws top out (Some (VarNext a i))
    unfolding join
    next_var a f =
        (top_type ∙ ap (λ z. join z (pending_type τ A ρ d out i)) f.0, top_meets ∙ ap (λ z. z && pending_meets τ A d out i) f.1, rest_skip m ws top out n i e k)

    pub next_wrong : FormOf τ A ρ d m entry None → NextIs τ A ρ d m ws top out None
    next_wrong f = (top_meets ∙ ap (λ z. z && pending_meets τ A d out i) f.0, f.1)

pub next_end : (τ : RowTable) (A : List Arg) (ρ : ℕ → ℕ) (d m : ℕ) (ws : List ℕ) (top : ℕ) (out : List ℕ) (n : ℕ) → n ≡ 0 → Means τ A ρ d ws top out n → NextIs τ A ρ d m ws top out (Some End)
unfolding pending_type pending_meets
next_end τ A ρ d m ws top out n e g = (sym g.type ∙ ap (pending_type τ A ρ d out) e, sym g.fits ∙ ap (pending_meets τ A d out) e)

pub none_left : (n : ℕ) → n ≤ 0 → n ≡ 0
none_left n h = omega arith
