-- Laws of an entry by its form.
use mathlib.Core.Path.{◌≡◌, refl, ap, ap₂, sym, ◌∙◌, subst}
use mathlib.Core.Bool.{Bool, true, false, ◌&&◌, cond}
use mathlib.Core.List.{List, []}
use Prim.Native.Nat.{ℕ, suc, ◌+◌, ◌-◌, ◌<◌, ◌≤◌}
use native.Mathlib.Omega.{arith}
use native.Mathlib.Nat.{not-suc-le-zero}
use lib.ListN.{get_or}
use borrow.Author.Tests.{lt-ltb, le-ltb}
use Rattle.syntax.specs.Syntax.{stack}
use Rattle.types.specs.Types.{push, join, walk, raise, Arg, of_kind, fits_kind, meets}
use Rattle.tables.specs.Tables.{RowTable}
use Rattle.types_rows.specs.declared.Stk.{Stk}
use Rattle.types_rows.specs.declared.Stk.TheVariants.{Nil, StkVar, StkFill, Push, Join}
use Rattle.types_rows.specs.Read.{is_stack_at, stack_at, mean_v, mean_s, acting, lift, value_under, stack_under, args_of, place_s, OkS}
use Rattle.types_rows.proofs.Laws.{no_arg, type_s, stack_read}
use Rattle.types_equal.specs.declared.pending.Form.{Form}
use Rattle.types_equal.specs.declared.pending.Form.TheVariants.{One}
use Rattle.types_equal.specs.pending.Pending.{entry_type, entry_meets, Low, Givens, weight, arg_form, own_form, given_form, Lower, FormOf}
use Rattle.std.specs.Prelude.{Option, Some, None}
use Rattle.std.specs.Bool.{then_some}
use Rattle.types_equal.proofs.pending.Meets.{some_if, raised, length_args, arg_type, fits_stack, meets_s, stack_meets}

-- ---- entries of the two sorts
module _ (τ : RowTable) (A : List Arg) (ρ : ℕ → ℕ) (d : ℕ) where
  pub own_type : (e : ℕ) → e < 32768 → entry_type τ A ρ d e ≡ stack_under τ A ρ d e
  unfolding entry_type
  own_type e h = rw (lt-ltb e 32768 h) refl

  pub given_type : (h : ℕ) → entry_type τ A ρ d (32768 + h) ≡ stack_under τ [] (lift d) 0 h
  unfolding entry_type
  given_type h = let q : (32768 + h) - 32768 ≡ h = omega arith in rw (le-ltb (32768 + h) 32768 (omega arith), q) refl

module _ (τ : RowTable) (A : List Arg) (d : ℕ) where
  pub own_meets : (e : ℕ) → e < 32768 → entry_meets τ A d e ≡ meets A d (mean_s τ e)
  unfolding entry_meets
  own_meets e h = rw (lt-ltb e 32768 h) refl

  pub given_meets : (h : ℕ) → entry_meets τ A d (32768 + h) ≡ true
  unfolding entry_meets
  given_meets h = rw (le-ltb (32768 + h) 32768 (omega arith)) refl

own_weight : (e : ℕ) → e < 32768 → weight e ≡ e + 515
unfolding weight
own_weight e h = rw (lt-ltb e 32768 h) refl

given_weight : (h : ℕ) → weight (32768 + h) ≡ h
unfolding weight
given_weight h = let q : (32768 + h) - 32768 ≡ h = omega arith in rw (le-ltb (32768 + h) 32768 (omega arith), q) refl

-- ---- lower entries
own_lower : (m e x : ℕ) → e < 32768 → x < e → Lower m e x
own_lower m e x h k =
    let p = own_weight e h in
    let q = own_weight x (omega arith) in
    (omega arith, λ l i f. let g = f.0 h in ((λ z. omega arith), (λ z. absurd (omega arith))))

given_lower : (m h x : ℕ) → h ≤ 514 → x < h → Lower m (32768 + h) (32768 + x)
given_lower m h x a k =
    let p = given_weight h in
    let q = given_weight x in
    (omega arith, λ l i f. let g = f.1 (omega arith) in let u = g.2 in ((λ z. absurd (omega arith)), (λ z. (g.0, omega arith, omega arith))))

arg_lower : (m e a : ℕ) → e < 32768 → 0 < m → suc a ≤ 514 → (weight (32769 + a) < weight e) × ((l i : ℕ) → Low m l i e → Low m l i (32769 + a))
arg_lower m e a h k b =
    let p = own_weight e h in
    let z : 32769 + a ≡ 32768 + suc a = omega arith in
    let q : weight (32769 + a) ≡ suc a = ap weight z ∙ given_weight (suc a) in
    (omega arith, λ l i f. let g = f.0 h in ((λ u. absurd (omega arith)), (λ u. (k, omega arith, omega arith))))

-- ---- a row in its context
module _ (τ : RowTable) (args : List ℕ) (m : ℕ) (ρ : ℕ → ℕ) (d e : ℕ) (h : e < 32768) (g : Givens args m) where
  abbrev own_args : List Arg
  own_args = args_of τ args m

  arg_is : (j : ℕ) (b : Bool) → j < m → b ≡ is_stack_at τ.rows (get_or args j 0)
      → stack_under τ own_args ρ d e ≡ raise d (of_kind stack (get_or own_args j no_arg)) → meets own_args d (mean_s τ e) ≡ fits_kind stack own_args j → FormOf τ own_args ρ d m e (cond b (Some (One (32769 + get_or args j 0))) None)
  unfolding stack_under
  arg_is j true l f s t =
      let a : ℕ = get_or args j 0 in
      let z : 32769 + a ≡ 32768 + suc a = omega arith in
      let y : entry_type τ own_args ρ d (32769 + a) ≡ walk (acting [] (lift d)) 0 (mean_s τ (suc a)) = ap (entry_type τ own_args ρ d) z ∙ given_type τ own_args ρ d (suc a) in
      let x : entry_meets τ own_args d (32769 + a) ≡ true = ap (entry_meets τ own_args d) z ∙ given_meets τ own_args d (suc a) in
      let w = arg_lower m e a h (omega arith) (g j l) in (
        own_type τ own_args ρ d e h ∙ s ∙ ap (raise d) (arg_type τ args m j a l refl stack) ∙ sym (raised d (mean_s τ (suc a))) ∙ sym y,
        own_meets τ own_args d e h ∙ t ∙ fits_stack τ args m j a l refl f ∙ sym x,
        w.0,
        w.1,
      )
  arg_is j false l f s t = (own_meets τ own_args d e h ∙ t ∙ fits_stack τ args m j (get_or args j 0) l refl f, omega arith)

  own_is : (s : Stk) → OkS m e s → stack_under τ own_args ρ d e ≡ type_s τ own_args ρ d s → meets own_args d (mean_s τ e) ≡ meets_s τ own_args ρ d s → FormOf τ own_args ρ d m e (own_form τ.rows args s)
  own_is Nil ok f k = (own_type τ own_args ρ d e h ∙ f, own_meets τ own_args d e h ∙ k)
  own_is (StkVar i) ok f k = (own_type τ own_args ρ d e h ∙ f, own_meets τ own_args d e h ∙ k)
  own_is (StkFill j) ok f k = arg_is j (is_stack_at τ.rows (get_or args j 0)) ok refl f k
  own_is (Push t x) ok f k =
      let l = ok.1 in
      let w = own_lower m e x h l in
      let n = ok.0 in (
        own_type τ own_args ρ d e h ∙ f ∙ ap (push (value_under τ own_args ρ d t)) (sym (own_type τ own_args ρ d x (omega arith))),
        own_meets τ own_args d e h ∙ k ∙ ap (λ z. meets own_args d (mean_v τ t) && z) (sym (own_meets τ own_args d x (omega arith))),
        (λ l i z. let y = z.0 h in omega arith),
        w,
      )
  own_is (Join x y) ok f k =
      let l = ok.0 in
      let n = ok.1 in
      let v = own_lower m e x h l in
      let w = own_lower m e y h n in (
        own_type τ own_args ρ d e h ∙ f ∙ ap₂ join (sym (own_type τ own_args ρ d x (omega arith))) (sym (own_type τ own_args ρ d y (omega arith))),
        own_meets τ own_args d e h ∙ k ∙ ap₂ ◌&&◌ (sym (own_meets τ own_args d x (omega arith))) (sym (own_meets τ own_args d y (omega arith))),
        v,
        w,
      )

  -- from what a reader answers
  pub own_form_lem : (s k : Stk) → s ≡ stack_at τ.rows (place_s m ρ d) e → OkS m e s → s ≡ k → FormOf τ own_args ρ d m e (own_form τ.rows args k)
  own_form_lem s k f ok q =
      own_is k (subst (λ (z : Stk). OkS m e z) q ok) (stack_read τ own_args ρ d m e (length_args τ args m) f q) (stack_meets τ own_args ρ d m e (length_args τ args m) f q)

  pub own_arg : (s : Stk) (j a : ℕ) {o : Option Form} → s ≡ stack_at τ.rows (place_s m ρ d) e → OkS m e s → s ≡ StkFill j → a ≡ get_or args j 0 → o ≡ arg_form τ.rows a → FormOf τ own_args ρ d m e o
  own_arg s j a {o} f ok q b i =
      subst (λ (z : Option Form). FormOf τ own_args ρ d m e z) (sym (i ∙ ap (arg_form τ.rows) b)) (own_form_lem s (StkFill j) f ok q)

-- ---- a row of an argument
module _ (τ : RowTable) (args : List ℕ) (m : ℕ) (ρ : ℕ → ℕ) (d h : ℕ) (b : h ≤ 514) where
  abbrev given_args : List Arg
  given_args = args_of τ args m

  given_is : (s : Stk) → OkS 0 h s → stack_under τ [] (lift d) 0 h ≡ type_s τ [] (lift d) 0 s → FormOf τ given_args ρ d m (32768 + h) (Some (given_form s))
  given_is Nil ok f = (given_type τ given_args ρ d h ∙ f, given_meets τ given_args d h)
  given_is (StkVar i) ok f = (given_type τ given_args ρ d h ∙ f, given_meets τ given_args d h)
  given_is (StkFill j) ok f = absurd (not-suc-le-zero ok)
  given_is (Push t x) ok f =
      let n = ok.0 in
      let w = given_lower m h x b ok.1 in (
        given_type τ given_args ρ d h ∙ f ∙ ap (push (value_under τ [] (lift d) 0 t)) (sym (given_type τ given_args ρ d x)),
        given_meets τ given_args d h ∙ sym (given_meets τ given_args d x),
        (λ l i z. let y = z.1 (omega arith) in let u = y.2 in (y.0, omega arith, omega arith)),
        w,
      )
  given_is (Join x y) ok f =
      let v = given_lower m h x b ok.0 in
      let w = given_lower m h y b ok.1 in (
        given_type τ given_args ρ d h ∙ f ∙ ap₂ join (sym (given_type τ given_args ρ d x)) (sym (given_type τ given_args ρ d y)),
        given_meets τ given_args d h ∙ ap₂ ◌&&◌ (sym (given_meets τ given_args d x)) (sym (given_meets τ given_args d y)),
        v,
        w,
      )

  pub given_form_lem : (s k : Stk) → s ≡ stack_at τ.rows (place_s 0 (lift d) 0) h → OkS 0 h s → s ≡ k → FormOf τ given_args ρ d m (32768 + h) (Some (given_form k))
  given_form_lem s k f ok q = given_is k (subst (λ (z : Stk). OkS 0 h z) q ok) (stack_read τ [] (lift d) 0 0 h refl f q)

-- ---- an entry of either sort
pub entry_given : (τ : RowTable) (A : List Arg) (ρ : ℕ → ℕ) (d m e : ℕ) (o : Option Form) → 32768 ≤ e → FormOf τ A ρ d m (32768 + (e - 32768)) o → FormOf τ A ρ d m e o
entry_given τ A ρ d m e o h f = let q : 32768 + (e - 32768) ≡ e = omega arith in subst (λ z. FormOf τ A ρ d m z o) q f

pub form_at_lem : (τ : RowTable) (A : List Arg) (ρ : ℕ → ℕ) (d m e e₂ : ℕ) (f k : Option Form) → e ≡ e₂ → FormOf τ A ρ d m e f → f ≡ k → FormOf τ A ρ d m e₂ k
form_at_lem τ A ρ d m e e₂ f k p h q = subst (λ z. FormOf τ A ρ d m z k) p (subst (λ (z : Option Form). FormOf τ A ρ d m e z) q h)

-- ---- what the readers need
pub arg_row : (rows : List ℕ) (a : ℕ) {b : Bool} {o : Option Form} → b ≡ is_stack_at rows a → o ≡ then_some b (One (32769 + a)) → o ≡ arg_form rows a
arg_row rows a {b} e f = f ∙ rw (← e) (some_if b (One (32769 + a)))

pub ok_push : (m h t x : ℕ) {s : Stk} → OkS m h s → s ≡ Push t x → (t < h) × (x < h)
ok_push m h t x ok q = subst (λ (z : Stk). OkS m h z) q ok

pub ok_join : (m h x y : ℕ) {s : Stk} → OkS m h s → s ≡ Join x y → (x < h) × (y < h)
ok_join m h x y ok q = subst (λ (z : Stk). OkS m h z) q ok

pub fill_none : {B : Type 0} (h : ℕ) {j : ℕ} {s : Stk} → OkS 0 h s → s ≡ StkFill j → B
fill_none h ok q = absurd (not-suc-le-zero (subst (λ (z : Stk). OkS 0 h z) q ok))

pub below_mark : (h : ℕ) → h ≤ 32767 → h < 32768
below_mark h b = omega arith

pub given_low : (e : ℕ) → e ≤ 33282 → e - 32768 ≤ 514
given_low e b = omega arith
