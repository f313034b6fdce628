-- Laws of the comparison of value rows, of parts and of code rows.
use mathlib.Core.Path.{◌≡◌, refl, ap, ap₂, sym, ◌∙◌, subst}
use mathlib.Core.Bool.{Bool, true, false, ◌&&◌, not, cond}
use mathlib.Core.List.{List, []}
use Prim.Native.Nat.{ℕ, zero, suc, ◌+◌, ◌-◌, ◌<◌, ◌≤◌}
use native.Mathlib.Omega.{arith}
use native.Mathlib.Nat.{not-suc-le-zero}
use native.Mathlib.Numerals.{add-one}
use lib.Dec.{eqb}
use lib.ListN.{length, get_or, length-map}
use borrow.Author.Tests.{eqb-true, eqb-false}
use Rattle.syntax.specs.Syntax.{value, stack}
use Rattle.types.specs.Types.{Ty, code, items, Act, walk, raise, Arg, of_kind, fits_kind, meets}
use Rattle.types.specs.Equal.{same, same_letters}
use Rattle.types.proofs.Equal.{same_refl}
use Rattle.tables.specs.Tables.{RowTable, span, letter_of, letters_at}
use Rattle.types_rows.specs.declared.Val.{Val}
use Rattle.types_rows.specs.declared.Val.TheVariants.{Int, Junk, ValVar, ValFill, Tuple, Pointer, Code, Hidden}
use Rattle.std.specs.Prelude.{Option, Some, None}
use Rattle.types_rows.specs.Read.{value_at, is_stack_at, slot_at, on_slot, parts_of, mean_v, mean_s, value_to, acting, value_under, stack_under, parts_under, code_of, code_under, args_of, lift, place_v, OkV, OkSlot}
use Rattle.types_rows.specs.Environments.{shifted}
use Rattle.types_rows.proofs.Laws.{no_arg, type_v, value_read}
use Rattle.types_equal.specs.declared.stack_pairs.Context.{Context}
use Rattle.types_equal.specs.declared.value_pairs.Pair.{Pair}
use Rattle.types_equal.specs.declared.value_pairs.Pair.TheVariants.{Same, Tuples, Pointers, Codes, Inside}
use Rattle.types_equal.specs.declared.value_pairs.Within.{Within}
use Rattle.types_equal.specs.declared.value_pairs.Within.TheVariants.{Argument, Package}
use Rattle.types_equal.specs.declared.value_pairs.Heads.{Heads}
use Rattle.types_equal.specs.value_pairs.Pairs.{pair_of, Placed, slots_of, letters_from}
use Rattle.types_equal.specs.stack_pairs.Fit.{AtSame, fit_values, fit_parts, same_stacks}
use Rattle.types_equal.specs.Bounds.{big}
use Rattle.types_equal.proofs.pending.Meets.{and_false, and_swap, raised, no_args, length_args, meets_none, meets_v, value_meets, arg_type, fits_value}
use Rattle.types_equal.proofs.Laws.{same_items}

pub big_of : (j m : ℕ) → j < m → big m ≡ 134217728
big_of j zero h = absurd (not-suc-le-zero h)
big_of j (suc m) h = refl

-- ---- parts have as many items as they are
items_on : (f : Act) (d : ℕ) (v : ℕ → Ty value) (s : Option ℕ) (a : Ty stack) → items (walk f d (on_slot v s a)) ≡ suc (items (walk f d a))
unfolding walk items
items_on f d v None a = refl
items_on f d v (Some t) a = refl

items_parts : (f : Act) (d : ℕ) (v : ℕ → Ty value) (ps : List ℕ) (file : Bool) (h p n : ℕ) → items (walk f d (parts_of v ps file h p n)) ≡ n
unfolding walk items parts_of
items_parts f d v ps file h p zero = refl
items_parts f d v ps file h p (suc n) = items_on f d v (slot_at file h (get_or ps p 0)) (parts_of v ps file h (suc p) n) ∙ ap suc (items_parts f d v ps file h (suc p) n)

-- ---- code
length_span : (l : List ℕ) (i n : ℕ) → length (span l i n) ≡ n
unfolding span
length_span l i zero = refl
length_span l i (suc n) = ap suc (length_span l (suc i) n)

pub length_letters : (ps : List ℕ) (p n : ℕ) → length (letters_from ps p n) ≡ n
unfolding letters_from
length_letters ps p n = length-map (span ps p n) letter_of ∙ length_span ps p n

pub letters_at_lem : (τ : RowTable) (p a : ℕ) → a ≡ get_or τ.parts (p + 8) 0 → letters_at τ.parts p ≡ letters_from τ.parts (p + 9) a
unfolding letters_at letters_from
letters_at_lem τ p a e = rw (← e) refl

-- under its letters
module _ (τ : RowTable) (p : ℕ) where
  abbrev count : ℕ
  count = get_or τ.parts (p + 8) 0

  letters_long : length (letters_at τ.parts p) ≡ count
  letters_long = ap length (letters_at_lem τ p count refl) ∙ length_letters τ.parts (p + 9) count

  code_under_lem : (A : List Arg) (ρ : ℕ → ℕ) (d l x : ℕ) → code_under τ A ρ d l x p ≡ code (letters_at τ.parts p) (stack_under τ A ρ (count + d) x) (parts_under τ A ρ (count + d) true l p 8)
  unfolding code_under code_of walk stack_under parts_under
  code_under_lem A ρ d l x = rw letters_long refl

  code_meets : (A : List Arg) (d l x : ℕ) → meets A d (code_of τ l x p) ≡ meets A (count + d) (mean_s τ x) && meets A (count + d) (parts_of (mean_v τ) τ.parts true l p 8)
  unfolding code_of meets
  code_meets A d l x = rw letters_long refl

-- ---- what is left names lower rows, or that of an argument
-- a row x of one of m arguments, beside row r
pub record Filler (args : List ℕ) (m r x y : ℕ) : Type 0 where
  pub j : ℕ
  pub low : j < m
  pub row : x ≡ get_or args j 0 + 1
  pub beside : y ≡ r

abbrev pub OkInside : List ℕ → ℕ → ℕ → ℕ → Within → ℕ → ℕ → Type 0
OkInside args m l r Argument x y = Filler args m r x y
OkInside args m l r Package x y = (x < l) × (y < r)

abbrev pub OkP : List ℕ → ℕ → ℕ → ℕ → Option Pair → Type 0
OkP args m l r None = Unit
OkP args m l r (Some Same) = Unit
OkP args m l r (Some (Tuples p q n)) = (p ≤ 65535) × (q ≤ 65535) × (n ≤ 65535) × (0 < l) × (0 < r)
OkP args m l r (Some (Pointers x y)) = (x < l) × (y < r)
OkP args m l r (Some (Codes x p y q)) = (x < l) × (p ≤ 65535) × (y < r) × (q ≤ 65535)
OkP args m l r (Some (Inside b x y)) = OkInside args m l r b x y

pub placed_form : (m h : ℕ) (n : Val) → OkV m h n → Placed n
placed_form m h Int f = tt
placed_form m h Junk f = tt
placed_form m h (ValVar k) f = tt
placed_form m h (ValFill j) f = tt
placed_form m h (Tuple p n) f = tt
placed_form m h (Pointer x) f = tt
placed_form m h (Code x p) f = f.1
placed_form m h (Hidden x) f = tt

-- an integer beside another form
pub int_alone : (τ : RowTable) (args : List ℕ) (r : ℕ) (w : Val) → (w ≡ Int → ⊥) → None ≡ pair_of τ args r Int w
int_alone τ args r Int h = absurd (h refl)
int_alone τ args r Junk h = refl
int_alone τ args r (ValVar i) h = refl
int_alone τ args r (ValFill i) h = refl
int_alone τ args r (Tuple q o) h = refl
int_alone τ args r (Pointer y) h = refl
int_alone τ args r (Code y q) h = refl
int_alone τ args r (Hidden y) h = refl

module _ (τ : RowTable) (args : List ℕ) (m l r : ℕ) where
  ok_same : (b : Bool) → OkP args m l r (cond b (Some Same) None)
  ok_same true = tt
  ok_same false = tt

  ok_long : (p q n : ℕ) {o : ℕ} (b : Bool) → (p ≤ 65535) × (n ≤ 65535) × (0 < l) → (q ≤ 65535) × (o ≤ 65535) × (0 < r) → OkP args m l r (cond b (Some (Tuples p q n)) None)
  ok_long p q n true f g = (f.0, g.0, f.1, f.2, g.2)
  ok_long p q n false f g = tt

  ok_fill : (j : ℕ) (b : Bool) → j < m → OkP args m l r (cond b None (Some (Inside Argument (get_or args j 0 + 1) r)))
  ok_fill j true h = tt
  ok_fill j false h = record { j = j; low = h; row = refl; beside = refl }

  ok_codes : (x p y q : ℕ) (b : Bool) → (x < l) × (p ≤ 65535) → (y < r) × (q ≤ 65535) → OkP args m l r (cond b (Some (Codes x p y q)) None)
  ok_codes x p y q true f g = (f.0, f.1, g.0, g.1)
  ok_codes x p y q false f g = tt

  ok_pair : (n w : Val) → OkV m l n → OkV 0 r w → OkP args m l r (pair_of τ args r n w)
  ok_pair Int Int f g = tt
  ok_pair Int Junk f g = tt
  ok_pair Int (ValVar i) f g = tt
  ok_pair Int (ValFill h) f g = tt
  ok_pair Int (Tuple q o) f g = tt
  ok_pair Int (Pointer y) f g = tt
  ok_pair Int (Code y q) f g = tt
  ok_pair Int (Hidden y) f g = tt
  ok_pair Junk Int f g = tt
  ok_pair Junk Junk f g = tt
  ok_pair Junk (ValVar i) f g = tt
  ok_pair Junk (ValFill h) f g = tt
  ok_pair Junk (Tuple q o) f g = tt
  ok_pair Junk (Pointer y) f g = tt
  ok_pair Junk (Code y q) f g = tt
  ok_pair Junk (Hidden y) f g = tt
  ok_pair (ValVar k) Int f g = tt
  ok_pair (ValVar k) Junk f g = tt
  ok_pair (ValVar k) (ValVar i) f g = ok_same (eqb k i)
  ok_pair (ValVar k) (ValFill h) f g = tt
  ok_pair (ValVar k) (Tuple q o) f g = tt
  ok_pair (ValVar k) (Pointer y) f g = tt
  ok_pair (ValVar k) (Code y q) f g = tt
  ok_pair (ValVar k) (Hidden y) f g = tt
  ok_pair (ValFill j) w f g = ok_fill j (is_stack_at τ.rows (get_or args j 0)) f
  ok_pair (Tuple p n) Int f g = tt
  ok_pair (Tuple p n) Junk f g = tt
  ok_pair (Tuple p n) (ValVar i) f g = tt
  ok_pair (Tuple p n) (ValFill h) f g = tt
  ok_pair (Tuple p n) (Tuple q o) f g = ok_long p q n (eqb n o) f g
  ok_pair (Tuple p n) (Pointer y) f g = tt
  ok_pair (Tuple p n) (Code y q) f g = tt
  ok_pair (Tuple p n) (Hidden y) f g = tt
  ok_pair (Pointer x) Int f g = tt
  ok_pair (Pointer x) Junk f g = tt
  ok_pair (Pointer x) (ValVar i) f g = tt
  ok_pair (Pointer x) (ValFill h) f g = tt
  ok_pair (Pointer x) (Tuple q o) f g = tt
  ok_pair (Pointer x) (Pointer y) f g = (f, g)
  ok_pair (Pointer x) (Code y q) f g = tt
  ok_pair (Pointer x) (Hidden y) f g = tt
  ok_pair (Code x p) Int f g = tt
  ok_pair (Code x p) Junk f g = tt
  ok_pair (Code x p) (ValVar i) f g = tt
  ok_pair (Code x p) (ValFill h) f g = tt
  ok_pair (Code x p) (Tuple q o) f g = tt
  ok_pair (Code x p) (Pointer y) f g = tt
  ok_pair (Code x p) (Code y q) f g = ok_codes x p y q (same_letters (letters_at τ.parts p) (letters_at τ.parts q)) f g
  ok_pair (Code x p) (Hidden y) f g = tt
  ok_pair (Hidden x) Int f g = tt
  ok_pair (Hidden x) Junk f g = tt
  ok_pair (Hidden x) (ValVar i) f g = tt
  ok_pair (Hidden x) (ValFill h) f g = tt
  ok_pair (Hidden x) (Tuple q o) f g = tt
  ok_pair (Hidden x) (Pointer y) f g = tt
  ok_pair (Hidden x) (Code y q) f g = tt
  ok_pair (Hidden x) (Hidden y) f g = (f, g)

  pub pair_ok : (n w : Val) {p q : Option Pair} → OkV m l n → OkV 0 r w → p ≡ pair_of τ args r n w → p ≡ q → OkP args m l r q
  pair_ok n w f g e h = subst (λ (z : Option Pair). OkP args m l r z) (sym e ∙ h) (ok_pair n w f g)

-- nothing is left where there is nothing
pub none_left : {A : Type 0} {o : Option A} → ((x : A) → o ≡ Some x → ⊥) → o ≡ None
none_left {A} {o} h = go o h
  where
    go : (o : Option A) → ((x : A) → o ≡ Some x → ⊥) → o ≡ None
    go None h = refl
    go (Some x) h = absurd (h x refl)

-- ---- a value argument
module _ (τ : RowTable) (args : List ℕ) (m d : ℕ) (ρ₂ : ℕ → ℕ) (d₂ r j : ℕ) (h : j < m) where
  abbrev fills : Bool
  fills = same (raise d (of_kind value (get_or (args_of τ args m) j no_arg))) (value_under τ [] ρ₂ d₂ r) && fits_kind value (args_of τ args m) j

  filled_value : is_stack_at τ.rows (get_or args j 0) ≡ false → fills ≡ fit_values τ [] (lift d) 0 (get_or args j 0 + 1) ρ₂ d₂ r
  unfolding fit_values value_under
  filled_value g =
      let a : ℕ = get_or args j 0 in
      let q : a + 1 ≡ suc a = omega arith in
      let k : fits_kind value (args_of τ args m) j ≡ true = fits_value τ args m j a h refl refl ∙ ap not g in
      rw (q, raised d (mean_v τ (suc a)), meets_none 0 (mean_v τ (suc a)), k, arg_type τ args m j a h refl value) refl

  filled_not : is_stack_at τ.rows (get_or args j 0) ≡ true → fills ≡ false
  filled_not g =
      let k : fits_kind value (args_of τ args m) j ≡ false = fits_value τ args m j (get_or args j 0) h refl refl ∙ ap not g in
      rw k (and_false (same (raise d (of_kind value (get_or (args_of τ args m) j no_arg))) (value_under τ [] ρ₂ d₂ r)))

-- ---- two value rows
module _ (τ : RowTable) (A : List Arg) (ρ : ℕ → ℕ) (d : ℕ) (ρ₂ : ℕ → ℕ) (d₂ : ℕ) where
  parts_unlike : (l r p q n o : ℕ) → (n ≡ o → ⊥) → same (parts_under τ A ρ d false l p n) (parts_under τ [] ρ₂ d₂ false r q o) ≡ false
  unfolding parts_under
  parts_unlike l r p q n o z =
      same_items (walk (acting A ρ) d (parts_of (mean_v τ) τ.parts false l p n)) (walk (acting [] ρ₂) d₂ (parts_of (mean_v τ) τ.parts false r q o))
      (λ h. let f = items_parts (acting A ρ) d (mean_v τ) τ.parts false l p n in let g = items_parts (acting [] ρ₂) d₂ (mean_v τ) τ.parts false r q o in z (omega arith))

  -- the value rows that they come to
  abbrev pub on_inside : Within → ℕ → ℕ → Bool
  on_inside Argument x y = fit_values τ [] (lift d) 0 x ρ₂ d₂ y
  on_inside Package x y = fit_values τ A ρ (suc d) x ρ₂ (suc d₂) y

  abbrev pub on_pair : ℕ → ℕ → Option Pair → Bool
  on_pair l r None = false
  on_pair l r (Some Same) = true
  on_pair l r (Some (Tuples p q n)) = fit_parts τ A ρ d false l p ρ₂ d₂ r q n
  on_pair l r (Some (Pointers x y)) = same_stacks τ A ρ d x ρ₂ d₂ y
  on_pair l r (Some (Codes x p y q)) =
      same_stacks τ A ρ (get_or τ.parts (p + 8) 0 + d) x ρ₂ (get_or τ.parts (q + 8) 0 + d₂) y
      && fit_parts τ A ρ (get_or τ.parts (p + 8) 0 + d) true l p ρ₂ (get_or τ.parts (q + 8) 0 + d₂) r q 8
  on_pair l r (Some (Inside b x y)) = on_inside b x y

  pair_same : (l r : ℕ) (b : Bool) → b && true ≡ on_pair l r (cond b (Some Same) None)
  pair_same l r true = refl
  pair_same l r false = refl

  pair_long : (l r p q n o : ℕ) (b : Bool) → eqb n o ≡ b
      → same (parts_under τ A ρ d false l p n) (parts_under τ [] ρ₂ d₂ false r q o) && meets A d (parts_of (mean_v τ) τ.parts false l p n) ≡ on_pair l r (cond b (Some (Tuples p q n)) None)
  unfolding fit_parts
  pair_long l r p q n o true e = let h = eqb-true n o e in rw h refl
  pair_long l r p q n o false e = ap (λ z. z && meets A d (parts_of (mean_v τ) τ.parts false l p n)) (parts_unlike l r p q n o (eqb-false n o e))

  pair_codes : (l r x p y q : ℕ) (b : Bool) → same_letters (letters_at τ.parts p) (letters_at τ.parts q) ≡ b
      → same (code_under τ A ρ d l x p) (code_under τ [] ρ₂ d₂ r y q) && meets A d (code_of τ l x p) ≡ on_pair l r (cond b (Some (Codes x p y q)) None)
  unfolding same same_stacks fit_parts
  pair_codes l r x p y q b e =
      ap₂ ◌&&◌ (ap₂ same (code_under_lem τ p A ρ d l x) (code_under_lem τ q [] ρ₂ d₂ r y)) (code_meets τ p A d l x) ∙ rw e (go b)
    where
      a : ℕ
      a = get_or τ.parts (p + 8) 0 + d

      c : ℕ
      c = get_or τ.parts (q + 8) 0 + d₂

      S : Bool
      S = same (stack_under τ A ρ a x) (stack_under τ [] ρ₂ c y)

      F : Bool
      F = same (parts_under τ A ρ a true l p 8) (parts_under τ [] ρ₂ c true r q 8)

      M : Bool
      M = meets A a (mean_s τ x)

      N : Bool
      N = meets A a (parts_of (mean_v τ) τ.parts true l p 8)

      go : (b : Bool) → (b && (S && F)) && (M && N) ≡ on_pair l r (cond b (Some (Codes x p y q)) None)
      go true = and_swap S F M N
      go false = refl

module _ (τ : RowTable) (args : List ℕ) (m : ℕ) (ρ : ℕ → ℕ) (d : ℕ) (ρ₂ : ℕ → ℕ) (d₂ : ℕ) where
  abbrev filling : List Arg
  filling = args_of τ args m

  pair_fill_lem : (l r j : ℕ) (b : Bool) (h : j < m) → is_stack_at τ.rows (get_or args j 0) ≡ b → fills τ args m d ρ₂ d₂ r j h ≡ on_pair τ filling ρ d ρ₂ d₂ l r (cond b None (Some (Inside Argument (get_or args j 0 + 1) r)))
  pair_fill_lem l r j true h e = filled_not τ args m d ρ₂ d₂ r j h e
  pair_fill_lem l r j false h e = filled_value τ args m d ρ₂ d₂ r j h e

  pair_is : (l r : ℕ) (n w : Val) → OkV m l n → OkV 0 r w → value_under τ [] ρ₂ d₂ r ≡ type_v τ [] ρ₂ d₂ r w
      → same (type_v τ filling ρ d l n) (type_v τ [] ρ₂ d₂ r w) && meets_v τ filling ρ d l n ≡ on_pair τ filling ρ d ρ₂ d₂ l r (pair_of τ args r n w)
  unfolding same fit_values same_stacks code_under code_of walk
  pair_is l r Int Int f ok e = refl
  pair_is l r Int Junk f ok e = refl
  pair_is l r Int (ValVar i) f ok e = refl
  pair_is l r Int (ValFill h) f ok e = absurd (not-suc-le-zero ok)
  pair_is l r Int (Tuple q o) f ok e = refl
  pair_is l r Int (Pointer y) f ok e = refl
  pair_is l r Int (Code y q) f ok e = refl
  pair_is l r Int (Hidden y) f ok e = refl
  pair_is l r Junk Int f ok e = refl
  pair_is l r Junk Junk f ok e = refl
  pair_is l r Junk (ValVar i) f ok e = refl
  pair_is l r Junk (ValFill h) f ok e = absurd (not-suc-le-zero ok)
  pair_is l r Junk (Tuple q o) f ok e = refl
  pair_is l r Junk (Pointer y) f ok e = refl
  pair_is l r Junk (Code y q) f ok e = refl
  pair_is l r Junk (Hidden y) f ok e = refl
  pair_is l r (ValVar k) Int f ok e = refl
  pair_is l r (ValVar k) Junk f ok e = refl
  pair_is l r (ValVar k) (ValVar i) f ok e = pair_same τ filling ρ d ρ₂ d₂ l r (eqb k i)
  pair_is l r (ValVar k) (ValFill h) f ok e = absurd (not-suc-le-zero ok)
  pair_is l r (ValVar k) (Tuple q o) f ok e = refl
  pair_is l r (ValVar k) (Pointer y) f ok e = refl
  pair_is l r (ValVar k) (Code y q) f ok e = refl
  pair_is l r (ValVar k) (Hidden y) f ok e = refl
  pair_is l r (ValFill j) w f ok e = rw (← e) (pair_fill_lem l r j (is_stack_at τ.rows (get_or args j 0)) f refl)
  pair_is l r (Tuple p n) Int f ok e = refl
  pair_is l r (Tuple p n) Junk f ok e = refl
  pair_is l r (Tuple p n) (ValVar i) f ok e = refl
  pair_is l r (Tuple p n) (ValFill h) f ok e = absurd (not-suc-le-zero ok)
  pair_is l r (Tuple p n) (Tuple q o) f ok e = pair_long τ filling ρ d ρ₂ d₂ l r p q n o (eqb n o) refl
  pair_is l r (Tuple p n) (Pointer y) f ok e = refl
  pair_is l r (Tuple p n) (Code y q) f ok e = refl
  pair_is l r (Tuple p n) (Hidden y) f ok e = refl
  pair_is l r (Pointer x) Int f ok e = refl
  pair_is l r (Pointer x) Junk f ok e = refl
  pair_is l r (Pointer x) (ValVar i) f ok e = refl
  pair_is l r (Pointer x) (ValFill h) f ok e = absurd (not-suc-le-zero ok)
  pair_is l r (Pointer x) (Tuple q o) f ok e = refl
  pair_is l r (Pointer x) (Pointer y) f ok e = refl
  pair_is l r (Pointer x) (Code y q) f ok e = refl
  pair_is l r (Pointer x) (Hidden y) f ok e = refl
  pair_is l r (Code x p) Int f ok e = refl
  pair_is l r (Code x p) Junk f ok e = refl
  pair_is l r (Code x p) (ValVar i) f ok e = refl
  pair_is l r (Code x p) (ValFill h) f ok e = absurd (not-suc-le-zero ok)
  pair_is l r (Code x p) (Tuple q o) f ok e = refl
  pair_is l r (Code x p) (Pointer y) f ok e = refl
  pair_is l r (Code x p) (Code y q) f ok e = pair_codes τ filling ρ d ρ₂ d₂ l r x p y q (same_letters (letters_at τ.parts p) (letters_at τ.parts q)) refl
  pair_is l r (Code x p) (Hidden y) f ok e = refl
  pair_is l r (Hidden x) Int f ok e = refl
  pair_is l r (Hidden x) Junk f ok e = refl
  pair_is l r (Hidden x) (ValVar i) f ok e = refl
  pair_is l r (Hidden x) (ValFill h) f ok e = absurd (not-suc-le-zero ok)
  pair_is l r (Hidden x) (Tuple q o) f ok e = refl
  pair_is l r (Hidden x) (Pointer y) f ok e = refl
  pair_is l r (Hidden x) (Code y q) f ok e = refl
  pair_is l r (Hidden x) (Hidden y) f ok e = refl

  pub value_pair : (l r : ℕ) {n w : Val} {p q : Option Pair} → n ≡ value_at τ.rows (place_v m ρ d) l → OkV m l n → w ≡ value_at τ.rows (place_v 0 ρ₂ d₂) r → OkV 0 r w → p ≡ pair_of τ args r n w → p ≡ q
      → on_pair τ filling ρ d ρ₂ d₂ l r q ≡ fit_values τ filling ρ d l ρ₂ d₂ r
  unfolding fit_values
  value_pair l r {n} {w} {p} {q} e o f ok g h =
      let vl : value_under τ filling ρ d l ≡ type_v τ filling ρ d l n = value_read τ filling ρ d m l (length_args τ args m) e in
      let vr : value_under τ [] ρ₂ d₂ r ≡ type_v τ [] ρ₂ d₂ r w = value_read τ [] ρ₂ d₂ 0 r refl f in
      let vm : meets filling d (mean_v τ l) ≡ meets_v τ filling ρ d l n = value_meets τ filling ρ d m l (length_args τ args m) e in
      ap (on_pair τ filling ρ d ρ₂ d₂ l r) (sym h ∙ g) ∙ sym (pair_is l r n w o ok vr) ∙ ap₂ ◌&&◌ (ap₂ same (sym vl) (sym vr)) (sym vm)

-- ---- the same value row in the same context, E being the environments
pub place_value : (τ : RowTable) (args E : List ℕ) (k : Context) (l r : ℕ) {b : Bool} → (b ≡ true → AtSame k l r) → b ≡ true → true ≡ fit_values τ (args_of τ args k.m) (shifted E k.env k.by) k.d l (shifted E k.env2 0) k.d2 r
unfolding fit_values
place_value τ args E k l r f t =
    let s = f t in
    rw (no_args τ args k.m s.no_args, s.row, s.place, s.raised, s.depth, meets_none k.d2 (mean_v τ r), same_refl (value_under τ [] (shifted E k.env2 0) k.d2 r)) refl

-- ---- two tests in a row
pub both_same : {v x y o : Bool} → v ≡ true → v ≡ x → o ≡ y → o ≡ x && y
both_same {v} {x} {y} {o} t e f = f ∙ ap (λ (z : Bool). z && y) (sym t ∙ e)

pub one_differs : {v x : Bool} (y : Bool) → v ≡ false → v ≡ x → false ≡ x && y
one_differs {v} {x} y t e = ap (λ (z : Bool). z && y) (sym t ∙ e)

-- ---- parts
pub heads_low : (l r : ℕ) (x y : Option ℕ) {o : Option Heads} {h : Heads} → 0 < l → 0 < r → OkSlot l x → OkSlot r y → o ≡ slots_of x y → o ≡ Some h → (h.left < l) × (h.right < r)
heads_low l r None None {o} {h} a b f g e i =
    let p : record { left = 0; right = 0 } ≡ h = cc in
    rw (← p) (a, b)
heads_low l r None (Some k) a b f g e i = cc
heads_low l r (Some j) None a b f g e i = cc
heads_low l r (Some j) (Some k) {o} {h} a b f g e i =
    let p : record { left = j; right = k } ≡ h = cc in
    rw (← p) (f, g)

-- no row and no row
none_fits : (τ : RowTable) (A : List Arg) (ρ : ℕ → ℕ) (d : ℕ) (ρ₂ : ℕ → ℕ) (d₂ : ℕ) → fit_values τ A ρ d 0 ρ₂ d₂ 0 ≡ true
unfolding fit_values value_under mean_v value_to walk same meets
none_fits τ A ρ d ρ₂ d₂ = refl

module _ (τ : RowTable) (A : List Arg) (ρ : ℕ → ℕ) (d : ℕ) (file : Bool) (l : ℕ) (ρ₂ : ℕ → ℕ) (d₂ r : ℕ) where
  abbrev pub on_heads : Bool → Option Heads → Bool
  on_heads b None = false
  on_heads b (Some h) = fit_values τ A ρ d h.left ρ₂ d₂ h.right && b

  on_slots : (x y : Option ℕ) (a b : Ty stack) → same (walk (acting A ρ) d (on_slot (mean_v τ) x a)) (walk (acting [] ρ₂) d₂ (on_slot (mean_v τ) y b)) && meets A d (on_slot (mean_v τ) x a)
      ≡ on_heads (same (walk (acting A ρ) d a) (walk (acting [] ρ₂) d₂ b) && meets A d a) (slots_of x y)
  unfolding same walk meets fit_values value_under
  on_slots None None a b = sym (ap (λ z. z && (same (walk (acting A ρ) d a) (walk (acting [] ρ₂) d₂ b) && meets A d a)) (none_fits τ A ρ d ρ₂ d₂))
  on_slots None (Some u) a b = refl
  on_slots (Some t) None a b = refl
  on_slots (Some t) (Some u) a b = and_swap (same (walk (acting A ρ) d (mean_v τ t)) (walk (acting [] ρ₂) d₂ (mean_v τ u))) (same (walk (acting A ρ) d a) (walk (acting [] ρ₂) d₂ b)) (meets A d (mean_v τ t)) (meets A d a)

  pub parts_end : (p q n : ℕ) → n ≡ 0 → true ≡ fit_parts τ A ρ d file l p ρ₂ d₂ r q n
  unfolding fit_parts parts_under parts_of walk same meets
  parts_end p q zero e = refl
  parts_end p q (suc n) e = absurd (omega arith)

  pub parts_are : (p q n : ℕ) {x y : Option ℕ} {h k : Option Heads} → (n ≡ 0 → ⊥) → x ≡ slot_at file l (get_or τ.parts p 0) → y ≡ slot_at file r (get_or τ.parts q 0) → h ≡ slots_of x y → h ≡ k
      → on_heads (fit_parts τ A ρ d file l (p + 1) ρ₂ d₂ r (q + 1) (n - 1)) k ≡ fit_parts τ A ρ d file l p ρ₂ d₂ r q n
  unfolding fit_parts parts_under parts_of
  parts_are p q zero z e f g i = absurd (z refl)
  parts_are p q (suc n) {x} {y} {h} {k} z e f g i =
      let w : suc n - 1 ≡ n = omega arith in
      let v : k ≡ slots_of (slot_at file l (get_or τ.parts p 0)) (slot_at file r (get_or τ.parts q 0)) = sym i ∙ g ∙ ap₂ slots_of e f in
      rw (v, w, add-one p, add-one q) (sym (on_slots (slot_at file l (get_or τ.parts p 0)) (slot_at file r (get_or τ.parts q 0)) (parts_of (mean_v τ) τ.parts file l (suc p) n) (parts_of (mean_v τ) τ.parts file r (suc q) n)))

-- ---- parts, i of n being equal
module _ (τ : RowTable) (A : List Arg) (ρ : ℕ → ℕ) (d : ℕ) (file : Bool) (l : ℕ) (ρ₂ : ℕ → ℕ) (d₂ r p q n : ℕ) where
  pub record PartsLeft (i : ℕ) : Type 0 where
    pub most : i ≤ n
    pub left : fit_parts τ A ρ d file l (p + i) ρ₂ d₂ r (q + i) (n - i) ≡ fit_parts τ A ρ d file l p ρ₂ d₂ r q n

  pub parts_first : PartsLeft 0
  parts_first =
      let a : p + 0 ≡ p = omega arith in
      let b : q + 0 ≡ q = omega arith in
      let c : n - 0 ≡ n = omega arith in
      record { most = omega arith; left = rw (a, b, c) refl }

  pub parts_last : (i : ℕ) → n ≤ i → PartsLeft i → true ≡ fit_parts τ A ρ d file l p ρ₂ d₂ r q n
  parts_last i h g = let m = g.most in parts_end τ A ρ d file l ρ₂ d₂ r (p + i) (q + i) (n - i) (omega arith) ∙ g.left

  module _ (i : ℕ) (g : PartsLeft i) {x y : Option ℕ} {h : Option Heads} (k : i < n) (e : x ≡ slot_at file l (get_or τ.parts (p + i) 0)) (f : y ≡ slot_at file r (get_or τ.parts (q + i) 0)) (s : h ≡ slots_of x y) where
    parts_step : (k : Option Heads) → h ≡ k → on_heads τ A ρ d file l ρ₂ d₂ r (fit_parts τ A ρ d file l ((p + i) + 1) ρ₂ d₂ r ((q + i) + 1) ((n - i) - 1)) k ≡ fit_parts τ A ρ d file l p ρ₂ d₂ r q n
    parts_step j u = parts_are τ A ρ d file l ρ₂ d₂ r (p + i) (q + i) (n - i) (λ z. omega arith) e f s u ∙ g.left

    pub parts_apart : h ≡ None → false ≡ fit_parts τ A ρ d file l p ρ₂ d₂ r q n
    parts_apart u = parts_step None u

    pub parts_differ : (j : Heads) {v : Bool} → h ≡ Some j → v ≡ fit_values τ A ρ d j.left ρ₂ d₂ j.right → v ≡ false → false ≡ fit_parts τ A ρ d file l p ρ₂ d₂ r q n
    parts_differ c w a b = ap (λ z. z && fit_parts τ A ρ d file l ((p + i) + 1) ρ₂ d₂ r ((q + i) + 1) ((n - i) - 1)) (sym b ∙ a) ∙ parts_step (Some c) w

    pub parts_next : (j : Heads) {v : Bool} → h ≡ Some j → v ≡ fit_values τ A ρ d j.left ρ₂ d₂ j.right → v ≡ true → PartsLeft (i + 1)
    parts_next c w a b =
        let m : p + (i + 1) ≡ (p + i) + 1 = omega arith in
        let j : q + (i + 1) ≡ (q + i) + 1 = omega arith in
        let o : n - (i + 1) ≡ (n - i) - 1 = omega arith in
        record {
          most = omega arith;
          left = rw (m, j, o) (ap (λ z. z && fit_parts τ A ρ d file l ((p + i) + 1) ρ₂ d₂ r ((q + i) + 1) ((n - i) - 1)) (sym b ∙ a) ∙ parts_step (Some c) w);
        }
