-- A row read as a value type: what its form says of the type.
use Prim.Native.Nat.{ℕ, zero, suc, ◌+◌, ◌-◌, ◌≤◌, ◌<◌}
use native.Mathlib.Omega.{arith}
use native.Mathlib.Nat.{add-zero}
use mathlib.Core.Path.{◌≡◌, refl, ap, sym, ◌∙◌}
use mathlib.Core.Bool.{Bool, true, false, cond}
use mathlib.Core.Option.{none, some, none-ne-some}
use mathlib.Core.List.{List, []}
use lib.ListN.{get_or}
use Rattle.syntax.specs.Partial.{guarded}
use Rattle.syntax.specs.Syntax.{Kind, value, stack}
use Rattle.types.specs.Types.{Ty, int, junk, var, tuple, pointer, hidden, code, nil}
use Rattle.types.specs.Rows.{type_at}
use Rattle.types.specs.Equal.{same}
use Rattle.types.proofs.Equal.{same_refl}
use Rattle.valid.specs.Program.{Program, as_code}
use Rattle.valid.specs.Tests.{item_at, as_int, as_tuple, as_pointer, as_hidden}
use Rattle.valid.specs.PassThree.{Judged, ◌▹◌, or_fault, known, integer_at, tuple_at, pointer_at}
use Rattle.types_rows.specs.Read.{tab, lower, lift, value_with, value_at, place_v, OkV, build_v, mean_v, mean_s, parts_of}
use Rattle.types_rows.specs.declared.Val.{Val}
use Rattle.types_rows.specs.declared.Val.TheVariants.{Int, Junk, ValVar, ValFill, Tuple, Pointer, Code, Hidden}
use Rattle.types_rows.proofs.Laws.{lower_low, plain_value, value_is}
use Rattle.types_rows.proofs.Bridge.{type_at_lem, type_in_lem}
use Rattle.types_rows.specs.Environments.{read_in}
use Rattle.types_rows.proofs.Environments.{read_int, read_junk, read_var, read_tuple, read_pointer, read_hidden, read_code, read_none}
use Rattle.tables.specs.Tables.{letters_at}
use Rattle.valid_context.specs.Context.{Reading, linked}
use Rattle.valid_context.specs.Told.{told_of, answer}
use Rattle.valid_context.proofs.Told.{told_stop}
use Rattle.valid_typing.specs.Typing.{types_in, Ready, component_at, code_in, code_read}
use Rattle.valid_typing.proofs.Judging.{if_none, told_guarded, told_next, known_told, some_link, no_link}

-- equal types
pub same_self : (t u : Ty value) → t ≡ u → true ≡ same t u
same_self t u e = sym (same_refl t) ∙ ap (same t) e

-- integer types are equal
type_int : (t : Ty value) (b : Bool) → as_int t ≡ guarded b tt → b ≡ true → t ≡ int
unfolding as_int
type_int int b e q = refl
type_int junk b e q = absurd (none-ne-some tt (e ∙ ap (λ x. guarded x tt) q))
type_int (var k) b e q = absurd (none-ne-some tt (e ∙ ap (λ x. guarded x tt) q))
type_int (tuple a) b e q = absurd (none-ne-some tt (e ∙ ap (λ x. guarded x tt) q))
type_int (pointer a) b e q = absurd (none-ne-some tt (e ∙ ap (λ x. guarded x tt) q))
type_int (hidden t) b e q = absurd (none-ne-some tt (e ∙ ap (λ x. guarded x tt) q))
type_int (code p a r) b e q = absurd (none-ne-some tt (e ∙ ap (λ x. guarded x tt) q))

pub ints_equal : (t u : Ty value) (b c : Bool) → as_int t ≡ guarded b tt → b ≡ true → as_int u ≡ guarded c tt → c ≡ true → t ≡ u
ints_equal t u b c e f g h = type_int t b e f ∙ sym (type_int u c g h)

-- the form of row t, as it is read
pub read_is : (rows parts : List ℕ) (n t h : ℕ) {v : Val} → h ≡ lower (n + 3) t → v ≡ value_at rows (place_v 0 (lift 0) 0) h → type_at value (types_in rows parts n) t ≡ build_v (mean_v (tab rows parts)) (mean_s (tab rows parts)) parts h v
read_is rows parts n t h e f =
    let q : n + 3 ≡ suc (n + 2) = omega arith in
    type_at_lem (tab rows parts) value (n + 2) t ∙ ap (mean_v (tab rows parts)) (sym (e ∙ ap (λ (m : ℕ). lower m t) q)) ∙ value_is (tab rows parts) h ∙ ap (build_v (mean_v (tab rows parts)) (mean_s (tab rows parts)) parts h) (sym (f ∙ plain_value rows h))

pub link_fits : (n t h : ℕ) → h ≡ lower (n + 3) t → h ≤ n + 2
link_fits n t h e = let l = lower_low (n + 3) t (omega arith) in omega arith

-- the row that a link names
pub row_none : (rows parts : List ℕ) (n h : ℕ) → h ≡ 0 → Ready rows parts n → type_at value (types_in rows parts n) (n + 1) ≡ mean_v (tab rows parts) h
row_none rows parts n h e r =
    let l : n + 1 < n + 2 = omega arith in
    type_in_lem (tab rows parts) value (n + 2) (n + 1) l ∙ value_is (tab rows parts) (suc (n + 1)) ∙ ap (build_v (mean_v (tab rows parts)) (mean_s (tab rows parts)) parts (suc (n + 1))) junk_form ∙ sym (ap (mean_v (tab rows parts)) e ∙ value_is (tab rows parts) 0)
  where
    junk_form : value_at rows ValVar (suc (n + 1)) ≡ Junk
    junk_form = rw r.junk_row (unfold value_with in refl)

pub row_some : (rows parts : List ℕ) (n h : ℕ) → (h ≡ 0 → ⊥) → h ≤ n + 2 → type_at value (types_in rows parts n) (h - 1) ≡ mean_v (tab rows parts) h
row_some rows parts n h e l =
    let k : h - 1 < n + 2 = omega arith in
    let q : suc (h - 1) ≡ h = omega arith in
    type_in_lem (tab rows parts) value (n + 2) (h - 1) k ∙ ap (mean_v (tab rows parts)) q

-- a register's type
module _ (P : Program) (Δ : List Kind) (T : Reading) (g : Ty stack) (r x u : ℕ) (e : item_at g r ≡ linked T x u) where
  pub unknown : {A : Type 0} (k : Ty value → Judged A) (y : A) → u ≡ 0 → told_of (known P Δ g r ▹ k) ≡ answer 9 y
  unknown k y z = told_stop (known P Δ g r) k 9 (T.type x (u - 1)) y (rw (no_link 9 u z) at (known_told P Δ T g r x u e)) (omega arith)

  pub reads : {A : Type 0} (k : Ty value → Judged A) (f : ℕ) (y : A) → (u ≡ 0 → ⊥) → told_of (k (T.type x (u - 1))) ≡ answer f y → told_of (known P Δ g r ▹ k) ≡ answer f y
  reads k f y z h = told_next (known P Δ g r) k (if_none 9 u) f (T.type x (u - 1)) y (known_told P Δ T g r x u e) (some_link 9 u z) h

  pub int_unknown : u ≡ 0 → told_of (integer_at P Δ g r) ≡ answer 9 tt
  unfolding integer_at
  int_unknown z = unknown (λ t. or_fault 9 (as_int t)) tt z

  pub int_is : (b : Bool) → (u ≡ 0 → ⊥) → as_int (T.type x (u - 1)) ≡ guarded b tt → told_of (integer_at P Δ g r) ≡ answer (cond b 0 9) tt
  unfolding integer_at
  int_is b z h = reads (λ t. or_fault 9 (as_int t)) (cond b 0 9) tt z (told_guarded 8 _ b tt h)

  pub pointer_unknown : (y : Ty stack) → u ≡ 0 → told_of (pointer_at P Δ g r) ≡ answer 9 y
  unfolding pointer_at
  pointer_unknown y z = unknown (λ t. or_fault 9 (as_pointer t)) y z

  pub pointer_is : (b : Bool) (y : Ty stack) → (u ≡ 0 → ⊥) → as_pointer (T.type x (u - 1)) ≡ guarded b y → told_of (pointer_at P Δ g r) ≡ answer (cond b 0 9) y
  unfolding pointer_at
  pointer_is b y z h = reads (λ t. or_fault 9 (as_pointer t)) (cond b 0 9) y z (told_guarded 8 _ b y h)

  tuple_is : (b : Bool) (c : Ty stack) → (u ≡ 0 → ⊥) → as_tuple (T.type x (u - 1)) ≡ guarded b c → told_of (tuple_at P Δ g r) ≡ answer (cond b 0 9) c
  unfolding tuple_at
  tuple_is b c z h = reads (λ t. or_fault 9 (as_tuple t)) (cond b 0 9) c z (told_guarded 8 _ b c h)

  pub component_unknown : (i : ℕ) (y : Ty value) → u ≡ 0 → told_of (component_at P Δ g r i) ≡ answer 9 y
  component_unknown i y z = told_stop (tuple_at P Δ g r) (λ c. or_fault 11 (item_at c i)) 9 nil y (unfold tuple_at in unknown (λ t. or_fault 9 (as_tuple t)) nil z) (omega arith)

  pub component_other : (i : ℕ) (y : Ty value) → (u ≡ 0 → ⊥) → as_tuple (T.type x (u - 1)) ≡ none → told_of (component_at P Δ g r i) ≡ answer 9 y
  component_other i y z h = told_stop (tuple_at P Δ g r) (λ c. or_fault 11 (item_at c i)) 9 nil y (tuple_is false nil z h) (omega arith)

  pub component_is : (i : ℕ) (c : Ty stack) (b : Bool) (y : Ty value) → (u ≡ 0 → ⊥) → as_tuple (T.type x (u - 1)) ≡ some c → item_at c i ≡ guarded b y → told_of (component_at P Δ g r i) ≡ answer (cond b 0 11) y
  component_is i c b y z h j = told_next (tuple_at P Δ g r) (λ c. or_fault 11 (item_at c i)) 0 (cond b 0 11) c y (tuple_is true c z h) refl (told_guarded 10 _ b y j)

-- an item of a tuple
pub part_is : (v : ℕ → Ty value) (ps : List ℕ) (h p c i : ℕ) → i < c → item_at (parts_of v ps false h p c) i ≡ some (v (lower h (get_or ps (p + i) 0)))
unfolding parts_of item_at
part_is v ps h p zero i l = absurd (omega arith)
part_is v ps h p (suc c) zero l = rw add-zero
part_is v ps h p (suc c) (suc i) l = let q : suc p + i ≡ p + suc i = omega arith in rw (← q) (part_is v ps h (suc p) c i (omega arith))

pub part_past : (v : ℕ → Ty value) (ps : List ℕ) (h p c i : ℕ) → c ≤ i → item_at (parts_of v ps false h p c) i ≡ none
unfolding parts_of item_at
part_past v ps h p zero i l = refl
part_past v ps h p (suc c) zero l = absurd (omega arith)
part_past v ps h p (suc c) (suc i) l = part_past v ps h (suc p) c i (omega arith)

-- forms that are not the one that is asked for
module _ (E : List ℕ) (e : ℕ) (v : ℕ → Ty value) (s : ℕ → Ty stack) (ps : List ℕ) (h : ℕ) where
  pub other_int : (x : Val) → (x ≡ Int → ⊥) → as_int (read_in E e (build_v v s ps h x)) ≡ none
  unfolding as_int
  other_int Int k = absurd (k refl)
  other_int Junk k = rw (read_junk E e)
  other_int (ValVar j) k = rw (read_var E e j)
  other_int (ValFill j) k = rw (read_junk E e)
  other_int (Tuple p c) k = rw (read_tuple E e (parts_of v ps false h p c))
  other_int (Pointer x) k = rw (read_pointer E e (s x))
  other_int (Code x p) k = rw (read_code E e (letters_at ps p) (s x) (parts_of v ps true h p 8))
  other_int (Hidden x) k = rw (read_hidden E e (v x))

  pub other_tuple : (x : Val) → ((p c : ℕ) → x ≡ Tuple p c → ⊥) → as_tuple (read_in E e (build_v v s ps h x)) ≡ none
  unfolding as_tuple
  other_tuple Int k = rw (read_int E e)
  other_tuple Junk k = rw (read_junk E e)
  other_tuple (ValVar j) k = rw (read_var E e j)
  other_tuple (ValFill j) k = rw (read_junk E e)
  other_tuple (Tuple p c) k = absurd (k p c refl)
  other_tuple (Pointer x) k = rw (read_pointer E e (s x))
  other_tuple (Code x p) k = rw (read_code E e (letters_at ps p) (s x) (parts_of v ps true h p 8))
  other_tuple (Hidden x) k = rw (read_hidden E e (v x))

  pub other_pointer : (x : Val) → ((y : ℕ) → x ≡ Pointer y → ⊥) → as_pointer (read_in E e (build_v v s ps h x)) ≡ none
  unfolding as_pointer
  other_pointer Int k = rw (read_int E e)
  other_pointer Junk k = rw (read_junk E e)
  other_pointer (ValVar j) k = rw (read_var E e j)
  other_pointer (ValFill j) k = rw (read_junk E e)
  other_pointer (Tuple p c) k = rw (read_tuple E e (parts_of v ps false h p c))
  other_pointer (Pointer x) k = absurd (k x refl)
  other_pointer (Code x p) k = rw (read_code E e (letters_at ps p) (s x) (parts_of v ps true h p 8))
  other_pointer (Hidden x) k = rw (read_hidden E e (v x))

  pub other_code : (x : Val) → ((y p : ℕ) → x ≡ Code y p → ⊥) → as_code (read_in E e (build_v v s ps h x)) ≡ none
  unfolding as_code
  other_code Int k = rw (read_int E e)
  other_code Junk k = rw (read_junk E e)
  other_code (ValVar j) k = rw (read_var E e j)
  other_code (ValFill j) k = rw (read_junk E e)
  other_code (Tuple p c) k = rw (read_tuple E e (parts_of v ps false h p c))
  other_code (Pointer x) k = rw (read_pointer E e (s x))
  other_code (Code x p) k = absurd (k x p refl)
  other_code (Hidden x) k = rw (read_hidden E e (v x))

  pub other_hidden : (x : Val) → ((y : ℕ) → x ≡ Hidden y → ⊥) → as_hidden (read_in E e (build_v v s ps h x)) ≡ none
  unfolding as_hidden
  other_hidden Int k = rw (read_int E e)
  other_hidden Junk k = rw (read_junk E e)
  other_hidden (ValVar j) k = rw (read_var E e j)
  other_hidden (ValFill j) k = rw (read_junk E e)
  other_hidden (Tuple p c) k = rw (read_tuple E e (parts_of v ps false h p c))
  other_hidden (Pointer x) k = rw (read_pointer E e (s x))
  other_hidden (Code x p) k = rw (read_code E e (letters_at ps p) (s x) (parts_of v ps true h p 8))
  other_hidden (Hidden x) k = absurd (k x refl)

-- the form that is asked for
module _ (rows parts : List ℕ) (n t h : ℕ) {v : Val} (q : h ≡ lower (n + 3) t) (f : v ≡ value_at rows (place_v 0 (lift 0) 0) h) where
  pub form : {w : Val} → v ≡ w → type_at value (types_in rows parts n) t ≡ build_v (mean_v (tab rows parts)) (mean_s (tab rows parts)) parts h w
  form e = read_is rows parts n t h q f ∙ ap (build_v (mean_v (tab rows parts)) (mean_s (tab rows parts)) parts h) e

  pub form_tuple : {p c : ℕ} → v ≡ Tuple p c → as_tuple (type_at value (types_in rows parts n) t) ≡ some (parts_of (mean_v (tab rows parts)) parts false h p c)
  unfolding as_tuple
  form_tuple e = rw (form e)

  pub form_hidden : {x : ℕ} → v ≡ Hidden x → type_at value (types_in rows parts n) t ≡ hidden (mean_v (tab rows parts) x)
  form_hidden e = form e

  module _ (E : List ℕ) (e : ℕ) where
    -- the type of row t, read in environment e
    abbrev read : Ty value
    read = read_in E e (type_at value (types_in rows parts n) t)

    read_form : {w : Val} → v ≡ w → read ≡ read_in E e (build_v (mean_v (tab rows parts)) (mean_s (tab rows parts)) parts h w)
    read_form g = ap (read_in E e) (form g)

    pub is_int : v ≡ Int → as_int read ≡ some tt
    unfolding as_int
    is_int g = rw (read_form g, read_int E e)

    pub is_tuple : {p c : ℕ} → v ≡ Tuple p c → as_tuple read ≡ some (read_in E e (parts_of (mean_v (tab rows parts)) parts false h p c))
    unfolding as_tuple
    is_tuple {p} {c} g = rw (read_form g, read_tuple E e (parts_of (mean_v (tab rows parts)) parts false h p c))

    pub is_pointer : {x : ℕ} → v ≡ Pointer x → as_pointer read ≡ some (read_in E e (mean_s (tab rows parts) x))
    unfolding as_pointer
    is_pointer {x} g = rw (read_form g, read_pointer E e (mean_s (tab rows parts) x))

    pub is_code : {x p : ℕ} → v ≡ Code x p → as_code read ≡ some (code_read E e (code_in rows parts h x p))
    unfolding as_code
    is_code {x} {p} g = rw (read_form g, read_code E e (letters_at parts p) (mean_s (tab rows parts) x) (parts_of (mean_v (tab rows parts)) parts true h p 8))

    pub not_int : (v ≡ Int → ⊥) → as_int read ≡ none
    not_int k = ap as_int (read_form refl) ∙ other_int E e (mean_v (tab rows parts)) (mean_s (tab rows parts)) parts h v k

    pub not_tuple : ((p c : ℕ) → v ≡ Tuple p c → ⊥) → as_tuple read ≡ none
    not_tuple k = ap as_tuple (read_form refl) ∙ other_tuple E e (mean_v (tab rows parts)) (mean_s (tab rows parts)) parts h v k

    pub not_pointer : ((y : ℕ) → v ≡ Pointer y → ⊥) → as_pointer read ≡ none
    not_pointer k = ap as_pointer (read_form refl) ∙ other_pointer E e (mean_v (tab rows parts)) (mean_s (tab rows parts)) parts h v k

    pub not_code : ((y p : ℕ) → v ≡ Code y p → ⊥) → as_code read ≡ none
    not_code k = ap as_code (read_form refl) ∙ other_code E e (mean_v (tab rows parts)) (mean_s (tab rows parts)) parts h v k

    pub not_hidden : ((y : ℕ) → v ≡ Hidden y → ⊥) → as_hidden read ≡ none
    not_hidden k = ap as_hidden (read_form refl) ∙ other_hidden E e (mean_v (tab rows parts)) (mean_s (tab rows parts)) parts h v k

-- the type itself, which every environment reads so
pub plain_none : (t : Ty value) → ((E : List ℕ) (e : ℕ) → as_tuple (read_in E e t) ≡ none) → as_tuple t ≡ none
plain_none t h = ap as_tuple (sym (read_none t)) ∙ h [] 0

-- what a form names is lower
pub code_low : (h : ℕ) {v : Val} {x p : ℕ} → v ≡ Code x p → OkV 0 h v → (x < h) × (p ≤ 65535)
code_low h e o = rw e at o

pub pointer_low : (h : ℕ) {v : Val} {x : ℕ} → v ≡ Pointer x → OkV 0 h v → x < h
pointer_low h e o = rw e at o

pub tuple_low : (h : ℕ) {v : Val} {p c : ℕ} → v ≡ Tuple p c → OkV 0 h v → (p ≤ 65535) × (c ≤ 65535) × (0 < h)
tuple_low h e o = rw e at o

pub hidden_low : (h : ℕ) {v : Val} {x : ℕ} → v ≡ Hidden x → OkV 0 h v → x < h
hidden_low h e o = rw e at o
