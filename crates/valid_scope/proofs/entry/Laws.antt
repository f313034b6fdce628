-- Laws of a block's line.
use Prim.Native.Nat.{ℕ, zero, suc, ◌+◌, ◌≤◌, ◌<◌}
use native.Mathlib.Nat.{add-zero}
use native.Mathlib.Omega.{arith}
use mathlib.Core.Path.{◌≡◌, refl, ap, ap₂, sym, subst, ◌∙◌}
use mathlib.Core.Bool.{Bool, true, false, ◌&&◌, not, cond}
use Rattle.std.specs.Prelude.{Option, Some, None}
use Rattle.std.specs.List.{list_all, range_with_len}
use mathlib.Core.List.{List, [], ◌∷◌, ◌++◌, map}
use lib.Dec.{eqb, ltb}
use lib.ListN.{get_or}
use borrow.Author.Tests.{ne_eqb, eq-eqb, eqb-true, ltb-true}
use Rattle.syntax.specs.Syntax.{Kind, value, stack, Instr}
use Rattle.syntax.specs.Fault.{number_of, lowest, given}
use Rattle.syntax.proofs.Least.{least_of}
use Rattle.types.specs.Types.{Ty, int, junk, tuple, code, nil, push, svar, gap, items, arg, a_stack}
use Rattle.types.specs.Equal.{same, same_letters}
use Rattle.types.specs.Rows.{type_at, types_of}
use Rattle.tables.specs.Tables.{RowTable, cell, span, letter_of, letters_at, rows_in}
use Rattle.types_rows.specs.Read.{tab, lower, lift, value_with, value_at, place_v, OkV, OkSlot, is_stack_at, slot_at, on_slot, build_v, mean_v, mean_s, parts_of, items_at, CountedTo, arg_of}
use Rattle.types_rows.specs.declared.Val.{Val}
use Rattle.types_rows.specs.declared.Val.TheVariants.{Int, Junk, ValVar, ValFill, Tuple, Pointer, Code, Hidden}
use Rattle.types_rows.proofs.Laws.{lower_low, plain_value, value_is, never}
use Rattle.types_rows.proofs.Bridge.{type_at_lem, arg_at}
use Rattle.valid.specs.Program.{Block, as_code, block_of}
use Rattle.valid.specs.Rules.{ints, entry_regs, declared}
use Rattle.valid.specs.Tests.{is_formed, formed_arg, is_entry}
use Rattle.valid.specs.PassThree.{block_faults}
use Rattle.valid_scope.specs.Letters.{letters_of}
use Rattle.valid_scope.specs.declared.entry.Samples.{Samples}
use Rattle.valid_scope.specs.entry.Entry.{gaps, FitFirst, NoTuple, IsTuple, Declares, block_at}

-- ---- value rows
pub read_is : (rows parts : List ℕ) (h : ℕ) {v : Val} → v ≡ value_at rows (place_v 0 (lift 0) 0) h → mean_v (tab rows parts) h ≡ build_v (mean_v (tab rows parts)) (mean_s (tab rows parts)) parts h v
read_is rows parts h e = value_is (tab rows parts) h ∙ ap (build_v (mean_v (tab rows parts)) (mean_s (tab rows parts)) parts h) (sym (e ∙ plain_value rows h))

pub form_is : (rows parts : List ℕ) (h : ℕ) {v w : Val} → v ≡ value_at rows (place_v 0 (lift 0) 0) h → v ≡ w → build_v (mean_v (tab rows parts)) (mean_s (tab rows parts)) parts h w ≡ mean_v (tab rows parts) h
form_is rows parts h e q = sym (read_is rows parts h e ∙ ap (build_v (mean_v (tab rows parts)) (mean_s (tab rows parts)) parts h) q)

-- a row that is an integer, and one of another form
no_int : (v : ℕ → Ty value) (s : ℕ → Ty stack) (ps : List ℕ) (h : ℕ) (w : Val) → (w ≡ Int → ⊥) → same (build_v v s ps h w) int ≡ false
unfolding same
no_int v s ps h Int k = absurd (k refl)
no_int v s ps h Junk k = refl
no_int v s ps h (ValVar j) k = refl
no_int v s ps h (ValFill j) k = refl
no_int v s ps h (Tuple p o) k = refl
no_int v s ps h (Pointer y) k = refl
no_int v s ps h (Hidden y) k = refl
no_int v s ps h (Code y p) k = refl

pub int_row : (rows parts : List ℕ) (h : ℕ) {v : Val} → v ≡ value_at rows (place_v 0 (lift 0) 0) h → v ≡ Int → true ≡ same (mean_v (tab rows parts) h) int
unfolding same
int_row rows parts h e q = ap (λ (x : Ty value). same x int) (form_is rows parts h e q)

pub other_row : (rows parts : List ℕ) (h : ℕ) {v : Val} → v ≡ value_at rows (place_v 0 (lift 0) 0) h → (v ≡ Int → ⊥) → false ≡ same (mean_v (tab rows parts) h) int
other_row rows parts h {v} e k = sym (no_int (mean_v (tab rows parts)) (mean_s (tab rows parts)) parts h v k) ∙ ap (λ (x : Ty value). same x int) (form_is rows parts h e refl)

some_zero : (k : ℕ) → eqb (suc k) 0 ≡ false
some_zero k = ne_eqb (suc k) 0 (λ e. omega arith)

-- ---- components that are integers, and registers that are not named
module _ (v : ℕ → Ty value) (ps : List ℕ) (h p : ℕ) where
  ints_from : (i c : ℕ) → list_all (λ j. same (v (lower h (get_or ps (p + j) 0))) int) (range_with_len i c) ≡ same (parts_of v ps false h (p + i) c) (ints c)
  unfolding parts_of ints same
  ints_from i zero = refl
  ints_from i (suc c) =
      let e : p + (i + 1) ≡ suc (p + i) = omega arith in
      ap (λ b. same (v (lower h (get_or ps (p + i) 0))) int && b) (ints_from (i + 1) c ∙ ap (λ j. same (parts_of v ps false h j c) (ints c)) e)

  pub ints_all : (c : ℕ) → list_all (λ j. same (v (lower h (get_or ps (p + j) 0))) int) (range_with_len 0 c) ≡ same (parts_of v ps false h p c) (ints c)
  ints_all c = ints_from 0 c ∙ ap (λ j. same (parts_of v ps false h j c) (ints c)) (add-zero p)

  gap_front : (x : ℕ) (a : Ty stack) (k : ℕ) → eqb x 0 && same a (gaps k) ≡ same (on_slot v (slot_at true h x) a) (gaps (suc k))
  unfolding gaps same
  gap_front zero a k = refl
  gap_front (suc x) a k = ap (λ b. b && same a (gaps k)) (some_zero x)

  gaps_from : (i k : ℕ) → list_all (λ j. eqb (get_or ps (p + j) 0) 0) (range_with_len i k) ≡ same (parts_of v ps true h (p + i) k) (gaps k)
  unfolding parts_of gaps same
  gaps_from i zero = refl
  gaps_from i (suc k) =
      let e : p + (i + 1) ≡ suc (p + i) = omega arith in
      ap (λ b. eqb (get_or ps (p + i) 0) 0 && b) (gaps_from (i + 1) k ∙ ap (λ j. same (parts_of v ps true h j k) (gaps k)) e)
      ∙ gap_front (get_or ps (p + i) 0) (parts_of v ps true h (suc (p + i)) k) k

  pub gaps_all : (k : ℕ) → list_all (λ j. eqb (get_or ps (p + j) 0) 0) (range_with_len 0 k) ≡ same (parts_of v ps true h p k) (gaps k)
  gaps_all k = gaps_from 0 k ∙ ap (λ j. same (parts_of v ps true h j k) (gaps k)) (add-zero p)

-- ---- r1
abbrev pub NoTupleForm : Val → Type 0
NoTupleForm w = (p c : ℕ) → w ≡ Tuple p c → ⊥

none_by : (t : Ty value) → ((g : Ty stack) → 0 ≡ declared (push t g)) → same t (tuple nil) ≡ false → NoTuple (push t)
unfolding same entry_regs ints gaps
none_by t d n = record {
  count = d;
  fit = λ g. ap (λ (k : ℕ). same (push t g) (entry_regs k)) (sym (d g)) ∙ ap (λ (b : Bool). b && same g (gap (gap (gap (gap (gap (gap (gap nil)))))))) n;
}

no_tuple : (v : ℕ → Ty value) (s : ℕ → Ty stack) (ps : List ℕ) (h : ℕ) (w : Val) → NoTupleForm w → NoTuple (push (build_v v s ps h w))
unfolding declared same
no_tuple v s ps h Int k = none_by _ (λ g. refl) refl
no_tuple v s ps h Junk k = none_by _ (λ g. refl) refl
no_tuple v s ps h (ValVar j) k = none_by _ (λ g. refl) refl
no_tuple v s ps h (ValFill j) k = none_by _ (λ g. refl) refl
no_tuple v s ps h (Tuple p o) k = absurd (k p o refl)
no_tuple v s ps h (Pointer y) k = none_by _ (λ g. refl) refl
no_tuple v s ps h (Hidden y) k = none_by _ (λ g. refl) refl
no_tuple v s ps h (Code y p) k = none_by _ (λ g. refl) refl

pub other_tuple : (rows parts : List ℕ) (h : ℕ) {v : Val} → v ≡ value_at rows (place_v 0 (lift 0) 0) h → NoTupleForm v → NoTuple (push (mean_v (tab rows parts) h))
other_tuple rows parts h {v} e k =
    subst (λ (t : Ty value). NoTuple (push t)) (form_is rows parts h e refl) (no_tuple (mean_v (tab rows parts)) (mean_s (tab rows parts)) parts h v k)

pub tuple_ok : (h : ℕ) {v : Val} {p c : ℕ} → v ≡ Tuple p c → OkV 0 h v → h ≤ 65536 → (h ≤ 65536) × (0 < h) × (p ≤ 65535) × (c ≤ 65535)
tuple_ok h {p = p} {c = c} e o l = let q : OkV 0 h (Tuple p c) = subst (OkV 0 h) e o in (l, q.2, q.0, q.1)

pub is_tuple : (rows parts : List ℕ) (h : ℕ) {v : Val} {p c : ℕ} → v ≡ value_at rows (place_v 0 (lift 0) 0) h → v ≡ Tuple p c → OkV 0 h v → h ≤ 65536 → IsTuple (tab rows parts) (push (mean_v (tab rows parts) h)) (record { row = h; start = p; count = c })
is_tuple rows parts h e q o l =
    let k = tuple_ok h q o l in
    record { is = ap push (form_is rows parts h e q); named = k.1; low = l; file = k.2; few = k.3 }

pub declares_none : {τ : RowTable} {r : Ty stack → Ty stack} → NoTuple r → Declares τ r None
declares_none n = record { no = λ e. n; yes = λ x e. absurd (cc) }

pub declares_tuple : {τ : RowTable} {r : Ty stack → Ty stack} {x : Samples} → IsTuple τ r x → Declares τ r (Some x)
declares_tuple {τ} {r} {x} t = record { no = λ e. absurd (cc); yes = λ y e. let q : x ≡ y = cc in subst (IsTuple τ r) q t }

pub declares_gap : NoTuple gap
unfolding declared same entry_regs gaps
declares_gap = record { count = λ g. refl; fit = λ g. refl }

pub declares_as : {τ : RowTable} {f g : Ty stack → Ty stack} {o : Option Samples} → f ≡ g → Declares τ f o → Declares τ g o
declares_as {τ} {o = o} e d = subst (λ h. Declares τ h o) e d

pub items_parts : (v : ℕ → Ty value) (ps : List ℕ) (h p c : ℕ) → items (parts_of v ps false h p c) ≡ c
unfolding parts_of items
items_parts v ps h p zero = refl
items_parts v ps h p (suc c) = ap suc (items_parts v ps h (suc p) c)

tuple_fit : (a : Ty stack) (b : Bool) (c : ℕ) → items a ≡ c → b ≡ same a (ints c) → FitFirst (push (tuple a)) b
unfolding declared same entry_regs gaps
tuple_fit a b c e f = λ g. ap (λ k. same a (ints k) && same g (gap (gap (gap (gap (gap (gap (gap nil)))))))) e ∙ ap (λ (x : Bool). x && same g (gap (gap (gap (gap (gap (gap (gap nil)))))))) (sym f)

module _ {τ : RowTable} {r : Ty stack → Ty stack} where
  pub first_fit : {x : Samples} {b : Bool} → IsTuple τ r x → b ≡ same (parts_of (mean_v τ) τ.parts false x.row x.start x.count) (ints x.count) → FitFirst r b
  first_fit {x} {b} d e = subst (λ f. FitFirst f b) d.is (tuple_fit _ b x.count (items_parts (mean_v τ) τ.parts x.row x.start x.count) e)

  first_count : {x : Samples} → IsTuple τ r x → (g : Ty stack) → x.count ≡ declared (r g)
  unfolding declared
  first_count {x} d g = sym (items_parts (mean_v τ) τ.parts x.row x.start x.count) ∙ ap (λ (f : Ty stack → Ty stack). declared (f g)) d.is

-- ---- the least of three faults
unbound_least : (b c : Bool) → least_of (given true 7 ++ given b 8 ++ given c 13) ≡ 7
unfolding least_of given number_of lowest
unbound_least true true = refl
unbound_least true false = refl
unbound_least false true = refl
unbound_least false false = refl

unfit_least : (c : Bool) → least_of (given false 7 ++ given true 8 ++ given c 13) ≡ 8
unfolding least_of given number_of lowest
unfit_least true = refl
unfit_least false = refl

deep_least : (c : Bool) → least_of (given false 7 ++ given false 8 ++ given c 13) ≡ cond c 13 0
unfolding least_of given number_of lowest
deep_least true = refl
deep_least false = refl

-- block 0 is fit as the entry, and another need not be
pub entry_first : (first : Bool) {f e : Bool} → f ≡ e → f ≡ true → first && not e ≡ false
entry_first first {f} {e} i t = ap (λ z. first && not z) (sym i ∙ t) ∙ last first
  where
    last : (b : Bool) → b && false ≡ false
    last true = refl
    last false = refl

pub entry_later : (first e : Bool) → first ≡ false → first && not e ≡ false
entry_later first e t = ap (λ z. z && not e) t

-- ---- the entry
letters_none : (ps : List ℕ) (i k : ℕ) → same_letters (map letter_of (span ps i k)) [] ≡ eqb k 0
unfolding same_letters span
letters_none ps i zero = refl
letters_none ps i (suc k) = go (letter_of (get_or ps i 0)) ∙ sym (some_zero k)
  where
    go : (κ : Kind) → same_letters (κ ∷ map letter_of (span ps (suc i) k)) [] ≡ false
    go value = refl
    go stack = refl

stack_none : (a : Ty stack) → same a nil ≡ eqb (items a) 0
unfolding same items
stack_none nil = refl
stack_none (push t a) = sym (some_zero (items a))
stack_none (svar k a) = sym (some_zero (items a))
stack_none (gap a) = sym (some_zero (items a))

module _ (rows parts : List ℕ) (h x p : ℕ) (xs : List Instr) where
  abbrev τ : RowTable
  τ = tab rows parts

  abbrev regs : Ty stack
  regs = parts_of (mean_v τ) parts true h p 8

  entry_is : (l s f : Bool) → l ≡ same_letters (letters_at parts p) [] → s ≡ same (mean_s τ x) nil → f ≡ same regs (entry_regs (declared regs)) → l && (s && f) ≡ is_entry (block_at τ h x p xs)
  unfolding is_entry
  entry_is l s f e g i = ap₂ (λ (a b : Bool). a && (b && f)) e g ∙ ap (λ (c : Bool). same_letters (letters_at parts p) [] && (same (mean_s τ x) nil && c)) i

  binds : (k : ℕ) → k ≡ get_or parts (p + 8) 0 → eqb k 0 ≡ same_letters (letters_at parts p) []
  unfolding letters_at
  binds k e = ap (λ (j : ℕ). eqb j 0) e ∙ sym (letters_none parts (p + 9) (get_or parts (p + 8) 0))

  holds_none : (k : ℕ) → k ≡ items_at rows x → CountedTo τ x → eqb k 0 ≡ same (mean_s τ x) nil
  holds_none k e c = ap (λ (j : ℕ). eqb j 0) (e ∙ c x (omega arith)) ∙ sym (stack_none (mean_s τ x))

  registers_fit : (f b : Bool) → FitFirst (on_slot (mean_v τ) (slot_at true h (get_or parts p 0))) f → b ≡ same (parts_of (mean_v τ) parts true h (p + 1) 7) (gaps 7) → f && b ≡ same regs (entry_regs (declared regs))
  unfolding parts_of
  registers_fit f b d e =
      let q : p + 1 ≡ suc p = omega arith in
      ap (λ (c : Bool). f && c) (e ∙ ap (λ (j : ℕ). same (parts_of (mean_v τ) parts true h j 7) (gaps 7)) q) ∙ sym (d (parts_of (mean_v τ) parts true h (suc p) 7))

  false_left : (a : Bool) → false ≡ a && false
  false_left true = refl
  false_left false = refl

  pub entry_letters : (k : ℕ) → k ≡ get_or parts (p + 8) 0 → (k ≡ 0 → ⊥) → false ≡ is_entry (block_at τ h x p xs)
  entry_letters k e z = entry_is false (same (mean_s τ x) nil) (same regs (entry_regs (declared regs))) (sym (ne_eqb k 0 z) ∙ binds k e) refl refl

  pub entry_items : (k : ℕ) → k ≡ items_at rows x → CountedTo τ x → eqb k 0 ≡ false → false ≡ is_entry (block_at τ h x p xs)
  entry_items k e c z = false_left (same_letters (letters_at parts p) []) ∙ entry_is (same_letters (letters_at parts p) []) false (same regs (entry_regs (declared regs))) refl (sym z ∙ holds_none k e c) refl

  pub entry_unfit : (f : Bool) → FitFirst (on_slot (mean_v τ) (slot_at true h (get_or parts p 0))) f → f ≡ false → false ≡ is_entry (block_at τ h x p xs)
  entry_unfit f d z =
      false_left (same_letters (letters_at parts p) [])
      ∙ ap (λ (b : Bool). same_letters (letters_at parts p) [] && b) (false_left (same (mean_s τ x) nil))
      ∙ entry_is (same_letters (letters_at parts p) []) (same (mean_s τ x) nil) false refl refl (ap (λ (b : Bool). b && same (parts_of (mean_v τ) parts true h (p + 1) 7) (gaps 7)) (sym z) ∙ registers_fit f _ d refl)

  pub entry_fit : (k j : ℕ) (f b : Bool) → k ≡ get_or parts (p + 8) 0 → k ≡ 0 → j ≡ items_at rows x → CountedTo τ x → eqb j 0 ≡ true
      → FitFirst (on_slot (mean_v τ) (slot_at true h (get_or parts p 0))) f → f ≡ true → b ≡ same (parts_of (mean_v τ) parts true h (p + 1)
      7) (gaps 7) → b ≡ is_entry (block_at τ h x p xs)
  entry_fit k j f b e z i c y d t g =
      entry_is true true b (sym (eq-eqb k 0 z) ∙ binds k e) (sym y ∙ holds_none j i c) (ap (λ (a : Bool). a && b) (sym t) ∙ registers_fit f b d g)

-- ---- rows that are no code rows
abbrev pub NoCode : Val → Type 0
NoCode w = (x p : ℕ) → w ≡ Code x p → ⊥

-- ---- the block of a row
module _ (rows parts : List ℕ) (n c h : ℕ) {v : Val} (e : h ≡ lower (n + 1) c) (f : v ≡ value_at rows (place_v 0 (lift 0) 0) h) where
  row_type_lem : {w : Val} → v ≡ w → type_at value (types_of (rows_in (tab rows parts) n)) c ≡ build_v (mean_v (tab rows parts)) (mean_s (tab rows parts)) parts h w
  row_type_lem q =
      let l : n + 1 ≡ suc n = omega arith in
      type_at_lem (tab rows parts) value n c ∙ ap (mean_v (tab rows parts)) (sym (e ∙ ap (λ (m : ℕ). lower m c) l)) ∙ sym (form_is rows parts h f q)

  pub block_is : {x p : ℕ} (xs : List Instr) → v ≡ Code x p → block_of (type_at value (types_of (rows_in (tab rows parts) n)) c) xs ≡ block_at (tab rows parts) h x p xs
  unfolding block_of as_code
  block_is xs q = ap (λ (t : Ty value). block_of t xs) (row_type_lem q)

  no_block : (w : Val) (xs : List Instr) → NoCode w → block_of (build_v (mean_v (tab rows parts)) (mean_s (tab rows parts)) parts h w) xs ≡ record { letters = []; sp = nil; regs = nil; body = xs }
  unfolding block_of as_code
  no_block Int xs k = refl
  no_block Junk xs k = refl
  no_block (ValVar j) xs k = refl
  no_block (ValFill j) xs k = refl
  no_block (Tuple p o) xs k = refl
  no_block (Pointer y) xs k = refl
  no_block (Hidden y) xs k = refl
  no_block (Code y p) xs k = absurd (k y p refl)

  pub other_block : (xs : List Instr) → NoCode v → block_of (type_at value (types_of (rows_in (tab rows parts) n)) c) xs ≡ record { letters = []; sp = nil; regs = nil; body = xs }
  other_block xs k = ap (λ (t : Ty value). block_of t xs) (row_type_lem refl) ∙ no_block v xs k

  -- no code row: 7
  pub other_fault : (first : Bool) (xs : List Instr) → NoCode v → 7 ≡ least_of (block_faults first (block_of (type_at value (types_of (rows_in (tab rows parts) n)) c) xs))
  unfolding block_faults is_formed items least_of given number_of lowest is_entry same_letters same entry_regs declared
  other_fault first xs k = go first ∙ ap (λ (B : Block). least_of (block_faults first B)) (sym (other_block xs k))
    where
      go : (b : Bool) → 7 ≡ least_of (block_faults b (record { letters = []; sp = nil; regs = nil; body = xs }))
      go true = refl
      go false = refl

  pub other_samples : (xs : List Instr) → NoCode v → 0 ≡ declared (block_of (type_at value (types_of (rows_in (tab rows parts) n)) c) xs).regs
  unfolding declared
  other_samples xs k = ap (λ (B : Block). declared B.regs) (sym (other_block xs k))

  code_count : {x p : ℕ} (xs : List Instr) (k : ℕ) → v ≡ Code x p → ((g : Ty stack) → k ≡ declared (on_slot (mean_v (tab rows parts)) (slot_at true h (get_or parts p 0)) g)) → k ≡ declared (block_of (type_at value (types_of (rows_in (tab rows parts) n)) c) xs).regs
  unfolding parts_of
  code_count {x} {p} xs k q d = d (parts_of (mean_v (tab rows parts)) parts true h (suc p) 7) ∙ ap (λ (B : Block). declared B.regs) (sym (block_is {x = x} {p = p} xs q))

  pub tuple_samples : {x p : ℕ} (xs : List Instr) {o : Option Samples} {y : Samples} → v ≡ Code x p → o ≡ Some y → Declares (tab rows parts) (on_slot (mean_v (tab rows parts)) (slot_at true h (get_or parts p 0))) o → y.count ≡ declared (block_of (type_at value (types_of (rows_in (tab rows parts) n)) c) xs).regs
  tuple_samples {x} {p} xs {o} {y} q i d = code_count {x = x} {p = p} xs y.count q (first_count (d.yes y i))

  pub no_samples : {x p : ℕ} (xs : List Instr) {o : Option Samples} → v ≡ Code x p → o ≡ None → Declares (tab rows parts) (on_slot (mean_v (tab rows parts)) (slot_at true h (get_or parts p 0))) o → 0 ≡ declared (block_of (type_at value (types_of (rows_in (tab rows parts) n)) c) xs).regs
  no_samples {x} {p} xs q i d = code_count {x = x} {p = p} xs 0 q (d.no i).count

  -- ---- well-formed
  code_kind_lem : (k a b x p : ℕ) → value_with ValVar h k a b ≡ Code x p → k ≡ 5
  unfolding value_with
  code_kind_lem k a b x p q = go (eqb k 0) (eqb k 2) (eqb k 3) (eqb k 4) (eqb k 5) (eqb k 6) refl q
    where
      tag : Val → ℕ
      tag Int = 0
      tag Junk = 0
      tag (ValVar j) = 0
      tag (ValFill j) = 0
      tag (Tuple y o) = 0
      tag (Pointer y) = 0
      tag (Code y o) = 1
      tag (Hidden y) = 0

      go : (i j l m o n : Bool) → eqb k 5 ≡ o → cond i Int (cond j (ValVar a) (cond l (Tuple a b) (cond m (Pointer (lower h a)) (cond o (Code (lower h a) b) (cond n (Hidden (lower h a)) Junk))))) ≡ Code x p → k ≡ 5
      go true j l m o n r z = never (ap tag z)
      go false true l m o n r z = never (ap tag z)
      go false false true m o n r z = never (ap tag z)
      go false false false true o n r z = never (ap tag z)
      go false false false false true n r z = eqb-true k 5 r
      go false false false false false true r z = never (ap tag z)
      go false false false false false false r z = never (ap tag z)

-- ---- what a form names is small
pub slot_ok : (h : ℕ) {s : Option ℕ} {t : ℕ} → s ≡ Some t → OkSlot h s → h ≤ 65536 → t ≤ 65536
slot_ok h {t = t} e o l = let q : OkSlot h (Some t) = subst (OkSlot h) e o in omega arith

pub code_ok : (h : ℕ) {v : Val} {x p : ℕ} → v ≡ Code x p → OkV 0 h v → (x < h) × (p ≤ 65535)
code_ok h {x = x} {p = p} e o = subst (OkV 0 h) e o

pub link_ok : (n c h : ℕ) → h ≡ lower (n + 1) c → n ≤ 512 → (h ≤ 65536) × (0 + 0 ≤ 1099511627776)
link_ok n c h e l = let k = lower_low (n + 1) c (omega arith) in (omega arith, omega arith)

link_some : (b : Bool) (n c h : ℕ) → h ≡ cond b (suc c) 0 → ltb (suc c) (n + 1) ≡ b → 0 < h → (c < n) × (h ≡ suc c)
link_some true n c h e q l = let k = ltb-true (suc c) (n + 1) q in (omega arith, e)
link_some false n c h e q l = absurd (omega arith)

module _ (rows parts : List ℕ) (n c h : ℕ) {v : Val} {x p : ℕ} (e : h ≡ lower (n + 1) c) (f₀ : v ≡ value_at rows (place_v 0 (lift 0) 0) h) (q : v ≡ Code x p) (o : OkV 0 h v) where
  pub code_low : (x < h) × (p ≤ 65535) × (0 < h)
  code_low = let k = code_ok h q o in (k.0, k.1, omega (arith, k.0))

  pub code_in : (c < n) × (h ≡ suc c)
  code_in = link_some (ltb (suc c) (n + 1)) n c h e refl code_low.2

  kind_five : cell 4 rows c 0 ≡ 5
  kind_five =
      let z : value_at rows ValVar (suc c) ≡ Code x p = ap (value_at rows ValVar) (sym code_in.1) ∙ sym (plain_value rows h) ∙ sym f₀ ∙ q in
      code_kind_lem rows parts n c h e f₀ (cell 4 rows c 0) (cell 4 rows c 1) (cell 4 rows c 2) x p (ap (λ (j : ℕ). value_with ValVar j (cell 4 rows c 0) (cell 4 rows c 1) (cell 4 rows c 2)) code_in.1 ∙ z)

  no_stack : is_stack_at rows c ≡ false
  no_stack = rw kind_five refl

  pub formed_is : (b : Bool) → b ≡ formed_arg (letters_of parts (record { hidden = 0; count = 0; start = 0 })) (get_or (types_of (rows_in (tab rows parts) n)) c (arg value junk)) → b ≡ is_formed [] a_stack (code (letters_at parts p) (mean_s (tab rows parts) x) (parts_of (mean_v (tab rows parts)) parts true h p 8))
  unfolding formed_arg span arg_of
  formed_is b g =
      g
      ∙ ap (formed_arg []) (arg_at (tab rows parts) n c code_in.0 ∙ ap (λ (z : Bool). cond z (arg stack (mean_s (tab rows parts) (suc c))) (arg value (mean_v (tab rows parts) (suc c)))) no_stack)
      ∙ ap (λ (t : Ty value). is_formed [] a_stack t) (ap (mean_v (tab rows parts)) (sym code_in.1) ∙ sym (form_is rows parts h f₀ q))

  -- the faults of the block's line
  faults_are : (first a f : Bool) (k : ℕ) (xs : List Instr) → a ≡ formed_arg (letters_of parts (record { hidden = 0; count = 0; start = 0 }))
      (get_or (types_of (rows_in (tab rows parts) n)) c (arg value junk)) → f ≡ is_entry (block_at (tab rows parts) h x p xs)
      → k ≡ items_at rows x → CountedTo (tab rows parts) n → least_of (given (not a) 7 ++ given (first && not f) 8 ++ given (ltb 64 k) 13)
      ≡ least_of (block_faults first (block_of (type_at value (types_of (rows_in (tab rows parts) n)) c) xs))
  unfolding block_faults
  faults_are first a f k xs g i j l =
      ap₂ (λ (y z : Bool). least_of (given (not y) 7 ++ given (first && not z) 8 ++ given (ltb 64 k) 13)) (formed_is a g) i
      ∙ ap (λ (z : ℕ). least_of (given (not (is_formed [] a_stack (code (letters_at parts p) (mean_s (tab rows parts) x)
      (parts_of (mean_v (tab rows parts)) parts true h p 8)))) 7 ++ given (first && not (is_entry (block_at (tab rows parts) h x p xs))) 8
      ++ given (ltb 64 z) 13)) (j ∙ l x (let w = code_low.0 in let y = code_in in omega (arith, y.0, y.1)))
      ∙ ap (λ (B : Block). least_of (block_faults first B)) (sym (block_is rows parts n c h e f₀ {x = x} {p = p} xs q))

  module _ (first a : Bool) (xs : List Instr) (g : a ≡ formed_arg (letters_of parts (record { hidden = 0; count = 0; start = 0 })) (get_or (types_of (rows_in (tab rows parts) n)) c (arg value junk))) (l : CountedTo (tab rows parts) n) where
    pub block_unbound : a ≡ false → 7 ≡ least_of (block_faults first (block_of (type_at value (types_of (rows_in (tab rows parts) n)) c) xs))
    block_unbound r =
        sym (unbound_least (first && not (is_entry (block_at (tab rows parts) h x p xs))) (ltb 64 (items_at rows x)))
        ∙ ap (λ y. least_of (given (not y) 7 ++ given (first && not (is_entry (block_at (tab rows parts) h x p xs))) 8 ++ given (ltb 64 (items_at rows x)) 13)) (sym r)
        ∙ faults_are first a (is_entry (block_at (tab rows parts) h x p xs)) (items_at rows x) xs g refl refl l

    pub block_unfit : (f : Bool) → a ≡ true → f ≡ is_entry (block_at (tab rows parts) h x p xs) → first ≡ true → f ≡ false → 8 ≡ least_of (block_faults first (block_of (type_at value (types_of (rows_in (tab rows parts) n)) c) xs))
    block_unfit f r i t q =
        sym (unfit_least (ltb 64 (items_at rows x)))
        ∙ ap₂ (λ y z. least_of (given (not y) 7 ++ given z 8 ++ given (ltb 64 (items_at rows x)) 13)) (sym r) (sym (ap₂ (λ y z. y && not z) t q))
        ∙ faults_are first a f (items_at rows x) xs g i refl l

    pub block_rest : {k out : ℕ} → a ≡ true → first && not (is_entry (block_at (tab rows parts) h x p xs)) ≡ false → k ≡ items_at rows x → out ≡ cond (ltb 64 k) 13 0 → out ≡ least_of (block_faults first (block_of (type_at value (types_of (rows_in (tab rows parts) n)) c) xs))
    block_rest {k} r q j o =
        o
        ∙ sym (deep_least (ltb 64 k))
        ∙ ap₂ (λ y z. least_of (given (not y) 7 ++ given z 8 ++ given (ltb 64 k) 13)) (sym r) (sym q)
        ∙ faults_are first a (is_entry (block_at (tab rows parts) h x p xs)) k xs g refl j l

  pub counted_stack : CountedTo (tab rows parts) n → CountedTo (tab rows parts) x
  counted_stack l y k = l y (let w = code_low.0 in let z = code_in in omega (arith, z.0, z.1))
