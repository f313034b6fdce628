-- Laws of single fields and of a form's plain fields in a row.
-- Assumes nothing.
use mathlib.Core.Path.{◌≡◌, refl, ap, sym, ◌∙◌}
use mathlib.Core.Bool.{Bool, true, false, cond}
use mathlib.Core.List.{List, [], ◌∷◌}
use mathlib.Core.Option.{Option, none, some, none-ne-some, some-injective}
use Prim.Native.Nat.{ℕ, zero, suc, ◌+◌, ◌-◌, ◌<◌, ◌≤◌}
use native.Mathlib.Omega.{arith}
use lib.Dec.{eqb}
use lib.ListN.{length, take, drop}
use Rattle.syntax.specs.Partial.{chain, guarded}
use Rattle.text.specs.Bytes.{bytes, same_bytes, number}
use Rattle.text.specs.Grammar.{row_number, index, amount, register, known}
use Rattle.text_lines.specs.Parts.{first_part}
use Rattle.text_fields.proofs.numbers.Laws.{number_bounds}
use Rattle.text_decode.specs.line.Fields.{fields_from, plain_field, read_slot, read_slots, kept_as, part_number}
use Rattle.text_decode.specs.line.Forms.{form_cell, kinds_of, form_of}
use Rattle.text_decode.specs.declared.line.Form.{Form}
use Rattle.text_decode.proofs.line.Walk.{fields_past, fields_next}

-- ---- their numbers fit
number_small : (low high : ℕ) (f : List ℕ) (v : ℕ) → high < 600 → number low high f ≡ some v → v < 600
number_small low high f v l h = let b = number_bounds low high f v h in omega arith

less_small : (o : Option ℕ) (v : ℕ) → ((w : ℕ) → o ≡ some w → w < 600) → chain o (λ n. some (n - 1)) ≡ some v → v < 600
less_small none v r h = absurd (none-ne-some v h)
less_small (some n) v r h = let e = some-injective (n - 1) v h in let q = r n refl in omega arith

register_small : (f : List ℕ) (v : ℕ) → register f ≡ some v → v < 600
unfolding register
register_small [] v h = absurd (none-ne-some v h)
register_small (b ∷ s) v h = go (eqb b 114) h
  where
    go : (t : Bool) → chain (guarded t s) (λ z. chain (number 1 8 z) (λ n. some (n - 1))) ≡ some v → v < 600
    go true e = less_small (number 1 8 s) v (λ w. number_small 1 8 s w (omega arith)) e
    go false e = absurd (none-ne-some v e)

pub plain_small : (kind : ℕ) (f : List ℕ) (v : ℕ) → plain_field kind f ≡ some v → v < 600
unfolding plain_field row_number index amount
plain_small kind f v h = go (eqb kind 1) (eqb kind 2) (eqb kind 3) h
  where
    go : (a b c : Bool) → cond a (register f) (cond b (number 0 511 f) (cond c (number 0 63 f) (number 0 64 f))) ≡ some v → v < 600
    go true b c e = register_small f v e
    go false true c e = number_small 0 511 f v (omega arith) e
    go false false true e = number_small 0 63 f v (omega arith) e
    go false false false e = number_small 0 64 f v (omega arith) e

pub part_small : (b : Bool) (f : List ℕ) (v : ℕ) → part_number b f ≡ some v → v < 600
unfolding part_number known row_number
part_small false f v h = number_small 0 511 f v (omega arith) h
part_small true f v h = go (same_bytes f (bytes "-")) (number 0 511 f) (λ w e. let b = number_bounds 0 511 f w e in omega arith) h
  where
    go : (t : Bool) (o : Option ℕ) → ((w : ℕ) → o ≡ some w → w < 512) → chain (cond t (some none) (chain o (λ r. some (some r)))) (λ x. some (kept_as x)) ≡ some v → v < 600
    go true o r e = let q = some-injective 0 v e in omega arith
    go false none r e = absurd (none-ne-some v e)
    go false (some w) r e = let q = some-injective (suc w) v e in let l = r w refl in omega arith

-- ---- the field at a place, of a kind that takes one
module _ (line : List ℕ) (at kind : ℕ) where
  pub slot_zero : kind ≡ 0 → some (0, fields_from line at) ≡ read_slot kind (fields_from line at)
  unfolding read_slot
  slot_zero e = ap (λ (k : ℕ). read_slot k (fields_from line at)) (sym e)

  slot_none : (k : ℕ) → (k ≡ 0 → ⊥) → read_slot k [] ≡ none
  unfolding read_slot
  slot_none zero h = absurd (h refl)
  slot_none (suc k) h = refl

  slot_first : (k : ℕ) (f : List ℕ) (fs : List (List ℕ)) → (k ≡ 0 → ⊥) → read_slot k (f ∷ fs) ≡ chain (plain_field k f) (λ n. some (n, fs))
  unfolding read_slot
  slot_first zero f fs h = absurd (h refl)
  slot_first (suc k) f fs h = refl

  pub slot_past : (kind ≡ 0 → ⊥) → length line < at → none ≡ read_slot kind (fields_from line at)
  slot_past h l = sym (ap (read_slot kind) (fields_past line at l) ∙ slot_none kind h)

  module _ (e : ℕ) (is : e ≡ at + length (first_part 44 (drop at line))) (h : kind ≡ 0 → ⊥) (l : at ≤ length line) where
    slot_here : read_slot kind (fields_from line at) ≡ chain (plain_field kind (take (e - at) (drop at line))) (λ n. some (n, fields_from line (e + 1)))
    slot_here = ap (read_slot kind) (fields_next line at e is l) ∙ slot_first kind (take (e - at) (drop at line)) (fields_from line (e + 1)) h

    pub slot_bad : plain_field kind (take (e - at) (drop at line)) ≡ none → none ≡ read_slot kind (fields_from line at)
    slot_bad q = sym (slot_here ∙ simp q)

    pub slot_is : (v : ℕ) → plain_field kind (take (e - at) (drop at line)) ≡ some v → some (v, fields_from line (e + 1)) ≡ read_slot kind (fields_from line at)
    slot_is v q = sym (slot_here ∙ simp q)

-- ---- one after the other, each from where the one before left off
abbrev Read : Type 0
Read = List ℕ × List (List ℕ)

module _ (k : ℕ) (ks : List ℕ) (fs : List (List ℕ)) where
  pub slots_bad : none ≡ read_slot k fs → none ≡ read_slots (k ∷ ks) fs
  unfolding read_slots
  slots_bad e = simp (← e)

  module _ (v : ℕ) (gs : List (List ℕ)) (e : some (v, gs) ≡ read_slot k fs) where
    slots_on : read_slots (k ∷ ks) fs ≡ chain (read_slots ks gs) (λ q. some (v ∷ q.0, q.1))
    unfolding read_slots
    slots_on = simp (← e)

    pub slots_none : none ≡ read_slots ks gs → none ≡ read_slots (k ∷ ks) fs
    slots_none h = sym (slots_on ∙ ap (λ (o : Option Read). chain {B = Read} o (λ q. some (v ∷ q.0, q.1))) (sym h))

    pub slots_some : (vs : List ℕ) (hs : List (List ℕ)) → some (vs, hs) ≡ read_slots ks gs → some (v ∷ vs, hs) ≡ read_slots (k ∷ ks) fs
    slots_some vs hs h = sym (slots_on ∙ ap (λ (o : Option Read). chain {B = Read} o (λ q. some (v ∷ q.0, q.1))) (sym h))

pub slots_end : (fs : List (List ℕ)) → some ([], fs) ≡ read_slots [] fs
unfolding read_slots
slots_end fs = refl

-- a form that was read
pub form_slots : (code : ℕ) (f : Form) (fs : List (List ℕ)) → f ≡ form_of code → read_slots (f.a ∷ f.b ∷ f.c ∷ f.d ∷ []) fs ≡ read_slots (kinds_of code) fs
form_slots code f fs e = ap (λ (g : Form). read_slots (g.a ∷ g.b ∷ g.c ∷ g.d ∷ []) fs) e

pub form_most : (code : ℕ) (f : Form) → f ≡ form_of code → f.most ≡ form_cell code 4
form_most code f e = ap (λ (g : Form). g.most) e
