-- Laws of fields read from one stop of a line to the next, each in one walk.
-- Assumes nothing.
use mathlib.Core.Path.{◌≡◌, refl, ap, sym, subst, ◌∙◌}
use Rattle.std.specs.Prelude.{Option as Maybe}
use mathlib.Core.Bool.{Bool, true, false, cond}
use mathlib.Core.List.{List, [], ◌∷◌}
use mathlib.Core.Option.{Option, none, some}
use Prim.Native.Nat.{ℕ, suc, ◌+◌, ◌-◌, ◌<◌, ◌≤◌, zero-le}
use native.Mathlib.Omega.{arith}
use native.Mathlib.Numerals.{add-one}
use lib.Dec.{eqb}
use lib.ListN.{length, get_or, take, drop}
use borrow.Author.Tests.{eq-eqb, ne_eqb}
use Rattle.syntax.specs.Partial.{chain}
use Rattle.text.specs.Bytes.{bytes, same_bytes, is_digit, all_digits, is_decimal, number}
use Rattle.text.specs.Grammar.{row_number, index, amount, register, known, operand}
use Rattle.text_lines.specs.Parts.{line_in, field_in, InLine, StopAt}
use Rattle.text_lines.proofs.Parts.{part_is}
use Rattle.text_lines.proofs.InLine.{next_place, field_on, field_first, stop_on, stop_last, stop_behind, field_part}
use Rattle.text_fields.specs.numbers.Numbers.{ScanRead, ScanIs}
use Rattle.text_fields.specs.declared.numbers.Scan.{Scan}
use Rattle.text_fields.proofs.numbers.Laws.{number_bounds}
use Rattle.text_fields.specs.plain_operands.Answers.{OperandIs}
use Rattle.text_fields.specs.declared.plain_operands.OperandRead.{OperandRead}
use Rattle.text_decode.specs.line.Fields.{fields_from, plain_field, read_slot, most_of, kept_as, part_number}
use Rattle.text_decode.specs.line.Answers.{Carried, SlotRead}
use Rattle.text_decode.proofs.line.FieldLaws.{slot_zero, slot_past, slot_bad, slot_is}

-- ---- by the field's kind
module _ (kind : ℕ) where
  pub most_row : kind ≡ 2 → 511 ≡ most_of kind
  unfolding most_of
  most_row e = simp (eq-eqb kind 2 e)

  pub most_index : (kind ≡ 2 → ⊥) → kind ≡ 3 → 63 ≡ most_of kind
  unfolding most_of
  most_index n e = simp (ne_eqb kind 2 n, eq-eqb kind 3 e)

  pub most_amount : (kind ≡ 2 → ⊥) → (kind ≡ 3 → ⊥) → 64 ≡ most_of kind
  unfolding most_of
  most_amount n m = simp (ne_eqb kind 2 n, ne_eqb kind 3 m)

  module _ (f : List ℕ) where
    pub plain_register : kind ≡ 1 → register f ≡ plain_field kind f
    unfolding plain_field
    plain_register e = ap (λ (k : ℕ). plain_field k f) (sym e)

    pub plain_number : (m : ℕ) → (kind ≡ 1 → ⊥) → m ≡ most_of kind → number 0 m f ≡ plain_field kind f
    unfolding plain_field most_of row_number index amount
    plain_number m n e = ap (λ (k : ℕ). number 0 k f) e ∙ go (eqb kind 2) (eqb kind 3) ∙ simp (ne_eqb kind 1 n)
      where
        go : (a b : Bool) → number 0 (cond a 511 (cond b 63 64)) f ≡ cond a (number 0 511 f) (cond b (number 0 63 f) (number 0 64 f))
        go true b = refl
        go false true = refl
        go false false = refl

-- ---- a number read
pub scan_to : (s : List ℕ) (at : ℕ) (o : Option ℕ) (r : Maybe Scan) → ScanIs s at o r → (o' : Option ℕ) → o ≡ o' → ScanIs s at o' r
scan_to s at o r g o' e = subst (λ (z : Option ℕ). ScanIs s at z r) e g

pub read_to : (s : List ℕ) (at : ℕ) (o : Option ℕ) (x : Scan) → ScanRead s at o x → (o' : Option ℕ) → o ≡ o' → ScanRead s at o' x
read_to s at o x g o' e = record { says = sym e ∙ g.says; ends = g.ends }

-- a field as the walk over a line has it
pub field_here : (s : List ℕ) (at e : ℕ) → e ≡ at + length (field_in s at) → take (e - at) (drop at (line_in s)) ≡ field_in s at
field_here s at e is = part_is 44 (line_in s) at e is

pub same_field : (s : List ℕ) (at e : ℕ) → InLine s at → e ≡ at + length (field_in s at) → take (e - at) (drop at s) ≡ take (e - at) (drop at (line_in s))
same_field s at e p is = field_part s at e p is ∙ sym (field_here s at e is)

pub line_over : (s : List ℕ) (at : ℕ) → StopAt s at → (get_or s at 0 ≡ 44 → ⊥) → length (line_in s) < at + 1
line_over s at p h = let q = stop_last s at p h in omega arith

-- ---- one plain field
module _ (s : List ℕ) (at kind : ℕ) (p : StopAt s at) where
  pub slot_none : kind ≡ 0 → SlotRead s at kind (record { value = 0; next = at })
  slot_none e = record { says = slot_zero (line_in s) (at + 1) kind e; stop = p }

  module _ (h : kind ≡ 0 → ⊥) where
    pub slot_lacks : (get_or s at 0 ≡ 44 → ⊥) → none ≡ read_slot kind (fields_from (line_in s) (at + 1))
    slot_lacks n = slot_past (line_in s) (at + 1) kind h (line_over s at p n)

    module _ (c : get_or s at 0 ≡ 44) where
      inside : at + 1 ≤ length (line_in s)
      inside = (stop_on s at p c).within

      pub slot_wrong : plain_field kind (field_in s (at + 1)) ≡ none → none ≡ read_slot kind (fields_from (line_in s) (at + 1))
      slot_wrong t =
          let d : ℕ = at + 1 + length (field_in s (at + 1)) in
          slot_bad (line_in s) (at + 1) kind d refl h inside (ap (plain_field kind) (field_here s (at + 1) d refl) ∙ t)

      pub slot_there : (x : Scan) → ScanRead s (at + 1) (plain_field kind (field_in s (at + 1))) x → SlotRead s at kind (record { value = x.value; next = x.next })
      slot_there x g = record {
        says = slot_is (line_in s) (at + 1) kind x.next g.ends h inside x.value (ap (plain_field kind) (field_here s (at + 1) x.next g.ends) ∙ g.says);
        stop = stop_behind s (at + 1) x.next (stop_on s at p c) g.ends;
      }

-- ---- a register's row or `-`
not_dash : (f : List ℕ) → ((length f ≡ 0 → ⊥) → get_or f 0 0 ≡ 45 → ⊥) → same_bytes f (bytes "-") ≡ false
unfolding same_bytes bytes
not_dash [] h = refl
not_dash (b ∷ f) h = simp (ne_eqb b 45 (h (λ q. omega arith)))

dash_alone : part_number true (45 ∷ []) ≡ some 0
unfolding part_number known same_bytes bytes
dash_alone = refl

dash_more : (b : ℕ) (f : List ℕ) → part_number true (45 ∷ b ∷ f) ≡ none
unfolding part_number known same_bytes bytes row_number number is_decimal all_digits is_digit
dash_more b f = refl

known_row : (f : List ℕ) → same_bytes f (bytes "-") ≡ false → part_number true f ≡ chain (number 0 511 f) (λ r. some (suc r))
unfolding part_number known row_number
known_row f e = simp e (go (number 0 511 f))
  where
    go : (o : Option ℕ) → chain (chain o (λ r. some (some r))) (λ x. some (kept_as x)) ≡ chain o (λ r. some (suc r))
    go none = refl
    go (some r) = refl

module _ (s : List ℕ) (at : ℕ) (p : InLine s at) where
  pub part_plain : (b : Bool) → b ≡ false → number 0 511 (field_in s at) ≡ part_number b (field_in s at)
  unfolding part_number row_number
  part_plain b e = ap (λ (x : Bool). part_number x (field_in s at)) (sym e)

  pub part_known : (b : Bool) (o : Option ℕ) → b ≡ true → o ≡ part_number true (field_in s at) → o ≡ part_number b (field_in s at)
  part_known b o e h = h ∙ ap (λ (x : Bool). part_number x (field_in s at)) (sym e)

  module _ (e : get_or s at 0 ≡ 45) where
    pub behind_dash : InLine s (at + 1)
    behind_dash = next_place s at p (λ q. omega arith) (λ q. omega arith)

    dash_field : field_in s at ≡ 45 ∷ field_in s (at + 1)
    dash_field = field_on s at p (λ q. omega arith) (λ q. omega arith) ∙ ap (λ (b : ℕ). b ∷ field_in s (at + 1)) e

    pub dash_is : field_in s (at + 1) ≡ [] → ScanRead s at (part_number true (field_in s at)) (record { value = 0; next = at + 1 })
    dash_is h =
        let f : field_in s at ≡ 45 ∷ [] = dash_field ∙ ap (λ (l : List ℕ). 45 ∷ l) h in
        record { says = ap (part_number true) f ∙ dash_alone; ends = let q = ap length f in omega arith }

    pub dash_bad : (get_or s (at + 1) 0 ≡ 44 → ⊥) → (get_or s (at + 1) 0 ≡ 10 → ⊥) → part_number true (field_in s at) ≡ none
    dash_bad c l =
        ap (part_number true) (dash_field ∙ ap (λ (f : List ℕ). 45 ∷ f) (field_on s (at + 1) behind_dash c l))
        ∙ dash_more (get_or s (at + 1) 0) (field_in s (at + 1 + 1))

  module _ (n : get_or s at 0 ≡ 45 → ⊥) where
    known_number : part_number true (field_in s at) ≡ chain (number 0 511 (field_in s at)) (λ r. some (suc r))
    known_number = known_row (field_in s at) (not_dash (field_in s at) (λ m q. n (sym (field_first s at p m) ∙ q)))

    pub known_bad : number 0 511 (field_in s at) ≡ none → part_number true (field_in s at) ≡ none
    known_bad t = known_number ∙ ap (λ (o : Option ℕ). chain o (λ r. some (suc r))) t

    module _ (x : Scan) (g : ScanRead s at (number 0 511 (field_in s at)) x) where
      pub known_small : x.value ≤ 511
      known_small = (number_bounds 0 511 (field_in s at) x.value g.says).1

      pub known_is : ScanRead s at (part_number true (field_in s at)) (record { value = x.value + 1; next = x.next })
      known_is = record {
        says = known_number ∙ ap (λ (o : Option ℕ). chain o (λ r. some (suc r))) g.says ∙ ap {B = Option ℕ} some (sym (add-one x.value));
        ends = g.ends;
      }

pub none_carried : (s : List ℕ) (m : ℕ) → m ≡ 0 → Carried s m
none_carried s m e = rw e (zero-le, zero-le)

-- an operand as the walk over a line has it
pub operand_here : (s : List ℕ) (at e : ℕ) → e ≡ at + length (field_in s at) → (l : List ℕ) (to : ℕ) (r : Maybe OperandRead) (after : List ℕ) → OperandIs (operand (field_in s at)) l to r after → OperandIs (operand (take (e - at) (drop at (line_in s)))) l to r after
operand_here s at e is l to r after g = rw (field_here s at e is) g
