-- Laws of the entry that a line's stored numbers make.
-- Assumes nothing.
use mathlib.Core.Path.{◌≡◌, refl, ap, sym, ◌∙◌}
use mathlib.Core.Bool.{false, ◌&&◌, cond}
use mathlib.Core.List.{List, [], ◌∷◌, map}
use mathlib.Core.Option.{none}
use Prim.Native.Nat.{ℕ, zero, suc, ◌+◌, ◌-◌, ◌<◌, ◌≤◌, zero-le}
use native.Mathlib.Omega.{arith}
use native.Mathlib.Nat.{zero-add, add-zero, suc-add, add-suc, not-suc-le-zero}
use lib.Dec.{eqb, leb, ltb, leb-zero}
use lib.ListN.{length, get_or, take, drop}
use borrow.Author.Tests.{eq-eqb}
use Rattle.syntax.specs.Syntax.{Operand, halt}
use Rattle.text.specs.Bytes.{fields_of}
use Rattle.text.specs.Grammar.{Named, forms, entry_of}
use Rattle.text.specs.PassOne.{is_last}
use Rattle.tables.specs.Tables.{OperandTable, operands_at, instr_from}
use Rattle.text_lines.specs.Parts.{first_part}
use Rattle.text_fields.specs.names.Names.{name_code, form_at}
use Rattle.text_fields.proofs.names.Names.{entry_by_code}
use Rattle.text_decode.specs.line.Fields.{fields_from}
use Rattle.text_decode.specs.line.Forms.{form_table, form_cell, fewest, instr_with}
use Rattle.text_decode.proofs.line.Walk.{fields_next}

-- ---- by the code of the line's first field
module _ (line : List ℕ) (f code : ℕ) (is : f ≡ 0 + length (first_part 44 (drop 0 line))) (named : code ≡ name_code (take (f - 0) (drop 0 line))) where
  first_fields : fields_of line ≡ fields_from line 0
  unfolding fields_from
  first_fields = simp leb-zero

  pub entry_is : entry_of (fields_of line) ≡ form_at forms code (fields_from line (f + 1))
  entry_is =
      ap entry_of (first_fields ∙ fields_next line 0 f is zero-le)
      ∙ entry_by_code (take (f - 0) (drop 0 line)) (fields_from line (f + 1))
      ∙ ap (λ (k : ℕ). form_at forms k (fields_from line (f + 1))) (sym named)

no_form : (ns : List Named) (k : ℕ) (fs : List (List ℕ)) → length ns ≤ k → form_at ns k fs ≡ none
unfolding form_at
no_form [] k fs h = refl
no_form (n ∷ ns) zero fs h = absurd (not-suc-le-zero h)
no_form (n ∷ ns) (suc k) fs h = no_form ns k fs (omega arith)

pub unnamed : (k : ℕ) (fs : List (List ℕ)) → 36 ≤ k → form_at forms k fs ≡ none
unfolding forms
unnamed k fs h = no_form forms k fs h

-- ---- instructions, by computing over all codes
count : ℕ → ℕ → List ℕ
count i zero = []
count i (suc n) = i ∷ count (suc i) n

at_count : {A : Type 0} (g : ℕ → A) (d : A) (i n k : ℕ) → k < n → get_or (map g (count i n)) k d ≡ g (i + k)
unfolding count
at_count g d i zero k h = absurd (not-suc-le-zero h)
at_count g d i (suc n) zero h = ap g (sym (add-zero i))
at_count g d i (suc n) (suc k) h = let q : k < n = omega arith in at_count g d (suc i) n k q ∙ ap g (suc-add i k ∙ sym (add-suc i k))

-- two functions that agree on the first n numbers
agree : {A : Type 0} (g h : ℕ → A) (d : A) (n k : ℕ) → k < n → map g (count 0 n) ≡ map h (count 0 n) → g k ≡ h k
agree {A} g h d n k l e =
    ap g (sym (zero-add k)) ∙ sym (at_count g d 0 n k l) ∙ ap (λ (xs : List A). get_or xs k d) e ∙ at_count h d 0 n k l ∙ ap h (zero-add k)

module _ (a b c d : ℕ) where
  pub last_is : (k : ℕ) (vs : List Operand) → k < 24 → is_last (instr_with k a b c d vs) ≡ (leb 21 k && ltb k 23)
  unfolding instr_with is_last count
  last_is k vs h = agree (λ j. is_last (instr_with j a b c d vs)) (λ j. leb 21 j && ltb j 23) false 24 k h refl

  -- the instruction that the tables give is the one that its operands, as a list, make
  module _ (ω : OperandTable) (v : ℕ) where
    alone : (k : ℕ) → k < 24 → cond (eqb (fewest (form_cell (k + 12) 4)) 0) (instr_from ω k a b c d v 0) (halt 0) ≡ cond (eqb (fewest (form_cell (k + 12) 4)) 0) (instr_with k a b c d []) (halt 0)
    unfolding instr_with count form_cell form_table operands_at
    alone k h = agree (λ j. cond (eqb (fewest (form_cell (j + 12) 4)) 0) (instr_from ω j a b c d v 0) (halt 0)) (λ j. cond (eqb (fewest (form_cell (j + 12) 4)) 0) (instr_with j a b c d []) (halt 0)) (halt 0) 24 k h refl

    pub instr_is : (k n : ℕ) → k < 24 → fewest (form_cell (k + 12) 4) ≤ n → instr_from ω k a b c d v n ≡ instr_with k a b c d (operands_at ω v n)
    unfolding operands_at instr_with
    instr_is k zero h e =
        let z : fewest (form_cell (k + 12) 4) ≡ 0 = omega arith in
        simp (eq-eqb (fewest (form_cell (k + 12) 4)) 0 z) at (alone k h)
    instr_is k (suc n) h e = refl
