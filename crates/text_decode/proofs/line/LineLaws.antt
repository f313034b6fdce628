-- Laws of a line's fields as a whole: what the answers of the readers make of them.
-- Assumes nothing.
use mathlib.Core.Path.{◌≡◌, refl, ap, ap₂, sym, ◌∙◌}
use mathlib.Core.Bool.{Bool, true, false, ◌&&◌, cond}
use Rattle.std.specs.Prelude.{Option as Maybe, Some, None}
use mathlib.Core.List.{List, [], ◌∷◌, map, reverse, reverse-reverse}
use mathlib.Core.Option.{Option, none, some, none-ne-some, some-injective}
use Prim.Native.Nat.{ℕ, zero, suc, ◌+◌, ◌-◌, ◌<◌, ◌≤◌, zero-le}
use native.Mathlib.Omega.{arith}
use native.Mathlib.Nat.{le_refl, lt_irrefl}
use lib.Dec.{T, leb, eqb, leb→le}
use lib.ListN.{length, get_or, take, drop, set, length-map, length-reverse}
use lib.Seq.{sets, take-set-le, get_or-set_same, get_or-set_other, length-sets}
use borrow.Author.Tests.{le-leb, lt-leb, ne_eqb, leb-true}
use Rattle.syntax.specs.Partial.{chain, guarded}
use Rattle.syntax.specs.Syntax.{Kind, value, stack, Row, row_u, row_c, Entry, row}
use Rattle.text.specs.Bytes.{bytes, same_bytes}
use Rattle.text.specs.Grammar.{forms, each_letter, letters, operand}
use Rattle.tables.specs.Tables.{span, letter_of, known_of, letters_at, code_row_at, row_from, OperandTable, operands_at}
use Rattle.tables.proofs.Spans.{same_less, same_at, same_sets, span_length, span_same, span_sets}
use Rattle.text_lines.specs.Parts.{first_part}
use Rattle.text_fields.specs.names.Letters.{count_of, kind_code, codes_of}
use Rattle.text_fields.specs.names.Names.{form_at}
use Rattle.text_decode.specs.line.Fields.{fields_from, read_slot, read_slots, at_most, part_number}
use Rattle.text_decode.specs.line.Forms.{form_table, form_cell, kinds_of, fewest, entry_with}
use Rattle.text_decode.specs.line.Answers.{PartsRead, SameOperands, OperandsRead, PlainForm, PlainSaid, PlainIs, RowSaid, RowIs, FormSaid, FormIs}
use Rattle.text_decode.specs.declared.line.Slot.{Slot}
use Rattle.text_decode.specs.declared.line.Slots.{Slots}
use Rattle.text_decode.specs.declared.line.Count.{Count}
use Rattle.text_decode.specs.declared.line.Said.{Said}
use Rattle.text_decode.proofs.line.Walk.{fields_past, fields_next}
use Rattle.text_decode.proofs.line.FormLaws.{entry_by, plain_form, tuple_form_lem, code_none, code_form_lem}

-- ---- the table
pub fewest_other : (m : ℕ) → (m ≡ 1 → ⊥) → 0 ≡ fewest m
fewest_other zero h = refl
fewest_other (suc zero) h = absurd (h refl)
fewest_other (suc (suc m)) h = refl

all_few : List (List ℕ) → Bool
all_few [] = true
all_few (r ∷ rs) = leb (get_or r 4 0) 16 && all_few rs

fst_of : (a b : Bool) → T (a && b) → T a
fst_of true b h = tt
fst_of false b h = absurd h

snd_of : (a b : Bool) → T (a && b) → T b
snd_of true b h = h
snd_of false b h = absurd h

few_at : (rs : List (List ℕ)) (k : ℕ) → T (all_few rs) → get_or (get_or rs k []) 4 0 ≤ 16
unfolding all_few
few_at [] k h = zero-le
few_at (r ∷ rs) zero h = leb→le (get_or r 4 0) 16 (fst_of (leb (get_or r 4 0) 16) (all_few rs) h)
few_at (r ∷ rs) (suc k) h = few_at rs k (snd_of (leb (get_or r 4 0) 16) (all_few rs) h)

pub most_few : (code : ℕ) → form_cell code 4 ≤ 16
unfolding form_cell form_table all_few
most_few code = few_at form_table code tt

-- ---- a line of any form but U and C
operands_length : (ω : OperandTable) (v n : ℕ) → length (operands_at ω v n) ≡ n
unfolding operands_at
operands_length ω v zero = refl
operands_length ω v (suc n) = ap suc (operands_length ω (suc v) n)

same_refl : (n k : ℕ) (ω : OperandTable) → SameOperands n k ω ω
same_refl n k ω = record { kinds = refl; numbers = refl; args = refl }

module _ (code : ℕ) (line : List ℕ) (at v a : ℕ) (g : PlainForm code) (before : OperandTable) where
  abbrev After : List ℕ → List ℕ × List (List ℕ) → Option Entry
  After parts r = chain (at_most (form_cell code 4) operand r.1) (λ vs. guarded (leb (fewest (form_cell code 4)) (length vs)) (entry_by code parts r.0 vs))

  whole : (parts : List ℕ) (o : Option (List ℕ × List (List ℕ))) → o ≡ read_slots (kinds_of code) (fields_from line at) → form_at forms code (fields_from line at) ≡ chain o (After parts)
  whole parts o is = plain_form parts code (fields_from line at) g.known g.no_tuple g.no_code ∙ ap (λ (o : Option (List ℕ × List (List ℕ))). chain o (After parts)) (sym is)

  pub plain_no_slots : none ≡ read_slots (kinds_of code) (fields_from line at) → PlainIs code (fields_from line at) v a before before None
  plain_no_slots e = record { kept = same_refl v a before; read = sym (whole [] none e) }

  module _ (x : Slots) (is : some (x.a ∷ x.b ∷ x.c ∷ x.d ∷ [], fields_from line (x.next + 1)) ≡ read_slots (kinds_of code) (fields_from line at)) (m : ℕ) (em : m ≡ form_cell code 4) (after : OperandTable) where
    behind : (parts : List ℕ) → form_at forms code (fields_from line at) ≡ After parts (x.a ∷ x.b ∷ x.c ∷ x.d ∷ [], fields_from line (x.next + 1))
    behind parts = whole parts (some (x.a ∷ x.b ∷ x.c ∷ x.d ∷ [], fields_from line (x.next + 1))) is

    pub plain_no_operands : OperandsRead (fields_from line (x.next + 1)) m v a before after None → PlainIs code (fields_from line at) v a before after None
    plain_no_operands read =
        let r : OperandsRead (fields_from line (x.next + 1)) (form_cell code 4) v a before after None = rw em at read in
        record { kept = r.kept; read = sym (behind [] ∙ simp (← r.read)) }

    module _ (n : Count) (read : OperandsRead (fields_from line (x.next + 1)) m v a before after (Some n)) where
      r : OperandsRead (fields_from line (x.next + 1)) (form_cell code 4) v a before after (Some n)
      r = rw em at read

      with_operands : (parts : List ℕ) (ω : OperandTable) → SameOperands (v + n.count) (a + n.args) ω after → form_at forms code (fields_from line at) ≡ guarded (leb (fewest (form_cell code 4)) n.count) (entry_with code x.a x.b x.c x.d parts (operands_at ω v n.count))
      with_operands parts ω s =
          let q : at_most (form_cell code 4) operand (fields_from line (x.next + 1)) ≡ some (operands_at ω v n.count) = sym (r.read.says ω s) in
          behind parts ∙ simp (q, operands_length)

      pub plain_too_few : (k : ℕ) → k ≡ fewest m → n.count < k → PlainIs code (fields_from line at) v a before after None
      plain_too_few k w l =
          let e : n.count < fewest (form_cell code 4) = omega (arith, w ∙ ap fewest em) in
          record { kept = r.kept; read = sym (with_operands [] after (same_refl (v + n.count) (a + n.args) after) ∙ simp (lt-leb (fewest (form_cell code 4)) n.count e)) }

      pub plain_is : (k : ℕ) → k ≡ fewest m → k ≤ n.count → PlainIs code (fields_from line at) v a before after (Some (record { a = x.a; b = x.b; c = x.c; d = x.d; count = n.count; args = n.args; next = n.next }))
      plain_is k w l =
          let e : fewest (form_cell code 4) ≤ n.count = omega (arith, w ∙ ap fewest em) in
          let f : n.count ≤ 16 = omega (arith, most_few code, r.read.few) in
          record {
            kept = r.kept;
            read = record {
              few = f;
              enough = e;
              says = λ parts ω s. sym (with_operands parts ω s ∙ simp (le-leb (fewest (form_cell code 4)) n.count e));
            };
          }

-- ---- a tuple
tuple_enough : fewest (form_cell 3 4) ≡ 0
unfolding form_cell form_table
tuple_enough = refl

module _ (line : List ℕ) (at p : ℕ) (before after : List ℕ) where
  tuple_says : (o : Option (List ℕ)) → o ≡ at_most 16 (part_number false) (fields_from line at) → form_at forms 3 (fields_from line at) ≡ chain o (λ ts. some (row (row_u ts)))
  unfolding part_number
  tuple_says o e = tuple_form_lem (fields_from line at) ∙ ap (λ (o : Option (List ℕ)). chain o (λ ts. some (row (row_u ts)))) (sym e)

  pub tuple_bad : PartsRead (fields_from line at) false 16 p before after None → RowIs 3 (fields_from line at) p before after None
  tuple_bad r = record { kept = r.kept; read = sym (tuple_says none r.read) }

  pub tuple_is : (n : Count) → PartsRead (fields_from line at) false 16 p before after (Some n) → RowIs 3 (fields_from line at) p before after (Some (record { a = p; b = n.count; c = 0; d = 0; count = 0; args = 0; next = n.next }))
  unfolding entry_with row_from
  tuple_is n r = record {
    kept = r.kept;
    read = record {
      none_follow = refl;
      none_carried = refl;
      enough = tuple_enough;
      says = λ parts vs s. let q : p + n.count ≤ p + 17 = let f = r.read.few in omega arith in sym (tuple_says (some (span after p n.count)) r.read.says ∙ ap (λ (ts : List ℕ). some (row (row_u ts))) (sym (span_same (p + 17) parts after p n.count q s)));
    };
  }

-- ---- a code row
code_enough : fewest (form_cell 5 4) ≡ 0
unfolding form_cell form_table
code_enough = refl

letters_few : (f : List ℕ) (q : List Kind) → letters f ≡ some q → length q ≤ 8
unfolding letters
letters_few f q h = go (same_bytes f (bytes "-")) (each_letter f) h
  where
    pick : (a b : Bool) (z : List Kind) → leb (length z) 8 ≡ b → guarded (a && b) z ≡ some q → length q ≤ 8
    pick true true z w e = rw (← (some-injective z q e)) (leb-true (length z) 8 w)
    pick true false z w e = absurd (none-ne-some q e)
    pick false b z w e = absurd (none-ne-some q e)

    go : (t : Bool) (o : Option (List Kind)) → cond t (some []) (chain o (λ z. guarded (leb 1 (length z) && leb (length z) 8) z)) ≡ some q → length q ≤ 8
    go true o e = rw (← (some-injective [] q e)) zero-le
    go false none e = absurd (none-ne-some q e)
    go false (some z) e = pick (leb 1 (length z)) (leb (length z) 8) z refl e

letters_back : (q : List Kind) → map letter_of (map kind_code q) ≡ q
unfolding letter_of
letters_back [] = refl
letters_back (value ∷ q) = ap (◌∷◌ value) (letters_back q)
letters_back (stack ∷ q) = ap (◌∷◌ stack) (letters_back q)

-- the letters that a count stands for
counted : (f : List ℕ) (v : ℕ) → some v ≡ count_of (letters f) → (q : List Kind) × (letters f ≡ some q) × (v ≡ length q)
unfolding count_of
counted f v n = go (letters f) refl n
  where
    go : (o : Option (List Kind)) → letters f ≡ o → some v ≡ count_of o → (q : List Kind) × (letters f ≡ some q) × (v ≡ length q)
    go none w c = absurd (none-ne-some v (sym c))
    go (some q) w c = (q, w, some-injective v (length q) c)

uncounted : (f : List ℕ) → none ≡ count_of (letters f) → letters f ≡ none
unfolding count_of
uncounted f n = go (letters f) refl n
  where
    go : (o : Option (List Kind)) → letters f ≡ o → none ≡ count_of o → letters f ≡ none
    go none w c = w
    go (some q) w c = absurd (none-ne-some (length q) c)

pub count_small : (f : List ℕ) (v : ℕ) → some v ≡ count_of (letters f) → v ≤ 8
count_small f v n = let c = counted f v n in let h = letters_few f c.0 c.1 in let w = c.2 in omega arith

span_past : (l : List ℕ) (i a j n : ℕ) → i < j → span (set l i a) j n ≡ span l j n
unfolding span
span_past l i a j zero h = refl
span_past l i a j (suc n) h =
    ap₂ (λ (x : ℕ) (xs : List ℕ). x ∷ xs) (get_or-set_other l i j a 0 (λ e. lt_irrefl i (omega arith))) (span_past l i a (suc j) n (omega arith))

-- a code row as it is stored: the registers that `after` has from p on, then the count, then the letters
code_there : (after : List ℕ) (p s : ℕ) (q : List Kind) → length q ≤ 8 → p + 17 ≤ length after → (parts : List ℕ) → take (p + 17) parts ≡ take (p + 17) (set (sets after (p + 9) (codes_of (some q))) (p + 8) (length q)) → code_row_at parts s p ≡ row_c q s (map known_of (span after p 8))
unfolding code_row_at letters_at codes_of
code_there after p s q few room parts same =
    let codes : List ℕ = map kind_code (reverse q) in
    let laid : List ℕ = sets after (p + 9) codes in
    let long : length codes ≡ length q = length-map (reverse q) kind_code ∙ length-reverse q in
    let in8 : p + 8 < length laid = omega (arith, length-sets after (p + 9) codes) in
    let count : get_or parts (p + 8) 0 ≡ length q = same_at (p + 17) parts (set laid (p + 8) (length q)) (p + 8) (omega arith) same ∙ get_or-set_same laid (p + 8) (length q) 0 in8 in
    let there : span parts (p + 9) (length q) ≡ codes = span_same (p + 17) parts (set laid (p + 8) (length q)) (p + 9) (length q)
    (omega arith) same ∙ span_past laid (p + 8) (length q) (p + 9) (length q) (omega arith) ∙ ap (span laid (p + 9)) (sym long)
    ∙ span_sets after (p + 9) codes (omega arith) in
    let regs : span parts p 8 ≡ span after p 8 = span_same (p + 8) parts after p 8 (le_refl (p + 8)) (same_less (p + 8) (p + 17) parts
    (set laid (p + 8) (length q)) (omega arith) same ∙ take-set-le (p + 8) laid (p + 8) (length q) (le_refl (p + 8)) ∙ same_sets (p + 8)
    after (p + 9) codes (omega arith)) in
    simp (count, there, regs, letters_back, reverse-reverse)

module _ (line : List ℕ) (at p : ℕ) (before : List ℕ) where
  pub code_past : length line < at → RowIs 5 (fields_from line at) p before before None
  code_past h = record { kept = refl; read = sym (ap (form_at forms 5) (fields_past line at h) ∙ code_none) }

  module _ (l : at ≤ length line) (e : ℕ) (is : e ≡ at + length (first_part 44 (drop at line))) where
    abbrev Regs : List Kind → ℕ × List (List ℕ) → Option Entry
    Regs q r = chain (at_most 8 (part_number true) r.1) (λ ns. guarded (eqb (length ns) 8) (row (row_c q r.0 (map known_of ns))))

    code_whole : (o : Option (ℕ × List (List ℕ))) → o ≡ read_slot 2 (fields_from line (e + 1)) → form_at forms 5 (fields_from line at) ≡ chain (letters (take (e - at) (drop at line))) (λ q. chain o (Regs q))
    code_whole o xs =
        ap (form_at forms 5) (fields_next line at e is l)
        ∙ code_form_lem (take (e - at) (drop at line)) (fields_from line (e + 1))
        ∙ ap (λ (o : Option (ℕ × List (List ℕ))). chain (letters (take (e - at) (drop at line))) (λ q. chain o (Regs q))) (sym xs)

    never : (o : Option (List Kind)) → chain {B = Entry} o (λ q. none) ≡ none
    never none = refl
    never (some q) = refl

    pub code_no_slot : none ≡ read_slot 2 (fields_from line (e + 1)) → RowIs 5 (fields_from line at) p before before None
    code_no_slot xs = record { kept = refl; read = sym (code_whole none xs ∙ never (letters (take (e - at) (drop at line)))) }

    module _ (x : Slot) (xs : some (x.value, fields_from line (x.next + 1)) ≡ read_slot 2 (fields_from line (e + 1))) (after : List ℕ) where
      regs_read : (o : Option (List ℕ)) → o ≡ at_most 8 (part_number true) (fields_from line (x.next + 1)) → form_at forms 5 (fields_from line at) ≡ chain (letters (take (e - at) (drop at line))) (λ q. chain o (λ ns. guarded (eqb (length ns) 8) (row (row_c q x.value (map known_of ns)))))
      regs_read o r =
          code_whole (some (x.value, fields_from line (x.next + 1))) xs
          ∙ ap (λ (o : Option (List ℕ)). chain (letters (take (e - at) (drop at line))) (λ q. chain o (λ ns. guarded (eqb (length ns) 8) (row (row_c q x.value (map known_of ns)))))) (sym r)

      pub code_no_regs : PartsRead (fields_from line (x.next + 1)) true 8 p before after None → RowIs 5 (fields_from line at) p before after None
      code_no_regs r = record { kept = r.kept; read = sym (regs_read none r.read ∙ never (letters (take (e - at) (drop at line)))) }

      module _ (n : Count) (r : PartsRead (fields_from line (x.next + 1)) true 8 p before after (Some n)) where
        regs_there : form_at forms 5 (fields_from line at) ≡ chain (letters (take (e - at) (drop at line))) (λ q. guarded (eqb (length (span after p n.count)) 8) (row (row_c q x.value (map known_of (span after p n.count)))))
        regs_there = regs_read (some (span after p n.count)) r.read.says

        pub code_few_regs : n.count < 8 → RowIs 5 (fields_from line at) p before after None
        code_few_regs c =
            let q : eqb n.count 8 ≡ false = ne_eqb n.count 8 (λ w. omega arith) in
            record { kept = r.kept; read = sym (regs_there ∙ simp (span_length, q) (never (letters (take (e - at) (drop at line))))) }

        module _ (c : 8 ≤ n.count) (after' : List ℕ) (laid : after' ≡ sets after (p + 9) (codes_of (letters (take (e - at) (drop at line))))) where
          eight : n.count ≡ 8
          eight = let f = r.read.few in omega arith

          kept' : take p after' ≡ take p before
          kept' = ap (take p) laid ∙ same_sets p after (p + 9) (codes_of (letters (take (e - at) (drop at line)))) (omega arith) ∙ r.kept

          letters_read : form_at forms 5 (fields_from line at) ≡ chain (letters (take (e - at) (drop at line))) (λ q. some (row (row_c q x.value (map known_of (span after p 8)))))
          letters_read = regs_there ∙ simp (eight, span_length)

          pub code_no_letters : none ≡ count_of (letters (take (e - at) (drop at line))) → RowIs 5 (fields_from line at) p before after' None
          code_no_letters counts =
              let q : letters (take (e - at) (drop at line)) ≡ none = uncounted (take (e - at) (drop at line)) counts in
              record { kept = kept'; read = sym (letters_read ∙ simp q) }

          pub code_is : (v : ℕ) → some v ≡ count_of (letters (take (e - at) (drop at line))) → p + 17 ≤ length after → RowIs 5 (fields_from line at) p before (set after' (p + 8) v) (Some (record { a = x.value; b = p; c = 0; d = 0; count = 0; args = 0; next = n.next }))
          unfolding entry_with row_from
          code_is v counts room =
              let f : List ℕ = take (e - at) (drop at line) in
              let some_letters = counted f v counts in
              let q : List Kind = some_letters.0 in
              let w : letters f ≡ some q = some_letters.1 in
              let there : set after' (p + 8) v ≡ set (sets after (p + 9) (codes_of (some q))) (p + 8) (length q) = ap₂ (λ (t : List ℕ) (m : ℕ). set t (p + 8) m) (laid ∙ ap (λ (o : Option (List Kind)). sets after (p + 9) (codes_of o)) w) some_letters.2 in
              record {
                kept = take-set-le p after' (p + 8) v (omega arith) ∙ kept';
                read = record {
                  none_follow = refl;
                  none_carried = refl;
                  enough = code_enough;
                  says = λ parts vs s. ap (λ (t : Row). some (row t)) (code_there after p x.value q (letters_few f q w) room parts (s ∙ ap (take (p + 17)) there)) ∙ sym (letters_read ∙ simp w);
                };
              }

-- ---- any line
module _ (code : ℕ) (fs : List (List ℕ)) (p v a : ℕ) (parts parts' : List ℕ) (before after : OperandTable) where
  row_said : (k : ℕ) → code ≡ k → (s : Maybe Said) → RowSaid k fs p parts' s → FormSaid code fs p v a parts' before s
  row_said k e None r = rw e r
  row_said k e (Some s) r = record {
    few = let z = r.none_follow in omega arith;
    enough = let z = r.enough in omega (arith, ap (λ (j : ℕ). fewest (form_cell j 4)) e);
    says = λ ps ω t u. rw e (r.says ps (operands_at ω v s.count) t);
  }

  pub row_form : (s : Maybe Said) (k : ℕ) → code ≡ k → RowIs k fs p parts parts' s → FormIs code fs p v a parts parts' before before s
  row_form s k e r = record {
    kept_parts = r.kept;
    kept_operands = same_refl v a before;
    read = row_said k e s r.read;
  }

  plain_said : (s : Maybe Said) → PlainSaid code fs v a after s → FormSaid code fs p v a parts after s
  plain_said None r = r
  plain_said (Some s) r = record {
    few = r.few;
    enough = r.enough;
    says = λ ps ω t u. r.says ps ω u;
  }

  pub plain_line : (s : Maybe Said) → PlainIs code fs v a before after s → FormIs code fs p v a parts parts before after s
  plain_line s r = record {
    kept_parts = refl;
    kept_operands = r.kept;
    read = plain_said s r.read;
  }
