-- Laws of the forms as tables: what a line says, by the plain fields of its form and the operands that follow.
-- Assumes nothing.
use mathlib.Core.Path.{◌≡◌, refl, ap, sym, ◌∙◌}
use mathlib.Core.Bool.{Bool, true, false, cond}
use mathlib.Core.List.{List, [], ◌∷◌, map}
use mathlib.Core.Option.{Option, none, some, none-ne-some, some-injective}
use Prim.Native.Nat.{ℕ, zero, suc, ◌+◌, ◌<◌}
use native.Mathlib.Omega.{arith}
use native.Mathlib.Nat.{zero-add, suc-add, add-suc, add-zero, not-suc-le-zero}
use lib.Dec.{eqb, leb, leb-zero, lit<}
use lib.ListN.{length, get_or}
use borrow.Author.Tests.{ne_eqb, lt-leb, leb-false}
use Rattle.syntax.specs.Partial.{chain, guarded}
use Rattle.syntax.specs.Syntax.{Kind, row_u, row_c, Operand, Entry, row}
use Rattle.text.specs.Grammar.{Form, ◌>>=◌, end, each, rest, row_number, letters, known, operand, Named, forms}
use Rattle.tables.specs.Tables.{row_from, known_of}
use Rattle.text_fields.specs.names.Names.{form_at}
use Rattle.text_decode.specs.line.Fields.{plain_field, read_slot, read_slots, at_most, kept_as, part_number}
use Rattle.text_decode.specs.line.Forms.{form_table, form_cell, kinds_of, fewest, instr_with, entry_with}

-- ---- a form made of its kinds and of the operands that follow
slots : List ℕ → (List ℕ → Form) → Form
slots [] k = k []
slots (zero ∷ ks) k = slots ks (λ ns. k (0 ∷ ns))
slots (suc x ∷ ks) k = plain_field (suc x) >>= (λ n. slots ks (λ ns. k (n ∷ ns)))

-- no operand, one, or up to that many
tail : ℕ → (List Operand → Entry) → Form
tail zero e = end (e [])
tail (suc zero) e = operand >>= (λ v. end (e (v ∷ [])))
tail (suc (suc m)) e = rest (λ n. leb n (suc (suc m))) operand e

-- the entry that the numbers and the operands make
abbrev pub entry_by : ℕ → List ℕ → List ℕ → List Operand → Entry
entry_by code parts ns vs = entry_with code (get_or ns 0 0) (get_or ns 1 0) (get_or ns 2 0) (get_or ns 3 0) parts vs

tuple_form : Form
tuple_form = rest (λ n. leb n 16) row_number (λ ts. row (row_u ts))

code_form : Form
code_form = letters >>= (λ q. row_number >>= (λ s. rest (λ n. eqb n 8) known (λ rs. row (row_c q s rs))))

form_by : List ℕ → ℕ → Form
form_by parts code =
    cond (eqb code 3) tuple_form
    (cond (eqb code 5) code_form
    (slots (kinds_of code) (λ ns. tail (form_cell code 4) (entry_by code parts ns))))

count : ℕ → ℕ → List ℕ
count i zero = []
count i (suc n) = i ∷ count (suc i) n

-- each of the forms is the one that the table gives
all_forms : (parts : List ℕ) → map (λ n. n.fields) forms ≡ map (form_by parts) (count 0 36)
unfolding forms form_by count slots tail tuple_form code_form form_table form_cell plain_field entry_with instr_with row_from
all_forms parts = refl

nth : List Form → ℕ → Form
nth [] k fs = none
nth (f ∷ gs) zero fs = f fs
nth (f ∷ gs) (suc k) fs = nth gs k fs

form_nth : (ns : List Named) (k : ℕ) (fs : List (List ℕ)) → form_at ns k fs ≡ nth (map (λ n. n.fields) ns) k fs
unfolding form_at nth
form_nth [] k fs = refl
form_nth (n ∷ ns) zero fs = refl
form_nth (n ∷ ns) (suc k) fs = form_nth ns k fs

nth_count : (g : ℕ → Form) (fs : List (List ℕ)) (i n k : ℕ) → k < n → nth (map g (count i n)) k fs ≡ g (i + k) fs
unfolding count nth
nth_count g fs i zero k h = absurd (not-suc-le-zero h)
nth_count g fs i (suc n) zero h = ap (λ (j : ℕ). g j fs) (sym (add-zero i))
nth_count g fs i (suc n) (suc k) h =
    let q : k < n = omega arith in
    nth_count g fs (suc i) n k q ∙ ap (λ (j : ℕ). g j fs) (suc-add i k ∙ sym (add-suc i k))

form_by_lem : (parts : List ℕ) (code : ℕ) (fs : List (List ℕ)) → code < 36 → form_at forms code fs ≡ form_by parts code fs
form_by_lem parts code fs h =
    form_nth forms code fs
    ∙ ap (λ (gs : List Form). nth gs code fs) (all_forms parts)
    ∙ nth_count (form_by parts) fs 0 36 code h
    ∙ ap (λ (j : ℕ). form_by parts j fs) (zero-add code)

-- ---- the plain fields, then the operands
abbrev Read : Type 0
Read = List ℕ × List (List ℕ)

joined : (o : Option Read) (n : ℕ) (k : List ℕ → Form) → chain o (λ r. k (n ∷ r.0) r.1) ≡ chain {A = Read} (chain {B = Read} o (λ q. some (n ∷ q.0, q.1))) (λ r. k r.0 r.1)
joined none n k = refl
joined (some r) n k = refl

slots_read : (ks : List ℕ) (k : List ℕ → Form) (fs : List (List ℕ)) → slots ks k fs ≡ chain (read_slots ks fs) (λ r. k r.0 r.1)
unfolding slots read_slots read_slot ◌>>=◌
slots_read [] k fs = refl
slots_read (zero ∷ ks) k fs = slots_read ks (λ ns. k (0 ∷ ns)) fs ∙ joined (read_slots ks fs) 0 k
slots_read (suc x ∷ ks) k [] = refl
slots_read (suc x ∷ ks) k (f ∷ fs) = go (plain_field (suc x) f) (λ n. slots_read ks (λ ns. k (n ∷ ns)) fs)
  where
    go : (o : Option ℕ) → ((n : ℕ) → slots ks (λ ns. k (n ∷ ns)) fs ≡ chain (read_slots ks fs) (λ r. k (n ∷ r.0) r.1))
        → chain o (λ n. slots ks (λ ns. k (n ∷ ns)) fs) ≡ chain {A = Read} (chain {A = ℕ × List (List ℕ)} (chain o (λ n. some (n, fs)))
        (λ r. chain (read_slots ks r.1) (λ q. some (r.0 ∷ q.0, q.1)))) (λ r. k r.0 r.1)
    go none h = refl
    go (some n) h = h n ∙ joined (read_slots ks fs) n k

module _ {A : Type 0} (p : List ℕ → Option A) (m : ℕ) (fs : List (List ℕ)) where
  too_many : m < length fs → at_most m p fs ≡ none
  unfolding at_most
  too_many h = go (each p fs) (lt-leb (length fs) m h)
    where
      go : (o : Option (List A)) → leb (length fs) m ≡ false → chain o (λ xs. guarded (leb (length fs) m) xs) ≡ none
      go none e = refl
      go (some xs) e = simp e

  -- all the fields, if there are at most m
  rest_read : (e : List A → Entry) → rest (λ n. leb n m) p e fs ≡ chain (at_most m p fs) (λ xs. some (e xs))
  unfolding at_most rest
  rest_read e = go (each p fs) (leb (length fs) m)
    where
      go : (o : Option (List A)) (t : Bool) → chain o (λ xs. guarded t (e xs)) ≡ chain (chain o (λ xs. guarded t xs)) (λ xs. some (e xs))
      go none t = refl
      go (some xs) true = refl
      go (some xs) false = refl

module _ (e : List Operand → Entry) where
  never : (o : Option Operand) → chain {B = Entry} o (λ x. none) ≡ none
  never none = refl
  never (some x) = refl

  enough : (m : ℕ) (o : Option (List Operand)) → chain o (λ vs. some (e vs)) ≡ chain o (λ vs. guarded (leb 0 (length vs)) (e vs))
  enough m none = refl
  enough m (some vs) = simp leb-zero

  tail_read : (m : ℕ) (fs : List (List ℕ)) → tail m e fs ≡ chain (at_most m operand fs) (λ vs. guarded (leb (fewest m) (length vs)) (e vs))
  unfolding tail end ◌>>=◌
  tail_read zero [] = unfold at_most each in refl
  tail_read zero (f ∷ fs) = ap (λ (o : Option (List Operand)). chain o (λ vs. guarded (leb 0 (length vs)) (e vs))) (sym (too_many operand 0 (f ∷ fs) (omega arith)))
  tail_read (suc zero) [] = unfold at_most each in refl
  tail_read (suc zero) (f ∷ []) = unfold at_most each in go (operand f)
    where
      go : (o : Option Operand) → chain {B = Entry} o (λ x. end (e (x ∷ [])) []) ≡ chain (chain (chain o (λ x. chain (some []) (λ xs. some (x ∷ xs)))) (λ xs. guarded (leb 1 1) xs)) (λ vs. guarded (leb 1 (length vs)) (e vs))
      go none = refl
      go (some v) = refl
  tail_read (suc zero) (f ∷ g ∷ fs) =
      never (operand f)
      ∙ ap (λ (o : Option (List Operand)). chain o (λ vs. guarded (leb 1 (length vs)) (e vs))) (sym (too_many operand 1 (f ∷ g ∷ fs) (omega arith)))
  tail_read (suc (suc m)) fs = rest_read operand (suc (suc m)) fs e ∙ enough (suc (suc m)) (at_most (suc (suc m)) operand fs)

-- a line of any form but U and C
pub plain_form : (parts : List ℕ) (code : ℕ) (fs : List (List ℕ)) → code < 36 → (code ≡ 3 → ⊥) → (code ≡ 5 → ⊥) → form_at forms code
    fs ≡ chain (read_slots (kinds_of code) fs) (λ r. chain (at_most (form_cell code 4) operand r.1)
    (λ vs. guarded (leb (fewest (form_cell code 4)) (length vs)) (entry_by code parts r.0 vs)))
unfolding form_by
plain_form parts code fs h p q =
    form_by_lem parts code fs h
    ∙ simp (ne_eqb code 3 p, ne_eqb code 5 q)
    (slots_read (kinds_of code) (λ ns. tail (form_cell code 4) (entry_by code parts ns)) fs ∙ go (read_slots (kinds_of code) fs))
  where
    go : (o : Option Read) → chain o (λ r. tail (form_cell code 4) (entry_by code parts r.0) r.1) ≡ chain o (λ r. chain (at_most (form_cell code 4) operand r.1) (λ vs. guarded (leb (fewest (form_cell code 4)) (length vs)) (entry_by code parts r.0 vs)))
    go none = refl
    go (some r) = tail_read (entry_by code parts r.0) (form_cell code 4) r.1

-- a tuple's line
pub tuple_form_lem : (fs : List (List ℕ)) → form_at forms 3 fs ≡ chain (at_most 16 row_number fs) (λ ts. some (row (row_u ts)))
unfolding form_by tuple_form
tuple_form_lem fs = form_by_lem [] 3 fs (lit< tt) ∙ rest_read row_number 16 fs (λ ts. row (row_u ts))

-- ---- a code row's line
pub each_length : {A : Type 0} (p : List ℕ → Option A) (fs : List (List ℕ)) (xs : List A) → each p fs ≡ some xs → length xs ≡ length fs
unfolding each
each_length p [] xs h = sym (ap length (some-injective [] xs h))
each_length {A} p (f ∷ fs) xs h = go (p f) (each p fs) (each_length p fs) h
  where
    go : (o : Option A) (os : Option (List A)) → ((ys : List A) → os ≡ some ys → length ys ≡ length fs) → chain o (λ y. chain os (λ ys. some (y ∷ ys))) ≡ some xs → length xs ≡ suc (length fs)
    go none os r e = absurd (none-ne-some xs e)
    go (some y) none r e = absurd (none-ne-some xs e)
    go (some y) (some ys) r e = sym (ap length (some-injective (y ∷ ys) xs e)) ∙ ap suc (r ys refl)

-- registers as a table keeps them
known_is : (f : List ℕ) → known f ≡ chain (part_number true f) (λ n. some (known_of n))
unfolding part_number known_of
known_is f = go (known f)
  where
    go : (o : Option (Option ℕ)) → o ≡ chain (chain o (λ r. some (kept_as r))) (λ n. some (known_of n))
    go none = refl
    go (some none) = refl
    go (some (some t)) = refl

all_known : (fs : List (List ℕ)) → each known fs ≡ chain (each (part_number true) fs) (λ ns. some (map known_of ns))
unfolding each
all_known [] = refl
all_known (f ∷ fs) =
    ap (λ (o : Option (Option ℕ)). chain o (λ x. chain (each known fs) (λ xs. some (x ∷ xs)))) (known_is f)
    ∙ ap (λ (os : Option (List (Option ℕ))). chain (chain (part_number true f) (λ n. some (known_of n))) (λ x. chain os (λ xs. some (x ∷ xs)))) (all_known fs)
    ∙ go (part_number true f) (each (part_number true) fs)
  where
    go : (o : Option ℕ) (os : Option (List ℕ)) → chain (chain o (λ n. some (known_of n))) (λ x. chain (chain os (λ ns. some (map known_of ns))) (λ xs. some (x ∷ xs))) ≡ chain (chain o (λ x. chain os (λ xs. some (x ∷ xs)))) (λ ns. some (map known_of ns))
    go none os = refl
    go (some n) none = refl
    go (some n) (some ns) = refl

-- eight registers and no other field
eight : (q : List Kind) (s : ℕ) (fs : List (List ℕ)) → rest (λ n. eqb n 8) known (λ rs. row (row_c q s rs)) fs ≡ chain (at_most 8 (part_number true) fs) (λ ns. guarded (eqb (length ns) 8) (row (row_c q s (map known_of ns))))
unfolding rest at_most
eight q s fs =
    ap (λ (os : Option (List (Option ℕ))). chain os (λ xs. guarded (eqb (length fs) 8) (row (row_c q s xs)))) (all_known fs)
    ∙ go (each (part_number true) fs) refl (leb (length fs) 8) refl
  where
    go : (o : Option (List ℕ)) → each (part_number true) fs ≡ o → (t : Bool) → leb (length fs) 8 ≡ t → chain (chain o (λ ns. some (map known_of ns))) (λ xs. guarded (eqb (length fs) 8) (row (row_c q s xs))) ≡ chain (chain o (λ xs. guarded t xs)) (λ ns. guarded (eqb (length ns) 8) (row (row_c q s (map known_of ns))))
    go none h t e = refl
    go (some ns) h true e = simp (each_length (part_number true) fs ns h)
    go (some ns) h false e =
        let l : 8 < length fs = leb-false (length fs) 8 e in
        simp (ne_eqb (length fs) 8 (λ w. omega arith))

pub code_none : form_at forms 5 [] ≡ none
unfolding form_by code_form ◌>>=◌
code_none = form_by_lem [] 5 [] (lit< tt)

pub code_form_lem : (f : List ℕ) (fs : List (List ℕ)) → form_at forms 5 (f ∷ fs) ≡ chain (letters f) (λ q. chain (read_slot 2 fs) (λ r. chain (at_most 8 (part_number true) r.1) (λ ns. guarded (eqb (length ns) 8) (row (row_c q r.0 (map known_of ns))))))
unfolding form_by code_form ◌>>=◌ read_slot plain_field
code_form_lem f fs = form_by_lem [] 5 (f ∷ fs) (lit< tt) ∙ go (letters f) fs
  where
    onto : (q : List Kind) (gs : List (List ℕ)) (o : Option ℕ) → chain o (λ s. rest (λ n. eqb n 8) known (λ rs. row (row_c q s rs))
        gs) ≡ chain {A = ℕ × List (List ℕ)} (chain o (λ n. some (n, gs))) (λ r. chain (at_most 8 (part_number true) r.1)
        (λ ns. guarded (eqb (length ns) 8) (row (row_c q r.0 (map known_of ns)))))
    onto q gs none = refl
    onto q gs (some s) = eight q s gs

    go : (o : Option (List Kind)) (gs : List (List ℕ))
        → chain o (λ q. (row_number >>= (λ s. rest (λ n. eqb n 8) known (λ rs. row (row_c q s rs)))) gs) ≡ chain o (λ q. chain (read_slot 2 gs)
        (λ r. chain (at_most 8 (part_number true) r.1) (λ ns. guarded (eqb (length ns) 8) (row (row_c q r.0 (map known_of ns))))))
    go none gs = refl
    go (some q) [] = refl
    go (some q) (g ∷ gs) = onto q gs (row_number g)
