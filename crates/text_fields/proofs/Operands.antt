-- Laws of operands.
-- Assumes nothing.
use Rattle.std.proofs.Common.{◌≡◌, ℕ, suc, ◌+◌, ◌-◌, ◌<◌, ◌≤◌, Bool, true, false, ◌&&◌, leb, List, [], ◌∷◌, length, get_or, take, drop, sym, refl, ap, ◌∙◌, ap₂, true≢false, zero-add, arith, eq-eqb, ne_eqb, le-leb}
use Rattle.std.specs.Prelude.{Option as Maybe, Some, None}
use mathlib.Core.Option.{Option, none, some, none-ne-some, some-injective}
use lib.Seq.{sets}
use borrow.Author.Tests.{lt-leb}
use Rattle.syntax.specs.Partial.{chain, guarded}
use Rattle.syntax.specs.Syntax as S
use Rattle.syntax.specs.Syntax.{reg, lit, lab, Operand, plain, inst, pack}
use Rattle.text.specs.Bytes.{split}
use Rattle.text.specs.Grammar.{row_number, index, label_number, register, each, carrier, or_literal, carried, packed, before, from_parts, operand}
use Rattle.text_lines.specs.Parts.{first_part}
use Rattle.text_lines.proofs.Parts.{only, split_is, split_more, split_last}
use Rattle.text_fields.specs.declared.plain_operands.Base.{Base}
use Rattle.text_fields.specs.declared.plain_operands.OperandRead.{OperandRead}
use Rattle.text_fields.specs.plain_operands.Answers.{base_of, read_of, answer_of, args_of, OperandIs}
use Rattle.text_fields.specs.Pieces.{base_read, any_read, is_some, or_zero, row_count, rows_in}

and_false : (b : Bool) → (b && false) ≡ false
and_false true = refl
and_false false = refl

-- ---- carriers and literals
pub carrier_label : (f : List ℕ) → 1 ≤ length f → get_or f 0 0 ≡ 35 → carrier f ≡ chain (index (drop 1 f)) (λ n. some (lab n))
unfolding carrier label_number index
carrier_label [] h e = absurd (omega arith)
carrier_label (b ∷ s) h e = simp (eq-eqb b 35 e)

pub carrier_register : (f : List ℕ) → (get_or f 0 0 ≡ 35 → ⊥) → carrier f ≡ chain (register f) (λ n. some (reg n))
unfolding carrier register
carrier_register [] e = refl
carrier_register (b ∷ s) e = simp (ne_eqb b 35 e)

-- what an answer tells of the base
base_none : (o : Option S.Base) → None ≡ base_read o → o ≡ none
base_none none h = refl
base_none (some b) h = absurd (cc)

base_there : (o : Option S.Base) (b : Base) → Some b ≡ base_read o → (x : S.Base) × (o ≡ some x) × (b ≡ base_of x)
base_there none b h = absurd (cc)
base_there (some x) b h = (x, refl, cc)

-- ---- row numbers between colons
module _ (n : ℕ) (p : List ℕ) where
  pub count_bad : (ps : List (List ℕ)) → is_some (row_number p) ≡ false → row_count n (p ∷ ps) ≡ none
  unfolding row_count each
  count_bad ps h = go (row_number p) refl h
    where
      go : (o : Option ℕ) → row_number p ≡ o → is_some o ≡ false → row_count n (p ∷ ps) ≡ none
      go none e q = simp e
      go (some t) e q = absurd (true≢false q)

  pub count_more : (ps : List (List ℕ)) → is_some (row_number p) ≡ true → row_count n (p ∷ ps) ≡ row_count (n + 1) ps
  unfolding row_count each
  count_more ps h = go (row_number p) (each row_number ps) refl refl h
    where
      go : (o : Option ℕ) (u : Option (List ℕ)) → row_number p ≡ o → each row_number ps ≡ u → is_some o ≡ true → row_count n (p ∷ ps) ≡ row_count (n + 1) ps
      go none u e f q = absurd (true≢false (sym q))
      go (some t) none e f q = simp (e, f)
      go (some t) (some ts) e f q =
          let k : n + suc (length ps) ≡ n + 1 + length ps = omega arith in
          simp (e, f) (ap (λ (j : ℕ). guarded (leb j 8) j) k)

  pub count_last : n < 8 → is_some (row_number p) ≡ true → row_count n (p ∷ []) ≡ some (n + 1)
  unfolding row_count each
  count_last l h =
      let k : n + 1 + 0 ≡ n + 1 = omega arith in
      let q : n + 1 ≤ 8 = omega arith in
      count_more [] h ∙ ap (λ (j : ℕ). guarded (leb j 8) j) k ∙ simp (le-leb (n + 1) 8 q)

pub count_many : (n : ℕ) (ps : List (List ℕ)) → 8 ≤ n → 0 < length ps → row_count n ps ≡ none
unfolding row_count
count_many n ps h l = go (each row_number ps) refl
  where
    go : (u : Option (List ℕ)) → each row_number ps ≡ u → row_count n ps ≡ none
    go none e = simp e
    go (some ts) e = let q : 8 < n + length ps = omega arith in simp (e, lt-leb (n + length ps) 8 q)

pub rows_cons : (p : List ℕ) (ps : List (List ℕ)) → rows_in (p ∷ ps) ≡ or_zero (row_number p) ∷ rows_in ps
unfolding rows_in
rows_cons p ps = refl

pub rows_one : (p : List ℕ) → rows_in (p ∷ []) ≡ or_zero (row_number p) ∷ []
unfolding rows_in
rows_one p = refl

-- each of them read: as many, and those that are written
each_is : (ps : List (List ℕ)) (ts : List ℕ) → each row_number ps ≡ some ts → (length ps ≡ length ts) × (rows_in ps ≡ ts)
unfolding each rows_in
each_is [] ts e = let q = some-injective [] ts e in (ap length q, q)
each_is (p ∷ ps) ts e = go (row_number p) (each row_number ps) refl refl e (each_is ps)
  where
    go : (o : Option ℕ) (u : Option (List ℕ)) → row_number p ≡ o → each row_number ps ≡ u → chain o (λ x. chain u (λ xs. some (x ∷ xs))) ≡
        some ts → ((ys : List ℕ) → each row_number ps ≡ some ys → (length ps ≡ length ys) × (rows_in ps ≡ ys))
        → (suc (length ps) ≡ length ts) × (or_zero (row_number p) ∷ rows_in ps ≡ ts)
    go none u a b h r = absurd (none-ne-some ts h)
    go (some x) none a b h r = absurd (none-ne-some ts h)
    go (some x) (some xs) a b h r =
        let w = r xs b in
        let q = some-injective (x ∷ xs) ts h in
        (ap suc w.0 ∙ ap length q, ap₂ (λ (y : ℕ) (ys : List ℕ). y ∷ ys) (ap or_zero a) w.1 ∙ q)

-- ---- the two sides of `=`
abbrev joined : Option S.Base → Option (List ℕ) → Option ℕ → Bool → Option Operand
joined c ts r s = chain c (λ x. chain ts (λ xs. chain r (λ y. guarded s (inst x xs y))))

no_list : (c : Option S.Base) (r : Option ℕ) (s : Bool) → joined c none r s ≡ none
no_list none r s = refl
no_list (some x) r s = refl

no_row : (c : Option S.Base) (ts : Option (List ℕ)) (s : Bool) → joined c ts none s ≡ none
no_row none ts s = refl
no_row (some x) none s = refl
no_row (some x) (some xs) s = refl

no_size : (c : Option S.Base) (ts : Option (List ℕ)) (r : Option ℕ) → joined c ts r false ≡ none
no_size none ts r = refl
no_size (some x) none r = refl
no_size (some x) (some xs) none = refl
no_size (some x) (some xs) (some y) = refl

abbrev sized : ℕ → Bool
sized k = leb 1 k && leb k 8

module _ (b t : List ℕ) where
  pub carried_alone : carried (b ∷ []) t ≡ none
  unfolding carried each
  carried_alone = no_size (carrier b) (some []) (row_number t)

  module _ (ps : List (List ℕ)) where
    carried_def : carried (b ∷ ps) t ≡ joined (carrier b) (each row_number ps) (row_number t) (sized (length ps))
    unfolding carried
    carried_def = refl

    pub carried_base : carrier b ≡ none → carried (b ∷ ps) t ≡ none
    unfolding carried
    carried_base e = simp e

    pub carried_row : row_number t ≡ none → carried (b ∷ ps) t ≡ none
    carried_row e = carried_def ∙ ap (λ (r : Option ℕ). joined (carrier b) (each row_number ps) r (sized (length ps))) e ∙ no_row (carrier b) (each row_number ps) (sized (length ps))

    few_as : (x : Bool) → leb (0 + length ps) 8 ≡ x → leb (length ps) 8 ≡ x
    few_as x e = ap (λ (k : ℕ). leb k 8) (sym (zero-add (length ps))) ∙ e

    pub carried_count : none ≡ row_count 0 ps → carried (b ∷ ps) t ≡ none
    unfolding row_count
    carried_count h = carried_def ∙ go (each row_number ps) (leb (0 + length ps) 8) refl h
      where
        go : (u : Option (List ℕ)) (x : Bool) → leb (0 + length ps) 8 ≡ x → none ≡ chain u (λ ts. guarded x (0 + length ps)) → joined (carrier b) u (row_number t) (sized (length ps)) ≡ none
        go none x e q = no_list (carrier b) (row_number t) (sized (length ps))
        go (some ts) true e q = absurd (none-ne-some (0 + length ps) q)
        go (some ts) false e q =
            let s : sized (length ps) ≡ false = ap (λ (y : Bool). leb 1 (length ps) && y) (few_as false e) ∙ and_false (leb 1 (length ps)) in
            ap (joined (carrier b) (some ts) (row_number t)) s ∙ no_size (carrier b) (some ts) (row_number t)

    pub carried_is : (c : S.Base) (n r : ℕ) → carrier b ≡ some c → some n ≡ row_count 0 ps → 0 < length ps → row_number t ≡ some r → (ts : List ℕ) × (each row_number ps ≡ some ts) × (n ≡ length ts) × (carried (b ∷ ps) t ≡ some (inst c ts r))
    unfolding row_count carried
    carried_is c n r e h l f = go (each row_number ps) refl (leb (0 + length ps) 8) refl h
      where
        go : (u : Option (List ℕ)) → each row_number ps ≡ u → (x : Bool) → leb (0 + length ps) 8 ≡ x → some n ≡ chain u (λ ts. guarded x (0 + length ps)) → (ts : List ℕ) × (each row_number ps ≡ some ts) × (n ≡ length ts) × (carried (b ∷ ps) t ≡ some (inst c ts r))
        go none g x q h = absurd (none-ne-some n (sym h))
        go (some ts) g false q h = absurd (none-ne-some n (sym h))
        go (some ts) g true q h =
            let k : leb 1 (length ps) ≡ true = le-leb 1 (length ps) l in
            let m : leb (length ps) 8 ≡ true = few_as true q in
            let w : n ≡ length ts = some-injective n (0 + length ps) h ∙ zero-add (length ps) ∙ (each_is ps ts g).0 in
            (ts, g, w, simp (e, g, f, k, m))

-- ---- the answer and what is stored
pub nothing_is : {o : Option Operand} {l : List ℕ} {at : ℕ} {r : Maybe OperandRead} → o ≡ none → r ≡ None → OperandIs o l at r l
unfolding answer_of args_of
nothing_is {l = l} {at = at} e a =
    record { answer = a ∙ ap answer_of (sym e); stored = ap (λ (x : Option Operand). sets l at (args_of x)) (sym e) }

inst_is : (o : Option Operand) (l : List ℕ) (at : ℕ) (b : Base) (c : S.Base) (ts : List ℕ) (t m : ℕ) → o ≡ some (inst c ts t) → b ≡ base_of c → m ≡ length ts → OperandIs o l at (Some (record { base = b; packed = false; count = m; row = t })) (sets l at ts)
unfolding answer_of args_of
inst_is o l at b c ts t m e p w =
    let a : ◌≡◌ {A = OperandRead} (record { base = b; packed = false; count = m; row = t }) (read_of (inst c ts t)) = λ i. record { base = p i; packed = false; count = w i; row = t } in
    record { answer = ap {B = Maybe OperandRead} Some a ∙ ap answer_of (sym e); stored = ap (λ (x : Option Operand). sets l at (args_of x)) (sym e) }

-- the same of an equal operand
pub same_is : {o p : Option Operand} {l : List ℕ} {at : ℕ} {r : Maybe OperandRead} {after : List ℕ} → o ≡ p → OperandIs o l at r after → OperandIs p l at r after
same_is {l = l} {at = at} e g =
    record { answer = g.answer ∙ ap answer_of e; stored = g.stored ∙ ap (λ (x : Option Operand). sets l at (args_of x)) e }

plain_args : (o : Option S.Base) → args_of (chain o (λ b. some (plain b))) ≡ []
unfolding args_of
plain_args none = refl
plain_args (some b) = refl

plain_answer : (o : Option S.Base) → any_read o ≡ answer_of (chain o (λ b. some (plain b)))
unfolding answer_of
plain_answer none = refl
plain_answer (some b) = refl

pub plain_is : (f : List ℕ) (l : List ℕ) (at : ℕ) (r : Maybe OperandRead) → operand f ≡ from_parts (f ∷ []) → r ≡ any_read (or_literal (carrier f) f) → OperandIs (operand f) l at r l
plain_is f l at r e a =
    record {
      answer = a ∙ plain_answer (or_literal (carrier f) f) ∙ ap answer_of (sym e);
      stored = sym (ap (sets l at) (ap args_of e ∙ plain_args (or_literal (carrier f) f)));
    }

-- on each way through `carried`, e being where the carrier ends
module _ (l t : List ℕ) (e : ℕ) (is : e ≡ 0 + length (first_part 58 (drop 0 l))) where
  pub sides_alone : length l ≤ e → carried (split 58 l) t ≡ none
  sides_alone h = ap (λ (ps : List (List ℕ)). carried ps t) (split_last 58 l 0 e is h) ∙ carried_alone (take (e - 0) (drop 0 l)) t

  module _ (h : e < length l) where
    sides : carried (split 58 l) t ≡ carried (take (e - 0) (drop 0 l) ∷ split 58 (drop (e + 1) l)) t
    sides = ap (λ (ps : List (List ℕ)). carried ps t) (split_more 58 l 0 e is h)

    pub sides_base : None ≡ base_read (carrier (take (e - 0) (drop 0 l))) → carried (split 58 l) t ≡ none
    sides_base q = sides ∙ carried_base (take (e - 0) (drop 0 l)) t (split 58 (drop (e + 1) l)) (base_none (carrier (take (e - 0) (drop 0 l))) q)

    pub sides_row : none ≡ row_number t → carried (split 58 l) t ≡ none
    sides_row q = sides ∙ carried_row (take (e - 0) (drop 0 l)) t (split 58 (drop (e + 1) l)) (sym q)

    pub sides_count : none ≡ row_count 0 (split 58 (drop (e + 1) l)) → carried (split 58 l) t ≡ none
    sides_count q = sides ∙ carried_count (take (e - 0) (drop 0 l)) t (split 58 (drop (e + 1) l)) q

    pub sides_all : (b : Base) → Some b ≡ base_read (carrier (take (e - 0) (drop 0 l))) → (n r : ℕ) → some n ≡ row_count 0 (split 58 (drop (e + 1) l)) → some r ≡ row_number t
        → (out : List ℕ) (at : ℕ) → OperandIs (carried (split 58 l) t) out at (Some (record {
          base = b;
          packed = false;
          count = n;
          row = r;
        })) (sets out at (rows_in (split 58 (drop (e + 1) l))))
    sides_all b be n r ne re out at =
        let ps = split 58 (drop (e + 1) l) in
        let w = base_there (carrier (take (e - 0) (drop 0 l))) b be in
        let q : 0 < length ps = omega (arith, ap length (split_is 58 (drop (e + 1) l))) in
        let v = carried_is (take (e - 0) (drop 0 l)) t ps w.0 n r w.1 ne q (sym re) in
        let i = inst_is (carried (split 58 l) t) out at b w.0 v.0 r n (sides ∙ v.3) w.2 v.2 in
        record { answer = i.answer; stored = ap (sets out at) (each_is ps v.0 v.1).1 ∙ i.stored }

-- ---- packages
abbrev wrapped : Option ℕ → Option S.Base → Option ℕ → Option Operand
wrapped a b h = chain a (λ u. chain b (λ c. chain h (λ t. some (pack u c t))))

no_base : (a h : Option ℕ) → wrapped a none h ≡ none
no_base none h = refl
no_base (some u) h = refl

no_hidden : (a : Option ℕ) (b : Option S.Base) → wrapped a b none ≡ none
no_hidden none b = refl
no_hidden (some u) none = refl
no_hidden (some u) (some c) = refl

wrapped_is : {a : Option ℕ} {b : Option S.Base} {h : Option ℕ} {u t : ℕ} {c : S.Base} → a ≡ some u → b ≡ some c → h ≡ some t → wrapped a b h ≡ some (pack u c t)
wrapped_is p q r = λ i. wrapped (p i) (q i) (r i)

pack_is : (o : Option Operand) (l : List ℕ) (at : ℕ) (b : Base) (a : ℕ) (c : S.Base) (h : ℕ) → o ≡ some (pack a c h) → b ≡ base_of c → OperandIs o l at (Some (record { base = b; packed = true; count = 1; row = h })) (sets l at (a ∷ []))
unfolding answer_of args_of
pack_is o l at b a c h e p =
    let w : ◌≡◌ {A = OperandRead} (record { base = b; packed = true; count = 1; row = h }) (read_of (pack a c h)) = λ i. record { base = p i; packed = true; count = 1; row = h } in
    record { answer = ap {B = Maybe OperandRead} Some w ∙ ap answer_of (sym e); stored = ap (λ (x : Option Operand). sets l at (args_of x)) (sym e) }

-- on each way through `packed`: e is where the argument's row ends, d where the first part of what follows does
module _ (l t : List ℕ) (e : ℕ) (is : e ≡ 0 + length (first_part 58 (drop 0 l))) where
  pub pack_alone : length l ≤ e → packed (split 58 l) t ≡ none
  unfolding packed
  pack_alone h = ap (λ (ps : List (List ℕ)). packed ps t) (split_last 58 l 0 e is h)

  module _ (h : e < length l) (v : List ℕ) (ve : v ≡ drop (e + 1) l) (d : ℕ) (ds : d ≡ 0 + length (first_part 58 (drop 0 v))) where
    parts : split 58 l ≡ take (e - 0) (drop 0 l) ∷ split 58 v
    parts = split_more 58 l 0 e is h ∙ ap (λ (s : List ℕ). take (e - 0) (drop 0 l) ∷ split 58 s) (sym ve)

    pub pack_more : d < length v → packed (split 58 l) t ≡ none
    unfolding packed
    pack_more k =
        let q = split_more 58 v 0 d ds k ∙ ap (λ (ps : List (List ℕ)). take (d - 0) (drop 0 v) ∷ ps) (split_is 58 (drop (d + 1) v)) in
        ap (λ (ps : List (List ℕ)). packed ps t) (parts ∙ ap (λ (ps : List (List ℕ)). take (e - 0) (drop 0 l) ∷ ps) q)

    module _ (k : length v ≤ d) where
      parts_two : packed (split 58 l) t ≡ wrapped (row_number (take (e - 0) (drop 0 l))) (or_literal (carrier v) v) (row_number t)
      unfolding packed
      parts_two =
          let m : length v ≤ length (first_part 58 v) = omega arith in
          ap (λ (ps : List (List ℕ)). packed ps t) (parts ∙ ap (λ (ps : List (List ℕ)). take (e - 0) (drop 0 l) ∷ ps) (only 58 v m))

      pub pack_argument : none ≡ row_number (take (e - 0) (drop 0 l)) → packed (split 58 l) t ≡ none
      pack_argument q = parts_two ∙ ap (λ (a : Option ℕ). wrapped a (or_literal (carrier v) v) (row_number t)) (sym q)

      pub pack_row : none ≡ row_number t → packed (split 58 l) t ≡ none
      pack_row q =
          let a = row_number (take (e - 0) (drop 0 l)) in
          parts_two ∙ ap (wrapped a (or_literal (carrier v) v)) (sym q) ∙ no_hidden a (or_literal (carrier v) v)

      pub pack_base : None ≡ base_read (or_literal (carrier v) v) → packed (split 58 l) t ≡ none
      pack_base q =
          let a = row_number (take (e - 0) (drop 0 l)) in
          parts_two ∙ ap (λ (o : Option S.Base). wrapped a o (row_number t)) (base_none (or_literal (carrier v) v) q) ∙ no_base a (row_number t)

      pub pack_all : (b : Base) → Some b ≡ base_read (or_literal (carrier v) v) → (a r : ℕ) → some a ≡ row_number (take (e - 0) (drop 0 l)) → some r ≡ row_number t
          → (out : List ℕ) (at : ℕ) → OperandIs (packed (split 58 l) t) out at (Some (record {
            base = b;
            packed = true;
            count = 1;
            row = r;
          })) (sets out at (a ∷ []))
      pack_all b be a r ae re out at =
          let w = base_there (or_literal (carrier v) v) b be in
          pack_is (packed (split 58 l) t) out at b a w.0 r (parts_two ∙ wrapped_is (sym ae) w.1 (sym re)) w.2

-- on each way through `before`
module _ (l t : List ℕ) where
  pub before_none : length l < 1 → before l t ≡ none
  unfolding before
  before_none e = go l e
    where
      go : (l : List ℕ) → length l < 1 → before l t ≡ none
      go [] e = refl
      go (b ∷ l) e = absurd (omega arith)

  pub before_pack : 1 ≤ length l → get_or l 0 0 ≡ 33 → before l t ≡ packed (split 58 (drop 1 l)) t
  unfolding before
  before_pack h e = go l h e
    where
      go : (l : List ℕ) → 1 ≤ length l → get_or l 0 0 ≡ 33 → before l t ≡ packed (split 58 (drop 1 l)) t
      go [] h e = absurd (omega arith)
      go (b ∷ l) h e = simp (eq-eqb b 33 e)

  pub before_carried : 1 ≤ length l → (get_or l 0 0 ≡ 33 → ⊥) → before l t ≡ carried (split 58 l) t
  unfolding before
  before_carried h e = go l h e
    where
      go : (l : List ℕ) → 1 ≤ length l → (get_or l 0 0 ≡ 33 → ⊥) → before l t ≡ carried (split 58 l) t
      go [] h e = absurd (omega arith)
      go (b ∷ l) h e = simp (ne_eqb b 33 e)

-- ---- the parts of the field
module _ (f : List ℕ) where
  pub one_part : split 61 f ≡ f ∷ [] → operand f ≡ from_parts (f ∷ [])
  unfolding operand
  one_part e = ap from_parts e

  pub two_parts : (l t : List ℕ) → split 61 f ≡ l ∷ split 61 t → split 61 t ≡ t ∷ [] → operand f ≡ before l t
  unfolding operand
  two_parts l t e h = ap from_parts (e ∙ ap (λ (ps : List (List ℕ)). l ∷ ps) h)

  pub more_parts : (l t p u : List ℕ) → split 61 f ≡ l ∷ split 61 t → split 61 t ≡ p ∷ split 61 u → operand f ≡ none
  unfolding operand
  more_parts l t p u e h = ap from_parts (e ∙ ap (λ (ps : List (List ℕ)). l ∷ ps) (h ∙ ap (λ (ps : List (List ℕ)). p ∷ ps) (split_is 61 u)))

-- on each way through `operand`: e is where its first part ends, d where the first part of what follows does
module _ (f : List ℕ) (e : ℕ) (is : e ≡ 0 + length (first_part 61 (drop 0 f))) where
  pub field_plain : length f ≤ e → operand f ≡ from_parts (f ∷ [])
  field_plain h = one_part f (only 61 f (omega arith))

  module _ (h : e < length f) (d : ℕ) (ds : d ≡ 0 + length (first_part 61 (drop 0 (drop (e + 1) f)))) where
    pub field_more : d < length (drop (e + 1) f) → operand f ≡ none
    field_more k =
        let t = drop (e + 1) f in
        more_parts f (take (e - 0) (drop 0 f)) t (take (d - 0) (drop 0 t)) (drop (d + 1) t) (split_more 61 f 0 e is h) (split_more 61 t 0 d ds k)

    pub field_sides : length (drop (e + 1) f) ≤ d → operand f ≡ before (take (e - 0) (drop 0 f)) (drop (e + 1) f)
    field_sides k =
        let t = drop (e + 1) f in
        two_parts f (take (e - 0) (drop 0 f)) t (split_more 61 f 0 e is h) (only 61 t (omega arith))
