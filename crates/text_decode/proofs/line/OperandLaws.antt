-- Laws of the loop that reads a line's fields as operands into the tables.
-- Assumes nothing.
use mathlib.Core.Path.{◌≡◌, refl, ap, ap₂, sym, ◌∙◌}
use mathlib.Core.Bool.{Bool, true, false, ◌&&◌, cond}
use mathlib.Core.List.{List, [], ◌∷◌, ◌++◌}
use mathlib.Core.Option.{Option, none, some, none-ne-some, some-injective}
use Prim.Native.Nat.{ℕ, suc, ◌+◌, ◌-◌, ◌*◌, ◌<◌, ◌≤◌, zero-le}
use native.Mathlib.Omega.{arith}
use native.Mathlib.Nat.{add-zero, le_refl, le-add_right, not-suc-le-zero}
use lib.Dec.{eqb, leb, lit<}
use lib.ListN.{length, get_or, take, drop, set, length-set, length-take}
use lib.Seq.{sets, take-set-le, get_or-set_same, length-sets}
use borrow.Author.Tests.{leb-true}
use Rattle.syntax.specs.Partial.{chain, guarded}
use Rattle.syntax.specs.Syntax as S
use Rattle.syntax.specs.Syntax.{reg, lit, lab, Operand, plain, inst, pack}
use Rattle.std.specs.Prelude.{Some, None}
use Rattle.text.specs.Bytes.{part, split, is_decimal, number}
use Rattle.text.specs.Grammar.{each, row_number, carrier, or_literal, carried, packed, before, from_parts, operand}
use Rattle.tables.specs.Tables.{cell, span, base_of, operand_of, operand_from, OperandTable, operand_at, operands_at}
use Rattle.tables.proofs.Spans.{same_less, same_at, same_sets, span_same, span_sets, span_at, sets_at, operands_snoc}
use Rattle.text_lines.specs.Parts.{first_part, line_in}
use Rattle.text_fields.specs.plain_operands.Answers.{read_of, answer_of, args_of, OperandIs}
use Rattle.text_fields.specs.declared.plain_operands.OperandRead.{OperandRead}
use Rattle.text_decode.specs.line.Fields.{fields_from}
use Rattle.text_decode.specs.line.Answers.{SameOperands, operand_table, kind_number, base_number, with_operand, OperandRoom, OperandsRead, Carried}
use Rattle.text_decode.proofs.line.FormLaws.{each_length}
use Rattle.text_decode.proofs.line.Walk.{Walked, walk_start, walk_on, walk_bad, walk_many, walk_end, fields_past, fields_next}

-- ---- parts, each with a byte that ends it
size : List (List ℕ) → ℕ
size [] = 0
size (p ∷ ps) = suc (length p) + size ps

part_size : (t : Bool) (b : ℕ) (ps : List (List ℕ)) (n : ℕ) → size ps ≡ suc n → size (part t b ps) ≡ suc (suc n)
unfolding size
part_size true b ps n e = omega arith
part_size false b [] n e = absurd (omega arith)
part_size false b (p ∷ ps) n e = omega arith

split_size : (c : ℕ) (s : List ℕ) → size (split c s) ≡ suc (length s)
unfolding size split
split_size c [] = refl
split_size c (b ∷ s) = part_size (eqb b c) b (split c s) (length s) (split_size c s)

-- a row number has a digit
row_long : (f : List ℕ) (n : ℕ) → row_number f ≡ some n → 1 ≤ length f
unfolding row_number number is_decimal
row_long [] n h = absurd (none-ne-some n h)
row_long (b ∷ f) n h = omega arith

rows_long : (fs : List (List ℕ)) (ns : List ℕ) → each row_number fs ≡ some ns → 2 * length fs ≤ size fs
unfolding size each
rows_long [] ns h = zero-le
rows_long (f ∷ fs) ns h = go (row_number f) refl (each row_number fs) (rows_long fs) h
  where
    go : (o : Option ℕ) → row_number f ≡ o → (rs : Option (List ℕ)) → ((ms : List ℕ) → rs ≡ some ms → 2 * length fs ≤ size fs) → chain o (λ x. chain rs (λ xs. some (x ∷ xs))) ≡ some ns → 2 * suc (length fs) ≤ suc (length f) + size fs
    go none w rs v e = absurd (none-ne-some ns e)
    go (some x) w none v e = absurd (none-ne-some ns e)
    go (some x) w (some xs) v e = let a = row_long f x w in let b = v xs refl in omega arith

-- ---- an operand that has arguments has one to eight, a package one, in a field of at least twice as many bytes
Neat : ℕ → Operand → Type 0
Neat k (plain b) = Unit
Neat k (inst b ts t) = (1 ≤ length ts) × (length ts ≤ 8) × (2 * length ts ≤ k)
Neat k (pack a b h) = 2 ≤ k

guarded_both : {A : Type 0} (a b : Bool) (x y : A) → guarded (a && b) x ≡ some y → (a ≡ true) × (b ≡ true) × (x ≡ y)
guarded_both true true x y e = (refl, refl, some-injective x y e)
guarded_both true false x y e = absurd (none-ne-some y e)
guarded_both false b x y e = absurd (none-ne-some y e)

carried_neat : (ps : List (List ℕ)) (f : List ℕ) (k : ℕ) → size ps ≤ suc k → (o : Operand) → carried ps f ≡ some o → Neat k o
unfolding carried Neat size
carried_neat [] f k l o h = absurd (none-ne-some o h)
carried_neat (b ∷ ts) f k l o h = go (carrier b) (each row_number ts) refl (row_number f) h
  where
    go : (c : Option S.Base) (rs : Option (List ℕ)) → each row_number ts ≡ rs → (t : Option ℕ) → chain c (λ c. chain rs (λ rs. chain t (λ r. guarded (leb 1 (length ts) && leb (length ts) 8) (inst c rs r)))) ≡ some o → Neat k o
    go none rs w t e = absurd (none-ne-some o e)
    go (some c) none w t e = absurd (none-ne-some o e)
    go (some c) (some rs) w none e = absurd (none-ne-some o e)
    go (some c) (some rs) w (some r) e =
        let q = guarded_both (leb 1 (length ts)) (leb (length ts) 8) (inst c rs r) o e in
        let n = each_length row_number ts rs w in
        let d = rows_long ts rs w in
        let lo = leb-true 1 (length ts) q.0 in
        let hi = leb-true (length ts) 8 q.1 in
        rw (← q.2) (omega arith, omega arith, omega arith)

packed_neat : (ps : List (List ℕ)) (f : List ℕ) (k : ℕ) → 2 ≤ k → (o : Operand) → packed ps f ≡ some o → Neat k o
unfolding packed Neat
packed_neat [] f k l o h = absurd (none-ne-some o h)
packed_neat (a ∷ []) f k l o h = absurd (none-ne-some o h)
packed_neat (a ∷ b ∷ []) f k l o h = go (row_number a) (or_literal (carrier b) b) (row_number f) h
  where
    go : (u : Option ℕ) (c : Option S.Base) (t : Option ℕ) → chain u (λ u. chain c (λ c. chain t (λ t. some (pack u c t)))) ≡ some o → Neat k o
    go none c t e = absurd (none-ne-some o e)
    go (some u) none t e = absurd (none-ne-some o e)
    go (some u) (some c) none e = absurd (none-ne-some o e)
    go (some u) (some c) (some t) e = rw (← (some-injective (pack u c t) o e)) l
packed_neat (a ∷ b ∷ c ∷ ps) f k l o h = absurd (none-ne-some o h)

before_neat : (l t : List ℕ) (k : ℕ) → suc (length l) ≤ k → (o : Operand) → before l t ≡ some o → Neat k o
unfolding before
before_neat [] t k d o h = absurd (none-ne-some o h)
before_neat (b ∷ l) t k d o h = go (eqb b 33) h
  where
    go : (x : Bool) → cond x (packed (split 58 l) t) (carried (split 58 (b ∷ l)) t) ≡ some o → Neat k o
    go true e = packed_neat (split 58 l) t k (omega arith) o e
    go false e = let s = split_size 58 (b ∷ l) in carried_neat (split 58 (b ∷ l)) t k (omega arith) o e

parts_neat : (ps : List (List ℕ)) (k : ℕ) → size ps ≤ suc k → (o : Operand) → from_parts ps ≡ some o → Neat k o
unfolding Neat size
parts_neat [] k d o h = absurd (none-ne-some o h)
parts_neat (b ∷ []) k d o h = go (or_literal (carrier b) b) h
  where
    go : (c : Option S.Base) → chain c (λ c. some (plain c)) ≡ some o → Neat k o
    go none e = absurd (none-ne-some o e)
    go (some c) e = rw (← (some-injective (plain c) o e)) tt
parts_neat (l ∷ t ∷ []) k d o h = before_neat l t k (omega arith) o h
parts_neat (l ∷ t ∷ u ∷ ps) k d o h = absurd (none-ne-some o h)

operand_neat : (f : List ℕ) (o : Operand) → operand f ≡ some o → Neat (length f) o
unfolding operand
operand_neat f o h = let e = split_size 61 f in parts_neat (split 61 f) (length f) (omega arith) o h

-- ---- tables with the same first operands
module _ (ω ρ : OperandTable) where
  pub same_fewer : (m n j k : ℕ) → m ≤ n → j ≤ k → SameOperands n k ω ρ → SameOperands m j ω ρ
  same_fewer m n j k h i s = record {
    kinds = same_less (4 * m) (4 * n) ω.operands ρ.operands (omega arith) s.kinds;
    numbers = same_less m n ω.numbers ρ.numbers h s.numbers;
    args = same_less j k ω.args ρ.args i s.args;
  }

  pub same_on : (π : OperandTable) (n k : ℕ) → SameOperands n k ω ρ → SameOperands n k ρ π → SameOperands n k ω π
  same_on π n k s t = record {
    kinds = s.kinds ∙ t.kinds;
    numbers = s.numbers ∙ t.numbers;
    args = s.args ∙ t.args;
  }

-- ---- one operand stored
rebuilt : (o : Operand) (k a : ℕ) → Neat k o → (0 < length (args_of (some o)) → a ≡ get_or (args_of (some o)) 0 0) → operand_from (kind_number (read_of o)) (base_number (read_of o).base) (args_of (some o)) a (read_of o).row ≡ o
unfolding Neat answer_of args_of operand_from operand_of base_of
rebuilt (plain (reg n)) k a h e = refl
rebuilt (plain (lit n)) k a h e = refl
rebuilt (plain (lab n)) k a h e = refl
rebuilt (inst b [] t) k a h e = absurd (not-suc-le-zero h.0)
rebuilt (inst (reg n) (x ∷ ts) t) k a h e = refl
rebuilt (inst (lit n) (x ∷ ts) t) k a h e = refl
rebuilt (inst (lab n) (x ∷ ts) t) k a h e = refl
rebuilt (pack x (reg n) t) k a h e = ap (λ (y : ℕ). pack y (reg n) t) (e (lit< tt))
rebuilt (pack x (lit n) t) k a h e = ap (λ (y : ℕ). pack y (lit n) t) (e (lit< tt))
rebuilt (pack x (lab n) t) k a h e = ap (λ (y : ℕ). pack y (lab n) t) (e (lit< tt))

count_is : (o : Operand) → (read_of o).count ≡ length (args_of (some o))
unfolding answer_of args_of
count_is (plain b) = refl
count_is (inst b ts t) = refl
count_is (pack a b h) = refl

args_few : (o : Operand) (k : ℕ) → Neat k o → (length (args_of (some o)) ≤ 8) × (2 * length (args_of (some o)) ≤ k)
unfolding Neat args_of
args_few (plain b) k h = (zero-le, zero-le)
args_few (inst b ts t) k h = (h.1, h.2)
args_few (pack a b t) k h = (omega arith, omega arith)

module _ (operands numbers args : List ℕ) (w k : ℕ) (o : Operand) where
  -- the tables with operand w stored, its arguments from k on
  abbrev pub stored : OperandTable
  stored = operand_table (with_operand operands w (read_of o) k) (set numbers w (base_number (read_of o).base)) (sets args k (args_of (some o)))

  pub stored_kept : SameOperands w k stored (operand_table operands numbers args)
  stored_kept = record {
    kinds = same_sets (4 * w) operands (4 * w) (kind_number (read_of o) ∷ (read_of o).count ∷ (read_of o).row ∷ k ∷ []) (le_refl (4 * w));
    numbers = take-set-le w numbers w (base_number (read_of o).base) (le_refl w);
    args = same_sets k args k (args_of (some o)) (le_refl k);
  }

  module _ (j : ℕ) (n : Neat j o) (p : 4 * w + 4 ≤ length operands) (q : w < length numbers) (r : k + 8 ≤ length args) where
    stored_there : (ρ : OperandTable) → SameOperands (w + 1) (k + (read_of o).count) ρ stored → operand_at ρ w ≡ o
    unfolding operand_at
    stored_there ρ s =
        let vs : List ℕ = kind_number (read_of o) ∷ (read_of o).count ∷ (read_of o).row ∷ k ∷ [] in
        let at : (i : ℕ) → i < 4 → cell 4 ρ.operands w i ≡ get_or vs i 0 = λ i l. same_at (4 * (w + 1)) ρ.operands stored.operands (4 * w + i) (omega arith) s.kinds ∙ sets_at operands (4 * w) vs i p l in
        let number : get_or ρ.numbers w 0 ≡ base_number (read_of o).base = same_at (w + 1) ρ.numbers stored.numbers w (omega arith) s.numbers ∙ get_or-set_same numbers w (base_number (read_of o).base) 0 q in
        let few = (args_few o j n).0 in
        let c = count_is o in
        let args' : span ρ.args k (read_of o).count ≡ args_of (some o) = ap (span ρ.args k) (count_is o) ∙ span_same (k + (read_of o).count) ρ.args stored.args k (length (args_of (some o))) (omega arith) s.args ∙ span_sets args k (args_of (some o)) (omega arith) in
        let first : 0 < length (args_of (some o)) → get_or ρ.args k 0 ≡ get_or (args_of (some o)) 0 0 = λ l. sym (span_at ρ.args k (read_of o).count 0 (omega arith) ∙ ap (λ (i : ℕ). get_or ρ.args i 0) (add-zero k)) ∙ ap (λ (xs : List ℕ). get_or xs 0 0) args' in
        simp (at 0 (lit< tt), at 1 (lit< tt), at 2 (lit< tt), at 3 (lit< tt), number, args') (rebuilt o j (get_or ρ.args k 0) n first)

-- ---- the loop
-- n operands with m arguments are read, as xs, and what is left starts at i
pub record OperandsGo (rest : List ℕ) (at most v a : ℕ) (before ω : OperandTable) (i n m : ℕ) : Type 0 where
  pub few : n ≤ most
  pub few_args : m ≤ 8 * n
  pub short : 2 * m + at ≤ i
  pub long_kinds : length ω.operands ≡ length before.operands
  pub long_numbers : length ω.numbers ≡ length before.numbers
  pub long_args : length ω.args ≡ length before.args
  pub kept : SameOperands v a ω before
  pub xs : List Operand
  pub stands : (ρ : OperandTable) → SameOperands (v + n) (a + m) ρ ω → operands_at ρ v n ≡ xs
  pub walked : Walked operand (fields_from rest at) (fields_from rest i) n xs

-- the arguments that were read stand in the line, two bytes each, with the byte before them
pub carried_by : (rest : List ℕ) (at : ℕ) {most v a i n m : ℕ} {before ω : OperandTable} → OperandsGo (line_in rest) (at + 1) most v a before ω i n m → i ≤ length (line_in rest) + 1 → most ≤ 16 → Carried rest m
carried_by rest at g h k = let s = g.short in let f = g.few_args in let w = g.few in (omega arith, omega arith)

-- what an answer tells of the operand
no_operand : (o : Option Operand) → None ≡ answer_of o → o ≡ none
unfolding answer_of
no_operand none h = refl
no_operand (some x) h = absurd (cc)

is_operand : (o : Option Operand) (r : OperandRead) → Some r ≡ answer_of o → (x : Operand) × (o ≡ some x) × (r ≡ read_of x)
unfolding answer_of
is_operand none r h = absurd (cc)
is_operand (some x) r h = (x, refl, cc)

nothing : (l : List ℕ) (i : ℕ) → sets l i (args_of none) ≡ l
unfolding args_of
nothing l i = refl

module _ (rest : List ℕ) (at most v a : ℕ) (before : OperandTable) where
  pub operands_start : OperandsGo rest at most v a before before at 0 0
  unfolding operands_at
  operands_start = record {
    few = zero-le;
    few_args = zero-le;
    short = omega arith;
    long_kinds = refl;
    long_numbers = refl;
    long_args = refl;
    kept = record { kinds = refl; numbers = refl; args = refl };
    xs = [];
    stands = λ ρ s. refl;
    walked = walk_start operand (fields_from rest at);
  }

  module _ (ω : OperandTable) (i n m : ℕ) (g : OperandsGo rest at most v a before ω i n m) where
    pub operands_end : length rest < i → (z : ℕ) → OperandsRead (fields_from rest at) most v a before ω (Some (record { count = n; args = m; next = z }))
    operands_end h z = record {
      kept = g.kept;
      read = record { few = g.few; says = λ ρ s. ap some (g.stands ρ s) ∙ walk_end operand (fields_from rest at) n g.xs most (rw (← (fields_past rest i h)) g.walked) g.few };
    }

    module _ (l : i ≤ length rest) (e : ℕ) (is : e ≡ i + length (first_part 44 (drop i rest))) where
      next : Walked operand (fields_from rest at) (take (e - i) (drop i rest) ∷ fields_from rest (e + 1)) n g.xs
      next = rw (fields_next rest i e is l) at g.walked

      -- the field is no operand: only arguments may have been written, and there are none
      pub operands_bad : (args' : List ℕ) → OperandIs (operand (take (e - i) (drop i rest))) ω.args (a + m) None args'
          → OperandsRead (fields_from rest at) most v a before (operand_table ω.operands ω.numbers args') None
      operands_bad args' is' =
          let w : operand (take (e - i) (drop i rest)) ≡ none = no_operand (operand (take (e - i) (drop i rest))) is'.answer in
          let q : args' ≡ ω.args = is'.stored ∙ ap (λ (o : Option Operand). sets ω.args (a + m) (args_of o)) w ∙ nothing ω.args (a + m) in
          rw q (record {
            kept = g.kept;
            read = walk_bad operand (fields_from rest at) (fields_from rest (e + 1)) n g.xs most (take (e - i) (drop i rest)) next w;
          })

      on_stored : n < most → OperandRoom (v + most) (a + 8 * most) (length before.operands) (length before.numbers)
          (length before.args) → (x : Operand) → operand (take (e - i) (drop i rest)) ≡ some x → OperandsGo rest at most v a before
          (stored ω.operands ω.numbers ω.args (v + n) (a + m) x) (e + 1) (n + 1) (m + (read_of x).count)
      on_stored l' room x w =
          let σ : OperandTable = stored ω.operands ω.numbers ω.args (v + n) (a + m) x in
          let k : SameOperands (v + n) (a + m) σ ω = stored_kept ω.operands ω.numbers ω.args (v + n) (a + m) x in
          let f : List ℕ = take (e - i) (drop i rest) in
          let neat : Neat (length f) x = operand_neat f x w in
          let q = args_few x (length f) neat in
          let c = count_is x in
          let d = length-take (e - i) (drop i rest) in
          let q0 = q.0 in
          let q1 = q.1 in
          let gs = g.short in
          let gf = g.few_args in
          record {
            few = omega arith;
            few_args = omega arith;
            short = omega arith;
            long_kinds = length-sets ω.operands (4 * (v + n)) (kind_number (read_of x) ∷ (read_of x).count ∷ (read_of x).row ∷ (a + m) ∷ []) ∙ g.long_kinds;
            long_numbers = length-set ω.numbers (v + n) (base_number (read_of x).base) ∙ g.long_numbers;
            long_args = length-sets ω.args (a + m) (args_of (some x)) ∙ g.long_args;
            kept = same_on σ ω before v a (same_fewer σ ω v (v + n) a (a + m) (le-add_right v n) (le-add_right a m) k) g.kept;
            xs = g.xs ++ (x ∷ []);
            stands =
                λ ρ s. operands_snoc ρ v n ∙ ap₂ (λ (ys : List Operand) (y : Operand). ys ++ (y ∷ []))
                (g.stands ρ (same_on ρ σ ω (v + n) (a + m) (same_fewer ρ σ (v + n) (v + (n + 1)) (a + m)
                (a + (m + (read_of x).count)) (omega arith) (omega arith) s) k)) (stored_there ω.operands ω.numbers ω.args
                (v + n) (a + m) x (length f) neat (omega (arith, room.kinds, g.long_kinds))
                (omega (arith, room.bases, g.long_numbers)) (omega (arith, room.rows, g.long_args)) ρ (same_fewer ρ σ (v + n + 1)
                (v + (n + 1)) (a + m + (read_of x).count) (a + (m + (read_of x).count)) (omega arith) (omega arith) s));
            walked = walk_on operand (fields_from rest at) (fields_from rest (e + 1)) n g.xs f x next w;
          }

      pub operands_on : n < most → OperandRoom (v + most) (a + 8 * most) (length before.operands) (length before.numbers)
          (length before.args) → (r : OperandRead) (operands' numbers' args' : List ℕ)
          → OperandIs (operand (take (e - i) (drop i rest))) ω.args (a + m) (Some r) args' → operands' ≡ with_operand
          ω.operands (v + n) r (a + m) → numbers' ≡ set ω.numbers (v + n) (base_number r.base) → OperandsGo rest at most v a before
          (operand_table operands' numbers' args') (e + 1) (n + 1) (m + r.count)
      operands_on l' room r operands' numbers' args' is' b₁ b₂ =
          let f : List ℕ = take (e - i) (drop i rest) in
          let there = is_operand (operand f) r is'.answer in
          let x : Operand = there.0 in
          let w : operand f ≡ some x = there.1 in
          let z : r ≡ read_of x = there.2 in
          let c : args' ≡ sets ω.args (a + m) (args_of (some x)) = is'.stored ∙ ap (λ (o : Option Operand). sets ω.args (a + m) (args_of o)) w in
          let d : operands' ≡ with_operand ω.operands (v + n) (read_of x) (a + m) = b₁ ∙ ap (λ (y : OperandRead). with_operand ω.operands (v + n) y (a + m)) z in
          let h : numbers' ≡ set ω.numbers (v + n) (base_number (read_of x).base) = b₂ ∙ ap (λ (y : OperandRead). set ω.numbers (v + n) (base_number y.base)) z in
          let t : m + r.count ≡ m + (read_of x).count = ap (λ (y : OperandRead). m + y.count) z in
          rw (c, d, h, t) (on_stored l' room x w)

      -- how many arguments it has
      pub operand_few : (r : OperandRead) (args' : List ℕ) → OperandIs (operand (take (e - i) (drop i rest))) ω.args (a + m) (Some r) args' → r.count ≤ 8
      operand_few r args' is' =
          let f : List ℕ = take (e - i) (drop i rest) in
          let there = is_operand (operand f) r is'.answer in
          let x : Operand = there.0 in
          let z : r.count ≡ (read_of x).count = ap (λ (y : OperandRead). y.count) there.2 in
          let c = count_is x in
          let q = (args_few x (length f) (operand_neat f x there.1)).0 in
          omega arith

    pub operands_many : i ≤ length rest → n ≡ most → OperandsRead (fields_from rest at) most v a before ω None
    operands_many l e = record {
      kept = g.kept;
      read = walk_many operand (fields_from rest at) (fields_from rest (i + length (first_part 44 (drop i rest)) + 1)) n g.xs most (take (i + length (first_part 44 (drop i rest)) - i) (drop i rest)) (next l (i + length (first_part 44 (drop i rest))) refl) (omega arith);
    }
