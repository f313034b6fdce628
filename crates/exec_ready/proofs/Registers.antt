-- "Registers are r1 to r8.": every instruction of a text names registers below 8, and so does every one of tables that stand for it.
use Prim.Native.Nat.{ℕ, zero, suc, ◌+◌, ◌-◌, ◌<◌, ◌≤◌}
use native.Mathlib.Omega.{arith}
use mathlib.Core.Path.{◌≡◌, refl, sym, subst}
use mathlib.Core.Bool.{Bool, true, false, ◌&&◌, cond}
use mathlib.Core.Option.{Option, none, some}
use mathlib.Core.List.{List, [], ◌∷◌, map}
use lib.Dec.{eqb, leb, ltb}
use lib.ListN.{length}
use borrow.Author.Tests.{leb-true, eqb-true, eqb-false, ltb-true, ltb-false}
use Rattle.syntax.specs.Partial.{chain, guarded}
use Rattle.syntax.specs.Syntax.{Row, row_i, row_n, row_e, row_v, row_x, row_p, row_h, row_k, row_a, Base, reg, lit, lab, Operand, plain, inst, pack, Arith, add, sub, mul, Branch, beq, bneq, bgt, blt, bgte, blte, Instr, aop, bop, mov, ld, st, malloc, getsp, setsp, salloc, sfree, sld, sst, slp, ssp, jmp, halt, unpack, Entry, row, block, instr}
use Rattle.text.specs.Bytes.{bytes, same_bytes, split, literal, Line, ended, unended, fields_of, lines_of, is_decimal, spelled, number}
use Rattle.text.specs.Grammar.{Field, Form, ◌>>=◌, end, each, rest, row_number, label_number, register, carrier, or_literal, carried, packed, before, from_parts, operand, Named, arith as arithForm, branch, forms, form_named, entry_of, parse}
use Rattle.text.specs.PassOne.{said, entries_of, Listing, grouped, listings_of}
use Rattle.tables.specs.Tables.{cell, OperandTable, operand_at, operands_at, instr_from, instr_at, instrs_from, blocks_from}
use Rattle.exec_words.specs.memory.Lent.{operand_table}
use Rattle.exec_machine.specs.Represents.{LowBase, LowOperand, LowOperands, Registered}
use Rattle.exec_machine.proofs.Low.{low_base, low_operand}

-- ---- what holds of a value that may be missing
unfoldable Given : {A : Type 0} → (A → Type 0) → Option A → Type 0
Given P none = Unit
Given P (some x) = P x

-- ---- fields
-- "r1 to r8" are kept as 0 to 7
number_low : (s : List ℕ) → Given (λ (n : ℕ). n < 8) (chain (number 1 8 s) (λ n. some (n - 1)))
unfolding Given number
number_low s = go (is_decimal s) (leb 1 (spelled 0 s)) (leb (spelled 0 s) 8) refl
  where
    go : (a b c : Bool) → leb (spelled 0 s) 8 ≡ c → Given (λ (n : ℕ). n < 8) (chain (guarded (a && (b && c)) (spelled 0 s)) (λ n. some (n - 1)))
    go true true true e = let q = leb-true (spelled 0 s) 8 e in omega arith
    go true true false e = tt
    go true false c e = tt
    go false b c e = tt

register_low : (f : Field) → Given (λ (n : ℕ). n < 8) (register f)
unfolding Given register
register_low [] = tt
register_low (b ∷ s) = go (eqb b 114)
  where
    go : (t : Bool) → Given (λ (n : ℕ). n < 8) (chain (guarded t s) (λ s. chain (number 1 8 s) (λ n. some (n - 1))))
    go true = number_low s
    go false = tt

carrier_low : (f : Field) → Given LowBase (carrier f)
unfolding Given carrier
carrier_low [] = tt
carrier_low (b ∷ s) = go (eqb b 35) (label_number s) (register (b ∷ s)) (register_low (b ∷ s))
  where
    label : (o : Option ℕ) → Given LowBase (chain o (λ l. some (lab l)))
    label none = tt
    label (some l) = tt

    name : (o : Option ℕ) → Given (λ (n : ℕ). n < 8) o → Given LowBase (chain o (λ r. some (reg r)))
    name none h = tt
    name (some r) h = h

    go : (t : Bool) (l r : Option ℕ) → Given (λ (n : ℕ). n < 8) r → Given LowBase (cond t (chain l (λ l. some (lab l))) (chain r (λ r. some (reg r))))
    go true l r h = label l
    go false l r h = name r h

carried_low : (ps : List Field) (t : Field) → Given LowOperand (carried ps t)
unfolding Given carried
carried_low [] t = tt
carried_low (b ∷ ts) t = go (carrier b) (carrier_low b) (each row_number ts) (row_number t) (leb 1 (length ts) && leb (length ts) 8)
  where
    go : (o : Option Base) → Given LowBase o → (os : Option (List ℕ)) (n : Option ℕ) (x : Bool) → Given LowOperand (chain o (λ c. chain os (λ rs. chain n (λ r. guarded x (inst c rs r)))))
    go none h os n x = tt
    go (some c) h none n x = tt
    go (some c) h (some rs) none x = tt
    go (some c) h (some rs) (some r) true = h
    go (some c) h (some rs) (some r) false = tt

base_low : (b : Field) → Given LowBase (or_literal (carrier b) b)
unfolding Given
base_low b = go (carrier b) (carrier_low b)
  where
    literal_low : (o : Option ℕ) → Given LowBase (chain o (λ n. some (lit n)))
    literal_low none = tt
    literal_low (some n) = tt

    go : (o : Option Base) → Given LowBase o → Given LowBase (or_literal o b)
    go none h = literal_low (literal b)
    go (some c) h = h

packed_low : (ps : List Field) (t : Field) → Given LowOperand (packed ps t)
unfolding Given packed
packed_low [] t = tt
packed_low (a ∷ []) t = tt
packed_low (a ∷ b ∷ []) t = go (row_number a) (or_literal (carrier b) b) (base_low b) (row_number t)
  where
    go : (u : Option ℕ) (o : Option Base) → Given LowBase o → (n : Option ℕ) → Given LowOperand (chain u (λ u. chain o (λ c. chain n (λ h. some (pack u c h)))))
    go none o h n = tt
    go (some u) none h n = tt
    go (some u) (some c) h none = tt
    go (some u) (some c) h (some r) = h
packed_low (a ∷ b ∷ c ∷ fs) t = tt

before_low : (l t : Field) → Given LowOperand (before l t)
unfolding Given before
before_low [] t = tt
before_low (b ∷ l) t = go (eqb b 33)
  where
    go : (x : Bool) → Given LowOperand (cond x (packed (split 58 l) t) (carried (split 58 (b ∷ l)) t))
    go true = packed_low (split 58 l) t
    go false = carried_low (split 58 (b ∷ l)) t

operand_low : (f : Field) → Given LowOperand (operand f)
unfolding Given operand
operand_low f = go (split 61 f)
  where
    base : (o : Option Base) → Given LowBase o → Given LowOperand (chain o (λ c. some (plain c)))
    base none h = tt
    base (some c) h = h

    go : (ps : List Field) → Given LowOperand (from_parts ps)
    go [] = tt
    go (b ∷ []) = base (or_literal (carrier b) b) (base_low b)
    go (l ∷ t ∷ []) = before_low l t
    go (l ∷ t ∷ u ∷ ps) = tt

operands_low : (fs : List Field) → Given LowOperands (each operand fs)
unfolding Given each
operands_low [] = tt
operands_low (f ∷ fs) = go (operand f) (operand_low f) (each operand fs) (operands_low fs)
  where
    go : (o : Option Operand) → Given LowOperand o → (os : Option (List Operand)) → Given LowOperands os → Given LowOperands (chain o (λ x. chain os (λ xs. some (x ∷ xs))))
    go none h os k = tt
    go (some v) h none k = tt
    go (some v) h (some vs) k = (h, k)

-- ---- forms
abbrev LowEntry : Entry → Type 0
LowEntry (row r) = Unit
LowEntry (block c) = Unit
LowEntry (instr x) = Registered x

-- every line that a form reads names registers
record Low (p : Form) : Type 0 where
  reads : (fs : List Field) → Given LowEntry (p fs)

ends : (e : Entry) → LowEntry e → Low (end e)
unfolding Given end
ends e h = record { reads = go }
  where
    go : (fs : List Field) → Given LowEntry (end e fs)
    go [] = h
    go (f ∷ fs) = tt

-- a field of which P holds, then the others
field : {A : Type 0} {P : A → Type 0} (p : Field → Option A) → ((f : Field) → Given P (p f)) → (k : A → Form) → ((x : A) → P x → Low (k x)) → Low (p >>= k)
unfolding Given ◌>>=◌
field {A} {P} p h k g = record { reads = all }
  where
    go : (fs : List Field) (o : Option A) → Given P o → Given LowEntry (chain o (λ x. k x fs))
    go fs none q = tt
    go fs (some x) q = (g x q).reads fs

    all : (fs : List Field) → Given LowEntry ((p >>= k) fs)
    all [] = tt
    all (f ∷ fs) = go fs (p f) (h f)

-- a field that may say anything
anything : {A : Type 0} (o : Option A) → Given (λ (x : A). Unit) o
unfolding Given
anything none = tt
anything (some x) = tt

any : {A : Type 0} (p : Field → Option A) (k : A → Form) → ((x : A) → Low (k x)) → Low (p >>= k)
any {A} p k g = field {P = λ (x : A). Unit} p (λ f. anything (p f)) k (λ x q. g x)

-- all the fields that are left, of which P holds
others : {A : Type 0} {P : List A → Type 0} (right : ℕ → Bool) (p : Field → Option A) (e : List A → Entry) → ((fs : List Field) → Given P (each p fs)) → ((xs : List A) → P xs → LowEntry (e xs)) → Low (rest right p e)
unfolding Given rest
others {A} {P} right p e h g = record { reads = λ fs. go (each p fs) (h fs) (right (length fs)) }
  where
    go : (o : Option (List A)) → Given P o → (t : Bool) → Given LowEntry (chain o (λ xs. guarded t (e xs)))
    go none q t = tt
    go (some xs) q true = g xs q
    go (some xs) q false = tt

-- of rows nothing is said
other_rows : {A : Type 0} (right : ℕ → Bool) (p : Field → Option A) (e : List A → Row) → Low (rest right p (λ xs. row (e xs)))
other_rows {A} right p e = others {P = λ (xs : List A). Unit} right p (λ xs. row (e xs)) (λ fs. anything (each p fs)) (λ xs q. tt)

arith_low : (o : Arith) → Low (arithForm o)
arith_low o = field _ register_low _ (λ d h. field _ register_low _ (λ s k. field _ operand_low _ (λ v l. ends (instr (aop o d s v)) (h, k, l))))

branch_low : (o : Branch) → Low (branch o)
branch_low o = field _ register_low _ (λ r h. field _ operand_low _ (λ v l. ends (instr (bop o r v)) (h, l)))

-- a register and an operand: `mov` and `unpack`
moving_low : (x : ℕ → Operand → Instr) → ((d : ℕ) (v : Operand) → d < 8 → LowOperand v → Registered (x d v)) → Low (register >>= λ d. operand >>= λ v. end (instr (x d v)))
moving_low x g = field _ register_low _ (λ d h. field _ operand_low _ (λ v l. ends (instr (x d v)) (g d v h l)))

-- every form of a list
infixr 50 ◌also◌
data AllForms : List Named → Type 0 where
  no_more : AllForms []
  ◌also◌ : {n : Named} {ns : List Named} → Low n.fields → AllForms ns → AllForms (n ∷ ns)

forms_low : AllForms forms
unfolding forms
forms_low =
    ends (row row_i) tt
    also ends (row row_n) tt
    also any _ _ (λ k. ends (row (row_v k)) tt)
    also other_rows _ _ _
    also any _ _ (λ s. ends (row (row_p s)) tt)
    also any _ _ (λ q. any _ _ (λ s. other_rows _ _ _))
    also any _ _ (λ t. ends (row (row_h t)) tt)
    also ends (row row_e) tt
    also any _ _ (λ k. ends (row (row_x k)) tt)
    also any _ _ (λ t. any _ _ (λ s. ends (row (row_k t s)) tt))
    also any _ _ (λ s. any _ _ (λ t. ends (row (row_a s t)) tt))
    also any _ _ (λ c. ends (block c) tt)
    also arith_low add
    also arith_low sub
    also arith_low mul
    also branch_low beq
    also branch_low bneq
    also branch_low bgt
    also branch_low blt
    also branch_low bgte
    also branch_low blte
    also moving_low mov (λ d v h l. (h, l))
    also field _ register_low _ (λ d h. field _ register_low _ (λ s k. any _ _ (λ i. ends (instr (ld d s i)) (h, k))))
    also field _ register_low _ (λ d h. any _ _ (λ i. field _ register_low _ (λ s k. ends (instr (st d i s)) (h, k))))
    also field _ register_low _ (λ d h. any _ _ (λ t. others _ _ (λ vs. instr (malloc d t vs)) operands_low (λ vs l. (h, l))))
    also field _ register_low _ (λ d h. any _ _ (λ t. ends (instr (getsp d t)) h))
    also field _ register_low _ (λ s h. ends (instr (setsp s)) h)
    also any _ _ (λ n. ends (instr (salloc n)) tt)
    also any _ _ (λ n. ends (instr (sfree n)) tt)
    also field _ register_low _ (λ d h. any _ _ (λ i. ends (instr (sld d i)) h))
    also any _ _ (λ i. field _ register_low _ (λ s h. ends (instr (sst i s)) h))
    also field _ register_low _ (λ d h. field _ register_low _ (λ s k. any _ _ (λ i. ends (instr (slp d s i)) (h, k))))
    also field _ register_low _ (λ d h. any _ _ (λ i. field _ register_low _ (λ s k. any _ _ (λ t. ends (instr (ssp d i s t)) (h, k)))))
    also field _ operand_low _ (λ v h. ends (instr (jmp v)) h)
    also any _ _ (λ t. ends (instr (halt t)) tt)
    also moving_low unpack (λ d v h l. (h, l))
    also no_more

-- ---- lines
named_low : (ns : List Named) → AllForms ns → (f : Field) (fs : List Field) → Given LowEntry (form_named ns f fs)
unfolding Given form_named
named_low [] h f fs = tt
named_low (n ∷ ns) (a also h) f fs = go (same_bytes (bytes n.name) f) (named_low ns h f fs)
  where
    go : (t : Bool) → Given LowEntry (form_named ns f fs) → Given LowEntry (cond t (n.fields fs) (form_named ns f fs))
    go true k = a.reads fs
    go false k = k

entry_low : (fs : List Field) → Given LowEntry (entry_of fs)
unfolding Given entry_of
entry_low [] = tt
entry_low (f ∷ fs) = named_low forms forms_low f fs

line_low : (l : Line) → Given LowEntry (parse l)
unfolding Given parse
line_low (ended s) = entry_low (fields_of s)
line_low (unended s) = tt

abbrev AllLow : List Entry → Type 0
AllLow [] = Unit
AllLow (e ∷ es) = LowEntry e × AllLow es

said_low : (ls : List Line) → AllLow (said (map parse ls))
unfolding Given said
said_low [] = tt
said_low (l ∷ ls) = go (parse l) (line_low l) (said_low ls)
  where
    go : (o : Option Entry) → Given LowEntry o → AllLow (said (map parse ls)) → AllLow (said (o ∷ map parse ls))
    go none h k = k
    go (some e) h k = (h, k)

entries_low : (text : List ℕ) → AllLow (entries_of text)
unfolding entries_of
entries_low text = said_low (lines_of text)

-- ---- instructions
abbrev AllInstrs : List Instr → Type 0
AllInstrs [] = Unit
AllInstrs (x ∷ xs) = Registered x × AllInstrs xs

abbrev AllListings : List Listing → Type 0
AllListings [] = Unit
AllListings (b ∷ bs) = AllInstrs b.body × AllListings bs

all_instrs : (es : List Entry) → AllLow es → AllInstrs (grouped es).0 × AllListings (grouped es).1
unfolding grouped
all_instrs [] h = (tt, tt)
all_instrs (row r ∷ es) h = all_instrs es h.1
all_instrs (block c ∷ es) h = (tt, all_instrs es h.1)
all_instrs (instr x ∷ es) h = let a = all_instrs es h.1 in ((h.0, a.0), a.1)

all_listings : (es : List Entry) → AllLow es → AllListings (listings_of es)
unfolding listings_of
all_listings es h = (all_instrs es h).1

module _ (β ι : List ℕ) (ω : OperandTable) where
  -- the instructions from i on
  instr_from_lem : (i n j : ℕ) → AllInstrs (instrs_from ι ω i n) → i ≤ j → j < i + n → Registered (instr_at ι ω j)
  unfolding instrs_from
  instr_from_lem i zero j a l h = absurd (omega arith)
  instr_from_lem i (suc n) j a l h = go (eqb i j) refl (λ q. instr_from_lem (suc i) n j a.1 q (omega arith))
    where
      go : (t : Bool) → eqb i j ≡ t → (suc i ≤ j → Registered (instr_at ι ω j)) → Registered (instr_at ι ω j)
      go true e k = subst (λ (k : ℕ). Registered (instr_at ι ω k)) (eqb-true i j e) a.0
      go false e k = let d : i ≡ j → ⊥ = eqb-false i j e in k (omega arith)

  -- those of block b and of the blocks behind it
  block_from : (ni b n j : ℕ) → AllListings (blocks_from β ι ω ni b (suc n)) → cell 2 β b 1 ≤ j → j < ni → Registered (instr_at ι ω j)
  unfolding blocks_from
  block_from ni b zero j a l h = instr_from_lem (cell 2 β b 1) (ni - cell 2 β b 1) j a.0 l (omega arith)
  block_from ni b (suc n) j a l h = go (ltb j (cell 2 β (suc b) 1)) refl (λ q. block_from ni (suc b) n j a.1 q h)
    where
      go : (t : Bool) → ltb j (cell 2 β (suc b) 1) ≡ t → (cell 2 β (suc b) 1 ≤ j → Registered (instr_at ι ω j)) → Registered (instr_at ι ω j)
      go true e k =
          let q : j < cell 2 β (suc b) 1 = ltb-true j (cell 2 β (suc b) 1) e in
          instr_from_lem (cell 2 β b 1) (cell 2 β (suc b) 1 - cell 2 β b 1) j a.0 l (omega arith)
      go false e k = k (ltb-false j (cell 2 β (suc b) 1) e)

-- ---- type arguments do not matter
module _ (os ns args : List ℕ) where
  abbrev full : OperandTable
  full = record { operands = os; numbers = ns; args = args }

  abbrev bare : OperandTable
  bare = operand_table os ns

  low_bare : (v : ℕ) → LowOperand (operand_at full v) → LowOperand (operand_at bare v)
  low_bare v h = low_operand bare v (low_base full v h)

  low_all : (v n : ℕ) → LowOperands (operands_at full v n) → LowOperands (operands_at bare v n)
  unfolding operands_at
  low_all v zero h = tt
  low_all v (suc n) h = (low_bare v h.0, low_all (suc v) n h.1)

  either : (t : Bool) (x y x' y' : Instr) → (Registered x → Registered x') → (Registered y → Registered y') → Registered (cond t x y) → Registered (cond t x' y')
  either true x y x' y' f g h = f h
  either false x y x' y' f g h = g h

  -- the tests, one after the other, are the same for both
  instr_bare : (k a b c d v n : ℕ) → Registered (instr_from full k a b c d v n) → Registered (instr_from bare k a b c d v n)
  instr_bare k a b c d v n =
      either (eqb k 0) _ _ _ _ (λ h. (h.0, h.1, low_bare v h.2))
      (either (eqb k 1) _ _ _ _ (λ h. (h.0, h.1, low_bare v h.2))
      (either (eqb k 2) _ _ _ _ (λ h. (h.0, h.1, low_bare v h.2))
      (either (eqb k 3) _ _ _ _ (λ h. (h.0, low_bare v h.1))
      (either (eqb k 4) _ _ _ _ (λ h. (h.0, low_bare v h.1))
      (either (eqb k 5) _ _ _ _ (λ h. (h.0, low_bare v h.1))
      (either (eqb k 6) _ _ _ _ (λ h. (h.0, low_bare v h.1))
      (either (eqb k 7) _ _ _ _ (λ h. (h.0, low_bare v h.1))
      (either (eqb k 8) _ _ _ _ (λ h. (h.0, low_bare v h.1))
      (either (eqb k 9) _ _ _ _ (λ h. (h.0, low_bare v h.1))
      (either (eqb k 10) _ _ _ _ (λ h. h)
      (either (eqb k 11) _ _ _ _ (λ h. h)
      (either (eqb k 12) _ _ _ _ (λ h. (h.0, low_all v n h.1))
      (either (eqb k 13) _ _ _ _ (λ h. h)
      (either (eqb k 14) _ _ _ _ (λ h. h)
      (either (eqb k 15) _ _ _ _ (λ h. h)
      (either (eqb k 16) _ _ _ _ (λ h. h)
      (either (eqb k 17) _ _ _ _ (λ h. h)
      (either (eqb k 18) _ _ _ _ (λ h. h)
      (either (eqb k 19) _ _ _ _ (λ h. h)
      (either (eqb k 20) _ _ _ _ (λ h. h)
      (either (eqb k 21) _ _ _ _ (low_bare v)
      (either (eqb k 23) _ _ _ _ (λ h. (h.0, low_bare v h.1)) (λ h. h)))))))))))))))))))))))

-- ---- tables that stand for a text
pub registers_low : (text β ι os ns args : List ℕ) (ni nb : ℕ) → blocks_from β ι (record { operands = os; numbers = ns; args = args }) ni 0 nb ≡ listings_of (entries_of text) → 0 < nb → cell 2 β 0 1 ≡ 0 → (j : ℕ) → j < ni → Registered (instr_at ι (operand_table os ns) j)
unfolding instr_at
registers_low text β ι os ns args ni zero e h s j k = absurd (omega arith)
registers_low text β ι os ns args ni (suc n) e h s j k =
    let ω : OperandTable = record { operands = os; numbers = ns; args = args } in
    let all : AllListings (blocks_from β ι ω ni 0 (suc n)) = subst AllListings (sym e) (all_listings (entries_of text) (entries_low text)) in
    instr_bare os ns args (cell 8 ι j 0) (cell 8 ι j 1) (cell 8 ι j 2) (cell 8 ι j 3) (cell 8 ι j 4) (cell 8 ι j 5) (cell 8 ι j 6) (block_from β ι ω ni 0 n j all (omega arith) k)
