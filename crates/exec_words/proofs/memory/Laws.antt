-- Laws of one read and of one write, of table entries and of operands.
use Rattle.std.proofs.Common.{◌≡◌, ℕ, zero, suc, ◌+◌, ◌-◌, ◌*◌, ◌/◌, ◌%◌, ◌<◌, ◌≤◌, Bool, true, false, cond, eqb, ltb, List, [], ◌∷◌, length, get_or, sym, refl, ap, ◌∙◌, le_of_suc-le-suc, not-suc-le-zero, arith, le-ltb, ne_eqb}
use Rattle.syntax.specs.Syntax.{pack}
use Rattle.exec.specs.Machine.{Word, Memory, at, junk_kind, integer, label, base_word, word_of}
use Rattle.tables.specs.Tables.{cell, OperandTable, span, base_of, operand_of, operand_from, operand_at}
use Rattle.exec_words.specs.memory.Lent.{lent, operand_table, base_kind, KindOf, Sourced, OperandAt}

-- within the list a read is the same whatever stands past the end
pub any_default : (l : List ℕ) (i d e : ℕ) → i < length l → get_or l i d ≡ get_or l i e
any_default [] i d e h = absurd (not-suc-le-zero h)
any_default (x ∷ l) zero d e h = refl
any_default (x ∷ l) (suc i) d e h = any_default l i d e (le_of_suc-le-suc h)

pub word_in : (ks ns : List ℕ) (i : ℕ) → i < length ks → ◌≡◌ {A = Word} (record { kind = get_or ks i 0; number = get_or ns i 0 }) (at (lent ks ns) i)
unfolding at
word_in ks ns i h = λ k. record { kind = any_default ks i 0 junk_kind h k; number = get_or ns i 0 }

-- ---- operands
module _ (R : Memory) where
  base_reg : (k n : ℕ) → k ≡ 0 → at R n ≡ base_word R (base_of k n)
  unfolding base_word base_of
  base_reg k n e = ap (λ (j : ℕ). base_word R (base_of j n)) (sym e)

  base_lit : (k n : ℕ) → k ≡ 1 → integer n ≡ base_word R (base_of k n)
  unfolding base_word base_of
  base_lit k n e = ap (λ (j : ℕ). base_word R (base_of j n)) (sym e)

  base_lab : (k n : ℕ) → (k ≡ 0 → ⊥) → (k ≡ 1 → ⊥) → label n ≡ base_word R (base_of k n)
  unfolding base_word base_of
  base_lab zero n a b = absurd (a refl)
  base_lab (suc zero) n a b = absurd (b refl)
  base_lab (suc (suc k)) n a b = refl

-- the kind without the 4 that a package has: a base's own, or past that of integers
kind_low : (k : ℕ) {b : ℕ} → b ≡ k - k / 4 % 2 * 4 → b < 2 → b ≡ base_kind k
unfolding base_kind
kind_low zero e h = e
kind_low (suc zero) e h = e
kind_low (suc (suc zero)) e h = absurd (omega arith)
kind_low (suc (suc (suc zero))) e h = absurd (omega arith)
kind_low (suc (suc (suc (suc zero)))) e h = e
kind_low (suc (suc (suc (suc (suc zero))))) e h = e
kind_low (suc (suc (suc (suc (suc (suc k)))))) e h = absurd (omega arith)

kind_high : (k : ℕ) {b : ℕ} → b ≡ k - k / 4 % 2 * 4 → 2 ≤ b → 2 ≡ base_kind k
unfolding base_kind
kind_high k e h =
    let no : (m : ℕ) → m - m / 4 % 2 * 4 < 2 → eqb k m ≡ false = λ m l. ne_eqb k m (λ q. absurd (omega arith)) in
    sym (simp (no 0 (omega arith), no 4 (omega arith), no 1 (omega arith), no 5 (omega arith)))

pub kind_of : (k : ℕ) → KindOf k (k - k / 4 % 2 * 4)
kind_of k = record { own = kind_low k refl; label = kind_high k refl }

-- the base of the operand in the table, by that kind
pub base_of_lem : (k n : ℕ) → base_of (cond (ltb k 4) k (k - 4)) n ≡ base_of (base_kind k) n
unfolding base_kind base_of
base_of_lem zero n = refl
base_of_lem (suc zero) n = refl
base_of_lem (suc (suc zero)) n = refl
base_of_lem (suc (suc (suc zero))) n = refl
base_of_lem (suc (suc (suc (suc zero)))) n = refl
base_of_lem (suc (suc (suc (suc (suc zero))))) n = refl
base_of_lem (suc (suc (suc (suc (suc (suc k)))))) n =
    let j : ℕ = suc (suc (suc (suc (suc (suc k))))) in
    let no : (m : ℕ) → m < 6 → eqb j m ≡ false = λ m l. ne_eqb j m (λ q. omega arith) in
    let d : j - 4 ≡ suc (suc k) = omega arith in
    rw (le-ltb j 4 (omega arith), no 0 (omega arith), no 4 (omega arith), no 1 (omega arith), no 5 (omega arith), d) refl

-- "Type arguments and rows do nothing at run time"; a package is its base
module _ (R : Memory) where
  module _ (ω : OperandTable) (v : ℕ) where
    abbrev k : ℕ
    k = cell 4 ω.operands v 0

    abbrev n : ℕ
    n = get_or ω.numbers v 0

    abbrev t : ℕ
    t = cell 4 ω.operands v 2

    pub word_of_lem : word_of R (operand_at ω v) ≡ base_word R (base_of (base_kind (cell 4 ω.operands v 0)) (get_or ω.numbers v 0))
    unfolding operand_at operand_from word_of operand_of
    word_of_lem = go (ltb k 4) (span ω.args (cell 4 ω.operands v 3) (cell 4 ω.operands v 1)) (get_or ω.args (cell 4 ω.operands v 3) 0) ∙ ap (base_word R) (base_of_lem k n)
      where
        go : (b : Bool) (ts : List ℕ) (a : ℕ) → word_of R (cond b (operand_of (base_of k n) ts t) (pack a (base_of (k - 4) n) t)) ≡ base_word R (base_of (cond b k (k - 4)) n)
        go true [] a = refl
        go true (x ∷ ts) a = refl
        go false ts a = refl

  -- the operand's word, from its kind and its base's number
  module _ (os bs : List ℕ) (v : ℕ) where
    base_is : base_word R (base_of (base_kind (get_or os (4 * v) 0)) (get_or bs v 0)) ≡ word_of R (operand_at (operand_table os bs) v)
    base_is =
        let q : 4 * v ≡ 4 * v + 0 = omega arith in
        ap (λ (i : ℕ). base_word R (base_of (base_kind (get_or os i 0)) (get_or bs v 0))) q ∙ sym (word_of_lem (operand_table os bs) v)

    module _ {j k : ℕ} (e : j ≡ get_or os (4 * v) 0) (b : KindOf j k) where
      pub reg_kind : k ≡ 0 → base_kind (get_or os (4 * v) 0) ≡ 0
      reg_kind q = rw (← e) (sym (b.own (omega arith)) ∙ q)

      lit_kind : k ≡ 1 → base_kind (get_or os (4 * v) 0) ≡ 1
      lit_kind q = rw (← e) (sym (b.own (omega arith)) ∙ q)

      lab_kind : (k ≡ 0 → ⊥) → (k ≡ 1 → ⊥) → 2 ≡ base_kind (get_or os (4 * v) 0)
      lab_kind p q = rw (← e) (b.label (omega arith))

      pub operand_reg : {w : Word} {n : ℕ} → k ≡ 0 → n ≡ get_or bs v 0 → w ≡ at R n → w ≡ word_of R (operand_at (operand_table os bs) v)
      operand_reg z q ew = ew ∙ ap (at R) q ∙ base_reg R _ _ (reg_kind z) ∙ base_is

      pub operand_lit : k ≡ 1 → integer (get_or bs v 0) ≡ word_of R (operand_at (operand_table os bs) v)
      operand_lit z = base_lit R _ _ (lit_kind z) ∙ base_is

      pub operand_lab : (k ≡ 0 → ⊥) → (k ≡ 1 → ⊥) → label (get_or bs v 0) ≡ word_of R (operand_at (operand_table os bs) v)
      operand_lab p q = let z : 2 ≡ base_kind (get_or os (4 * v) 0) = lab_kind p q in base_lab R _ _ (λ r. omega arith) (λ r. omega arith) ∙ base_is

-- an operand of a list
pub operand_at_lem : {os bs : List ℕ} {v n f i : ℕ} → Sourced os bs v n → f ≡ v → i < n → OperandAt os bs (f + i)
operand_at_lem s e h = rw e (record { operands = omega arith; bases = omega arith; low = s.low _ h })

-- a word by its two parts
pub word_is_lem : (w : Word) {k n : ℕ} → k ≡ w.kind → n ≡ w.number → ◌≡◌ {A = Word} (record { kind = k; number = n }) w
word_is_lem w p q = λ i. record { kind = p i; number = q i }
