-- The words of operands, and what a branch does by its test.
use mathlib.Core.Path.{◌≡◌, ap, sym, ◌∙◌}
use mathlib.Core.Bool.{Bool, true, false, cond}
use Prim.Native.Nat.{ℕ, ◌<◌, ◌≤◌}
use borrow.Author.Tests.{eq-eqb, ne_eqb, lt-ltb, le-ltb}
use Rattle.syntax.specs.Syntax.{reg, lit, plain}
use Rattle.exec.specs.Machine.{Memory, Word, at, int_kind, sign_of, taken, integer, base_word, word_of}
use Rattle.exec_words.specs.arith.Codes.{column, branch_of}
use Rattle.exec_words.specs.declared.memory.Word.{Word as Pair}
use Rattle.exec_words.specs.memory.Lent.{word_is}
use Rattle.exec_machine.specs.declared.Stop.TheVariants.{Stuck}
use Rattle.exec_machine.specs.Step.{given, Next, Go, End}

pub word_reg : (R : Memory) {w : Word} {i : ℕ} (n : ℕ) → w ≡ at R i → i ≡ n → w ≡ word_of R (plain (reg n))
unfolding word_of base_word
word_reg R n e q = e ∙ ap (at R) q

pub word_lit : (R : Memory) {i n : ℕ} → i ≡ n → ◌≡◌ {A = Word} (record { kind = 0; number = i }) (word_of R (plain (lit n)))
unfolding word_of base_word
word_lit R q = ap integer q

pub word_constant : {k n i j : ℕ} → k ≡ i → n ≡ j → ◌≡◌ {A = Pair} (record { kind = k; number = n }) (record { kind = i; number = j })
word_constant e q = λ x. record { kind = e x; number = q x }

-- ---- branches
module _ (k : ℕ) (R : Memory) (i : ℕ) (f : ℕ → Next) (w : Pair) (e : word_is w ≡ at R i) where
  pub given_not : (w.kind ≡ k → ⊥) → End Stuck ≡ given k (at R i) f
  unfolding given
  given_not n = sym (simp (← e, ne_eqb w.kind k n))

  pub given_is : w.kind ≡ k → f w.number ≡ given k (at R i) f
  unfolding given
  given_is q = sym (simp (← e, eq-eqb w.kind k q))

pub sign_zero : (n : ℕ) → n ≡ 0 → column (sign_of n) ≡ 1
unfolding column sign_of
sign_zero n e = simp (eq-eqb n 0 e)

pub sign_positive : (n : ℕ) → (n ≡ 0 → ⊥) → n < 2147483648 → column (sign_of n) ≡ 2
unfolding column sign_of
sign_positive n e h = simp (ne_eqb n 0 e, lt-ltb n 2147483648 h)

pub sign_negative : (n : ℕ) → (n ≡ 0 → ⊥) → 2147483648 ≤ n → column (sign_of n) ≡ 0
unfolding column sign_of
sign_negative n e h = simp (ne_eqb n 0 e, le-ltb n 2147483648 h)

module _ (x : Next) (R : Memory) (i y p : ℕ) (w : Pair) (e : word_is w ≡ at R i) (q : w.kind ≡ 0) (b : Bool) (z : ℕ) (eb : b ≡ taken (branch_of z) (sign_of w.number)) (ez : z ≡ y) where
  abbrev branches : Next
  branches = given int_kind (at R i) (λ v. cond (taken (branch_of y) (sign_of v)) x (Go p))

  tested : b ≡ taken (branch_of y) (sign_of w.number)
  tested = eb ∙ ap (λ (k : ℕ). taken (branch_of k) (sign_of w.number)) ez

  pub branch_on : b ≡ true → x ≡ branches
  unfolding given
  branch_on h = sym (simp (← e, eq-eqb w.kind 0 q, ← tested, h))

  pub branch_off : b ≡ false → Go p ≡ branches
  unfolding given
  branch_off h = sym (simp (← e, eq-eqb w.kind 0 q, ← tested, h))
