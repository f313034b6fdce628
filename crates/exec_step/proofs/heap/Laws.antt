-- Where the words of a tuple stand whose handle a register holds.
use Prim.Native.Nat.{ℕ, ◌+◌, ◌<◌}
use native.Mathlib.Omega.{arith}
use mathlib.Core.Path.{◌≡◌, ap, sym, ◌∙◌}
use mathlib.Core.List.{List}
use lib.ListN.{length}
use Rattle.exec.specs.Machine.{Word, Memory, at}
use Rattle.exec_words.specs.declared.memory.Word.{Word as Pair}
use Rattle.exec_words.specs.memory.Lent.{word_is, lent, Long}
use Rattle.exec_step.specs.moved.Stepped.{Inside}

module _ (R : Memory) (hk hn : List ℕ) (inside : Inside R (lent hk hn)) (long : Long 2048 hk hn) (r : ℕ) (low : r < 8) (w : Pair) (e : word_is w ≡ at R r) (k : w.kind ≡ 2) (a : ℕ) (ea : a ≡ w.number) where
  number_is : (at R r).number ≡ a
  number_is = ap (λ (x : Word). x.number) (sym e) ∙ sym ea

  kind_is : (at R r).kind ≡ 2
  kind_is = ap (λ (x : Word). x.kind) (sym e) ∙ k

  -- the length word
  pub start_lent : (a < length hk) × (a < length hn)
  start_lent =
      let q = number_is in
      let h = inside.start r low kind_is in
      (omega arith, omega arith)

  -- a component
  pub component_lent : (i : ℕ) (l : Pair) → word_is l ≡ at (lent hk hn) a → i < l.number → (a + i + 1 < length hk) × (a + i + 1 < length hn)
  component_lent i l el h =
      let q = number_is in
      let f : l.number ≡ (at (lent hk hn) (at R r).number).number = ap (λ (x : Word). x.number) (el ∙ ap (at (lent hk hn)) (sym q)) in
      let c = inside.component r i low kind_is (omega arith) in
      (omega arith, omega arith)
