-- Laws of the registers and the first tuple at the start.
use mathlib.Core.Path.{◌≡◌, ap, ap₂, sym, ◌∙◌}
use mathlib.Core.List.{List, [], ◌∷◌, map}
use Prim.Native.Nat.{ℕ, suc, ◌+◌, ◌<◌, ◌≤◌}
use native.Mathlib.Omega.{arith}
use lib.ListN.{length, get_or, drop, replicate, drop_of_length-le}
use lib.Seq.{drop-cons}
use Rattle.exec.specs.Machine.{Word, Memory, put, puts, integer, handle, junk_word}
use Rattle.exec.specs.Run.{initial}
use Rattle.exec_words.specs.memory.Lent.{lent}
use Rattle.exec_machine.specs.declared.Place.{Place}
use Rattle.exec_machine.specs.Step.{state_of}

pub registers_are : (m n : Memory) {l : Memory} → n ≡ put m 0 (handle 0) → l ≡ puts n 1 (replicate 7 junk_word) → l ≡ puts m 0 (handle 0 ∷ junk_word ∷ junk_word ∷ junk_word ∷ junk_word ∷ junk_word ∷ junk_word ∷ junk_word ∷ [])
unfolding puts
registers_are m n e h = h ∙ ap (λ (x : Memory). puts x 1 (replicate 7 junk_word)) e

-- the samples from i on are left
abbrev pub left_from : List ℕ → ℕ → List Word
left_from xs i = map integer (drop i xs)

module _ (xs : List ℕ) (m : Memory) where
  pub length_first : (n : ℕ) {l : Memory} → n ≡ length xs → l ≡ put m 0 (integer n) → puts l 1 (map integer xs) ≡ puts m 0 (integer (length xs) ∷ map integer xs)
  unfolding puts
  length_first n e h = ap (λ (x : Memory). puts x 1 (map integer xs)) (h ∙ ap (λ (k : ℕ). put m 0 (integer k)) e)

  module _ (i : ℕ) {whole : Memory} (inv : puts m (i + 1) (left_from xs i) ≡ whole) where
    pub all_written : length xs ≤ i → m ≡ whole
    unfolding puts
    all_written h = ap (λ (l : List ℕ). puts m (i + 1) (map integer l)) (sym (drop_of_length-le xs h)) ∙ inv

    pub one_written : {l : Memory} → i < length xs → l ≡ put m (i + 1) (integer (get_or xs i 0)) → puts l (i + 1 + 1) (left_from xs (i + 1)) ≡ whole
    unfolding puts
    one_written {l} h e =
        let s : i + 1 + 1 ≡ suc (i + 1) = omega arith in
        let d : i + 1 ≡ suc i = omega arith in
        ap₂ (λ (j k : ℕ). puts l j (left_from xs k)) s d
        ∙ ap (λ (x : Memory). puts x (suc (i + 1)) (left_from xs (suc i))) e
        ∙ sym (ap (λ (t : List ℕ). puts m (i + 1) (map integer t)) (drop-cons xs i 0 h))
        ∙ inv

pub start_is : (xs rk rn rk' rn' hk hn hk' hn' : List ℕ) (r : Place) → lent rk' rn' ≡ puts (lent rk rn) 0
    (handle 0 ∷ junk_word ∷ junk_word ∷ junk_word ∷ junk_word ∷ junk_word ∷ junk_word ∷ junk_word ∷ []) → lent hk' hn' ≡ puts (lent hk hn) 0
    (integer (length xs) ∷ map integer xs) → r.depth ≡ 0 → r.used ≡ length xs + 1 → r.position ≡ 0 → (sk sn : List ℕ) (p : Place)
    → state_of rk' rn' sk sn hk' hn' r ≡ initial xs (state_of rk rn sk sn hk hn p)
unfolding initial
start_is xs rk rn rk' rn' hk hn hk' hn' r e_r e_h ed eu ep sk sn p =
    let u : r.used ≡ suc (length xs) = omega arith in
    λ i. record { registers = e_r i; stack = lent sk sn; heap = e_h i; depth = ed i; used = u i; position = ep i }
