-- Laws of samples read one by one: xs are read, and the lines from `at` on are left.
use mathlib.Core.Path.{◌≡◌, refl, ap, sym, ◌∙◌}
use mathlib.Core.Bool.{Bool, true, false}
use mathlib.Core.Option.{Option, none, some}
use mathlib.Core.List.{List, [], ◌∷◌, ◌++◌, append-nil}
use Prim.Native.Nat.{ℕ, zero, suc, ◌+◌, ◌-◌, ◌<◌, ◌≤◌}
use native.Mathlib.Nat.{not-suc-le-zero, le_of_suc-le-suc}
use native.Mathlib.Omega.{arith}
use lib.Dec.{eqb}
use lib.ListN.{length, take, drop, set}
use lib.Seq.{length-take-le}
use borrow.Author.Tests.{ne_eqb, eqb-true}
use Rattle.syntax.specs.Partial.{chain, guarded}
use Rattle.text.specs.Bytes.{Line, lines_of, literal}
use Rattle.text.specs.Samples.{sample, samples_from, samples_of}
use Rattle.text_lines.specs.Parts.{first_part}
use Rattle.text_lines.proofs.Parts.{line_ended, line_unended, lines_none}
use Rattle.exec_state.specs.samples.Counted.{exactly}

-- the samples read, and those of the lines that are left
abbrev pub joined : List ℕ → List ℕ → ℕ → Option (List ℕ)
joined xs text at = chain (samples_from (lines_of (drop at text))) (λ ys. some (xs ++ ys))

nothing_yet : (o : Option (List ℕ)) → chain o (λ ys. some ([] ++ ys)) ≡ o
nothing_yet none = refl
nothing_yet (some ys) = refl

pub at_first : (text out : List ℕ) → joined (take 0 out) text 0 ≡ samples_of text
unfolding samples_of
at_first text out = nothing_yet (samples_from (lines_of text))

-- one more is written
taken : (out : List ℕ) (n v : ℕ) → n < length out → take (suc n) (set out n v) ≡ take n out ++ (v ∷ [])
taken [] n v h = absurd (not-suc-le-zero h)
taken (x ∷ out) zero v h = refl
taken (x ∷ out) (suc n) v h = ap (λ (l : List ℕ). x ∷ l) (taken out n v (le_of_suc-le-suc h))

behind : (xs : List ℕ) (v : ℕ) (ys : List ℕ) → (xs ++ (v ∷ [])) ++ ys ≡ xs ++ (v ∷ ys)
behind [] v ys = refl
behind (x ∷ xs) v ys = ap (λ (l : List ℕ). x ∷ l) (behind xs v ys)

put_behind : (xs : List ℕ) (v : ℕ) (o : Option (List ℕ)) → chain o (λ ys. some ((xs ++ (v ∷ [])) ++ ys)) ≡ chain (chain o (λ ys. some (v ∷ ys))) (λ ys. some (xs ++ ys))
put_behind xs v none = refl
put_behind xs v (some ys) = ap some (behind xs v ys)

too_long : (xs : List ℕ) (y : ℕ) (ys : List ℕ) (want : ℕ) → want ≤ length xs → length (xs ++ (y ∷ ys)) ≡ want → ⊥
too_long [] y ys zero h e = omega arith
too_long [] y ys (suc w) h e = absurd (not-suc-le-zero h)
too_long (x ∷ xs) y ys zero h e = omega arith
too_long (x ∷ xs) y ys (suc w) h e = too_long xs y ys w (le_of_suc-le-suc h) (omega arith)

many : (xs : List ℕ) (want : ℕ) → want ≤ length xs → (a : Option ℕ) (o : Option (List ℕ)) → exactly want (chain (chain a (λ y. chain o (λ ys. some (y ∷ ys)))) (λ ys. some (xs ++ ys))) ≡ none
many xs want h none o = refl
many xs want h (some y) none = refl
many xs want h (some y) (some ys) = ap (λ (b : Bool). guarded b (xs ++ (y ∷ ys))) (ne_eqb (length (xs ++ (y ∷ ys))) want (too_long xs y ys want h))

module _ (text out : List ℕ) (at n want : ℕ) (inv : joined (take n out) text at ≡ samples_of text) (h : n ≤ want) (w : want ≤ length out) where
  pub all_read : length text ≤ at → guarded (eqb n want) (take want out) ≡ exactly want (samples_of text)
  unfolding samples_from
  all_read l =
      let k : n ≤ length out = omega arith in
      let e : samples_of text ≡ some (take n out) = sym inv ∙ ap (λ (ls : List Line). chain (samples_from ls) (λ ys. some (take n out ++ ys))) (lines_none text at l) ∙ ap some (append-nil (take n out)) in
      go (eqb n want) refl ∙ ap (λ (m : ℕ). guarded (eqb m want) (take n out)) (sym (length-take-le n out k)) ∙ ap (exactly want) (sym e)
    where
      go : (t : Bool) → eqb n want ≡ t → guarded (eqb n want) (take want out) ≡ guarded (eqb n want) (take n out)
      go true q = ap (λ (m : ℕ). guarded (eqb n want) (take m out)) (sym (eqb-true n want q))
      go false q = rw q

  module _ (e : ℕ) (a : at < length text) (is : e ≡ at + length (first_part 10 (drop at text))) where
    pub not_ended : length text ≤ e → none ≡ exactly want (samples_of text)
    unfolding samples_from sample
    not_ended l = ap (λ (ls : List Line). exactly want (chain (samples_from ls) (λ ys. some (take n out ++ ys)))) (sym (line_unended text at e is a l)) ∙ ap (exactly want) inv

    module _ (l : e < length text) where
      abbrev line : List ℕ
      line = take (e - at) (drop at text)

      left : samples_from (lines_of (drop at text)) ≡ chain (literal line) (λ y. chain (samples_from (lines_of (drop (e + 1) text))) (λ ys. some (y ∷ ys)))
      unfolding samples_from sample
      left = ap samples_from (line_ended text at e is l)

      whole : chain (chain (literal line) (λ y. chain (samples_from (lines_of (drop (e + 1) text))) (λ ys. some (y ∷ ys)))) (λ ys. some (take n out ++ ys)) ≡ samples_of text
      whole = ap (λ (o : Option (List ℕ)). chain o (λ ys. some (take n out ++ ys))) (sym left) ∙ inv

      pub too_many : want ≤ n → none ≡ exactly want (samples_of text)
      too_many k =
          let q : want ≤ length (take n out) = omega (arith, length-take-le n out (omega arith)) in
          sym (many (take n out) want q (literal line) (samples_from (lines_of (drop (e + 1) text)))) ∙ ap (exactly want) whole

      pub malformed : none ≡ literal line → none ≡ exactly want (samples_of text)
      malformed b = ap (λ (o : Option ℕ). exactly want (chain (chain o (λ y. chain (samples_from (lines_of (drop (e + 1) text))) (λ ys. some (y ∷ ys)))) (λ ys. some (take n out ++ ys)))) b ∙ ap (exactly want) whole

      pub one_read : (v : ℕ) → some v ≡ literal line → n < want → joined (take (n + 1) (set out n v)) text (e + 1) ≡ samples_of text
      one_read v b k =
          let q : n < length out = omega arith in
          let s : n + 1 ≡ suc n = omega arith in
          let t : take (n + 1) (set out n v) ≡ take n out ++ (v ∷ []) = ap (λ (m : ℕ). take m (set out n v)) s ∙ taken out n v q in
          let o : Option (List ℕ) = samples_from (lines_of (drop (e + 1) text)) in
          ap (λ (xs : List ℕ). joined xs text (e + 1)) t
          ∙ put_behind (take n out) v o
          ∙ ap (λ (p : Option ℕ). chain (chain p (λ y. chain o (λ ys. some (y ∷ ys)))) (λ ys. some (take n out ++ ys))) b
          ∙ whole
