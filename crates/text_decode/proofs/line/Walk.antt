-- Laws of a walk over the fields of a line: from one to the next by its end, each read as it comes.
-- Assumes nothing.
use mathlib.Core.Path.{◌≡◌, refl, ap, sym, ◌∙◌}
use mathlib.Core.Bool.{Bool, true, false}
use mathlib.Core.List.{List, [], ◌∷◌, ◌++◌, append-nil, append_assoc}
use mathlib.Core.Option.{Option, none, some}
use Prim.Native.Nat.{ℕ, ◌+◌, ◌-◌, ◌<◌, ◌≤◌}
use native.Mathlib.Omega.{arith}
use native.Mathlib.Nat.{zero-add}
use lib.Dec.{ltb, leb}
use lib.ListN.{length, take, drop}
use borrow.Author.Tests.{le-leb, lt-leb, ltb-true, ltb-false}
use Rattle.syntax.specs.Partial.{chain, guarded}
use Rattle.text.specs.Bytes.{split, fields_of}
use Rattle.text.specs.Grammar.{each}
use Rattle.text_lines.specs.Parts.{first_part}
use Rattle.text_lines.proofs.Parts.{split_more, split_last}
use Rattle.text_decode.specs.line.Fields.{fields_from, at_most}

-- ---- from one field to the next
module _ (line : List ℕ) (at : ℕ) where
  pub fields_past : length line < at → fields_from line at ≡ []
  unfolding fields_from
  fields_past h = simp (lt-leb at (length line) h)

  fields_here : at ≤ length line → fields_from line at ≡ split 44 (drop at line)
  unfolding fields_from fields_of
  fields_here h = simp (le-leb at (length line) h)

-- e is the end that `field_end` gives for the field at `at`
module _ (line : List ℕ) (at e : ℕ) (is : e ≡ at + length (first_part 44 (drop at line))) where
  pub fields_next : at ≤ length line → fields_from line at ≡ take (e - at) (drop at line) ∷ fields_from line (e + 1)
  fields_next h = fields_here line at h ∙ go (ltb e (length line)) refl
    where
      go : (t : Bool) → ltb e (length line) ≡ t → split 44 (drop at line) ≡ take (e - at) (drop at line) ∷ fields_from line (e + 1)
      go true q =
          let l : e < length line = ltb-true e (length line) q in
          let m : e + 1 ≤ length line = omega arith in
          split_more 44 line at e is l ∙ ap (◌∷◌ (take (e - at) (drop at line))) (sym (fields_here line (e + 1) m))
      go false q =
          let l : length line ≤ e = ltb-false e (length line) q in
          let m : length line < e + 1 = omega arith in
          split_last 44 line at e is l ∙ ap (◌∷◌ (take (e - at) (drop at line))) (sym (fields_past line (e + 1) m))

-- ---- reading each: of the fields fs the first n are read, as xs, and gs are left
pub record Walked {A : Type 0} (p : List ℕ → Option A) (fs gs : List (List ℕ)) (n : ℕ) (xs : List A) : Type 0 where
  pub reads : each p fs ≡ chain (each p gs) (λ ys. some (xs ++ ys))
  pub counts : length fs ≡ n + length gs

module _ {A : Type 0} (p : List ℕ → Option A) where
  chain_some : (o : Option (List A)) → o ≡ chain o (λ ys. some ([] ++ ys))
  chain_some none = refl
  chain_some (some ys) = refl

  pub walk_start : (fs : List (List ℕ)) → Walked p fs fs 0 []
  walk_start fs = record { reads = chain_some (each p fs); counts = sym (zero-add (length fs)) }

  module _ (fs gs : List (List ℕ)) (n : ℕ) (xs : List A) where
    pub walk_on : (g : List ℕ) (x : A) → Walked p fs (g ∷ gs) n xs → p g ≡ some x → Walked p fs gs (n + 1) (xs ++ (x ∷ []))
    unfolding each
    walk_on g x w e = record { reads = w.reads ∙ simp e (go (each p gs)); counts = let c = w.counts in omega arith }
      where
        go : (o : Option (List A)) → chain (chain o (λ ys. some (x ∷ ys))) (λ ys. some (xs ++ ys)) ≡ chain o (λ ys. some ((xs ++ (x ∷ [])) ++ ys))
        go none = refl
        go (some ys) = ap some (sym (append_assoc xs (x ∷ []) ys))

    pub walk_bad : (m : ℕ) (g : List ℕ) → Walked p fs (g ∷ gs) n xs → p g ≡ none → none ≡ at_most m p fs
    unfolding at_most each
    walk_bad m g w e = let q : each p fs ≡ none = w.reads ∙ simp e in simp q

    pub walk_many : (m : ℕ) (g : List ℕ) → Walked p fs (g ∷ gs) n xs → m ≤ n → none ≡ at_most m p fs
    unfolding at_most
    walk_many m g w h = let c = w.counts in let q : m < length fs = omega arith in go (each p fs) (lt-leb (length fs) m q)
      where
        go : (o : Option (List A)) → leb (length fs) m ≡ false → none ≡ chain o (λ ys. guarded (leb (length fs) m) ys)
        go none e = refl
        go (some ys) e = simp e

  pub walk_end : (fs : List (List ℕ)) (n : ℕ) (xs : List A) (m : ℕ) → Walked p fs [] n xs → n ≤ m → some xs ≡ at_most m p fs
  unfolding at_most each
  walk_end fs n xs m w h =
      let c = w.counts in
      let q : length fs ≤ m = omega arith in
      let r : each p fs ≡ some xs = w.reads ∙ ap some (append-nil xs) in
      simp (r, le-leb (length fs) m q)
