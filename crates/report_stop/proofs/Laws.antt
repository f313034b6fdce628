-- Laws of a stop line's fields: names compared, numbers, and the fields found one behind the other.
use mathlib.Core.Path.{◌≡◌, refl, ap, sym, subst, ◌∙◌}
use mathlib.Core.Bool.{Bool, true, false, ◌&&◌, not, cond}
use mathlib.Core.Option as math
use mathlib.Core.Option.{none, some}
use mathlib.Core.List.{List, [], ◌∷◌, ◌++◌}
use native.Mathlib.Omega.{arith}
use mathlib.Core.Logic.{◌⊎◌, inl, inr}
use Prim.Native.Nat.{ℕ, suc, ◌-◌, ◌<◌, ◌^◌}
use lib.Dec.{eqb, ltb}
use lib.ListN.{length, get_or}
use borrow.Author.Tests.{eqb-true, lt-ltb, ne_eqb}
use mir.Syntax.{w32}
use mir.Val.{to_z}
use Rattle.print.proofs.Casts.{signed_is}
use Rattle.std.specs.Prelude.{ℤ, pos, negsuc, Option, Some, None}
use Rattle.std.specs.Bool.{MatchBool}
use Rattle.std.specs.List.{All, slice_split, onto_first, IsFirstMatchOrLen}
use Rattle.std.specs.Str.{bytes_eq}
use Rattle.std.proofs.lemmas.Grind.{common_steps}
use Rattle.std.proofs.lemmas.List.Splits.{slice_split_none, slice_split_at}
use Rattle.std.proofs.lemmas.Slice.Eq.{text_from_reads}
use Rattle.types.proofs.Equal.{and_inv, none_true}
use Rattle.syntax.specs.Bits.{modulus, signed}
use Rattle.syntax.specs.Partial.{guarded}
use Rattle.text.specs.Bytes.{bytes, same_bytes, split, part, fields_of, number, literal}
use Rattle.exec.specs.Machine.{int_kind, code_kind, tuple_kind, height_kind, junk_kind}
use Rattle.exec.specs.Run.{Answer, paused_after, stack_full_after, heap_full_after, stuck_after}
use Rattle.report.specs.Stops.{most_steps, word_fits, plain_stop, kind_of, halt_with, halt_of, stop_in, stop_of}
use Rattle.report.specs.Day.{is_none}
use Rattle.report_stop.specs.Told.{counted, told, kind_number}
use Rattle.report_stop.specs.declared.Stop.{Stop}
use Rattle.report_stop.specs.declared.Stop.TheVariants.{Integer, Other}
use Rattle.report_stop.specs.declared.Kind.{Kind}
use Rattle.report_stop.specs.declared.Kind.TheVariants as kind

-- ---- names
same_is : (s t : List ℕ) → same_bytes s t ≡ true → s ≡ t
unfolding same_bytes
same_is [] [] h = refl
same_is [] (c ∷ t) h = none_true h
same_is (b ∷ s) [] h = none_true h
same_is (b ∷ s) (c ∷ t) h =
    let j = and_inv (eqb b c) (same_bytes s t) h in
    let a = eqb-true b c j.0 in
    let d = same_is s t j.1 in
    cc

-- a text is that name, or the test says no
by_test : (s t : List ℕ) → (same_bytes s t ≡ false) ⊎ (s ≡ t)
by_test s t = go (same_bytes s t) refl
  where
    go : (a : Bool) → same_bytes s t ≡ a → (same_bytes s t ≡ false) ⊎ (s ≡ t)
    go true e = inr (same_is s t e)
    go false e = inl e

-- the names of stops other than a halt, byte by byte, and no other
module _ (w : List ℕ) where
  pub plain_cases : (not (is_none (plain_stop w 0)) ≡ false) ⊎ ((w ≡ bytes "paused") ⊎ ((w ≡ bytes "stack") ⊎ ((w ≡ bytes "heap") ⊎ (w ≡ bytes "stuck"))))
  unfolding plain_stop
  plain_cases =
      elim (by_test w (bytes "paused")) [
        | inr e ↦ inr (inl e)
        | inl a ↦
            elim (by_test w (bytes "stack")) [
              | inr e ↦ inr (inr (inl e))
              | inl b ↦
                  elim (by_test w (bytes "heap")) [
                    | inr e ↦ inr (inr (inr (inl e)))
                    | inl c ↦
                        elim (by_test w (bytes "stuck")) [
                          | inr e ↦ inr (inr (inr (inr (e))))
                          | inl d ↦
                              inl (rw (a, b, c, d) refl)
                        ]
                  ]
            ]
      ]

  pub plain_paused : length w ≡ 6 → get_or w 0 0 ≡ 112 → get_or w 1 0 ≡ 97 → get_or w 2 0 ≡ 117 → get_or w 3 0 ≡ 115 → get_or w 4 0 ≡ 101 → get_or w 5 0 ≡ 100 → not (is_none (plain_stop w 0)) ≡ true
  unfolding plain_stop same_bytes bytes
  plain_paused n b0 b1 b2 b3 b4 b5 = rw (text_from_reads w (bytes "paused") n (b0, (b1, (b2, (b3, (b4, (b5, tt))))))) refl

  pub plain_stack : length w ≡ 5 → get_or w 0 0 ≡ 115 → get_or w 1 0 ≡ 116 → get_or w 2 0 ≡ 97 → get_or w 3 0 ≡ 99 → get_or w 4 0 ≡ 107 → not (is_none (plain_stop w 0)) ≡ true
  unfolding plain_stop same_bytes bytes
  plain_stack n b0 b1 b2 b3 b4 = rw (text_from_reads w (bytes "stack") n (b0, (b1, (b2, (b3, (b4, tt)))))) refl

  pub plain_heap : length w ≡ 4 → get_or w 0 0 ≡ 104 → get_or w 1 0 ≡ 101 → get_or w 2 0 ≡ 97 → get_or w 3 0 ≡ 112 → not (is_none (plain_stop w 0)) ≡ true
  unfolding plain_stop same_bytes bytes
  plain_heap n b0 b1 b2 b3 = rw (text_from_reads w (bytes "heap") n (b0, (b1, (b2, (b3, tt))))) refl

  pub plain_stuck : length w ≡ 5 → get_or w 0 0 ≡ 115 → get_or w 1 0 ≡ 116 → get_or w 2 0 ≡ 117 → get_or w 3 0 ≡ 99 → get_or w 4 0 ≡ 107 → not (is_none (plain_stop w 0)) ≡ true
  unfolding plain_stop same_bytes bytes
  plain_stuck n b0 b1 b2 b3 b4 = rw (text_from_reads w (bytes "stuck") n (b0, (b1, (b2, (b3, (b4, tt)))))) refl

-- the names of kinds, and no other
module _ (k : List ℕ) where
  pub kind_cases : (kind_of k ≡ none) ⊎ ((k ≡ bytes "int") ⊎ ((k ≡ bytes "code") ⊎ ((k ≡ bytes "tuple") ⊎ ((k ≡ bytes "height") ⊎ (k ≡ bytes "junk")))))
  unfolding kind_of
  kind_cases =
      elim (by_test k (bytes "int")) [
        | inr e ↦ inr (inl e)
        | inl a ↦
            elim (by_test k (bytes "code")) [
              | inr e ↦ inr (inr (inl e))
              | inl b ↦
                  elim (by_test k (bytes "tuple")) [
                    | inr e ↦ inr (inr (inr (inl e)))
                    | inl c ↦
                        elim (by_test k (bytes "height")) [
                          | inr e ↦ inr (inr (inr (inr (inl e))))
                          | inl d ↦
                              elim (by_test k (bytes "junk")) [
                                | inr e ↦ inr (inr (inr (inr (inr (e)))))
                                | inl e ↦
                                    inl (rw (a, b, c, d, e) refl)
                              ]
                        ]
                  ]
            ]
      ]

  pub kind_int : length k ≡ 3 → get_or k 0 0 ≡ 105 → get_or k 1 0 ≡ 110 → get_or k 2 0 ≡ 116 → kind_of k ≡ some int_kind
  unfolding kind_of same_bytes bytes
  kind_int n b0 b1 b2 = rw (text_from_reads k (bytes "int") n (b0, (b1, (b2, tt)))) refl

  pub kind_code : length k ≡ 4 → get_or k 0 0 ≡ 99 → get_or k 1 0 ≡ 111 → get_or k 2 0 ≡ 100 → get_or k 3 0 ≡ 101 → kind_of k ≡ some code_kind
  unfolding kind_of same_bytes bytes
  kind_code n b0 b1 b2 b3 = rw (text_from_reads k (bytes "code") n (b0, (b1, (b2, (b3, tt))))) refl

  pub kind_tuple : length k ≡ 5 → get_or k 0 0 ≡ 116 → get_or k 1 0 ≡ 117 → get_or k 2 0 ≡ 112 → get_or k 3 0 ≡ 108 → get_or k 4 0 ≡ 101 → kind_of k ≡ some tuple_kind
  unfolding kind_of same_bytes bytes
  kind_tuple n b0 b1 b2 b3 b4 = rw (text_from_reads k (bytes "tuple") n (b0, (b1, (b2, (b3, (b4, tt)))))) refl

  pub kind_height : length k ≡ 6 → get_or k 0 0 ≡ 104 → get_or k 1 0 ≡ 101 → get_or k 2 0 ≡ 105 → get_or k 3 0 ≡ 103 → get_or k 4 0 ≡ 104 → get_or k 5 0 ≡ 116 → kind_of k ≡ some height_kind
  unfolding kind_of same_bytes bytes
  kind_height n b0 b1 b2 b3 b4 b5 = rw (text_from_reads k (bytes "height") n (b0, (b1, (b2, (b3, (b4, (b5, tt))))))) refl

  pub kind_junk : length k ≡ 4 → get_or k 0 0 ≡ 106 → get_or k 1 0 ≡ 117 → get_or k 2 0 ≡ 110 → get_or k 3 0 ≡ 107 → kind_of k ≡ some junk_kind
  unfolding kind_of same_bytes bytes
  kind_junk n b0 b1 b2 b3 = rw (text_from_reads k (bytes "junk") n (b0, (b1, (b2, (b3, tt))))) refl

-- those, for the tests of a name
pub ruleset plain_names = (plain_cases, plain_paused, plain_stack, plain_heap, plain_stuck)

pub ruleset kind_names = (kind_cases, kind_int, kind_code, kind_tuple, kind_height, kind_junk)

-- ---- a line of two fields
-- the stop by the four tests of its name
abbrev named : Bool → Bool → Bool → Bool → ℕ → math.Option Answer
named a b c d n = cond a (some (paused_after n)) (cond b (some (stack_full_after n)) (cond c (some (heap_full_after n)) (guarded d (stuck_after n))))

-- told of a stop's name, whatever the steps
plain_told : (w : List ℕ) (steps : ℕ) → told (plain_stop w steps) ≡ cond (not (is_none (plain_stop w 0))) (Some Other) None
unfolding plain_stop told counted
plain_told w steps = go (same_bytes w (bytes "paused")) (same_bytes w (bytes "stack")) (same_bytes w (bytes "heap")) (same_bytes w (bytes "stuck"))
  where
    go : (a b c d : Bool) → told (named a b c d steps) ≡ cond (not (is_none (named a b c d 0))) (Some Other) None
    go true b c d = refl
    go false true c d = refl
    go false false true d = refl
    go false false false true = refl
    go false false false false = refl

-- by the tests of its steps and of its name
pub two_fields : (w n : List ℕ) {a b : Bool} → a ≡ not (is_none (number 0 most_steps n)) → b ≡ not (is_none (plain_stop w 0)) → told (stop_in (w ∷ n ∷ [])) ≡ cond (a && b) (Some Other) None
unfolding stop_in told
two_fields w n {a} {b} h k = go (number 0 most_steps n) refl
  where
    go : (o : math.Option ℕ) → number 0 most_steps n ≡ o → told (stop_in (w ∷ n ∷ [])) ≡ cond (a && b) (Some Other) None
    go none e = rw (e, h, e) refl
    go (some v) e = rw (e, h, e, k) (plain_told w v)

pub no_steps : (w n : List ℕ) → false ≡ not (is_none (number 0 most_steps n)) → None ≡ told (stop_in (w ∷ n ∷ []))
no_steps w n h = sym (two_fields w n h refl)

-- ---- a line of four fields
-- the word that a halt ends with
module _ (bits : ℕ) (small : bits < modulus) (steps : ℕ) where
  pub halt_integer : {z : ℤ} → z ≡ to_z w32 bits → Some (Integer z) ≡ told (halt_with steps int_kind bits)
  unfolding halt_with word_fits told counted
  halt_integer e = rw (lt-ltb bits modulus small) (ap (λ (x : ℤ). Some (Integer x)) (e ∙ signed_is bits))

  pub halt_junk : (bits ≡ 0 → ⊥) → None ≡ told (halt_with steps junk_kind bits)
  unfolding halt_with word_fits told
  halt_junk h = rw (lt-ltb bits modulus small, ne_eqb bits 0 h)

  pub halt_other : (k : Kind) → (k ≡ kind.Int → ⊥) → (k ≡ kind.Junk → bits ≡ 0) → Some Other ≡ told (halt_with steps (kind_number k) bits)
  unfolding halt_with word_fits told counted
  halt_other kind.Int z j = absurd (z refl)
  halt_other kind.Code z j = rw (lt-ltb bits modulus small)
  halt_other kind.Tuple z j = rw (lt-ltb bits modulus small)
  halt_other kind.Height z j = rw (lt-ltb bits modulus small)
  halt_other kind.Junk z j = rw (j refl)

-- `==` of texts
pub same_texts : (s t : List ℕ) → bytes_eq s t ≡ same_bytes s t
unfolding same_bytes
same_texts [] [] = refl
same_texts [] (c ∷ t) = refl
same_texts (b ∷ s) [] = refl
same_texts (b ∷ s) (c ∷ t) = ap (λ (x : Bool). eqb b c && x) (same_texts s t)

-- by the answer r of `!=`
pub unequal : {r : Bool} (s t : List ℕ) → r ≡ not (bytes_eq s t) → r ≡ true → same_bytes s t ≡ false
unequal s t h e = sym (same_texts s t) ∙ go (bytes_eq s t) (sym h ∙ e)
  where
    go : (a : Bool) → not a ≡ true → a ≡ false
    go true k = none_true k
    go false k = refl

pub equal : {r : Bool} (s t : List ℕ) → r ≡ not (bytes_eq s t) → r ≡ false → same_bytes s t ≡ true
equal s t h e = sym (same_texts s t) ∙ go (bytes_eq s t) (sym h ∙ e)
  where
    go : (a : Bool) → not a ≡ false → a ≡ true
    go true k = refl
    go false k = none_true (sym k)

-- the fields of a halt
module _ (w n k m : List ℕ) where
  abbrev Line : Option Stop → Type 0
  Line r = r ≡ told (stop_in (w ∷ n ∷ k ∷ m ∷ []))

  pub not_halted : same_bytes w (bytes "halted") ≡ false → Line None
  unfolding stop_in told
  not_halted h = rw h

  module _ (h : same_bytes w (bytes "halted") ≡ true) where
    pub no_halt_steps : false ≡ not (is_none (number 0 most_steps n)) → Line None
    unfolding stop_in halt_of told
    no_halt_steps e = go (number 0 most_steps n) refl e
      where
        go : (o : math.Option ℕ) → number 0 most_steps n ≡ o → false ≡ not (is_none o) → Line None
        go none q e = rw (h, q)
        go (some v) q e = none_true e

    module _ (e : true ≡ not (is_none (number 0 most_steps n))) where
      pub no_halt_kind : none ≡ kind_of k → Line None
      unfolding stop_in halt_of told
      no_halt_kind b = go (number 0 most_steps n) refl
        where
          go : (o : math.Option ℕ) → number 0 most_steps n ≡ o → Line None
          go none q = rw (h, q)
          go (some v) q = rw (h, q, ← b)

      pub no_halt_number : none ≡ literal m → Line None
      unfolding stop_in halt_of told
      no_halt_number b = go (number 0 most_steps n) (kind_of k) refl refl
        where
          go : (o p : math.Option ℕ) → number 0 most_steps n ≡ o → kind_of k ≡ p → Line None
          go none p q j = rw (h, q)
          go (some v) none q j = rw (h, q, j)
          go (some v) (some i) q j = rw (h, q, j, ← b)

      pub halt_told : (kind bits : ℕ) {r : Option Stop} → some bits ≡ literal m → some kind ≡ kind_of k → ((steps : ℕ) → r ≡ told (halt_with steps kind bits)) → Line r
      unfolding stop_in halt_of
      halt_told kind bits {r} b j f = go (number 0 most_steps n) refl e
        where
          go : (o : math.Option ℕ) → number 0 most_steps n ≡ o → true ≡ not (is_none o) → Line r
          go none q t = none_true (sym t)
          go (some v) q t = rw (h, q, ← b, ← j) (f v)

-- ---- the fields of a line
-- the parts that std gives are those of crate text
pub same_parts : (c : ℕ) (s : List ℕ) → slice_split (λ b. eqb b c) s ≡ split c s
unfolding split
same_parts c [] = refl
same_parts c (b ∷ s) = go (eqb b c) (slice_split (λ x. eqb x c) s) ∙ ap (part (eqb b c) b) (same_parts c s)
  where
    go : (t : Bool) (ps : List (List ℕ)) → cond t ([] ∷ ps) (onto_first b ps) ≡ part t b ps
    go true ps = refl
    go false [] = refl
    go false (p ∷ ps) = refl

-- one part and those behind it, none where it was the last
pub cut_off : (rest x more : List ℕ) (done : Bool) → MatchBool done (rest ≡ x) ((y : ℕ) × (rest ≡ x ++ (y ∷ more))) → IsFirstMatchOrLen (λ b. eqb b 44) rest (length x)
    → split 44 rest ≡ x ∷ cond done [] (split 44 more)
cut_off rest x more true e h =
    sym (same_parts 44 rest) ∙ ap (slice_split (λ b. eqb b 44)) e ∙ slice_split_none (λ b. eqb b 44) x (λ k d l. subst (λ ys. eqb (get_or ys k d) 44 ≡ false) e (h.0 k d (omega arith) l))
cut_off rest x more false e h =
    let front : All (λ z. eqb z 44 ≡ false) x = λ k d l. let a = h.0 k d (omega arith) l in let b = e.1 in grind (arith, common_steps) in
    let hit : eqb e.0 44 ≡ true = let b = e.1 in let a = h.1 (grind (arith, common_steps)) e.0 in grind (arith, common_steps) in
    sym (same_parts 44 rest) ∙ ap (slice_split (λ b. eqb b 44)) e.1 ∙ slice_split_at (λ b. eqb b 44) x e.0 more front hit ∙ ap (λ (ps : List (List ℕ)). x ∷ ps) (same_parts 44 more)

-- the stop of a line that has these fields, the rest of them ps
pub fields_told : (s : List ℕ) (ps : List (List ℕ)) → split 44 s ≡ ps → {r : Option Stop} → r ≡ told (stop_in ps) → r ≡ told (stop_of s)
unfolding stop_of fields_of
fields_told s ps e h = h ∙ ap (λ (x : List (List ℕ)). told (stop_in x)) (sym e)

module _ (s a r1 : List ℕ) (d1 : Bool) (e1 : split 44 s ≡ a ∷ cond d1 [] (split 44 r1)) where
  pub one_field : d1 ≡ true → None ≡ told (stop_of s)
  unfolding stop_in told
  one_field h = fields_told s (a ∷ []) (rw h at e1) refl

  module _ (h1 : d1 ≡ false) (b r2 : List ℕ) (d2 : Bool) (e2 : split 44 r1 ≡ b ∷ cond d2 [] (split 44 r2)) where
    pub two_fields_in : split 44 s ≡ a ∷ b ∷ cond d2 [] (split 44 r2)
    two_fields_in = rw h1 at e1 ∙ ap (λ (x : List (List ℕ)). a ∷ x) e2

    pub two_parts : d2 ≡ true → {r : Option Stop} → r ≡ told (stop_in (a ∷ b ∷ [])) → r ≡ told (stop_of s)
    two_parts h = fields_told s (a ∷ b ∷ []) (rw h at two_fields_in)

    module _ (h2 : d2 ≡ false) (c r3 : List ℕ) (d3 : Bool) (e3 : split 44 r2 ≡ c ∷ cond d3 [] (split 44 r3)) where
      three_fields_in : split 44 s ≡ a ∷ b ∷ c ∷ cond d3 [] (split 44 r3)
      three_fields_in = rw h2 at two_fields_in ∙ ap (λ (x : List (List ℕ)). a ∷ b ∷ x) e3

      pub three_parts : d3 ≡ true → None ≡ told (stop_of s)
      unfolding stop_in told
      three_parts h = fields_told s (a ∷ b ∷ c ∷ []) (rw h at three_fields_in) refl

      module _ (h3 : d3 ≡ false) (d r4 : List ℕ) (d4 : Bool) (e4 : split 44 r3 ≡ d ∷ cond d4 [] (split 44 r4)) where
        four_fields_in : split 44 s ≡ a ∷ b ∷ c ∷ d ∷ cond d4 [] (split 44 r4)
        four_fields_in = rw h3 at three_fields_in ∙ ap (λ (x : List (List ℕ)). a ∷ b ∷ c ∷ x) e4

        pub four_parts : d4 ≡ true → {r : Option Stop} → r ≡ told (stop_in (a ∷ b ∷ c ∷ d ∷ [])) → r ≡ told (stop_of s)
        four_parts h = fields_told s (a ∷ b ∷ c ∷ d ∷ []) (rw h at four_fields_in)

        pub more_parts : d4 ≡ false → {f : List ℕ} {ps : List (List ℕ)} → split 44 r4 ≡ f ∷ ps → None ≡ told (stop_of s)
        unfolding stop_in told
        more_parts h {f} {ps} e5 = fields_told s (a ∷ b ∷ c ∷ d ∷ f ∷ ps) (rw h at four_fields_in ∙ ap (λ (x : List (List ℕ)). a ∷ b ∷ c ∷ d ∷ x) e5) refl
