-- Rows with their references renamed by a map that keeps types have the same types. What follows for a shared table.
use Prim.Native.Nat.{ℕ, zero, suc, ◌+◌, ◌-◌, ◌*◌, ◌<◌, ◌≤◌}
use native.Mathlib.Nat.{zero-add}
use native.Mathlib.Omega.{arith}
use mathlib.Core.Path.{◌≡◌, refl, ap, ap₂, sym, subst, ◌∙◌}
use mathlib.Core.Bool.{Bool, true, false, cond}
use mathlib.Core.Logic.{◌⊎◌, inl, inr}
use mathlib.Core.Option.{Option, none, some}
use mathlib.Core.List.{List, [], ◌∷◌, ◌++◌, map, reverse}
use lib.Dec.{leb}
use lib.ListN.{length, get_or, length-map, length-reverse}
use borrow.Author.Tests.{ltb-true, leb-true, ne_eqb, lt-ltb, le-ltb}
use Rattle.syntax.specs.Syntax.{Kind, value, stack, Row, row_i, row_n, row_e, row_v, row_x, row_p, row_h, row_u, row_k, row_a, row_c}
use Rattle.types.specs.Types.{tuple, pointer, hidden, code, push, gap, join, items, Arg, arg, of_kind}
use Rattle.types.specs.Rows.{type_at, components, registers, meaning, types_of, is_value, is_code, Ref, known_refs, row_refs, all_below}
use Rattle.types.proofs.Equal.{and_inv}
use Rattle.types.proofs.Meaning.{named, type_in, types_snoc, type_is, rows_clear}
use Rattle.tables.specs.Tables.{RowTable, cell, span, letter_of, known_of, letters_at, code_row_at, row_from, row_at, rows_from, rows_in}
use Rattle.tables.proofs.Cases.{row_last}
use Rattle.tables.proofs.Spans.{span_length}
use Rattle.tables.proofs.Steps.{length_rows}
use Rattle.types_rows.specs.Clear.{RowsClear}
use Rattle.types_rows.specs.Read.{tab, mean, Counted}
use Rattle.types_rows.proofs.Laws.{value_is, stack_is}
use Rattle.types_rows.proofs.Bridge.{rows_snoc, type_in_lem}
use Rattle.valid_scope.specs.variables.Free.{free_in}
use Rattle.valid_scope.specs.Scoped.{row_type, top_in, Scoped}
use Rattle.valid_scope.proofs.Rows.{row_get_d, row_type_lem}
use Rattle.valid.specs.Bounds.{SmallRow}
use Rattle.valid_share.specs.rename.Renamed.{first_of, new_a, new_b, new_slot, new_part, entry_at, part_at, FilledRows, FilledParts, HasParts}
use Rattle.valid_share.specs.Shared.{Firsts, renamed_option, renamed, Alike, Lower, Shared}

-- ---- renaming
module _ (f : ℕ → ℕ) where
  pub renamed_value : (x : Row) → is_value (renamed f x) ≡ is_value x
  unfolding renamed is_value
  renamed_value row_i = refl
  renamed_value row_n = refl
  renamed_value (row_v k) = refl
  renamed_value (row_u ts) = refl
  renamed_value (row_p s) = refl
  renamed_value (row_c q s rs) = refl
  renamed_value (row_h t) = refl
  renamed_value row_e = refl
  renamed_value (row_x k) = refl
  renamed_value (row_k t s) = refl
  renamed_value (row_a a b) = refl

  pub renamed_code : (x : Row) → is_code (renamed f x) ≡ is_code x
  unfolding renamed is_code
  renamed_code row_i = refl
  renamed_code row_n = refl
  renamed_code (row_v k) = refl
  renamed_code (row_u ts) = refl
  renamed_code (row_p s) = refl
  renamed_code (row_c q s rs) = refl
  renamed_code (row_h t) = refl
  renamed_code row_e = refl
  renamed_code (row_x k) = refl
  renamed_code (row_k t s) = refl
  renamed_code (row_a a b) = refl

  pub renamed_small : (x : Row) → SmallRow x → SmallRow (renamed f x)
  unfolding renamed
  renamed_small row_i h = tt
  renamed_small row_n h = tt
  renamed_small (row_v k) h = h
  renamed_small (row_u ts) h = let l = length-map ts f in omega arith
  renamed_small (row_p s) h = tt
  renamed_small (row_c q s rs) h = let l = length-map rs (renamed_option f) in (h.0, l ∙ h.1)
  renamed_small (row_h t) h = tt
  renamed_small row_e h = tt
  renamed_small (row_x k) h = h
  renamed_small (row_k t s) h = tt
  renamed_small (row_a a b) h = tt

-- a renamed form means the same where the rows named have the types of those that they replace
module _ (n : ℕ) (f : ℕ → ℕ) (T : List Arg) (same : (t : ℕ) → t < n → type_in T (f t) ≡ type_in T t) where
  at_first : (κ : Kind) (t : ℕ) → t < n → type_at κ T (f t) ≡ type_at κ T t
  unfolding type_at
  at_first κ t h = ap (of_kind κ) (same t h)

  components_first : (ts : List ℕ) → all_below n (map (λ (r : Ref). r.row) (row_refs (row_u ts))) ≡ true → components T (map f ts) ≡ components T ts
  unfolding components all_below row_refs
  components_first [] e = refl
  components_first (t ∷ ts) e =
      let k = and_inv _ _ e in
      ap₂ push (at_first value t (ltb-true t n k.0)) (components_first ts k.1)

  registers_first : (rs : List (Option ℕ)) → all_below n (map (λ (r : Ref). r.row) (known_refs rs)) ≡ true → registers T (map (renamed_option f) rs) ≡ registers T rs
  unfolding registers all_below known_refs
  registers_first [] e = refl
  registers_first (none ∷ rs) e = ap gap (registers_first rs e)
  registers_first (some t ∷ rs) e =
      let k = and_inv _ _ e in
      ap₂ push (at_first value t (ltb-true t n k.0)) (registers_first rs k.1)

  pub meaning_renamed : (x : Row) → all_below n (named x) ≡ true → meaning T (renamed f x) ≡ meaning T x
  unfolding meaning all_below row_refs renamed
  meaning_renamed row_i e = refl
  meaning_renamed row_n e = refl
  meaning_renamed (row_v k) e = refl
  meaning_renamed (row_u ts) e = ap (λ a. arg value (tuple a)) (components_first ts e)
  meaning_renamed (row_p s) e = ap (λ a. arg value (pointer a)) (at_first stack s (ltb-true s n (and_inv _ _ e).0))
  meaning_renamed (row_c q s rs) e =
      let k = and_inv _ _ e in
      ap₂ (λ a r. arg value (code (reverse q) a r)) (at_first stack s (ltb-true s n k.0)) (registers_first rs k.1)
  meaning_renamed (row_h t) e = ap (λ u. arg value (hidden u)) (at_first value t (ltb-true t n (and_inv _ _ e).0))
  meaning_renamed row_e e = refl
  meaning_renamed (row_x k) e = refl
  meaning_renamed (row_k t s) e =
      let k = and_inv _ _ e in
      ap₂ (λ u a. arg stack (push u a)) (at_first value t (ltb-true t n k.0)) (at_first stack s (ltb-true s n (and_inv _ _ k.1).0))
  meaning_renamed (row_a a b) e =
      let k = and_inv _ _ e in
      ap₂ (λ x y. arg stack (join x y)) (at_first stack a (ltb-true a n k.0)) (at_first stack b (ltb-true b n (and_inv _ _ k.1).0))

-- ---- the entries written are those of the renamed row
span_map : (p ps : List ℕ) (g : ℕ → ℕ) (i a b : ℕ) → ((j : ℕ) → j < b → get_or p (i + j) 0 ≡ g (get_or ps (a + j) 0)) → span p i b ≡ map g (span ps a b)
unfolding span
span_map p ps g i a zero h = refl
span_map p ps g i a (suc b) h = ap₂ ◌∷◌ head (span_map p ps g (suc i) (suc a) b tail)
  where
    head : get_or p i 0 ≡ g (get_or ps a 0)
    head =
        let q : i + 0 ≡ i = omega arith in
        let w : a + 0 ≡ a = omega arith in
        sym (ap (λ (x : ℕ). get_or p x 0) q) ∙ h 0 (omega arith) ∙ ap (λ (x : ℕ). g (get_or ps x 0)) w

    tail : (j : ℕ) → j < b → get_or p (suc i + j) 0 ≡ g (get_or ps (suc a + j) 0)
    tail j l =
        let q : suc i + j ≡ i + suc j = omega arith in
        let w : a + suc j ≡ suc a + j = omega arith in
        ap (λ (x : ℕ). get_or p x 0) q ∙ h (suc j) (omega arith) ∙ ap (λ (x : ℕ). g (get_or ps x 0)) w

span_same : (p ps : List ℕ) (i a b : ℕ) → ((j : ℕ) → j < b → get_or p (i + j) 0 ≡ get_or ps (a + j) 0) → span p i b ≡ span ps a b
unfolding span
span_same p ps i a zero h = refl
span_same p ps i a (suc b) h = ap₂ ◌∷◌ head (span_same p ps (suc i) (suc a) b tail)
  where
    head : get_or p i 0 ≡ get_or ps a 0
    head =
        let q : i + 0 ≡ i = omega arith in
        let w : a + 0 ≡ a = omega arith in
        sym (ap (λ (x : ℕ). get_or p x 0) q) ∙ h 0 (omega arith) ∙ ap (λ (x : ℕ). get_or ps x 0) w

    tail : (j : ℕ) → j < b → get_or p (suc i + j) 0 ≡ get_or ps (suc a + j) 0
    tail j l =
        let q : suc i + j ≡ i + suc j = omega arith in
        let w : a + suc j ≡ suc a + j = omega arith in
        ap (λ (x : ℕ). get_or p x 0) q ∙ h (suc j) (omega arith) ∙ ap (λ (x : ℕ). get_or ps x 0) w

module _ (first : List ℕ) where
  known_slot : (x : ℕ) → known_of (new_slot first x) ≡ renamed_option (first_of first) (known_of x)
  unfolding known_of new_slot
  known_slot zero = refl
  known_slot (suc x) = let q : suc x - 1 ≡ x = omega arith in rw (ne_eqb (suc x) 0 (λ z. omega arith), q) refl

  known_slots : (xs : List ℕ) → map known_of (map (new_slot first) xs) ≡ map (renamed_option (first_of first)) (map known_of xs)
  known_slots [] = refl
  known_slots (x ∷ xs) = ap₂ ◌∷◌ (known_slot x) (known_slots xs)

  module _ (p ps : List ℕ) (r : ℕ) where
    abbrev Parts : ℕ → ℕ → ℕ → Type 0
    Parts k a b = (j : ℕ) → j < 17 → get_or p (17 * r + j) 0 ≡ new_part first ps k a b j

    tuple_form_lem : (a b : ℕ) → Parts 3 a b → length (span ps a b) ≤ 16 → span p (17 * r) b ≡ map (first_of first) (span ps a b)
    unfolding new_part
    tuple_form_lem a b h l = let q = span_length ps a b in span_map p ps (first_of first) (17 * r) a b (λ j m. h j (omega arith))

    slot_part : (a b j : ℕ) → j < 8 → new_part first ps 5 a b j ≡ new_slot first (get_or ps (b + j) 0)
    unfolding new_part
    slot_part a b j l = rw (lt-ltb j 8 l) refl

    rest_part : (a b j : ℕ) → 8 ≤ j → new_part first ps 5 a b j ≡ get_or ps (b + j) 0
    unfolding new_part
    rest_part a b j l = rw (le-ltb j 8 l) refl

    slots_form : (a b : ℕ) → Parts 5 a b → map known_of (span p (17 * r) 8) ≡ map (renamed_option (first_of first)) (map known_of (span ps b 8))
    slots_form a b h = ap (map known_of) (span_map p ps (new_slot first) (17 * r) b 8 (λ j m. h j (omega arith) ∙ slot_part a b j m)) ∙ known_slots (span ps b 8)

    letters_form : (a b : ℕ) → Parts 5 a b → length (reverse (letters_at ps b)) ≤ 8 → letters_at p (17 * r) ≡ letters_at ps b
    unfolding letters_at
    letters_form a b h l =
        let c : ℕ = get_or ps (b + 8) 0 in
        let e : get_or p (17 * r + 8) 0 ≡ get_or ps (b + 8) 0 = h 8 (omega arith) ∙ rest_part a b 8 (omega arith) in
        let n1 = length-reverse (map letter_of (span ps (b + 9) c)) in
        let n2 = length-map (span ps (b + 9) c) letter_of in
        let n3 = span_length ps (b + 9) c in
        let w : c ≤ 8 = omega arith in
        ap (λ (x : ℕ). map letter_of (span p (17 * r + 9) x)) e ∙ ap (map letter_of) (span_same p ps (17 * r + 9) (b + 9) c (λ j m. rest j (omega arith)))
      where
        rest : (j : ℕ) → j < 8 → get_or p (17 * r + 9 + j) 0 ≡ get_or ps (b + 9 + j) 0
        rest j m =
            let q : 17 * r + 9 + j ≡ 17 * r + (9 + j) = omega arith in
            let w : b + (9 + j) ≡ b + 9 + j = omega arith in
            ap (λ (x : ℕ). get_or p x 0) q ∙ h (9 + j) (omega arith) ∙ rest_part a b (9 + j) (omega arith) ∙ ap (λ (x : ℕ). get_or ps x 0) w

    high_form : (k a b : ℕ) → 10 ≤ k → row_from p k (new_a first r k a) (new_b first r k b) ≡ renamed (first_of first) (row_from ps k a b)
    unfolding row_from new_a new_b renamed
    high_form k a b h =
        rw (
          ne_eqb k 0 (λ z. omega arith),
          ne_eqb k 1 (λ z. omega arith),
          ne_eqb k 2 (λ z. omega arith),
          ne_eqb k 3 (λ z. omega arith),
          ne_eqb k 4 (λ z. omega arith),
          ne_eqb k 5 (λ z. omega arith),
          ne_eqb k 6 (λ z. omega arith),
          ne_eqb k 7 (λ z. omega arith),
          ne_eqb k 8 (λ z. omega arith),
          ne_eqb k 9 (λ z. omega arith),
        )
        refl

    form : (k a b : ℕ) → (HasParts k → Parts k a b) → SmallRow (row_from ps k a b) → row_from p k (new_a first r k a) (new_b first r k b) ≡ renamed (first_of first) (row_from ps k a b)
    unfolding row_from code_row_at new_a new_b renamed
    form zero a b h s = refl
    form (suc zero) a b h s = refl
    form (suc (suc zero)) a b h s = refl
    form (suc (suc (suc zero))) a b h s = ap row_u (tuple_form_lem a b (h (inl refl)) s)
    form (suc (suc (suc (suc zero)))) a b h s = refl
    form (suc (suc (suc (suc (suc zero))))) a b h s = ap₂ (λ q rs. row_c (reverse q) (first_of first a) rs) (letters_form a b (h (inr refl)) s.0) (slots_form a b (h (inr refl)))
    form (suc (suc (suc (suc (suc (suc zero)))))) a b h s = refl
    form (suc (suc (suc (suc (suc (suc (suc zero))))))) a b h s = refl
    form (suc (suc (suc (suc (suc (suc (suc (suc zero)))))))) a b h s = refl
    form (suc (suc (suc (suc (suc (suc (suc (suc (suc zero))))))))) a b h s = refl
    form (suc (suc (suc (suc (suc (suc (suc (suc (suc (suc k)))))))))) a b h s = high_form (suc (suc (suc (suc (suc (suc (suc (suc (suc (suc k)))))))))) a b (omega arith)

-- ---- rows that are the same once the rows that they name are replaced
span_alike : (g : ℕ → ℕ) (ps : List ℕ) (a x n : ℕ) → ((j : ℕ) → j < n → g (get_or ps (a + j) 0) ≡ g (get_or ps (x + j) 0)) → map g (span ps a n) ≡ map g (span ps x n)
unfolding span
span_alike g ps a x zero h = refl
span_alike g ps a x (suc n) h = ap₂ ◌∷◌ head (span_alike g ps (suc a) (suc x) n tail)
  where
    head : g (get_or ps a 0) ≡ g (get_or ps x 0)
    head =
        let q : a + 0 ≡ a = omega arith in
        let w : x + 0 ≡ x = omega arith in
        sym (ap (λ (z : ℕ). g (get_or ps z 0)) q) ∙ h 0 (omega arith) ∙ ap (λ (z : ℕ). g (get_or ps z 0)) w

    tail : (j : ℕ) → j < n → g (get_or ps (suc a + j) 0) ≡ g (get_or ps (suc x + j) 0)
    tail j l =
        let q : suc a + j ≡ a + suc j = omega arith in
        let w : x + suc j ≡ suc x + j = omega arith in
        ap (λ (z : ℕ). g (get_or ps z 0)) q ∙ h (suc j) (omega arith) ∙ ap (λ (z : ℕ). g (get_or ps z 0)) w

module _ (first ps : List ℕ) (a b x y : ℕ) where
  abbrev PartsAlike : ℕ → ℕ → Type 0
  PartsAlike k n = (j : ℕ) → j < n → new_part first ps k a b j ≡ new_part first ps k x y j

  tuple_alike : b ≡ y → PartsAlike 3 b → Alike first ps 3 a b x y
  unfolding row_from renamed new_part
  tuple_alike e h = ap row_u (span_alike (first_of first) ps a x b h ∙ ap (λ (n : ℕ). map (first_of first) (span ps x n)) e)

  slots_alike : PartsAlike 5 8 → map (renamed_option (first_of first)) (map known_of (span ps b 8)) ≡ map (renamed_option (first_of first)) (map known_of (span ps y 8))
  slots_alike h =
      sym (known_slots first (span ps b 8))
      ∙ ap (map known_of) (span_alike (new_slot first) ps b y 8 (λ j l. sym (slot_part first [] ps 0 a b j l) ∙ h j l ∙ slot_part first [] ps 0 x y j l))
      ∙ known_slots first (span ps y 8)

  letters_alike : (q : ℕ) → q ≡ get_or ps (b + 8) 0 → PartsAlike 5 (9 + q) → letters_at ps b ≡ letters_at ps y
  unfolding letters_at
  letters_alike q e h =
      let c : get_or ps (b + 8) 0 ≡ get_or ps (y + 8) 0 = sym (rest_part first [] ps 0 a b 8 (omega arith)) ∙ h 8 (omega arith) ∙ rest_part first [] ps 0 x y 8 (omega arith) in
      let s : map letter_of (span ps (b + 9) q) ≡ map letter_of (span ps (y + 9) q) = span_letters (b + 9) (y + 9) q rest in
      ap (λ (n : ℕ). map letter_of (span ps (b + 9) n)) (sym e) ∙ s ∙ ap (λ (n : ℕ). map letter_of (span ps (y + 9) n)) (e ∙ c)
    where
      rest : (j : ℕ) → j < q → get_or ps (b + 9 + j) 0 ≡ get_or ps (y + 9 + j) 0
      rest j l =
          let u : b + 9 + j ≡ b + (9 + j) = omega arith in
          let w : y + (9 + j) ≡ y + 9 + j = omega arith in
          ap (λ (z : ℕ). get_or ps z 0) u ∙ sym (rest_part first [] ps 0 a b (9 + j) (omega arith)) ∙ h (9 + j) (omega arith) ∙ rest_part first [] ps 0 x y (9 + j) (omega arith) ∙ ap (λ (z : ℕ). get_or ps z 0) w

      span_letters : (i j n : ℕ) → ((k : ℕ) → k < n → get_or ps (i + k) 0 ≡ get_or ps (j + k) 0) → map letter_of (span ps i n) ≡ map letter_of (span ps j n)
      span_letters i j n k = ap (map letter_of) (span_same ps ps i j n k)

  code_alike : (q : ℕ) → q ≡ get_or ps (b + 8) 0 → first_of first a ≡ first_of first x → PartsAlike 5 (9 + q) → Alike first ps 5 a b x y
  unfolding row_from code_row_at renamed
  code_alike q e f h =
      ap₂ (λ l rs. row_c (reverse l) (first_of first a) rs) (letters_alike q e h) (slots_alike (λ j l. h j (omega arith)))
      ∙ ap (λ (s : ℕ). row_c (reverse (letters_at ps y)) s (map (renamed_option (first_of first)) (map known_of (span ps y 8)))) f

  module _ (k : ℕ) where
    pub alike_tuple : k ≡ 3 → b ≡ y → PartsAlike k b → Alike first ps k a b x y
    alike_tuple e f h = rw e (tuple_alike f (rw e at h))

    pub alike_code : (q : ℕ) → k ≡ 5 → q ≡ get_or ps (b + 8) 0 → first_of first a ≡ first_of first x → PartsAlike k (9 + q) → Alike first ps k a b x y
    alike_code q e f g h = rw e (code_alike q f g (rw e at h))

    pub alike_number : (k ≡ 2) ⊎ (k ≡ 8) → a ≡ x → Alike first ps k a b x y
    unfolding row_from renamed
    alike_number (inl e) f = rw (e, f) refl
    alike_number (inr e) f = rw (e, f) refl

  high_alike : (k : ℕ) → 10 ≤ k → first_of first a ≡ first_of first x → first_of first b ≡ first_of first y → Alike first ps k a b x y
  unfolding renamed
  high_alike k h f g = ap (renamed (first_of first)) (row_last ps k a b h) ∙ ap₂ row_a f g ∙ sym (ap (renamed (first_of first)) (row_last ps k x y h))

  pub alike_rest : (k : ℕ) → (k ≡ 3 → ⊥) → ((k ≡ 2) ⊎ (k ≡ 8) → ⊥) → (k ≡ 5 → ⊥) → first_of first a ≡ first_of first x → first_of first b ≡ first_of first y → Alike first ps k a b x y
  unfolding row_from renamed
  alike_rest zero h i l f g = refl
  alike_rest (suc zero) h i l f g = refl
  alike_rest (suc (suc zero)) h i l f g = absurd (i (inl refl))
  alike_rest (suc (suc (suc zero))) h i l f g = absurd (h refl)
  alike_rest (suc (suc (suc (suc zero)))) h i l f g = ap row_p f
  alike_rest (suc (suc (suc (suc (suc zero))))) h i l f g = absurd (l refl)
  alike_rest (suc (suc (suc (suc (suc (suc zero)))))) h i l f g = ap row_h f
  alike_rest (suc (suc (suc (suc (suc (suc (suc zero))))))) h i l f g = refl
  alike_rest (suc (suc (suc (suc (suc (suc (suc (suc zero)))))))) h i l f g = absurd (i (inr refl))
  alike_rest (suc (suc (suc (suc (suc (suc (suc (suc (suc zero))))))))) h i l f g = ap₂ row_k f g
  alike_rest (suc (suc (suc (suc (suc (suc (suc (suc (suc (suc k)))))))))) h i l f g = high_alike (suc (suc (suc (suc (suc (suc (suc (suc (suc (suc k)))))))))) (omega arith) f g

-- rows that are alike have the same type
module _ (τ : RowTable) (m : ℕ) (first : List ℕ) (c r : ℕ) (h : c ≤ r) (k : r < m) (hf : Firsts τ m first r) (low : Lower τ (r + 1)) where
  first_same : (t : ℕ) → t < r → type_in (types_of (rows_in τ m)) (first_of first t) ≡ type_in (types_of (rows_in τ m)) t
  unfolding first_of
  first_same t l = go (leb (get_or first t 0) t)
    where
      go : (b : Bool) → type_in (types_of (rows_in τ m)) (cond b (get_or first t 0) t) ≡ type_in (types_of (rows_in τ m)) t
      go true = hf t l
      go false = refl

  type_of : (x : ℕ) → x ≤ r → type_in (types_of (rows_in τ m)) x ≡ meaning (types_of (rows_in τ m)) (renamed (first_of first) (row_at τ x))
  type_of x l =
      let g = length_rows τ m in
      let w : x < m = omega arith in
      let e = row_get_d τ m x row_i w in
      let z : all_below x (named (get_or (rows_in τ m) x row_i)) ≡ true = ap (λ (y : Row). all_below x (named y)) e ∙ low x (omega arith) in
      type_is (rows_in τ m) x row_i (omega arith) z ∙ ap (meaning (types_of (rows_in τ m))) e ∙ sym (meaning_renamed x (first_of first) (types_of (rows_in τ m)) (λ t i. first_same t (omega arith)) (row_at τ x) (low x (omega arith)))

  row_is : (j x p q : ℕ) → j ≡ cell 4 τ.rows x 0 → p ≡ cell 4 τ.rows x 1 → q ≡ cell 4 τ.rows x 2 → row_at τ x ≡ row_from τ.parts j p q
  unfolding row_at
  row_is j x p q e f g = rw (← e, ← f, ← g) refl

  pub alike_types : (j p q s t : ℕ) → j ≡ cell 4 τ.rows c 0 → j ≡ cell 4 τ.rows r 0 → p ≡ cell 4 τ.rows c 1 → q ≡ cell 4 τ.rows c 2 → s ≡ cell 4 τ.rows r 1 → t ≡ cell 4 τ.rows r 2 → Alike first τ.parts j p q s t
      → type_in (types_of (rows_in τ m)) c ≡ type_in (types_of (rows_in τ m)) r
  alike_types j p q s t ec er ep eq es et a = type_of c h ∙ ap (meaning (types_of (rows_in τ m))) (ap (renamed (first_of first)) (row_is j c p q ec ep eq) ∙ a ∙ sym (ap (renamed (first_of first)) (row_is j r s t er es et))) ∙ sym (type_of r (omega arith))

-- rows that pass two has found no fault in name lower rows only
pub lower_rows : (τ : RowTable) (n : ℕ) → RowsClear τ n → Lower τ n
lower_rows τ n c r h =
    let g = length_rows τ n in
    let q = rows_clear (rows_in τ n) c r row_i (omega arith) in
    rw (row_get_d τ n r row_i h) at q.0

-- ---- the shared table
types_step : (τ : RowTable) (m : ℕ) → types_of (rows_in τ (suc m)) ≡ types_of (rows_in τ m) ++ meaning (types_of (rows_in τ m)) (row_at τ m) ∷ []
types_step τ m = ap types_of (rows_snoc τ 0 m ∙ ap (λ (z : ℕ). rows_from τ 0 m ++ row_at τ z ∷ []) (zero-add m)) ∙ types_snoc (rows_in τ m) (row_at τ m)

module _ (rows parts first l p : List ℕ) (n : ℕ) (hr : FilledRows first rows (n + 2) l) (hp : FilledParts first rows parts n p) where
  abbrev τ : RowTable
  τ = tab rows parts

  abbrev σ : RowTable
  σ = tab l p

  row_shared : (r : ℕ) → r < n → SmallRow (row_at τ r) → row_at σ r ≡ renamed (first_of first) (row_at τ r)
  unfolding row_at
  row_shared r h s =
      let k : cell 4 l r 0 ≡ cell 4 rows r 0 = hr r 0 (omega arith) (omega arith) ∙ unfold entry_at in refl in
      let a : cell 4 l r 1 ≡ new_a first r (cell 4 rows r 0) (cell 4 rows r 1) = hr r 1 (omega arith) (omega arith) ∙ unfold entry_at in refl in
      let b : cell 4 l r 2 ≡ new_b first r (cell 4 rows r 0) (cell 4 rows r 2) = hr r 2 (omega arith) (omega arith) ∙ unfold entry_at in refl in
      ap₂ (λ (x y : ℕ). row_from p x y (cell 4 l r 2)) k a ∙ ap (row_from p (cell 4 rows r 0) (new_a first r (cell 4 rows r 0) (cell 4 rows r 1))) b
      ∙ form first p parts r (cell 4 rows r 0) (cell 4 rows r 1) (cell 4 rows r 2) (λ q j m. hp r j h q m ∙ unfold part_at in refl) s

  count_shared : (r : ℕ) → r < n + 2 → cell 4 l r 3 ≡ cell 4 rows r 3
  count_shared r h = hr r 3 h (omega arith) ∙ unfold entry_at in refl

  kind_shared : (r : ℕ) → r < n + 2 → cell 4 l r 0 ≡ cell 4 rows r 0
  kind_shared r h = hr r 0 h (omega arith) ∙ unfold entry_at in refl

  module _ (s : (r : ℕ) → r < n → SmallRow (row_at τ r)) (c : RowsClear τ n) (hf : Firsts τ (n + 2) first n) where
    first_type : (m x : ℕ) → m ≤ n → x < m → type_in (types_of (rows_in τ m)) (first_of first x) ≡ type_in (types_of (rows_in τ m)) x
    unfolding first_of
    first_type m x h k = go (leb (get_or first x 0) x) refl
      where
        go : (b : Bool) → leb (get_or first x 0) x ≡ b → type_in (types_of (rows_in τ m)) (cond b (get_or first x 0) x) ≡ type_in (types_of (rows_in τ m)) x
        go true e =
            let w = leb-true (get_or first x 0) x e in
            row_type_lem τ m (get_or first x 0) (omega arith) ∙ sym (row_type_lem τ (n + 2) (get_or first x 0) (omega arith)) ∙ hf x (omega arith) ∙ row_type_lem τ (n + 2) x (omega arith) ∙ sym (row_type_lem τ m x k)
        go false e = refl

    low : Lower τ n
    low = lower_rows τ n c

    means : (m : ℕ) → m < n → meaning (types_of (rows_in τ m)) (row_at σ m) ≡ meaning (types_of (rows_in τ m)) (row_at τ m)
    means m h = ap (meaning (types_of (rows_in τ m))) (row_shared m h (s m h)) ∙ meaning_renamed m (first_of first) (types_of (rows_in τ m)) (λ t k. first_type m t (omega arith) k) (row_at τ m) (low m h)

    types_low : (m : ℕ) → m ≤ n → types_of (rows_in σ m) ≡ types_of (rows_in τ m)
    types_low zero h = unfold rows_from in refl
    types_low (suc m) h =
        let i = types_low m (omega arith) in
        types_step σ m
        ∙ ap (λ (T : List Arg). T ++ meaning T (row_at σ m) ∷ []) i
        ∙ ap (λ (a : Arg). types_of (rows_in τ m) ++ a ∷ []) (means m h)
        ∙ sym (types_step τ m)

    type_low : (r : ℕ) → r < n → row_type τ r ≡ row_type σ r
    unfolding row_type
    type_low r h = sym (ap (λ (T : List Arg). meaning T (row_at σ r)) (types_low r (omega arith)) ∙ means r h)

    scoped_low : (uses tops : List ℕ) → Scoped τ n uses tops → Scoped σ n uses tops
    scoped_low uses tops w = record { room = w.room; free = λ r k m. w.free r k m ∙ ap (free_in k) (type_low r m); top = λ r m. w.top r m ∙ ap top_in (type_low r m) }

    module _ (int_row : cell 4 rows n 0 ≡ 0) (junk_row : cell 4 rows (n + 1) 0 ≡ 1) where
      int_there : row_at σ n ≡ row_at τ n
      unfolding row_at row_from
      int_there = rw (kind_shared n (omega arith) ∙ int_row, int_row) refl

      junk_there : row_at σ (n + 1) ≡ row_at τ (n + 1)
      unfolding row_at row_from
      junk_there = rw (kind_shared (n + 1) (omega arith) ∙ junk_row, junk_row) refl

      types_more : (m : ℕ) → row_at σ m ≡ row_at τ m → types_of (rows_in σ m) ≡ types_of (rows_in τ m) → types_of (rows_in σ (suc m)) ≡ types_of (rows_in τ (suc m))
      types_more m e i = types_step σ m ∙ ap₂ (λ (T : List Arg) (x : Row). T ++ meaning T x ∷ []) i e ∙ sym (types_step τ m)

      types_all : types_of (rows_in σ (n + 2)) ≡ types_of (rows_in τ (n + 2))
      types_all =
          let q : n + 2 ≡ suc (suc n) = omega arith in
          let w : n + 1 ≡ suc n = omega arith in
          rw q (types_more (suc n) (rw w at junk_there) (types_more n int_there (types_low n (omega arith))))

      means_all : (κ : Kind) (h : ℕ) → h ≤ n + 2 → mean σ κ h ≡ mean τ κ h
      means_all value zero k = value_is σ 0 ∙ sym (value_is τ 0)
      means_all stack zero k = stack_is σ 0 ∙ sym (stack_is τ 0)
      means_all κ (suc r) k = sym (type_in_lem σ κ (n + 2) r k) ∙ ap (λ (T : List Arg). type_at κ T r) types_all ∙ type_in_lem τ κ (n + 2) r k

      counted_all : Counted τ (n + 2) → Counted σ (n + 2)
      counted_all k = record { few = k.few; counts = λ x m. count_shared x m ∙ k.counts x m ∙ ap (λ (T : List Arg). items (type_at stack T x)) (sym types_all) }

      pub shared : Counted τ (n + 2) → Shared τ σ n
      shared k = record {
        types = types_low n (omega arith);
        all_types = types_all;
        means = means_all;
        counted = counted_all k;
        int_row = kind_shared n (omega arith) ∙ int_row;
        junk_row = kind_shared (n + 1) (omega arith) ∙ junk_row;
        small = λ r h. subst SmallRow (sym (row_shared r h (s r h))) (renamed_small (first_of first) (row_at τ r) (s r h));
        code = λ r h. ap is_code (row_shared r h (s r h)) ∙ renamed_code (first_of first) (row_at τ r);
        values = λ r h. ap is_value (row_shared r h (s r h)) ∙ renamed_value (first_of first) (row_at τ r);
        scoped = scoped_low;
      }
