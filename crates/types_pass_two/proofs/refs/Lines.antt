-- The lowest line with a fault behind the type lines, block by block.
use Prim.Native.Nat.{ℕ, suc, ◌+◌, ◌-◌, ◌≤◌, ◌<◌}
use native.Mathlib.Omega.{arith}
use mathlib.Core.Path.{◌≡◌, refl, sym, ap, ap₂, ◌∙◌}
use mathlib.Core.Bool.{Bool, true, false, not}
use mathlib.Core.Option.{Option, none, some}
use Rattle.std.specs.Prelude.{Option as CodeOption, Some, None}
use Rattle.std.specs.Option.{is_some}
use Rattle.faults.specs.declared.Fault.{Fault as CodeFault}
use Rattle.faults.specs.Numbers.{number}
use Rattle.faults.proofs.Numbers.{number_above}
use mathlib.Core.List.{List, [], ◌∷◌, ◌++◌, map}
use lib.Dec.{ltb}
use lib.ListN.{length}
use borrow.Author.Tests.{ltb-true, ltb-false}
use Rattle.syntax.specs.Syntax.{Row, Instr, Entry, row, block, instr}
use Rattle.syntax.specs.Fault.{Fault, given, Pass, Refusal, first_item, lowest_line, or_else}
use Rattle.syntax.proofs.Least.{least_of, Numbered, numbered_given, numbered_append, item_given, no_item_append, refuse_plain, line_next, line_here, line_append}
use Rattle.text.specs.PassOne.{Listing}
use Rattle.text.specs.Entries.{blocks_entries, entries_in}
use Rattle.tables.specs.Tables.{cell, RowTable, rows_in, OperandTable, instr_at, instrs_from, blocks_from}
use Rattle.tables.proofs.Steps.{length_instrs, length_rows, instrs_step, end_of, end_inner, blocks_step}
use Rattle.types.specs.Rows.{Ref, ref, value_row, code_row, operands_refs, labels, names, all_below, refs_faults, rows_faults, instr_faults, entries_faults, pass_two}
use Rattle.types_pass_two.specs.refs.Refs.{refusal_of, Rising}
use Rattle.faults.specs.declared.LineFault.{LineFault}
use Rattle.types_pass_two.proofs.row_refs.References.{numbered_refs, item_refs}

-- ---- faults
-- a line's faults are numbered, and name no item
pub record Plain (fs : List Fault) : Type 0 where
  pub numbered : Numbered fs
  pub no_item : first_item fs ≡ none

plain_refs : (rows : List Row) (refs : List Ref) → Plain (refs_faults rows refs)
plain_refs rows refs = record { numbered = numbered_refs rows refs; no_item = item_refs rows refs }

plain_instr : (rows : List Row) (nb : ℕ) (x : Instr) → Plain (instr_faults rows nb x)
unfolding instr_faults
plain_instr rows nb x =
    let a = given (not (all_below nb (labels (names x).operands))) 4 in
    let b = refs_faults rows (map (ref value_row) (names x).value_rows ++ operands_refs (names x).operands) in
    record { numbered = numbered_append a b (numbered_given _ 3) (numbered_refs rows _); no_item = no_item_append a b (item_given _ 4) (item_refs rows _) }

abbrev AllPlain : Pass → Type 0
AllPlain [] = Unit
AllPlain (fs ∷ p) = Plain fs × AllPlain p

plain_entries : (rows : List Row) (nb : ℕ) (es : List Entry) → AllPlain (entries_faults rows nb es)
unfolding entries_faults
plain_entries rows nb [] = tt
plain_entries rows nb (row r ∷ es) = plain_entries rows nb es
plain_entries rows nb (block c ∷ es) = (plain_refs rows _, plain_entries rows nb es)
plain_entries rows nb (instr x ∷ es) = (plain_instr rows nb x, plain_entries rows nb es)

-- ---- entries
entries_append : (rows : List Row) (nb : ℕ) (es fs : List Entry) → entries_faults rows nb (es ++ fs) ≡ entries_faults rows nb es ++ entries_faults rows nb fs
unfolding entries_faults
entries_append rows nb [] fs = refl
entries_append rows nb (row r ∷ es) fs = entries_append rows nb es fs
entries_append rows nb (block c ∷ es) fs = ap (◌∷◌ (refs_faults rows (ref code_row c ∷ []))) (entries_append rows nb es fs)
entries_append rows nb (instr x ∷ es) fs = ap (◌∷◌ (instr_faults rows nb x)) (entries_append rows nb es fs)

-- type lines have no fault among these
pub entries_rows : (rows rs : List Row) (nb : ℕ) (bs : List Listing) → entries_faults rows nb (entries_in rs bs) ≡ entries_faults rows nb (entries_in [] bs)
unfolding entries_faults entries_in
entries_rows rows [] nb bs = refl
entries_rows rows (r ∷ rs) nb bs = entries_rows rows rs nb bs

instrs_length : (rows : List Row) (nb : ℕ) (xs : List Instr) → length (entries_faults rows nb (map instr xs)) ≡ length xs
unfolding entries_faults
instrs_length rows nb [] = refl
instrs_length rows nb (x ∷ xs) = ap suc (instrs_length rows nb xs)

-- ---- the loop over instructions
-- no fault has the number 0
pub number_is : (f : CodeFault) → number f ≡ 0 → ⊥
number_is f e = let h = number_above f in omega (arith, h)

-- the lowest line with a fault, where the line's least fault is f
pub line_found : (f n line : ℕ) (fs : List Fault) (p : Pass) → Plain fs → f ≡ least_of fs → (f ≡ 0 → ⊥) → line ≡ n → some (record { number = f; line = line; item = none }) ≡ lowest_line n (fs ∷ p)
line_found f n line fs p h e z q =
    sym (line_here n fs p (λ w. z (e ∙ w)) ∙ ap some (refuse_plain (least_of fs) n fs h.no_item ∙ rw (q, e) refl))

module _ (rows : List Row) (nb : ℕ) (ι : List ℕ) (ω : OperandTable) (e base : ℕ) where
  abbrev pub instrs_left : ℕ → Option Refusal
  instrs_left i = lowest_line (base + i) (entries_faults rows nb (map instr (instrs_from ι ω i (e - i))))

  instrs_cons : (i : ℕ) → i < e → instrs_left i ≡ lowest_line (base + i) (instr_faults rows nb (instr_at ι ω i) ∷ entries_faults rows nb (map instr (instrs_from ι ω (i + 1) (e - (i + 1)))))
  unfolding entries_faults
  instrs_cons i h = ap (λ (xs : List Instr). lowest_line (base + i) (entries_faults rows nb (map instr xs))) (instrs_step ι ω i e h)

  pub instrs_found : (i f : ℕ) → i < e → f ≡ least_of (instr_faults rows nb (instr_at ι ω i)) → (f ≡ 0 → ⊥) → some (record { number = f; line = base + i; item = none }) ≡ instrs_left i
  instrs_found i f h ef z = line_found f (base + i) (base + i) (instr_faults rows nb (instr_at ι ω i)) _ (plain_instr rows nb (instr_at ι ω i)) ef z refl ∙ sym (instrs_cons i h)

  pub instrs_next : (i f : ℕ) → i < e → f ≡ least_of (instr_faults rows nb (instr_at ι ω i)) → f ≡ 0 → instrs_left (i + 1) ≡ instrs_left i
  instrs_next i f h ef z =
      let q : suc (base + i) ≡ base + (i + 1) = omega arith in
      let p : Pass = entries_faults rows nb (map instr (instrs_from ι ω (i + 1) (e - (i + 1)))) in
      sym (instrs_cons i h
      ∙ (line_next (base + i) (instr_faults rows nb (instr_at ι ω i)) p ((plain_instr rows nb (instr_at ι ω i)).numbered (sym ef ∙ z)) ∙ ap (λ (l : ℕ). lowest_line l p) q))

  pub instrs_end : (i : ℕ) → e ≤ i → none ≡ instrs_left i
  unfolding instrs_from entries_faults lowest_line
  instrs_end i h = let d : e - i ≡ 0 = omega arith in rw d refl

-- ---- the loop over blocks
module _ (rows : List Row) (nb : ℕ) (β ι : List ℕ) (ω : OperandTable) (ni n : ℕ) where
  abbrev pass_from : ℕ → Pass
  pass_from b = entries_faults rows nb (entries_in [] (blocks_from β ι ω ni b (nb - b)))

  abbrev pub blocks_left : ℕ → Option Refusal
  blocks_left b = lowest_line (n + b + cell 2 β b 1 + 1) (pass_from b)

  abbrev pub body_pass : ℕ → ℕ → Pass
  body_pass s e = entries_faults rows nb (map instr (instrs_from ι ω s (e - s)))

  pass_none : (b : ℕ) → nb ≤ b → pass_from b ≡ []
  unfolding blocks_from entries_in blocks_entries entries_faults
  pass_none b h = let d : nb - b ≡ 0 = omega arith in rw d refl

  -- where no block is left the line does not matter
  line_free : (b l k : ℕ) → (b < nb → l ≡ k) → lowest_line l (pass_from b) ≡ lowest_line k (pass_from b)
  unfolding lowest_line
  line_free b l k h = go (ltb b nb) refl
    where
      go : (t : Bool) → ltb b nb ≡ t → lowest_line l (pass_from b) ≡ lowest_line k (pass_from b)
      go true e = ap (λ (m : ℕ). lowest_line m (pass_from b)) (h (ltb-true b nb e))
      go false e = rw (pass_none b (ltb-false b nb e)) refl

  pub blocks_start : Rising β nb → blocks_left 0 ≡ lowest_line (n + 1) (entries_faults rows nb (entries_in [] (blocks_from β ι ω ni 0 nb)))
  blocks_start up =
      let d : nb - 0 ≡ nb = omega arith in
      (line_free 0 (n + 0 + cell 2 β 0 1 + 1) (n + 1) (λ h. omega (arith, up.first h))
      ∙ ap (λ (m : ℕ). lowest_line (n + 1) (entries_faults rows nb (entries_in [] (blocks_from β ι ω ni 0 m)))) d)

  -- block b, with its code row c and its instructions s to e - 1
  module _ (b s c e : ℕ) (h : b < nb) (es : s ≡ cell 2 β b 1) (ec : c ≡ cell 2 β b 0) (ee : e ≡ end_of β ni nb b) where
    pass_cons : pass_from b ≡ refs_faults rows (ref code_row c ∷ []) ∷ (body_pass s e ++ pass_from (b + 1))
    unfolding entries_in blocks_entries entries_faults
    pass_cons =
        ap (λ (bs : List Listing). entries_faults rows nb (entries_in [] bs)) (blocks_step β ι ω ni nb b h)
        ∙ rw (← ec, ← es, ← ee) (ap (◌∷◌ (refs_faults rows (ref code_row c ∷ []))) (entries_append rows nb (map instr (instrs_from ι ω s (e - s))) (blocks_entries (blocks_from β ι ω ni (b + 1) (nb - (b + 1))))))

    pub block_found : (f : ℕ) → f ≡ least_of (refs_faults rows (ref code_row c ∷ [])) → (f ≡ 0 → ⊥) → some (record { number = f; line = n + b + s + 1; item = none }) ≡ blocks_left b
    block_found f ef z =
        line_found f (n + b + cell 2 β b 1 + 1) (n + b + s + 1) (refs_faults rows (ref code_row c ∷ [])) _ (plain_refs rows (ref code_row c ∷ [])) ef z (omega arith)
        ∙ ap (lowest_line (n + b + cell 2 β b 1 + 1)) (sym pass_cons)

    -- the block's line has no fault
    body : least_of (refs_faults rows (ref code_row c ∷ [])) ≡ 0 → lowest_line (n + b + cell 2 β b 1 + 1) (pass_from b) ≡ or_else (lowest_line (n + b + 2 + s) (body_pass s e)) (lowest_line (n + b + 2 + s + length (body_pass s e)) (pass_from (b + 1)))
    body z =
        let q : suc (n + b + cell 2 β b 1 + 1) ≡ n + b + 2 + s = omega arith in
        ap (lowest_line (n + b + cell 2 β b 1 + 1)) pass_cons
        ∙ (line_next (n + b + cell 2 β b 1 + 1) (refs_faults rows (ref code_row c ∷ [])) (body_pass s e ++ pass_from (b + 1)) ((plain_refs rows (ref code_row c ∷ [])).numbered z)
        ∙ (ap (λ (l : ℕ). lowest_line l (body_pass s e ++ pass_from (b + 1))) q ∙ line_append (n + b + 2 + s) (body_pass s e) (pass_from (b + 1))))

    pub body_found : (f : ℕ) (o : CodeOption LineFault) → f ≡ least_of (refs_faults rows (ref code_row c ∷ [])) → f ≡ 0 → refusal_of o ≡ lowest_line (n + b + 2 + s) (body_pass s e) → is_some o ≡ true → refusal_of o ≡ blocks_left b
    body_found f None ef z eo w = cc
    body_found f (Some x) ef z eo w =
        sym (body (sym ef ∙ z) ∙ ap (λ (y : Option Refusal). or_else y (lowest_line (n + b + 2 + s + length (body_pass s e)) (pass_from (b + 1)))) (sym eo))

    pub block_next : Rising β nb → (f : ℕ) (o : CodeOption LineFault) → f ≡ least_of (refs_faults rows (ref code_row c ∷ [])) → f ≡ 0 → refusal_of o ≡ lowest_line (n + b + 2 + s) (body_pass s e) → is_some o ≡ false → blocks_left (b + 1) ≡ blocks_left b
    block_next up f (Some x) ef z eo w = cc
    block_next up f None ef z eo w =
        let len : length (body_pass s e) ≡ e - s = instrs_length rows nb (instrs_from ι ω s (e - s)) ∙ length_instrs ι ω s (e - s) in
        sym (body (sym ef ∙ z) ∙ (ap (λ (x : Option Refusal). or_else x (lowest_line (n + b + 2 + s + length (body_pass s e)) (pass_from (b + 1)))) (sym eo)
        ∙ line_free (b + 1) (n + b + 2 + s + length (body_pass s e)) (n + (b + 1) + cell 2 β (b + 1) 1 + 1) (λ l. lines l len)))
      where
        lines : b + 1 < nb → length (body_pass s e) ≡ e - s → n + b + 2 + s + length (body_pass s e) ≡ n + (b + 1) + cell 2 β (b + 1) 1 + 1
        lines l len =
            let q : b + 1 ≡ suc b = omega arith in
            let r : cell 2 β b 1 ≤ cell 2 β (b + 1) 1 = rw q (up.rise b (omega arith)) in
            let t : e ≡ cell 2 β (b + 1) 1 = ee ∙ sym (end_inner β ni nb b l) in
            omega arith

  pub blocks_end : (b : ℕ) → nb ≤ b → none ≡ blocks_left b
  unfolding lowest_line
  blocks_end b h = rw (pass_none b h) refl

-- ---- the whole refusal
-- the lowest line of pass two: that of the type lines, or else that of the lines behind them
pub pass_two_lem : (τ : RowTable) (n nb : ℕ) (bs : List Listing) → lowest_line 0 (pass_two (rows_in τ n) nb (entries_in (rows_in τ n) bs)) ≡ or_else (lowest_line 1 (rows_faults (rows_in τ n) 0 (rows_in τ n))) (lowest_line (n + 1) (entries_faults (rows_in τ n) nb (entries_in [] bs)))
unfolding pass_two lowest_line rows_faults
pass_two_lem τ n nb bs =
    let q : 1 + length (rows_faults (rows_in τ n) 0 (rows_in τ n)) ≡ n + 1 = omega (arith, length_faults (rows_in τ n) 0 (rows_in τ n), length_rows τ n) in
    line_append 1 (rows_faults (rows_in τ n) 0 (rows_in τ n)) (entries_faults (rows_in τ n) nb (entries_in (rows_in τ n) bs))
    ∙ ap (or_else (lowest_line 1 (rows_faults (rows_in τ n) 0 (rows_in τ n)))) (ap₂ lowest_line q (entries_rows (rows_in τ n) (rows_in τ n) nb bs))
  where
    length_faults : (rows : List Row) (k : ℕ) (rs : List Row) → length (rows_faults rows k rs) ≡ length rs
    length_faults rows k [] = refl
    length_faults rows k (r ∷ rs) = ap suc (length_faults rows (suc k) rs)
