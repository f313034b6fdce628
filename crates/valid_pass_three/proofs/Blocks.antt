-- The lowest line of pass three, block by block.
use Prim.Native.Nat.{ℕ, zero, suc, ◌+◌, ◌-◌, ◌≤◌, ◌<◌}
use native.Mathlib.Omega.{arith}
use mathlib.Core.Path.{◌≡◌, refl, ap, ap₂, sym, ◌∙◌}
use mathlib.Core.Bool.{Bool, true, false, cond}
use mathlib.Core.Option.{Option, none, some}
use mathlib.Core.List.{List, [], ◌∷◌, ◌++◌, append-nil, append-eq-nil_iff}
use lib.Dec.{eqb, ltb}
use lib.ListN.{length, replicate, length-replicate}
use borrow.Author.Tests.{ne_eqb, lt-ltb, ltb-false}
use Rattle.std.specs.Prelude.{Option as Maybe, Some, None}
use Rattle.faults.specs.declared.Fault.{Fault as CodeFault}
use Rattle.faults.specs.Numbers.{fault_number}
use Rattle.syntax.specs.Syntax.{value, Instr}
use Rattle.syntax.specs.Fault.{Fault, given, number_of, lowest, Pass, Refusal, lowest_line, or_else}
use Rattle.syntax.proofs.Least.{least_of, given_none, Numbered, numbered_given, numbered_append, refuse_plain, line_next, line_here, line_append, line_after}
use Rattle.text.specs.PassOne.{Listing}
use Rattle.types.specs.Types.{items, Arg}
use Rattle.types.specs.Rows.{type_at, types_of}
use Rattle.tables.specs.Tables.{RowTable, cell, letters_at, rows_in, OperandTable, instrs_from, blocks_from}
use Rattle.tables.proofs.Steps.{length_rows, length_instrs, end_of, blocks_step}
use Rattle.types.proofs.Meaning.{length_types}
use Rattle.valid.specs.Program.{Block, Program, block_of, blocks_of}
use Rattle.valid.specs.Rules.{at_start}
use Rattle.valid.specs.PassThree.{holds, body_faults, block_faults, blocks_faults, has_none, pass_three}
use Rattle.valid.proofs.Clear.{clear_replicate}
use Rattle.valid.proofs.Bare.{item_block}
use Rattle.valid.proofs.Order.{body_of}
use Rattle.types_rows.specs.Read.{tab, lower, lift, value_at, place_v, mean_s}
use Rattle.types_rows.specs.declared.Val.{Val}
use Rattle.types_rows.specs.declared.Val.TheVariants.{Code}
use Rattle.valid_scope.specs.entry.Entry.{block_at}
use Rattle.valid_scope.proofs.entry.Laws.{block_is}
use Rattle.valid_pass_three.specs.Blocks.{block_pass, the_block}
use Rattle.valid_pass_three.proofs.body.Lines.{length_body}

-- ---- no fault of the code
pub no_fault : (o : Maybe CodeFault) → ((f : CodeFault) → o ≡ Some f → ⊥) → fault_number o ≡ 0
no_fault None k = refl
no_fault (Some f) k = absurd (k f refl)

-- ---- one block
numbered_block : (first : Bool) (B : Block) → Numbered (block_faults first B)
unfolding block_faults
numbered_block first B = numbered_append (given _ 7 ++ given _ 8) (given _ 13) (numbered_append (given _ 7) (given _ 8) (numbered_given _ 6) (numbered_given _ 7)) (numbered_given _ 12)

module _ (P : Program) (first : Bool) (B : Block) (n k : ℕ) (e : k ≡ least_of (block_faults first B)) where
  pub block_line : (k ≡ 0 → ⊥) → some (record { number = k; line = n; item = none }) ≡ lowest_line n (block_pass P first B)
  block_line z =
      ap (λ (m : ℕ). some (record { number = m; line = n; item = none })) e
      ∙ ap some (sym (refuse_plain (least_of (block_faults first B)) n (block_faults first B) (item_block first B)))
      ∙ sym (line_here n (block_faults first B) (body_faults P B.letters (holds (at_start B)) B.body) (λ w. z (e ∙ w)))

  pub block_body : k ≡ 0 → lowest_line (suc n) (body_faults P B.letters (holds (at_start B)) B.body) ≡ lowest_line n (block_pass P first B)
  block_body z = sym (line_next n (block_faults first B) (body_faults P B.letters (holds (at_start B)) B.body) (numbered_block first B (sym e ∙ z)))

-- ---- the blocks from block b on, of nb
module _ (P : Program) (T : List Arg) (β ι : List ℕ) (ω : OperandTable) (ni n nb : ℕ) where
  -- where block b starts; past the last one, where the instructions end
  abbrev start_at : ℕ → ℕ
  start_at b = cond (ltb b nb) (cell 2 β b 1) ni

  unfoldable pub blocks_left : ℕ → Option Refusal
  blocks_left b = lowest_line (n + b + start_at b + 1) (blocks_faults P (eqb b 0) (blocks_of T (blocks_from β ι ω ni b (nb - b))))

  faults_more : (first : Bool) (B : Block) (Bs : List Block) → blocks_faults P first (B ∷ Bs) ≡ block_pass P first B ++ blocks_faults P false Bs
  unfolding blocks_faults
  faults_more first B Bs = refl

  blocks_more : (b : ℕ) → b < nb → blocks_of T (blocks_from β ι ω ni b (nb - b)) ≡ the_block T β ι ω ni nb b ∷ blocks_of T (blocks_from β ι ω ni (b + 1) (nb - (b + 1)))
  unfolding blocks_of
  blocks_more b h = ap (λ (l : List Listing). blocks_of T l) (blocks_step β ι ω ni nb b h)

  length_pass : (first : Bool) (b : ℕ) → length (block_pass P first (the_block T β ι ω ni nb b)) ≡ suc (end_of β ni nb b - cell 2 β b 1)
  length_pass first b =
      ap suc (length_body P (the_block T β ι ω ni nb b).letters (holds (at_start (the_block T β ι ω ni nb b))) (the_block T β ι ω ni nb
      b).body ∙ ap length (body_of (type_at value T (cell 2 β b 0)) (instrs_from ι ω (cell 2 β b 1) (end_of β ni nb b - cell 2 β b 1)))
      ∙ length_instrs ι ω (cell 2 β b 1) (end_of β ni nb b - cell 2 β b 1))

  end_start : (b : ℕ) → end_of β ni nb b ≡ start_at (b + 1)
  unfolding end_of
  end_start b = refl

  step : (b : ℕ) → b < nb → cell 2 β b 1 ≤ end_of β ni nb b → blocks_left b ≡ or_else (lowest_line (n + b + cell 2 β b 1 + 1) (block_pass P (eqb b 0) (the_block T β ι ω ni nb b))) (blocks_left (b + 1))
  unfolding blocks_left
  step b h l =
      let s : start_at b ≡ cell 2 β b 1 = ap (λ (x : Bool). cond x (cell 2 β b 1) ni) (lt-ltb b nb h) in
      let L : ℕ = n + b + cell 2 β b 1 + 1 in
      let Y : Pass = blocks_faults P false (blocks_of T (blocks_from β ι ω ni (b + 1) (nb - (b + 1)))) in
      let w = length_pass (eqb b 0) b in
      let v = end_start b in
      let q : L + length (block_pass P (eqb b 0) (the_block T β ι ω ni nb b)) ≡ n + (b + 1) + start_at (b + 1) + 1 = omega arith in
      let z : false ≡ eqb (b + 1) 0 = sym (ne_eqb (b + 1) 0 (λ e. omega arith)) in
      ap₂ (λ (x : ℕ) (Bs : List Block). lowest_line (n + b + x + 1) (blocks_faults P (eqb b 0) Bs)) s (blocks_more b h)
      ∙ ap (lowest_line L) (faults_more (eqb b 0) (the_block T β ι ω ni nb b) (blocks_of T (blocks_from β ι ω ni (b + 1) (nb - (b + 1)))))
      ∙ line_append L (block_pass P (eqb b 0) (the_block T β ι ω ni nb b)) Y
      ∙ ap₂ (λ (x : ℕ) (f : Bool). or_else (lowest_line L (block_pass P (eqb b 0) (the_block T β ι ω ni nb b))) (lowest_line x (blocks_faults P f (blocks_of T (blocks_from β ι ω ni (b + 1) (nb - (b + 1))))))) q z

  module _ (b : ℕ) (h : b < nb) (l : cell 2 β b 1 ≤ end_of β ni nb b) {o : Option Refusal} (r : o ≡ lowest_line (n + b + cell 2 β b 1 + 1) (block_pass P (eqb b 0) (the_block T β ι ω ni nb b))) where
    after_block : blocks_left b ≡ or_else o (blocks_left (b + 1))
    after_block = step b h l ∙ ap (λ (p : Option Refusal). or_else p (blocks_left (b + 1))) (sym r)

    pub block_next : o ≡ none → blocks_left b ≡ blocks_left (b + 1)
    block_next z = after_block ∙ ap (λ (p : Option Refusal). or_else p (blocks_left (b + 1))) z

    pub block_found : {x : Refusal} → o ≡ some x → some x ≡ blocks_left b
    block_found z = sym (after_block ∙ ap (λ (p : Option Refusal). or_else p (blocks_left (b + 1))) z)

  pub blocks_end : (b : ℕ) → nb ≤ b → blocks_left b ≡ none
  unfolding blocks_left blocks_from blocks_of blocks_faults lowest_line
  blocks_end b h = let e : nb - b ≡ 0 = omega arith in rw e refl

  -- ---- the whole pass
  some_blocks : (bs : List Listing) → 0 < length bs → has_none (blocks_of T bs) ≡ false
  unfolding has_none blocks_of
  some_blocks [] h = absurd (omega arith)
  some_blocks (b ∷ bs) h = refl

  length_blocks : (b k : ℕ) → length (blocks_from β ι ω ni b k) ≡ k
  unfolding blocks_from
  length_blocks b zero = refl
  length_blocks b (suc zero) = refl
  length_blocks b (suc (suc k)) = ap suc (length_blocks (suc b) (suc k))

  nothing_more : (m : ℕ) (p : Pass) → lowest_line m (p ++ [] ∷ []) ≡ lowest_line m p
  nothing_more m p = line_append m p ([] ∷ []) ∙ go (lowest_line m p)
    where
      go : (o : Option Refusal) → or_else o (lowest_line (m + length p) ([] ∷ [])) ≡ o
      go none = unfold lowest_line in refl
      go (some r) = refl

  abbrev blanks : Pass
  blanks = replicate (suc n) []

  length_blanks : length blanks ≡ suc n
  length_blanks = length-replicate (suc n) []

  pub whole : length T ≡ n → P.types ≡ T → P.blocks ≡ blocks_of T (blocks_from β ι ω ni 0 nb) → 0 < nb → cell 2 β 0 1 ≡ 0 → lowest_line 0 (pass_three P) ≡ blocks_left 0
  unfolding pass_three blocks_left given
  whole c t e h s =
      let r : length P.types ≡ n = ap length t ∙ c in
      let lb = length_blocks 0 nb in
      let k : has_none P.blocks ≡ false = ap has_none e ∙ some_blocks (blocks_from β ι ω ni 0 nb) (omega arith) in
      let a : start_at 0 ≡ 0 = ap (λ (x : Bool). cond x (cell 2 β 0 1) ni) (lt-ltb 0 nb h) ∙ s in
      let z : true ≡ eqb 0 0 = refl in
      let q : 0 + length blanks ≡ n + 0 + start_at 0 + 1 = omega (arith, length_blanks, a) in
      let y : nb - 0 ≡ nb = omega arith in
      ap₂ (λ (x : ℕ) (b : Bool). lowest_line 0 (replicate (suc x) [] ++ blocks_faults P true P.blocks ++ given b 8 ∷ [])) r k
      ∙ nothing_more 0 (blanks ++ blocks_faults P true P.blocks)
      ∙ line_after 0 blanks (blocks_faults P true P.blocks) (clear_replicate (suc n))
      ∙ ap₂ (λ (x : ℕ) (Bs : List Block). lowest_line x (blocks_faults P true Bs)) q (e ∙ ap (λ (x : ℕ). blocks_of T (blocks_from β ι ω ni 0 x)) (sym y))

  -- no block at all
  eight : (m : ℕ) → lowest_line m (given true 8 ∷ []) ≡ some (record { number = 8; line = m; item = none })
  unfolding lowest_line given lowest number_of
  eight m = refl

  none_there : nb ≡ 0 → blocks_of T (blocks_from β ι ω ni 0 nb) ≡ []
  unfolding blocks_of blocks_from
  none_there z = rw z refl

  last_eight : lowest_line 0 ((blanks ++ []) ++ given true 8 ∷ []) ≡ some (record { number = 8; line = n + 1; item = none })
  last_eight =
      let q : 0 + length blanks ≡ n + 1 = omega (arith, length_blanks) in
      ap (λ (p : Pass). lowest_line 0 (p ++ given true 8 ∷ [])) (append-nil blanks)
      ∙ line_after 0 blanks (given true 8 ∷ []) (clear_replicate (suc n))
      ∙ ap (λ (m : ℕ). lowest_line m (given true 8 ∷ [])) q
      ∙ eight (n + 1)

  no_line : length T ≡ n → P.types ≡ T → P.blocks ≡ [] → lowest_line 0 (pass_three P) ≡ some (record { number = 8; line = n + 1; item = none })
  unfolding pass_three blocks_faults has_none
  no_line c t e =
      let r : length P.types ≡ n = ap length t ∙ c in
      ap₂ (λ (x : ℕ) (Bs : List Block). lowest_line 0 (replicate (suc x) [] ++ blocks_faults P true Bs ++ given (has_none Bs) 8 ∷ [])) r e ∙ last_eight

  pub no_block : length T ≡ n → P.types ≡ T → P.blocks ≡ blocks_of T (blocks_from β ι ω ni 0 nb) → nb ≡ 0 → some (record { number = 8; line = n + 1; item = none }) ≡ lowest_line 0 (pass_three P)
  no_block c t e z = sym (no_line c t (e ∙ none_there z))

-- ---- a block of a code row
module _ (rows parts : List ℕ) (n c h : ℕ) {v : Val} {x p : ℕ} (e : h ≡ lower (n + 1) c) (f : v ≡ value_at rows (place_v 0 (lift 0) 0) h) (q : v ≡ Code x p) where
  no_thirteen : (a b d : List Fault) → (a ++ b) ++ d ≡ [] → d ≡ []
  no_thirteen a b d w = ((append-eq-nil_iff {p = a ++ b} {q = d}).0 w).1

  short_sp : (first : Bool) (xs : List Instr) → block_faults first (block_at (tab rows parts) h x p xs) ≡ [] → items (mean_s (tab rows parts) x) ≤ 64
  unfolding block_faults
  short_sp first xs w = ltb-false 64 (items (mean_s (tab rows parts) x)) (given_none (ltb 64 (items (mean_s (tab rows parts) x))) 13 (no_thirteen (given _ 7) (given _ 8) (given (ltb 64 (items (mean_s (tab rows parts) x))) 13) w))

  pub few_items : (first : Bool) (k : ℕ) (xs : List Instr) → k ≡ least_of (block_faults first (block_of (type_at value (types_of (rows_in (tab rows parts) n)) c) xs)) → k ≡ 0 → items (mean_s (tab rows parts) x) ≤ 64
  few_items first k xs w z = short_sp first xs (ap (block_faults first) (sym (block_is rows parts n c h e f {x = x} {p = p} xs q)) ∙ numbered_block first (block_of (type_at value (types_of (rows_in (tab rows parts) n)) c) xs) (sym w ∙ z))

-- ---- block b, as the code finds it
module _ (P : Program) (rows parts β ι : List ℕ) (ω : OperandTable) (ni n nb b c s line : ℕ) (cs : c ≡ cell 2 β b 0) (ss : s ≡ cell 2 β b 1) (ls : line ≡ n + b + s + 1) where
  abbrev T : List Arg
  T = types_of (rows_in (tab rows parts) n)

  abbrev xs : List Instr
  xs = instrs_from ι ω (cell 2 β b 1) (end_of β ni nb b - cell 2 β b 1)

  the_block_lem : block_of (type_at value T c) xs ≡ the_block T β ι ω ni nb b
  the_block_lem = ap (λ (y : ℕ). block_of (type_at value T y) xs) cs

  the_line : line ≡ n + b + cell 2 β b 1 + 1
  the_line = omega (arith, ls, ss)

  pub found_line : (k : ℕ) → k ≡ least_of (block_faults (eqb b 0) (block_of (type_at value T c) xs)) → (k ≡ 0 → ⊥)
      → some (record { number = k; line = line; item = none }) ≡ lowest_line (n + b + cell 2 β b 1 + 1) (block_pass P (eqb b 0) (the_block T β ι ω ni nb b))
  found_line k e z =
      ap (λ (y : ℕ). some (record { number = k; line = y; item = none })) the_line
      ∙ block_line P (eqb b 0) (the_block T β ι ω ni nb b) (n + b + cell 2 β b 1 + 1) k (e ∙ ap (λ (B : Block). least_of (block_faults (eqb b 0) B)) the_block_lem) z

  pub found_body : (k h x p en base : ℕ) (out : Option Refusal) → k ≡ least_of (block_faults (eqb b 0) (block_of (type_at value T c) xs)) → k ≡ 0
      → block_of (type_at value T c) xs ≡ block_at (tab rows parts) h x p xs → en ≡ end_of β ni nb b → base ≡ n + b + 2
      → out ≡ lowest_line (base + s) (body_faults P (letters_at parts p)
      (holds (at_start (block_at (tab rows parts) h x p (instrs_from ι ω s (en - s))))) (instrs_from ι ω s (en - s)))
      → out ≡ lowest_line (n + b + cell 2 β b 1 + 1) (block_pass P (eqb b 0) (the_block T β ι ω ni nb b))
  found_body k h x p en base out e z bl ee be r =
      let m : base + s ≡ suc (n + b + cell 2 β b 1 + 1) = omega (arith, be, ss) in
      r ∙ ap₂ (λ (j : ℕ) (ys : List Instr). lowest_line j (body_faults P (letters_at parts p) (holds (at_start (block_at (tab rows parts) h x p ys))) ys)) m (ap₂ (λ (i w : ℕ). instrs_from ι ω i (w - i)) ss ee)
      ∙ ap (λ (B : Block). lowest_line (suc (n + b + cell 2 β b 1 + 1)) (body_faults P B.letters (holds (at_start B)) B.body)) (sym bl ∙ the_block_lem)
      ∙ block_body P (eqb b 0) (the_block T β ι ω ni nb b) (n + b + cell 2 β b 1 + 1) k (e ∙ ap (λ (B : Block). least_of (block_faults (eqb b 0) B)) the_block_lem) z

-- as many types as rows
pub length_all : (τ : RowTable) (n : ℕ) → length (types_of (rows_in τ n)) ≡ n
length_all τ n = length_types (rows_in τ n) ∙ length_rows τ n
