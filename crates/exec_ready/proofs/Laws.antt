-- What bars a text, from what loading it answers and the fault of block 0's line.
use Prim.Native.Nat.{ℕ, zero, suc, ◌+◌, ◌-◌, ◌≤◌, ◌<◌}
use native.Mathlib.Omega.{arith}
use native.Mathlib.Nat.{zero-add, add-zero}
use native.Mathlib.Numerals.{add-one}
use mathlib.Core.Path.{◌≡◌, refl, ap, ap₂, sym, subst, ◌∙◌}
use mathlib.Core.Bool.{Bool, true, false, ◌&&◌, not, cond}
use mathlib.Core.Option.{Option, none, some}
use mathlib.Core.List.{List, [], ◌∷◌, ◌++◌}
use lib.Dec.{eqb, ltb}
use lib.ListN.{length, replicate}
use borrow.Author.Tests.{ne_eqb}
use Rattle.std.specs.Prelude.{Option as CodeOption, Some, None, Ok, Err}
use Rattle.faults.specs.declared.Fault.{Fault}
use Rattle.faults.specs.Numbers.{number, fault_number}
use Rattle.faults.proofs.Numbers.{number_above}
use Rattle.image.specs.declared.Counts.{Counts}
use Rattle.image.specs.declared.Places.{Places}
use Rattle.image.specs.Sections.{Ordered, use_section, top_section}
use Rattle.image.specs.Layout.{places_of}
use Rattle.image.proofs.Laws.{ordered}
use Rattle.syntax.specs.Syntax.{value, Instr}
use Rattle.syntax.specs.Fault.{number_of, given, Pass, Refusal, first_item, lowest, lowest_line, or_else, earliest}
use Rattle.syntax.proofs.Least.{least_of, Numbered, numbered_given, numbered_append, refuse_plain, line_next, line_here}
use Rattle.text.specs.PassOne.{pass_one}
use Rattle.types.specs.Types.{items, code, a_stack, Arg}
use Rattle.types.specs.Rows.{type_at, types_of}
use Rattle.tables.specs.Tables.{cell, rows_in, instrs_from, blocks_from, OperandTable}
use Rattle.types_rows.proofs.Bridge.{length_types, counted_to}
use Rattle.types_rows.specs.Read.{tab, CountedTo}
use Rattle.valid.specs.Program.{Block, Program, block_of, blocks_of, program_of, program_from}
use Rattle.valid.specs.Rules.{declared}
use Rattle.valid.specs.Tests.{is_formed, is_entry}
use Rattle.valid.specs.PassThree.{block_faults}
use Rattle.valid.proofs.Bare.{item_block}
use Rattle.valid.specs.Verdict.{pass_two_of}
use Rattle.exec.specs.Run.{wanted, barred}
use Rattle.exec.proofs.Barred.{first_faults, entry_pass, barred_is}
use Rattle.text_decode.specs.Decoded.{fits, refusal_at, Fitting}
use Rattle.text_decode.specs.declared.state.Unread.{Unread}
use Rattle.text_decode.specs.declared.state.Unread.TheVariants.{Unfit, Faulty}
use Rattle.text_decode.specs.store.Store.{Store, row_table, operands_of, store_in, stored}
use Rattle.load.specs.Loaded.{IsLoaded, LoadIs, uses_in, tops_in}
use Rattle.exec_ready.specs.declared.Ready.{Ready}
use Rattle.exec_ready.specs.Ready.{Startable, ReadyIs}
use Rattle.exec_ready.proofs.Bodies.{represents_is}
use Rattle.exec_ready.proofs.Few.{few_samples}
use Rattle.exec_ready.proofs.Registers.{registers_low}

-- ---- lines
or_assoc : (x y z : Option Refusal) → or_else x (or_else y z) ≡ or_else (or_else x y) z
or_assoc none y z = refl
or_assoc (some r) y z = refl

or_none : (x : Option Refusal) → or_else x none ≡ x
or_none none = refl
or_none (some r) = refl

past_empty : (n k : ℕ) (p : Pass) → lowest_line n (replicate k [] ++ p) ≡ lowest_line (n + k) p
unfolding lowest_line
past_empty n zero p = ap (λ z. lowest_line z p) (sym (add-zero n))
past_empty n (suc k) p = past_empty (suc n) k p ∙ ap (λ z. lowest_line z p) (omega arith)

entry_line : (P : Program) → lowest_line 0 (entry_pass P) ≡ lowest_line (suc (length P.types)) (first_faults P.blocks ∷ [])
unfolding entry_pass
entry_line P = past_empty 0 (suc (length P.types)) (first_faults P.blocks ∷ []) ∙ ap (λ z. lowest_line z (first_faults P.blocks ∷ [])) (zero-add (suc (length P.types)))

barred_by_lem : (text : List ℕ) (o : Option Refusal) → o ≡ or_else (lowest_line 0 (pass_one text)) (lowest_line 0 (pass_two_of text)) → barred text ≡ or_else o (lowest_line (suc (length (program_of text).types)) (first_faults (program_of text).blocks ∷ []))
unfolding earliest
barred_by_lem text o e =
    barred_is text
    ∙ or_assoc (lowest_line 0 (pass_one text)) (lowest_line 0 (pass_two_of text)) (or_else (lowest_line 0 (entry_pass (program_of text))) none)
    ∙ ap (λ (x : Option Refusal). or_else x (or_else (lowest_line 0 (entry_pass (program_of text))) none)) (sym e)
    ∙ ap (or_else o) (or_none (lowest_line 0 (entry_pass (program_of text))) ∙ entry_line (program_of text))

-- ---- block 0's line
numbered_three : (a b c : Bool) → Numbered (given a 7 ++ given b 8 ++ given c 13)
numbered_three a b c = numbered_append (given a 7 ++ given b 8) (given c 13) (numbered_append (given a 7) (given b 8) (numbered_given a 6) (numbered_given b 7)) (numbered_given c 12)

numbered_first : (B : Block) → Numbered (block_faults true B)
unfolding block_faults
numbered_first B = numbered_three (not (is_formed [] a_stack (code B.letters B.sp B.regs))) (true && not (is_entry B)) (ltb 64 (items B.sp))

numbered_line : (Bs : List Block) → Numbered (first_faults Bs)
unfolding first_faults least_of lowest number_of
numbered_line [] e = absurd (omega arith)
numbered_line (B ∷ Bs) e = numbered_first B e

line_item : (Bs : List Block) → first_item (first_faults Bs) ≡ none
unfolding first_faults
line_item [] = unfold first_item in refl
line_item (B ∷ Bs) = item_block true B

-- a fault there is given with its line
line_fault_lem : (n f : ℕ) (Bs : List Block) → f ≡ least_of (first_faults Bs) → (f ≡ 0 → ⊥) → lowest_line n (first_faults Bs ∷ []) ≡ some (record { number = f; line = n; item = none })
line_fault_lem n f Bs e h =
    line_here n (first_faults Bs) [] (λ z. h (e ∙ z))
    ∙ ap some (refuse_plain (least_of (first_faults Bs)) n (first_faults Bs) (line_item Bs) ∙ ap (λ (x : ℕ). record { number = x; line = n; item = none }) (sym e))

line_none : (n f : ℕ) (Bs : List Block) → f ≡ least_of (first_faults Bs) → f ≡ 0 → lowest_line n (first_faults Bs ∷ []) ≡ none
unfolding lowest_line
line_none n f Bs e z = line_next n (first_faults Bs) [] (numbered_line Bs (sym e ∙ z))

-- ---- what `first_fault` answers
pub no_block : (y nb : ℕ) → nb ≡ 0 → 8 ≡ cond (eqb nb 0) 8 y
no_block y nb e = rw e refl

more : (n y : ℕ) → cond (eqb (suc (suc n)) 0) 8 y ≡ y
more n y = let k : eqb (suc (suc n)) 0 ≡ false = ne_eqb (suc (suc n)) 0 (λ w. omega arith) in rw k refl

least_first : (T : List Arg) (β ι : List ℕ) (ω : OperandTable) (ni nb f : ℕ) → ((xs : List Instr) → f ≡ cond (eqb nb 0) 8 (least_of (block_faults true (block_of (type_at value T (cell 2 β 0 0)) xs)))) → f ≡ least_of (first_faults (blocks_of T (blocks_from β ι ω ni 0 nb)))
unfolding blocks_of blocks_from first_faults least_of lowest number_of
least_first T β ι ω ni zero f e = e []
least_first T β ι ω ni (suc zero) f e = e (instrs_from ι ω (cell 2 β 0 1) (ni - cell 2 β 0 1))
least_first T β ι ω ni (suc (suc n)) f e =
    let xs : List Instr = instrs_from ι ω (cell 2 β 0 1) (cell 2 β 1 1 - cell 2 β 0 1) in
    e xs ∙ more n (least_of (block_faults true (block_of (type_at value T (cell 2 β 0 0)) xs)))

pub some_block_fault : (rows parts : List ℕ) (n c : ℕ) (β : List ℕ) (f nb : ℕ) (xs : List Instr) → (nb ≡ 0 → ⊥) → c ≡ cell 2 β 0 0
    → f ≡ least_of (block_faults true (block_of (type_at value (types_of (rows_in (tab rows parts) n)) c) xs)) → f ≡ cond (eqb nb 0) 8
    (least_of (block_faults true (block_of (type_at value (types_of (rows_in (tab rows parts) n)) (cell 2 β 0 0)) xs)))
some_block_fault rows parts n c β f nb xs h ec e =
    let k : eqb nb 0 ≡ false = ne_eqb nb 0 h in
    rw k (e ∙ ap (λ (x : ℕ). least_of (block_faults true (block_of (type_at value (types_of (rows_in (tab rows parts) n)) x) xs))) ec)

-- ---- a text that is not loaded may not be run, for the same reason
pub unready : {R : Type 0} (text : List ℕ) (σ : Store) (uses tops ι os ns β : List ℕ) (e : Unread) → Fitting R (fits {A = Counts} (Err e)) (LoadIs text σ uses tops (Err e)) → Fitting R (fits {A = Ready} (Err e)) (ReadyIs text ι os ns β (Err e))
unready text σ uses tops ι os ns β Unfit h = record { enough = h.enough; answered = λ w. cc }
unready text σ uses tops ι os ns β (Faulty x) h = record {
  enough = λ r. refl;
  answered = λ w. let l = h.answered refl in record { fault = sym (barred_by_lem text (some (refusal_at x)) l.fault); startable = λ s z. cc };
}

-- ---- a text that is loaded, at the places of its image
pub record LoadedAt (text : List ℕ) (p : Places) (l ns : List ℕ) (c : Counts) : Type 0 where
  pub ordered : Ordered p (length l)
  pub is : LoadIs text (store_in p l ns) (use_section p l) (top_section p l) (Ok c)

pub loaded_at : (text : List ℕ) (p : Places) (l ns : List ℕ) (c : Counts) → p ≡ places_of (length l) → LoadIs text (stored l ns) (uses_in l) (tops_in l) (Ok c) → LoadedAt text p l ns c
loaded_at text p l ns c e is = rw e (record { ordered = ordered (length l); is = is })

-- ---- the first block of the tables
module _ (text : List ℕ) (σ : Store) (uses tops : List ℕ) (r : Counts) (l : LoadIs text σ uses tops (Ok r)) where
  abbrev loaded : IsLoaded text σ uses tops r
  loaded = l.loaded r refl

  abbrev P : Program
  P = program_of text

  abbrev T : List Arg
  T = types_of (rows_in (row_table σ) r.rows)

  pub asks : (r.rows ≤ 512) × CountedTo (row_table σ) r.rows
  asks = (loaded.few_rows, λ x h. counted_to (row_table σ) (r.rows + 2) loaded.counted x (omega arith))

  types_count : length P.types ≡ r.rows
  types_count = ap length loaded.holds.types ∙ length_types (row_table σ) r.rows

  blocks_are : P.blocks ≡ blocks_of T (blocks_from σ.blocks σ.instrs (operands_of σ) r.instrs 0 r.blocks)
  blocks_are = unfold program_of program_from in ap₂ (λ rs ls. blocks_of (types_of rs) ls) (sym loaded.rows) (sym loaded.blocks)

  barred_line : barred text ≡ lowest_line (suc r.rows) (first_faults P.blocks ∷ [])
  barred_line =
      barred_by_lem text none l.fault ∙ ap (λ (n : ℕ). lowest_line (suc n) (first_faults P.blocks ∷ [])) types_count

  -- f is what `first_fault` answers
  module _ (o : CodeOption Fault) (ef : (xs : List Instr) → fault_number o ≡ cond (eqb r.blocks 0) 8 (least_of (block_faults true (block_of (type_at value (types_of (rows_in (row_table σ) r.rows)) (cell 2 σ.blocks 0 0)) xs)))) where
    least_is : fault_number o ≡ least_of (first_faults P.blocks)
    least_is = least_first T σ.blocks σ.instrs (operands_of σ) r.instrs r.blocks (fault_number o) ef ∙ ap (λ (Bs : List Block). least_of (first_faults Bs)) (sym blocks_are)

    pub bars_first : (f : Fault) (ι os ns β : List ℕ) → o ≡ Some f → ReadyIs text ι os ns β (Err (Faulty (record { fault = f; line = r.rows + 1 })))
    bars_first f ι os ns β e =
        let k = number_above f in
        let w : number f ≡ least_of (first_faults P.blocks) = ap fault_number (sym e) ∙ least_is in
        record {
          fault = ap (λ (n : ℕ). some (record { number = number f; line = n; item = none })) (add-one r.rows) ∙ sym (barred_line ∙ line_fault_lem (suc r.rows) (number f) P.blocks w (λ z. omega arith));
          startable = λ s z. cc;
        }

    some_block : o ≡ None → 0 < r.blocks
    some_block w = go r.blocks _ (ap fault_number (sym w) ∙ ef [])
      where
        go : (nb y : ℕ) → 0 ≡ cond (eqb nb 0) 8 y → 0 < nb
        go zero y e = absurd (omega arith)
        go (suc n) y e = omega arith

    wanted_is : (s : ℕ) → 0 < r.blocks → ((xs : List Instr) → s ≡ declared (block_of (type_at value T (cell 2 σ.blocks 0 0)) xs).regs) → s ≡ wanted P.blocks
    wanted_is s h e = go r.blocks h ∙ ap wanted (sym blocks_are)
      where
        go : (nb : ℕ) → 0 < nb → s ≡ wanted (blocks_of T (blocks_from σ.blocks σ.instrs (operands_of σ) r.instrs 0 nb))
        go zero k = absurd (omega arith)
        go (suc zero) k = unfold blocks_of blocks_from wanted in e _
        go (suc (suc n)) k = unfold blocks_of blocks_from wanted in e _

    pub may_start : (s c : ℕ) → o ≡ None → c ≡ cell 2 σ.blocks 0 0 → ((xs : List Instr) → s ≡ declared
        (block_of (type_at value (types_of (rows_in (row_table σ) r.rows)) c) xs).regs)
        → ReadyIs text σ.instrs σ.operands σ.numbers σ.blocks (Ok (record { blocks = r.blocks; instrs = r.instrs; samples = s }))
    may_start s c w ec ed =
        let es : (xs : List Instr) → s ≡ declared (block_of (type_at value T (cell 2 σ.blocks 0 0)) xs).regs = λ xs. ed xs ∙ ap (λ (x : ℕ). declared (block_of (type_at value T x) xs).regs) ec in
        let h = some_block w in
        let few = few_samples (row_table σ) r.rows loaded.small_rows (cell 2 σ.blocks 0 0) [] in
        record {
          fault = sym (barred_line ∙ line_none (suc r.rows) (fault_number o) P.blocks least_is (ap fault_number w));
          startable = λ v q. let u : record { blocks = r.blocks; instrs = r.instrs; samples = s } ≡ v = cc in subst (Startable P σ.instrs σ.operands σ.numbers σ.blocks) u (record {
            args = σ.args;
            represents = represents_is σ.instrs σ.operands σ.numbers σ.args σ.blocks r.instrs r.blocks (program_of text) T _ blocks_are refl h (loaded.first h) loaded.rising loaded.within;
            samples = wanted_is s h es;
            few = subst (λ (x : ℕ). x ≤ 16) (sym (es [])) few;
            fit = record {
              few = loaded.few_instrs;
              registers = registers_low text σ.blocks σ.instrs σ.operands σ.numbers σ.args r.instrs r.blocks loaded.blocks h (loaded.first h);
              room = loaded.room_operands;
              starts = loaded.within;
            };
            room = loaded.room_instrs;
          });
        }
