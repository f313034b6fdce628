-- What the passes leave, put together.
use Prim.Native.Nat.{ℕ, zero, suc, ◌-◌, ◌*◌, ◌≤◌, ◌<◌}
use native.Mathlib.Omega.{arith}
use mathlib.Core.Path.{◌≡◌, refl, ap, ap₂, sym, subst, ◌∙◌}
use mathlib.Core.Bool.{Bool, true, false}
use mathlib.Core.Option.{Option, none}
use mathlib.Core.List.{List, [], ◌∷◌, ◌++◌}
use lib.Dec.{ltb}
use lib.ListN.{length, replicate, length-replicate}
use borrow.Author.Tests.{ltb-true, ltb-false}
use Rattle.syntax.specs.Syntax.{Row, Entry}
use Rattle.syntax.specs.Fault.{Refusal, Pass, Clear, lowest_line, or_else, earliest}
use Rattle.text.specs.PassOne.{Listing, pass_one, entries_of, rows_of, listings_of}
use Rattle.text.specs.Entries.{entries_in}
use Rattle.text.proofs.Entries.{entries_in_lem}
use Rattle.types.specs.Rows.{types_of, rows_faults, entries_faults, pass_two}
use Rattle.tables.specs.Tables.{RowTable, cell, row_at, rows_in, OperandTable, blocks_from}
use Rattle.types_rows.specs.Clear.{RowsClear}
use Rattle.valid.specs.Program.{program_of, program_from, blocks_of}
use Rattle.valid.specs.Verdict.{pass_two_of}
use Rattle.valid.proofs.Clear.{earliest_clear, clear_split}
use Rattle.std.specs.Prelude.{Option as CodeOption, Some, None, Ok, Err}
use Rattle.faults.specs.declared.LineFault.{LineFault}
use Rattle.types_pass_two.specs.refs.Refs.{Rising, refusal_of as found_refusal}
use Rattle.types_pass_two.proofs.refs.Lines.{entries_rows}
use Rattle.image.specs.declared.Counts.{Counts}
use Rattle.image.specs.declared.Places.{Places}
use Rattle.image.specs.Sections.{Ordered, row_section, block_section, instr_section, part_section, use_section, top_section}
use Rattle.image.specs.Layout.{places_of, large_places, large_shared_places}
use Rattle.image.proofs.Laws.{part_length, ordered, large, large_shared}
use Rattle.text_decode.specs.store.Store.{Store, row_table, operands_of, store_in, stored}
use Rattle.text_decode.proofs.state.Room.{lengths}
use Rattle.text_decode.specs.declared.state.Unread.TheVariants.{Faulty}
use Rattle.text_decode.specs.Decoded as decode
use Rattle.valid.specs.Bounds.{SmallRow}
use Rattle.valid_context.specs.premises.Answers.{Holds}
use Rattle.valid_context.proofs.premises.Grammar.{rows_small, instrs_small}
use Rattle.load.specs.prepare.Prepared.{Prepared, Kept}
use Rattle.load.specs.Loaded.{Space, SpaceFor, SmallRead, SpaceIn, IsLoaded, LoadIs}
use Rattle.load.proofs.Codes.{CodeOk, all_codes, holds_is}

-- ---- pass one
-- what is known of a text that was read into an image
pub record Seen (text : List ℕ) (p : Places) (l ns : List ℕ) (c : Counts) : Type 0 where
  pub ordered : Ordered p (length l)
  pub decoded : decode.Decoded text (store_in p l ns) c
  pub clear : lowest_line 0 (pass_one text) ≡ none

pub seen : (text : List ℕ) (p : Places) (l ns : List ℕ) (c : Counts) → p ≡ places_of (length l) → decode.ReadIs text (stored l ns) (Ok c) → Seen text p l ns c
seen text p l ns c e r = rw e (record { ordered = ordered (length l); decoded = r.decoded c refl; clear = sym r.fault })

clear_none : (p : Pass) → lowest_line 0 p ≡ none → Clear p
clear_none p e = (earliest_clear (p ∷ []) (unfold earliest in rw e refl)).0

-- ---- pass two
two_clear : (rows : List Row) (nb : ℕ) (es : List Entry) → lowest_line 0 (pass_two rows nb es) ≡ none → Clear (rows_faults rows 0 rows ++ entries_faults rows nb es)
unfolding pass_two
two_clear rows nb es e = (clear_none (pass_two rows nb es) e).1

length_blocks : (β ι : List ℕ) (ω : OperandTable) (ni b k : ℕ) → length (blocks_from β ι ω ni b k) ≡ k
unfolding blocks_from
length_blocks β ι ω ni b zero = refl
length_blocks β ι ω ni b (suc zero) = refl
length_blocks β ι ω ni b (suc (suc k)) = ap suc (length_blocks β ι ω ni (suc b) (suc k))

module _ (text : List ℕ) (σ : Store) (r : Counts) (d : decode.Decoded text σ r) (one : lowest_line 0 (pass_one text) ≡ none) where
  abbrev τ : RowTable
  τ = row_table σ

  abbrev bs : List Listing
  bs = blocks_from σ.blocks σ.instrs (operands_of σ) r.instrs 0 r.blocks

  pub starts_rise : Rising σ.blocks r.blocks
  starts_rise = record { first = d.first; rise = λ b h. let q = d.rising b h in omega arith }

  pub two_same : lowest_line 0 (pass_two (rows_in τ r.rows) r.blocks (entries_in (rows_in τ r.rows) bs)) ≡ lowest_line 0 (pass_two_of text)
  unfolding pass_two_of
  two_same =
      let n : r.blocks ≡ length (listings_of (entries_of text)) = sym (length_blocks σ.blocks σ.instrs (operands_of σ) r.instrs 0 r.blocks) ∙ ap length d.blocks in
      let es : entries_in (rows_in τ r.rows) bs ≡ entries_of text = ap₂ entries_in d.rows d.blocks ∙ sym (entries_in_lem text (clear_none (pass_one text) one)) in
      ap₂ (λ rs k. lowest_line 0 (pass_two rs k (entries_in (rows_in τ r.rows) bs))) d.rows n ∙ ap (λ l. lowest_line 0 (pass_two (rows_of (entries_of text)) (length (listings_of (entries_of text))) l)) es

  module _ (f : CodeOption LineFault) (e : found_refusal f ≡ lowest_line 0 (pass_two (rows_in τ r.rows) r.blocks (entries_in (rows_in τ r.rows) bs))) where
    two_is : found_refusal f ≡ or_else (lowest_line 0 (pass_one text)) (lowest_line 0 (pass_two_of text))
    two_is = e ∙ two_same ∙ ap (λ (x : Option Refusal). or_else x (lowest_line 0 (pass_two_of text))) (sym one)

    pub found_two : (x : LineFault) (π : Store) (uses tops : List ℕ) → f ≡ Some x → LoadIs text π uses tops (Err (Faulty x))
    found_two x π uses tops h = record { fault = ap found_refusal (sym h) ∙ two_is; loaded = λ c z. cc }

    two_none : f ≡ None → none ≡ or_else (lowest_line 0 (pass_one text)) (lowest_line 0 (pass_two_of text))
    two_none z = ap found_refusal (sym z) ∙ two_is

    all_clear : f ≡ None → Clear (rows_faults (rows_in τ r.rows) 0 (rows_in τ r.rows) ++ entries_faults (rows_in τ r.rows) r.blocks (entries_in (rows_in τ r.rows) bs))
    all_clear z = two_clear (rows_in τ r.rows) r.blocks (entries_in (rows_in τ r.rows) bs) (sym e ∙ ap found_refusal z)

    pub rows_seen : f ≡ None → RowsClear τ r.rows
    rows_seen z = (clear_split (rows_faults (rows_in τ r.rows) 0 (rows_in τ r.rows)) (entries_faults (rows_in τ r.rows) r.blocks (entries_in (rows_in τ r.rows) bs)) (all_clear z)).0

    codes : f ≡ None → (l : ℕ) → l < r.blocks → CodeOk τ r.rows (cell 2 σ.blocks l 0)
    codes z =
        all_codes τ r.rows σ.blocks σ.instrs (operands_of σ) r.instrs r.blocks
        (subst Clear (entries_rows (rows_in τ r.rows) (rows_in τ r.rows) r.blocks bs)
        (clear_split (rows_faults (rows_in τ r.rows) 0 (rows_in τ r.rows)) (entries_faults (rows_in τ r.rows) r.blocks
        (entries_in (rows_in τ r.rows) bs)) (all_clear z)).1)

    pub rows_small_in : (x : ℕ) → x < r.rows → SmallRow (row_at τ x)
    rows_small_in = rows_small text τ r.rows d.rows

    holds_in : f ≡ None → Holds τ r.rows σ.blocks r.blocks (program_of text)
    holds_in z =
        holds_is τ r.rows σ.blocks σ.instrs (operands_of σ) r.instrs r.blocks (program_of text) (rows_seen z) (codes z)
        (unfold program_of program_from in ap types_of (sym d.rows)) (unfold program_of program_from in ap₂ (λ rs ls. blocks_of (types_of rs)
        ls) (sym d.rows) (sym d.blocks))

    -- ---- after preparing: only the rows' table has changed
    module _ (after uses tops : List ℕ) (p : Prepared σ.rows after σ.parts r.rows uses tops) (z : f ≡ None) (space : SpaceFor r.rows (length after) (length uses) (length tops)) where
      abbrev π : Store
      π = record { rows = after; parts = σ.parts; operands = σ.operands; numbers = σ.numbers; args = σ.args; instrs = σ.instrs; blocks = σ.blocks }

      holds_after : Holds (row_table π) r.rows σ.blocks r.blocks (program_of text)
      holds_after = let h = holds_in z in record { types = h.types ∙ ap types_of (sym p.rows); labels = h.labels }

      pub all_loaded : LoadIs text π uses tops (Ok r)
      all_loaded = record {
        fault = two_none z;
        loaded = λ c w. let q : r ≡ c = cc in subst (IsLoaded text π uses tops) q (record {
          rows = p.rows ∙ d.rows;
          blocks = d.blocks;
          holds = holds_after;
          few_rows = d.few_rows;
          few_blocks = d.few_blocks;
          few_instrs = d.few_instrs;
          small_rows = λ x h. subst SmallRow (sym (p.row x h)) (rows_small_in x h);
          small_instrs = λ h. instrs_small σ.blocks σ.instrs (operands_of σ) text r.instrs r.blocks d.blocks h (d.first h);
          space = space;
          room_parts = d.room_parts;
          room_instrs = d.room_instrs;
          room_operands = d.room_operands;
          first = d.first;
          rising = d.rising;
          within = d.within;
          clear = subst (λ l. Clear (rows_faults l 0 l)) (sym p.rows) (rows_seen z);
          int_row = p.int_row;
          junk_row = p.junk_row;
          counted = p.counted;
          scoped = p.scoped;
        });
      }

-- ---- what `pass_two` asks
pub few_ok : (text : List ℕ) (σ : Store) (r : Counts) → decode.Decoded text σ r → lowest_line 0 (pass_one text) ≡ none → SmallRead r × Rising σ.blocks r.blocks
few_ok text σ r d o = (record { rows = omega arith; blocks = omega arith; instrs = omega arith }, starts_rise text σ r d o)

-- ---- in an image
module _ (text : List ℕ) (p : Places) (l ns : List ℕ) (r : Counts) (d : decode.Decoded text (store_in p l ns) r) (one : lowest_line 0
    (pass_one text) ≡ none) (f : CodeOption LineFault) (e : found_refusal f ≡ lowest_line 0 (pass_two (rows_in (row_table (store_in p l ns)) r.rows)
    r.blocks (entries_in (rows_in (row_table (store_in p l ns)) r.rows) (blocks_from (block_section p l) (instr_section p l)
    (operands_of (store_in p l ns)) r.instrs 0 r.blocks)))) where
  pub loaded_in : (l' : List ℕ) → Prepared (row_section p l) (row_section p l') (part_section p l) r.rows (use_section p l')
      (top_section p l') → Kept p l l' → f ≡ None → SpaceFor r.rows (length (row_section p l')) (length (use_section p l'))
      (length (top_section p l')) → LoadIs text (store_in p l' ns) (use_section p l') (top_section p l') (Ok r)
  loaded_in l' q k z space =
      rw (k.parts, k.operands, k.args, k.instrs, k.blocks) (all_loaded text (store_in p l ns) r d one f e (row_section p l') (use_section p l') (top_section p l') q z space)

-- room, by places and by lengths
pub space_in : (p : Places) (l : List ℕ) (n : ℕ) → Ordered p (length l) → SpaceFor n (p.blocks - p.rows) (p.tops - p.uses) (p.shared - p.tops) → SpaceFor n (length (row_section p l)) (length (use_section p l)) (length (top_section p l))
space_in p l n o s = record {
  rows = omega (arith, part_length p.rows p.blocks l (omega arith), s.rows);
  uses = omega (arith, part_length p.uses p.tops l (omega arith), s.uses);
  tops = omega (arith, part_length p.tops p.shared l (omega arith), s.tops);
}

pub space_at : (p : Places) (l ns : List ℕ) (n : ℕ) → Ordered p (length l) → n ≤ 512 → Space (store_in p l ns) (length (use_section p l)) (length (top_section p l)) → SpaceFor n (p.blocks - p.rows) (p.tops - p.uses) (p.shared - p.tops)
space_at p l ns n o h s = record {
  rows = omega (arith, part_length p.rows p.blocks l (omega arith), s.rows);
  uses = omega (arith, part_length p.uses p.tops l (omega arith), s.uses);
  tops = omega (arith, part_length p.tops p.shared l (omega arith), s.tops);
}

-- an image for every text has room for every text
by_places : (p : Places) (l ns : List ℕ) → Ordered p (length l) → 4 * 514 ≤ p.blocks - p.rows → 2 * 65 ≤ p.instrs - p.blocks
    → 8 * 1025 ≤ p.parts - p.instrs → 17 * 513 ≤ p.operands - p.parts → 4 * 16400 ≤ p.args - p.operands → 32896 ≤ p.uses - p.args
    → 64 * 512 ≤ p.tops - p.uses → 512 ≤ p.shared - p.tops → 16400 ≤ length ns → Space (store_in p l ns) (length (use_section p l))
    (length (top_section p l))
by_places p l ns o rows blocks instrs parts operands args uses tops numbers =
    let w = lengths p l o in
    record {
      room = record {
        rows = omega (arith, w.rows);
        parts = omega (arith, w.parts);
        operands = omega (arith, w.operands);
        numbers = numbers;
        args = omega (arith, w.args);
        instrs = omega (arith, w.instrs);
        blocks = omega (arith, w.blocks);
      };
      rows = omega (arith, w.rows);
      uses = omega (arith, part_length p.uses p.tops l (omega arith));
      tops = omega (arith, part_length p.tops p.shared l (omega arith));
    }

pub enough : (l ns : List ℕ) → 150900 ≤ length l → 16400 ≤ length ns → SpaceIn l ns
enough l ns h n = by (ltb (length l) 161694) refl
  where
    by : (b : Bool) → ltb (length l) 161694 ≡ b → SpaceIn l ns
    by true e =
        let q : places_of (length l) ≡ large_places = large (length l) h (ltb-true (length l) 161694 e) in
        rw q (by_places large_places l ns (subst (λ (p : Places). Ordered p (length l)) q (ordered (length l))) (omega arith) (omega arith) (omega arith) (omega arith) (omega arith) (omega arith) (omega arith) (omega arith) n)
    by false e =
        let q : places_of (length l) ≡ large_shared_places = large_shared (length l) (ltb-false (length l) 161694 e) in
        rw q (by_places large_shared_places l ns (subst (λ (p : Places). Ordered p (length l)) q (ordered (length l))) (omega arith) (omega arith) (omega arith) (omega arith) (omega arith) (omega arith) (omega arith) (omega arith) n)

-- ---- slices set to zero: their lengths
pub zeros_long : (n m : ℕ) → m ≤ n → m ≤ length (replicate {A = ℕ} n 0)
zeros_long n m h = let e = length-replicate {A = ℕ} n 0 in omega arith
