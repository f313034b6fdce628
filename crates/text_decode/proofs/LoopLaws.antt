-- Laws of the loop over the lines of a text.
-- Assumes nothing.
use mathlib.Core.Path.{◌≡◌, refl, ap, sym, ◌∙◌, subst}
use mathlib.Core.Bool.{Bool, true, false, not, cond, true≢false}
use mathlib.Core.List.{List, [], ◌∷◌, ◌++◌, map, append-nil, append_assoc}
use mathlib.Core.Option.{Option, none, some}
use Prim.Native.Nat.{ℕ, zero, suc, ◌+◌, ◌-◌, ◌*◌, ◌<◌, ◌≤◌, zero-le}
use native.Mathlib.Omega.{arith}
use native.Mathlib.Nat.{add-zero, add-suc}
use lib.Dec.{leb, ltb}
use lib.ListN.{length, take, drop, length-take}
use borrow.Author.Tests.{leb-false, ltb-true, ltb-false, not-true}
use Rattle.std.specs.Prelude.{None, Some, Result, Ok}
use Rattle.faults.specs.declared.Fault.{Fault}
use Rattle.faults.specs.declared.Fault.TheVariants.{Malformed, Misplaced, TooMany}
use Rattle.image.specs.declared.Counts.{Counts}
use Rattle.syntax.specs.Syntax.{Entry, row, block, instr}
use Rattle.syntax.specs.Fault.{lowest_line}
use Rattle.text.specs.Bytes.{Line, fields_of, lines_of}
use Rattle.text.specs.Grammar.{entry_of, parse}
use Rattle.text.specs.PassOne.{lines_faults, pass_one, said, entries_of, rows_of, grouped, listings_of}
use Rattle.tables.specs.Tables.{cell, row_at, rows_from, instr_at, blocks_from}
use Rattle.tables.proofs.Spans.{same_at}
use Rattle.text_lines.specs.Parts.{first_part, line_in, InLine, LastEnd}
use Rattle.text_lines.proofs.Parts.{within, line_ended, line_unended, lines_none, end_from_lem, part_is}
use Rattle.text_lines.proofs.InLine.{line_there, line_before}
use Rattle.text_decode.specs.store.Store.{Store, row_table, operands_of, Room, RoomFor, Few, Same}
use Rattle.text_decode.specs.store.Lines.{operand_count, arg_count, used_after, says, ends_block, Listed, LineIs, NoForm, OfForm}
use Rattle.text_decode.specs.Decoded.{refusal_of, Decoded, ReadIs, place_of}
use Rattle.text_decode.specs.state.State.{none_used, faulty, counts_in, last_read, among_types, inside_block, place_behind, fault_of, line_fault}
use Rattle.text_decode.specs.declared.store.Used.{Used}
use Rattle.text_decode.specs.declared.store.LineRead.{LineRead}
use Rattle.text_decode.specs.declared.state.Unread.{Unread}
use Rattle.text_decode.specs.declared.state.Place.{Place}
use Rattle.text_decode.specs.declared.state.Place.TheVariants.{TypeLines, InBlock, BehindBlock}
use Rattle.text_decode.specs.declared.store.Line as decoded
use Rattle.text_decode.specs.declared.store.Line.TheVariants as line
use Rattle.text_decode.proofs.store.LineLaws.{same_refl, room_for}
use Rattle.text_decode.proofs.store.PutLaws.{part_from}
use Rattle.text_decode.proofs.AnswerLaws.{failed}
use Rattle.text_decode.proofs.FaultLaws.{counts_of, Kin, a_row, a_block, an_instr, a_last, fault_behind, fault_here, fault_none, fault_end, fault_long, fault_start}
use Rattle.text_decode.proofs.GrowthLaws.{Says, says_row, says_block, says_instr, Starts, starts_row, starts_instr, starts_block}

-- ---- lengths
pub record AsLong (σ π : Store) : Type 0 where
  pub rows : length σ.rows ≡ length π.rows
  pub parts : length σ.parts ≡ length π.parts
  pub operands : length σ.operands ≡ length π.operands
  pub numbers : length σ.numbers ≡ length π.numbers
  pub args : length σ.args ≡ length π.args
  pub instrs : length σ.instrs ≡ length π.instrs
  pub blocks : length σ.blocks ≡ length π.blocks

room_still : (σ π : Store) → AsLong σ π → Room π → Room σ
room_still σ π a r = record {
  rows = omega (arith, a.rows, r.rows);
  parts = omega (arith, a.parts, r.parts);
  operands = omega (arith, a.operands, r.operands);
  numbers = omega (arith, a.numbers, r.numbers);
  args = omega (arith, a.args, r.args);
  instrs = omega (arith, a.instrs, r.instrs);
  blocks = omega (arith, a.blocks, r.blocks);
}

-- the arguments in use behind a line
args_after : (u : Used) (l : decoded.Line) → (used_after u l).args ≡ u.args + arg_count l
args_after u line.Row = sym (add-zero u.args)
args_after u line.Block = sym (add-zero u.args)
args_after u (line.Instruction n m) = refl
args_after u (line.Last n m) = refl

-- ---- what is in use stands in the tables
pub record Held (u : Used) (σ : Store) : Type 0 where
  pub parts : 17 * u.rows ≤ length σ.parts
  pub instrs : 8 * u.instrs ≤ length σ.instrs
  pub numbers : u.operands ≤ length σ.numbers
  pub operands : 4 * u.operands ≤ length σ.operands
  pub listed : (j : ℕ) → j < u.instrs → cell 8 σ.instrs j 5 + cell 8 σ.instrs j 6 ≤ u.operands

-- one line more
module _ (u : Used) (σ π : Store) (h : Held u σ) (room : RoomFor u σ) (a : AsLong π σ) (kept : Same u π σ) where
  listed_still : (j : ℕ) → j < u.instrs → cell 8 π.instrs j 5 + cell 8 π.instrs j 6 ≤ u.operands
  listed_still j k =
      let f : cell 8 π.instrs j 5 ≡ cell 8 σ.instrs j 5 = same_at (8 * u.instrs) π.instrs σ.instrs (8 * j + 5) (omega arith) kept.instrs in
      let s : cell 8 π.instrs j 6 ≡ cell 8 σ.instrs j 6 = same_at (8 * u.instrs) π.instrs σ.instrs (8 * j + 6) (omega arith) kept.instrs in
      omega (arith, h.listed j k)

  held_by : (v : Used) → v.rows ≤ u.rows + 1 → v.instrs ≤ u.instrs + 1 → v.operands ≤ u.operands + 16 → ((j : ℕ) → j < v.instrs → cell 8 π.instrs j 5 + cell 8 π.instrs j 6 ≤ v.operands) → Held v π
  held_by v r i o l = record {
    parts = omega (arith, room.parts, a.parts);
    instrs = omega (arith, room.instrs, a.instrs);
    numbers = omega (arith, room.operands.bases, a.numbers);
    operands = omega (arith, room.operands.kinds, a.operands);
    listed = l;
  }

  held_instr : (n m : ℕ) → n ≤ 16 → cell 8 π.instrs u.instrs 5 + cell 8 π.instrs u.instrs 6 ≡ u.operands + n → Held (used_after u (line.Instruction n m)) π
  held_instr n m few e = held_by (used_after u (line.Instruction n m)) (omega arith) (omega arith) (omega arith) (λ j k. go j k (ltb j u.instrs) refl)
    where
      go : (j : ℕ) → j < u.instrs + 1 → (t : Bool) → ltb j u.instrs ≡ t → cell 8 π.instrs j 5 + cell 8 π.instrs j 6 ≤ u.operands + n
      go j k true q = omega (arith, listed_still j (ltb-true j u.instrs q))
      go j k false q =
          let w = ltb-false j u.instrs q in
          let s : j ≡ u.instrs = omega arith in
          omega (arith, ap (λ (i : ℕ). cell 8 π.instrs i 5 + cell 8 π.instrs i 6) s)

  held_on : (l : decoded.Line) → operand_count l ≤ 16 → Listed u π l → Held (used_after u l) π
  held_on line.Row few e = held_by (used_after u line.Row) (omega arith) (omega arith) (omega arith) listed_still
  held_on line.Block few e = held_by (used_after u line.Block) (omega arith) (omega arith) (omega arith) listed_still
  held_on (line.Instruction n m) few e = held_instr n m few e
  held_on (line.Last n m) few e = held_instr n m few e

-- ---- the lines before `at` are read, as es, and no fault was found
pub record Going (text : List ℕ) (at line : ℕ) (place : Place) (u : Used) (σ : Store) : Type 0 where
  pub within : at ≤ length text
  pub short : length text ≤ 65536
  pub counts : line ≤ at + 1
  pub few : Few u
  pub carried : 2 * u.args ≤ at
  pub faults : lowest_line 0 (pass_one text) ≡ lowest_line line (lines_faults (place_of place) (counts_of u) (map parse (lines_of (drop at text))))
  pub es : List Entry
  pub entries : entries_of text ≡ es ++ said (map parse (lines_of (drop at text)))
  pub says : Says u σ es
  pub starts : Starts place u σ.blocks
  pub held : Held u σ

pub going_start : (text : List ℕ) (σ : Store) → length text ≤ 65536 → Going text 0 1 TypeLines none_used σ
unfolding entries_of rows_from rows_of blocks_from listings_of grouped
going_start text σ h = record {
  within = zero-le;
  short = h;
  counts = omega arith;
  few = record { rows = zero-le; blocks = zero-le; instrs = zero-le; operands = zero-le; args = zero-le };
  carried = zero-le;
  faults = fault_start text h;
  es = [];
  entries = refl;
  says = record { rows = λ ρ s. refl; blocks = λ ρ s. refl };
  starts = record { first = λ k. absurd (omega arith); rising = λ l k. absurd (omega arith); last = (refl, refl) };
  held = record { parts = zero-le; instrs = zero-le; numbers = zero-le; operands = zero-le; listed = λ j k. absurd (omega arith) };
}

-- ---- one line
-- what it says and what it is
entry_there : (bytes : List ℕ) (u : Used) (σ π : Store) (l : decoded.Line) → LineIs bytes u σ π l → entry_of (fields_of bytes) ≡ some (says u l π)
entry_there bytes u σ π l h = sym (h.said π (same_refl (used_after u l) π))

kin : (bytes : List ℕ) (u : Used) (σ π : Store) (l : decoded.Line) → LineIs bytes u σ π l → Kin l (says u l π)
kin bytes u σ π line.Row h = a_row (row_at (row_table π) u.rows)
kin bytes u σ π line.Block h = a_block (cell 2 π.blocks u.blocks 0)
kin bytes u σ π (line.Instruction n m) h =
    let e = entry_there bytes u σ π (line.Instruction n m) h in
    an_instr n m (instr_at π.instrs (operands_of π) u.instrs) (sym (ap ends_block e) ∙ sym h.last)
kin bytes u σ π (line.Last n m) h =
    let e = entry_there bytes u σ π (line.Last n m) h in
    a_last n m (instr_at π.instrs (operands_of π) u.instrs) (sym (ap ends_block e) ∙ sym h.last)

at_types : (p : Place) → among_types p ≡ true → p ≡ TypeLines
at_types TypeLines e = refl
at_types InBlock e = absurd (true≢false (sym e))
at_types BehindBlock e = absurd (true≢false (sym e))

in_a_block : (p : Place) → inside_block p ≡ true → p ≡ InBlock
in_a_block TypeLines e = absurd (true≢false (sym e))
in_a_block InBlock e = refl
in_a_block BehindBlock e = absurd (true≢false (sym e))

free : (i t : Bool) → fault_of i t ≡ None → (i ≡ true) × (t ≡ false)
free true true e = cc
free true false e = (refl, refl)
free false t e = cc

-- each start is below the last one's
climbs : (u : Used) (β : List ℕ) → ((l : ℕ) → suc l < u.blocks → cell 2 β l 1 < cell 2 β (suc l) 1) → (l d : ℕ) → l + d < u.blocks → cell 2 β l 1 ≤ cell 2 β (l + d) 1
climbs u β r l zero h = omega (arith, ap (λ (i : ℕ). cell 2 β i 1) (add-zero l))
climbs u β r l (suc d) h =
    let q : l + suc d ≡ suc (l + d) = add-suc l d in
    omega (arith, climbs u β r l d (omega arith), r (l + d) (omega arith), ap (λ (i : ℕ). cell 2 β i 1) q)

all_within : (p : Place) (u : Used) (β : List ℕ) → inside_block p ≡ false → Starts p u β → (l : ℕ) → l < u.blocks → cell 2 β l 1 < u.instrs
all_within TypeLines u β h s l k = let z = s.last.0 in absurd (omega arith)
all_within InBlock u β h s l k = absurd (true≢false h)
all_within BehindBlock u β h s l k =
    let m : ℕ = s.last.0 in
    let e : u.blocks ≡ suc m = s.last.1 in
    let q : l + (m - l) ≡ m = omega arith in
    omega (arith, s.last.2, climbs u β s.rising l (m - l) (omega arith), ap (λ (i : ℕ). cell 2 β i 1) q)

module _ (text : List ℕ) (at number : ℕ) (place : Place) (u : Used) (σ : Store) (g : Going text at number place u σ) where
  -- at the end of the text
  module _ (h : length text ≤ at) where
    none_left : lines_of (drop at text) ≡ []
    none_left = lines_none text at h

    all_entries : entries_of text ≡ g.es
    unfolding said
    all_entries = g.entries ∙ ap (λ (ls : List Line). g.es ++ said (map parse ls)) none_left ∙ append-nil g.es

    decoded_here : inside_block place ≡ false → Decoded text σ (counts_in u)
    decoded_here p = record {
      rows = g.says.rows σ (same_refl u σ) ∙ ap rows_of (sym all_entries);
      blocks = g.says.blocks σ (same_refl u σ) ∙ ap listings_of (sym all_entries);
      few_rows = g.few.rows;
      few_blocks = g.few.blocks;
      few_instrs = g.few.instrs;
      first = g.starts.first;
      rising = g.starts.rising;
      within = all_within place u σ.blocks p g.starts;
      room_parts = g.held.parts;
      room_instrs = g.held.instrs;
      room_operands = λ j h. let k = g.held.listed j h in (omega (arith, g.held.numbers), omega (arith, g.held.operands));
    }

    ending : (t : Bool) → inside_block place ≡ t → (c : Counts) → cond t (faulty Misplaced number) (Ok (counts_in u)) ≡ Ok c → Decoded text σ c
    ending true w c e = cc
    ending false w c e = let q : counts_in u ≡ c = cc in subst (Decoded text σ) q (decoded_here w)

    pub at_end : (r : Result Counts Unread) → r ≡ last_read place number u → ReadIs text σ r
    at_end r e = record {
      fault = ap refusal_of e ∙ fault_end number place u ∙ sym (g.faults ∙ ap (λ (ls : List Line). lowest_line number (lines_faults (place_of place) (counts_of u) (map parse ls))) none_left);
      decoded = λ c w. ending (inside_block place) refl c (sym e ∙ w);
    }

  -- an answer that names the fault of the next line
  refused : (os : List (Option Entry)) → map parse (lines_of (drop at text)) ≡ os → (f : Fault)
      → refusal_of (faulty f number) ≡ lowest_line number (lines_faults (place_of place) (counts_of u) os)
      → (π : Store) (r : Result Counts Unread) → r ≡ faulty f number → ReadIs text π r
  refused os here f w π r q = record {
    fault = ap refusal_of q ∙ w ∙ sym (g.faults ∙ ap (λ (x : List (Option Entry)). lowest_line number (lines_faults (place_of place) (counts_of u) x)) here);
    decoded = λ c y. let z : faulty f number ≡ Ok c = sym q ∙ y in cc;
  }

  module _ (a : at < length text) (e : ℕ) (is : e ≡ at + length (first_part 10 (drop at text))) where
    pub at_unended : length text ≤ e → (r : Result Counts Unread) → r ≡ faulty Malformed number → ReadIs text σ r
    unfolding parse
    at_unended h r q = refused (none ∷ []) (ap (map parse) (line_unended text at e is a h)) Malformed (fault_none number place u []) σ r q

    -- the next line is of no form
    pub at_none : e < length text → (π : Store) → NoForm (take (e - at) (drop at text)) u σ π → (r : Result Counts Unread) → r ≡ faulty Malformed number → ReadIs text π r
    unfolding parse
    at_none h π i r q =
        refused (none ∷ map parse (lines_of (drop (e + 1) text)))
        (ap (map parse) (line_ended text at e is h) ∙ ap (λ (o : Option Entry). o ∷ map parse (lines_of (drop (e + 1) text))) (sym i.said))
        Malformed (fault_none number place u (map parse (lines_of (drop (e + 1) text)))) π r q

    module _ (h : e < length text) (π : Store) (l : decoded.Line) (i : LineIs (take (e - at) (drop at text)) u σ π l) where
      here : map parse (lines_of (drop at text)) ≡ some (says u l π) ∷ map parse (lines_of (drop (e + 1) text))
      unfolding parse
      here = ap (map parse) (line_ended text at e is h) ∙ ap (λ (o : Option Entry). o ∷ map parse (lines_of (drop (e + 1) text))) (entry_there (take (e - at) (drop at text)) u σ π l i)

      pub at_fault : (f : Fault) → line_fault l place u ≡ Some f → (r : Result Counts Unread) → r ≡ faulty f number → ReadIs text π r
      at_fault f w r q =
          refused (some (says u l π) ∷ map parse (lines_of (drop (e + 1) text))) here f
          (fault_here number place u l (says u l π) (map parse (lines_of (drop (e + 1) text))) f (kin (take (e - at) (drop at text)) u σ π l i) w) π r q

      moved : line_fault l place u ≡ None → RoomFor u σ → AsLong π σ → Few (used_after u l) → Says (used_after u l) π (g.es ++ (says u l π ∷ []))
          → Starts (place_behind l) (used_after u l) π.blocks → Going text (e + 1) (number + 1) (place_behind l) (used_after u l) π
      unfolding said
      moved z room long few says_all starts = record {
        within = omega arith;
        short = g.short;
        counts = let c = g.counts in let b = end_from_lem 10 text at e is in omega arith;
        few = few;
        carried = let c = g.carried in let d = i.carried in let k = args_after u l in let t = length-take (e - at) (drop at text) in let b = end_from_lem 10 text at e is in omega arith;
        faults =
            g.faults ∙ ap (λ (os : List (Option Entry)). lowest_line number (lines_faults (place_of place) (counts_of u) os)) here
            ∙ fault_behind number place u l (says u l π) (map parse (lines_of (drop (e + 1) text)))
            (kin (take (e - at) (drop at text)) u σ π l i) z;
        es = g.es ++ (says u l π ∷ []);
        entries = g.entries ∙ ap (λ (os : List (Option Entry)). g.es ++ said os) here ∙ sym (append_assoc g.es (says u l π ∷ []) (said (map parse (lines_of (drop (e + 1) text)))));
        says = says_all;
        starts = starts;
        held = held_on u σ π g.held room long i.kept l i.few i.listed;
      }

    module _ (h : e < length text) (π : Store) (room : RoomFor u σ) (long : AsLong π σ) where
      on_row : LineIs (take (e - at) (drop at text)) u σ π line.Row → line_fault line.Row place u ≡ None → Going text (e + 1) (number + 1) TypeLines (used_after u line.Row) π
      on_row i z =
          let f = free (among_types place) (leb 512 u.rows) z in
          let q : u.rows < 512 = leb-false 512 u.rows f.1 in
          moved h π line.Row i z room long
          (record { rows = omega arith; blocks = g.few.blocks; instrs = g.few.instrs; operands = g.few.operands; args = g.few.args })
          (says_row u σ π g.es g.says i.kept (row_at (row_table π) u.rows) (λ ρ s. let k : some (row (row_at (row_table ρ) u.rows)) ≡ some (row (row_at (row_table π) u.rows)) = i.said ρ s ∙ entry_there (take (e - at) (drop at text)) u σ π line.Row i in cc))
          (starts_row u σ.blocks π.blocks i.kept.blocks (subst (λ (k : Place). Starts k u σ.blocks) (at_types place f.0) g.starts))

      on_block : LineIs (take (e - at) (drop at text)) u σ π line.Block → line_fault line.Block place u ≡ None → Going text (e + 1) (number + 1) InBlock (used_after u line.Block) π
      on_block i z =
          let f = free (not (inside_block place)) (leb 64 u.blocks) z in
          let q : u.blocks < 64 = leb-false 64 u.blocks f.1 in
          moved h π line.Block i z room long
          (record { rows = g.few.rows; blocks = omega arith; instrs = g.few.instrs; operands = g.few.operands; args = g.few.args })
          (says_block u σ π g.es g.says i.kept (cell 2 π.blocks u.blocks 0) (λ ρ s. let k : some (block (cell 2 ρ.blocks u.blocks 0)) ≡ some (block (cell 2 π.blocks u.blocks 0)) = i.said ρ s ∙ entry_there (take (e - at) (drop at text)) u σ π line.Block i in cc) (i.starts refl))
          (starts_block u σ.blocks π.blocks i.kept.blocks place (not-true (inside_block place) f.0) g.starts (i.starts refl))

      -- an instruction, the last of its block or not
      module _ (n m : ℕ) (z : fault_of (inside_block place) (leb 1024 u.instrs) ≡ None) where
        begun : Starts InBlock u σ.blocks
        begun = subst (λ (k : Place). Starts k u σ.blocks) (in_a_block place (free (inside_block place) (leb 1024 u.instrs) z).0) g.starts

        few_still : n ≤ 16 → 2 * m ≤ length (take (e - at) (drop at text)) → Few (used_after u (line.Instruction n m))
        few_still k j =
            let q : u.instrs < 1024 = leb-false 1024 u.instrs (free (inside_block place) (leb 1024 u.instrs) z).1 in
            let w : u.operands ≤ 16 * u.instrs = g.few.operands in
            let c = g.carried in
            let d = g.short in
            let t = length-take (e - at) (drop at text) in
            let b = end_from_lem 10 text at e is in
            record { rows = g.few.rows; blocks = g.few.blocks; instrs = omega arith; operands = omega arith; args = omega arith }

        say_still : Same u π σ → ((ρ : Store) → Same (used_after u (line.Instruction n m)) ρ π
            → some (instr (instr_at ρ.instrs (operands_of ρ) u.instrs)) ≡ entry_of (fields_of (take (e - at) (drop at text))))
            → Says (used_after u (line.Instruction n m)) π (g.es ++ (instr (instr_at π.instrs (operands_of π) u.instrs) ∷ []))
        say_still kept told =
            says_instr u σ π g.es g.says kept n m (instr_at π.instrs (operands_of π) u.instrs)
            (λ ρ s. let k : some (instr (instr_at ρ.instrs (operands_of ρ) u.instrs)) ≡ some (instr (instr_at π.instrs (operands_of π) u.instrs)) = told ρ s ∙ sym (told π (same_refl (used_after u (line.Instruction n m)) π)) in cc)
            begun.last.0 begun.last.1 begun.last.2

        on_instr : LineIs (take (e - at) (drop at text)) u σ π (line.Instruction n m) → Going text (e + 1) (number + 1) InBlock (used_after u (line.Instruction n m)) π
        on_instr i =
            moved h π (line.Instruction n m) i z room long
            (few_still i.few i.carried) (say_still i.kept i.said) (starts_instr u σ.blocks π.blocks i.kept.blocks n m begun).0

        on_last : LineIs (take (e - at) (drop at text)) u σ π (line.Last n m) → Going text (e + 1) (number + 1) BehindBlock (used_after u (line.Last n m)) π
        on_last i =
            moved h π (line.Last n m) i z room long
            (few_still i.few i.carried) (say_still i.kept i.said) (starts_instr u σ.blocks π.blocks i.kept.blocks n m begun).1

      pub going_on : (l : decoded.Line) → LineIs (take (e - at) (drop at text)) u σ π l → line_fault l place u ≡ None → Going text (e + 1) (number + 1) (place_behind l) (used_after u l) π
      going_on line.Row i z = on_row i z
      going_on line.Block i z = on_block i z
      going_on (line.Instruction n m) i z = on_instr n m z i
      going_on (line.Last n m) i z = on_last n m z i

      -- a turn of the loop: the line has no fault, and what is in use and the place are those behind it
      pub turned : (l : decoded.Line) → LineIs (take (e - at) (drop at text)) u σ π l → line_fault l place u ≡ None → (v : Used) → v ≡ used_after u l → (p : Place) → p ≡ place_behind l → Going text (e + 1) (number + 1) p v π
      turned l i z v s p q = rw (s, q) (going_on l i z)

-- ---- a line found by its reader
-- it is no longer than the text
pub line_short : (text : List ℕ) (at : ℕ) → length (line_in (take (length text - at) (drop at text))) ≤ length text
line_short text at =
    let a = within 10 (take (length text - at) (drop at text)) in
    let b = length-take (length text - at) (drop at text) in
    omega arith

module _ (text : List ℕ) (at r : ℕ) (l : LastEnd text r) (h : at < r) where
  abbrev pub line_end : ℕ
  line_end = at + length (first_part 10 (drop at text))

  pub line_part : InLine (take (length text - at) (drop at text)) 0
  line_part = rw (part_from text at) (line_there text at r l h)

  pub end_before : line_end < r
  end_before = line_before text at r l h

  pub end_inside : line_end < length text
  end_inside = omega (arith, end_before, l.within)

  pub line_same : line_in (take (length text - at) (drop at text)) ≡ take (line_end - at) (drop at text)
  line_same = ap line_in (part_from text at) ∙ sym (part_is 10 text at line_end refl)

  -- a line of some form, and where it ends
  pub line_as : (u : Used) (σ π : Store) (x : LineRead) → OfForm (line_in (take (length text - at) (drop at text))) u σ π x → LineIs (take (line_end - at) (drop at text)) u σ π x.line
  line_as u σ π x g = rw (← line_same) g.is

  pub ends_there : (u : Used) (σ π : Store) (x : LineRead) → OfForm (line_in (take (length text - at) (drop at text))) u σ π x → at + (x.next + 1) ≡ line_end + 1
  ends_there u σ π x g = omega (arith, g.ends, ap length (ap line_in (part_from text at)))

  -- a line of no form
  pub none_as : (u : Used) (σ π : Store) → NoForm (line_in (take (length text - at) (drop at text))) u σ π → NoForm (take (line_end - at) (drop at text)) u σ π
  none_as u σ π g = rw (← line_same) g

-- behind the last LF
pub open_end : (text : List ℕ) (at r : ℕ) → LastEnd text r → at ≤ r → r ≤ at → length text ≤ at + length (first_part 10 (drop at text))
open_end text at r l a b =
    let q : at ≡ r = omega arith in
    omega (arith, l.rest, ap (λ (k : ℕ). k + length (first_part 10 (drop k text))) q)

-- ---- tables that have no room for a line have none for every text
pub no_room : (u : Used) (σ π : Store) (b : Bool) → Few u → AsLong σ π → (RoomFor u σ → b ≡ true) → not b ≡ true → Room π → ⊥
no_room u σ π b few a h e = failed b (λ r. h (room_for u σ (room_still σ π a r) few)) e

-- ---- a text that is too long
pub read_long : (text : List ℕ) (σ : Store) → 65536 < length text → (r : Result Counts Unread) → r ≡ faulty TooMany 0 → ReadIs text σ r
read_long text σ h r e = record {
  fault = ap refusal_of e ∙ fault_long text h;
  decoded = λ c y. let z : faulty TooMany 0 ≡ Ok c = sym e ∙ y in cc;
}

-- ---- the start
pub as_long : (σ : Store) → AsLong σ σ
as_long σ = record { rows = refl; parts = refl; operands = refl; numbers = refl; args = refl; instrs = refl; blocks = refl }

pub started : (text : List ℕ) (σ : Store) → length text ≤ 65536 → (u : Used) → u ≡ none_used → Going text 0 1 TypeLines u σ
started text σ h u e = rw e (going_start text σ h)
