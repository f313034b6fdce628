-- The counts of a text's blocks and instructions, and the tables of a loaded text, as pass three asks for them.
use Prim.Native.Nat.{ℕ, zero, suc, ◌+◌, ◌-◌, ◌≤◌, ◌<◌}
use native.Mathlib.Omega.{arith}
use native.Mathlib.Nat.{le_refl}
use mathlib.Core.Path.{◌≡◌, refl, ap, ap₂, sym, ◌∙◌}
use mathlib.Core.Bool.{Bool, true, false, cond}
use mathlib.Core.Option.{Option, none, some}
use Rattle.syntax.specs.Fault.{Refusal}
use mathlib.Core.List.{List, ◌∷◌}
use lib.Dec.{ltb}
use lib.ListN.{length}
use borrow.Author.Tests.{ne_eqb, lt-ltb, le-ltb, ltb-true, ltb-false}
use Rattle.syntax.specs.Syntax.{value, stack}
use Rattle.text.specs.PassOne.{Listing}
use Rattle.types.specs.Types.{items, Arg}
use Rattle.types.specs.Rows.{type_at, types_of}
use Rattle.tables.specs.Tables.{RowTable, cell, rows_in, OperandTable, instrs_from, blocks_from}
use Rattle.tables.proofs.Steps.{length_instrs, end_of, end_inner, end_last, listing_at, blocks_step}
use Rattle.types_rows.specs.Read.{tab}
use Rattle.valid.specs.Program.{blocks_of, program_from, program_of}
use Rattle.valid.specs.Verdict.{instr_count, check}
use Rattle.valid.proofs.Clear.{some_none}
use Rattle.valid.proofs.Order.{body_of}
use Rattle.valid_context.specs.premises.Answers.{Holds}
use Rattle.std.specs.Prelude.{Ok}
use Rattle.faults.specs.declared.LineFault.{LineFault}
use Rattle.faults.specs.Numbers.{number}
use Rattle.faults.proofs.Numbers.{number_above}
use Rattle.image.specs.declared.Counts.{Counts}
use Rattle.image.specs.declared.Places.{Places}
use Rattle.image.specs.Sections.{part, Ordered, Outside, row_section, part_section, use_section, top_section}
use Rattle.image.specs.Layout.{places_of}
use Rattle.image.proofs.Laws.{before, large_shared, ordered}
use Rattle.text_decode.specs.store.Store.{Store, row_table, operands_of, store_in, stored}
use Rattle.load.specs.Loaded.{IsLoaded, LoadIs, uses_in, tops_in}
use Rattle.valid_share.specs.Shared.{SharedFor, Shared}
use Rattle.valid_pass_three.specs.body.Tables.{Tables}
use Rattle.valid_check.proofs.Few.{few_items}
use Rattle.valid_pass_three.proofs.Blocks.{no_block, length_all}
use Rattle.text_decode.specs.Decoded.{refusal_at}
use Rattle.valid_verdict.proofs.Laws.{answers_low}
use Rattle.valid_verdict.specs.Answers.{verdict_is, low, third}
use Rattle.valid_verdict.specs.declared.Answer.{Answer}
use Rattle.valid_verdict.specs.declared.Answer.TheVariants.{Refused}
use Rattle.valid_check.specs.Lent.{check_in}

-- ---- counts
module _ (T : List Arg) (β ι : List ℕ) (ω : OperandTable) (ni nb : ℕ) where
  abbrev start_at : ℕ → ℕ
  start_at b = cond (ltb b nb) (cell 2 β b 1) ni

  end_start : (b : ℕ) → end_of β ni nb b ≡ start_at (b + 1)
  unfolding end_of
  end_start b = refl

  no_count : (b : ℕ) → nb - b ≡ 0 → instr_count (blocks_of T (blocks_from β ι ω ni b (nb - b))) ≡ 0
  unfolding instr_count blocks_of blocks_from
  no_count b z = rw z refl

  more : (b : ℕ) → instr_count (blocks_of T (listing_at β ι ω ni nb b ∷ blocks_from β ι ω ni (b + 1) (nb - (b + 1)))) ≡ (end_of β ni nb b - cell 2 β b 1) + instr_count (blocks_of T (blocks_from β ι ω ni (b + 1) (nb - (b + 1))))
  unfolding instr_count blocks_of
  more b = ap (λ (x : ℕ). x + instr_count (blocks_of T (blocks_from β ι ω ni (b + 1) (nb - (b + 1))))) (ap length (body_of (type_at value T (cell 2 β b 0)) (instrs_from ι ω (cell 2 β b 1) (end_of β ni nb b - cell 2 β b 1))) ∙ length_instrs ι ω (cell 2 β b 1) (end_of β ni nb b - cell 2 β b 1))

  module _ (rise : (b : ℕ) → b < nb → cell 2 β b 1 ≤ end_of β ni nb b) where
    -- the blocks from b on have the instructions from b's start on
    count_from : (k b : ℕ) → b + k ≡ nb → instr_count (blocks_of T (blocks_from β ι ω ni b (nb - b))) + start_at b ≡ ni
    unfolding instr_count
    count_from zero b e =
        let z : nb - b ≡ 0 = omega arith in
        let s : start_at b ≡ ni = ap (λ (x : Bool). cond x (cell 2 β b 1) ni) (le-ltb b nb (omega arith)) in
        let c = no_count b z in
        omega arith
    count_from (suc k) b e =
        let h : b < nb = omega arith in
        let s : start_at b ≡ cell 2 β b 1 = ap (λ (x : Bool). cond x (cell 2 β b 1) ni) (lt-ltb b nb h) in
        let i = count_from k (b + 1) (omega arith) in
        let l = rise b h in
        let v = end_start b in
        let c = ap (λ (x : List Listing). instr_count (blocks_of T x)) (blocks_step β ι ω ni nb b h) ∙ more b in
        omega arith

    pub count_all : 0 < nb → cell 2 β 0 1 ≡ 0 → instr_count (blocks_of T (blocks_from β ι ω ni 0 nb)) ≡ ni
    count_all h z =
        let s : start_at 0 ≡ 0 = ap (λ (x : Bool). cond x (cell 2 β 0 1) ni) (lt-ltb 0 nb h) ∙ z in
        let e : nb - 0 ≡ nb = omega arith in
        let c = count_from nb 0 (omega arith) in
        ap (λ (x : ℕ). instr_count (blocks_of T (blocks_from β ι ω ni 0 x))) (sym e) ∙ omega arith

  length_blocks : (b k : ℕ) → length (blocks_of T (blocks_from β ι ω ni b k)) ≡ k
  unfolding blocks_from blocks_of
  length_blocks b zero = refl
  length_blocks b (suc zero) = refl
  length_blocks b (suc (suc k)) = ap suc (length_blocks (suc b) (suc k))

  pub count_blocks : length (blocks_of T (blocks_from β ι ω ni 0 nb)) ≡ nb
  count_blocks = length_blocks 0 nb

-- ---- the tables of a loaded text
module _ (text : List ℕ) (σ : Store) (uses tops : List ℕ) (r : Counts) (d : IsLoaded text σ uses tops r) where
  abbrev β : List ℕ
  β = σ.blocks

  abbrev bs : List Listing
  bs = blocks_from σ.blocks σ.instrs (operands_of σ) r.instrs 0 r.blocks

  pub ends : (b : ℕ) → b < r.blocks → (cell 2 β b 1 ≤ end_of β r.instrs r.blocks b) × (end_of β r.instrs r.blocks b ≤ r.instrs)
  ends b h = go (ltb (b + 1) r.blocks) refl
    where
      go : (t : Bool) → ltb (b + 1) r.blocks ≡ t → (cell 2 β b 1 ≤ end_of β r.instrs r.blocks b) × (end_of β r.instrs r.blocks b ≤ r.instrs)
      go true e =
          let l : b + 1 < r.blocks = ltb-true (b + 1) r.blocks e in
          let k : b + 1 ≡ suc b = omega arith in
          let s : cell 2 β (b + 1) 1 ≡ cell 2 β (suc b) 1 = ap (λ (i : ℕ). cell 2 β i 1) k in
          let v = end_inner β r.instrs r.blocks b l in
          let x = d.rising b (omega arith) in
          let y = d.within (suc b) (omega arith) in
          (omega arith, omega arith)
      go false e =
          let v = end_last β r.instrs r.blocks b (ltb-false (b + 1) r.blocks e) in
          let y = d.within b h in
          (omega arith, omega arith)

  pub blocks_are : (T : List Arg) → T ≡ types_of (rows_in (row_table σ) r.rows) → (program_of text).blocks ≡ blocks_of T bs
  unfolding program_of program_from
  blocks_are T e = ap₂ blocks_of (ap types_of (sym d.rows) ∙ sym e) (sym d.blocks)

  pub counts : (o : Option Refusal) → o ≡ third text → o ≡ none → (r.blocks ≡ length (program_of text).blocks) × (r.instrs ≡ instr_count (program_of text).blocks)
  counts f q z = go r.blocks refl
    where
      e : (program_of text).blocks ≡ blocks_of (types_of (rows_in (row_table σ) r.rows)) bs
      e = blocks_are (types_of (rows_in (row_table σ) r.rows)) refl

      some_block : 0 < r.blocks → (r.blocks ≡ length (program_of text).blocks) × (r.instrs ≡ instr_count (program_of text).blocks)
      some_block h = (
        sym (ap length e ∙ count_blocks (types_of (rows_in (row_table σ) r.rows)) σ.blocks σ.instrs (operands_of σ) r.instrs r.blocks),
        sym (ap instr_count e ∙ count_all (types_of (rows_in (row_table σ) r.rows)) σ.blocks σ.instrs (operands_of σ) r.instrs r.blocks (λ b l. (ends b l).0) h (d.first h)),
      )

      none_ends : r.blocks ≡ 0 → ⊥
      none_ends w =
          let k = no_block (program_of text) (types_of (rows_in (row_table σ) r.rows)) σ.blocks σ.instrs (operands_of σ) r.instrs r.rows r.blocks (length_all (row_table σ) r.rows) d.holds.types e w in
          some_none (k ∙ sym q ∙ z)

      go : (n : ℕ) → r.blocks ≡ n → (r.blocks ≡ length (program_of text).blocks) × (r.instrs ≡ instr_count (program_of text).blocks)
      go zero w = absurd (none_ends w)
      go (suc n) w = some_block (omega arith)

  -- ---- with the rows shared
  module _ (rows₂ parts₂ : List ℕ) (s : Shared (row_table σ) (tab rows₂ parts₂) r.rows) where
    pub shared_tables : Tables rows₂ parts₂ r.rows uses tops
    shared_tables = record {
      ready = record { few = d.few_rows; int_row = s.int_row; junk_row = s.junk_row; counted = s.counted };
      scoped = s.scoped uses tops d.scoped;
      small = s.small;
      few = λ x h. let e = ap items (s.means stack x h) in let k = few_items σ.rows σ.parts r.rows d.int_row d.junk_row d.clear x h in omega arith;
    }

    pub shared_holds : Holds (tab rows₂ parts₂) r.rows σ.blocks r.blocks (program_of text)
    shared_holds = record { types = d.holds.types ∙ sym s.types; labels = d.holds.labels }

-- ---- a text that is not loaded
-- the answer that names its fault
pub faulty_low : (text : List ℕ) (f : LineFault) → some (refusal_at f) ≡ low text → verdict_is (Refused (number f.fault) f.line) ≡ check text
faulty_low text f e =
    let k = number_above f.fault in
    let z : number f.fault ≡ 0 → ⊥ = λ w. omega arith in
    answers_low text (number f.fault) f.line z (ap (λ (b : Bool). cond b none (some (refusal_at f))) (ne_eqb (number f.fault) 0 z) ∙ e)

-- ---- a text that is loaded, at the places of its image
pub record LoadedAt (text : List ℕ) (p : Places) (l ns : List ℕ) (c : Counts) : Type 0 where
  pub ordered : Ordered p (length l)
  pub is : IsLoaded text (store_in p l ns) (use_section p l) (top_section p l) c

pub loaded_at : (text : List ℕ) (p : Places) (l ns : List ℕ) (c : Counts) → p ≡ places_of (length l) → LoadIs text (stored l ns) (uses_in l) (tops_in l) (Ok c) → LoadedAt text p l ns c
loaded_at text p l ns c e is = rw e (record { ordered = ordered (length l); is = is.loaded c refl })

-- ---- in an image: only the rows once more were written
module _ (p : Places) (l l' : List ℕ) (o : Ordered p (length l)) (w : Outside p.shared p.end l l') where
  kept : (c d : ℕ) → c ≤ d → d ≤ p.shared → part c d l' ≡ part c d l
  kept c d cd h = before p.shared p.end l l' (omega arith) w c d cd h

  pub loaded_still : (text ns : List ℕ) (r : Counts) → IsLoaded text (store_in p l ns) (use_section p l) (top_section p l) r → IsLoaded text (store_in p l' ns) (use_section p l') (top_section p l') r
  loaded_still text ns r d =
      rw (
        kept p.rows p.blocks o.rows (omega arith),
        kept p.blocks p.instrs o.blocks (omega arith),
        kept p.instrs
            p.parts o.instrs (omega arith),
        kept p.parts p.operands o.parts (omega arith),
        kept p.operands p.args
            o.operands (omega arith),
        kept p.args p.uses o.args (omega arith),
        kept p.uses p.tops o.uses (omega arith),
        kept p.tops p.shared o.tops (le_refl p.shared),
      ) d

  pub shared_still : (n : ℕ) (τ : RowTable) → Shared (tab (row_section p l) (part_section p l)) τ n → Shared (tab (row_section p l') (part_section p l')) τ n
  shared_still n τ s = rw (kept p.rows p.blocks o.rows (omega arith), kept p.parts p.operands o.parts (omega arith)) s

-- ---- working memory that is lent
-- an image of that length has room for the rows once more
pub shared_for : (i n : ℕ) → 161694 ≤ i → n ≤ 512 → SharedFor n (places_of i)
shared_for i n g h = rw (large_shared i g) (record { rows = omega arith; parts = omega arith })

-- the answer with working memory lent, by whether it is long enough
pub lent_short : (long : Bool) (text : List ℕ) → long ≡ false → verdict_is (Refused 16 0) ≡ check_in long text
unfolding verdict_is check_in
lent_short long text e = rw e

pub lent_long : (long : Bool) (text : List ℕ) (a : Answer) → long ≡ true → verdict_is a ≡ check text → verdict_is a ≡ check_in long text
unfolding check_in
lent_long long text a e h = rw e h
