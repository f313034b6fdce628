use mathlib.Core.Path.{◌≡◌, refl, ap, sym, subst, ◌∙◌}
use mathlib.Core.List.{List}
use Prim.Native.Nat.{ℕ}
use native.Mathlib.Omega.{arith}
use lib.ListN.{length}
use borrow.Author.Tests.{not-false}
use Rattle.std.specs.Prelude.{Err}
use Rattle.image.specs.declared.Places.{Places}
use Rattle.image.specs.Sections.{Ordered, use_section, top_section, shared_section, slot_section}
use Rattle.types_rows.specs.Read.{tab}
use Rattle.valid.specs.Program.{program_of}
use Rattle.text_decode.specs.store.Store.{row_table, store_in}
use Rattle.text_decode.specs.declared.state.Unread.TheVariants.{Unfit, Faulty}
use Rattle.text_decode.specs.Decoded.{fits, refusal_of}
use Rattle.text_decode.proofs.AnswerLaws.{failed}
use Rattle.load.specs.Loaded.{IsLoaded}
use Rattle.load.proofs.Laws as load
use Rattle.valid_share.specs.Shared.{SharedFor, Shared}
use Rattle.valid_verdict.specs.finding.Found.{refusal_said}
use Rattle.valid_verdict.specs.Answers.{third}
use Rattle.valid_check.proofs.Laws.{ends, blocks_are, counts, shared_tables, shared_holds, faulty_low, loaded_at, loaded_still, shared_still, shared_for}
use Rattle.valid_check.proofs.check_in.Goals as goal

pub returns-in-Err-Unfit-clause-fits : goal.returns-in-Err-Unfit-clause-fits
returns-in-Err-Unfit-clause-fits c =
    let e : c.load.result ≡ Err Unfit = cc in
    λ q. sym (ap fits e) ∙ c.load.ensures.enough (load.enough c.args.image.now c.args.numbers.now (omega (arith, q.0)) q.1)

pub returns-in-Err-Faulty-clause-answers : goal.returns-in-Err-Faulty-clause-answers
returns-in-Err-Faulty-clause-answers c =
    let f = c.in-Err-Faulty.f in
    let e : c.load.result ≡ Err (Faulty f) = cc in
    let l = c.load.ensures.answered (ap fits e) in
    rw c.number.ensures (faulty_low c.args.text.now f (sym (ap refusal_of e) ∙ l.fault))

pub has_shared-requires : goal.has_shared-requires
has_shared-requires c =
    let l = loaded_at c.args.text.now c.lay_out-p.result c.load.new.image c.load.new.numbers c.in-Ok.c c.lay_out-p.ensures (c.in-Ok.ensures.answered refl) in
    ((length c.load.new.image, l.ordered), l.is.few_rows)

pub returns-then-not-has_shared-clause-fits : goal.returns-then-not-has_shared-clause-fits
returns-then-not-has_shared-clause-fits c =
    let image : List ℕ = c.load.new.image in
    let l = loaded_at c.args.text.now c.lay_out-p.result image c.load.new.numbers c.in-Ok.c c.lay_out-p.ensures (c.in-Ok.ensures.answered refl) in
    λ q. absurd (failed c.has_shared.result c.has_shared.ensures.1 (search) (subst (SharedFor c.in-Ok.c.rows) (sym c.lay_out-p.ensures) (shared_for (length image) c.in-Ok.c.rows (rw c.load.auto.image q.0) l.is.few_rows)))

pub share-requires : goal.share-requires
share-requires c =
    let l = loaded_at c.args.text.now c.lay_out-p.result c.load.new.image c.load.new.numbers c.in-Ok.c c.lay_out-p.ensures (c.in-Ok.ensures.answered refl) in
    let d = l.is in
    let q = c.has_shared.ensures.0 (not-false c.has_shared.result (search)) in
    let n = d.few_rows in
    record {
      ordered = (l.ordered, n, q, record { names = omega (arith, c.requires.0); hashes = c.requires.1 });
      counted = (d.counted, d.int_row, d.junk_row);
      rows_clear = (d.clear, d.small_rows);
    }

pub third_pass-f-requires : goal.third_pass-f-requires
third_pass-f-requires c =
    let at : Places = c.lay_out-p.result in
    let text : List ℕ = c.args.text.now in
    let image : List ℕ = c.load.new.image in
    let numbers : List ℕ = c.load.new.numbers in
    let l = loaded_at text at image numbers c.in-Ok.c c.lay_out-p.ensures (c.in-Ok.ensures.answered refl) in
    let image₂ : List ℕ = c.share.new.image in
    let in_order₂ : Ordered at (length image₂) = subst (Ordered at) (sym c.share.ensures.1.size) l.ordered in
    let d : IsLoaded text (store_in at image₂ numbers) (use_section at image₂) (top_section at image₂) c.in-Ok.c = loaded_still at image image₂ l.ordered c.share.ensures.1 text numbers c.in-Ok.c l.is in
    let shared₂ : Shared (row_table (store_in at image₂ numbers)) (tab (shared_section at image₂) (slot_section at image₂)) c.in-Ok.c.rows = shared_still at image image₂ l.ordered c.share.ensures.1 c.in-Ok.c.rows (tab (shared_section at image₂) (slot_section at image₂)) c.share.ensures.0 in (
      record { ordered = in_order₂; tables = shared_tables _ _ _ _ _ d _ _ shared₂ },
      record { small = d.small_instrs; instrs = d.few_instrs; blocks = d.few_blocks; first = d.first; ends = ends _ _ _ _ _ d },
      rw c.share.auto.first c.requires.0,
      omega (arith, c.share.auto.work, c.requires.1),
    )

pub returns-clause-answers : goal.returns-clause-answers
returns-clause-answers c =
    let at : Places = c.lay_out-p.result in
    let text : List ℕ = c.args.text.now in
    let image : List ℕ = c.load.new.image in
    let numbers : List ℕ = c.load.new.numbers in
    let answer = c.in-Ok.ensures.answered refl in
    let l = loaded_at text at image numbers c.in-Ok.c c.lay_out-p.ensures answer in
    let image₂ : List ℕ = c.share.new.image in
    let d : IsLoaded text (store_in at image₂ numbers) (use_section at image₂) (top_section at image₂) c.in-Ok.c = loaded_still at image image₂ l.ordered c.share.ensures.1 text numbers c.in-Ok.c l.is in
    let shared₂ : Shared (row_table (store_in at image₂ numbers)) (tab (shared_section at image₂) (slot_section at image₂)) c.in-Ok.c.rows = shared_still at image image₂ l.ordered c.share.ensures.1 c.in-Ok.c.rows (tab (shared_section at image₂) (slot_section at image₂)) c.share.ensures.0 in
    let h = shared_holds _ _ _ _ _ d _ _ shared₂ in
    let q : refusal_said c.third_pass-f.result ≡ third text = c.third_pass-f.ensures (program_of text) h (blocks_are _ _ _ _ _ d _ shared₂.types) in
    c.answer_for.ensures text answer.fault q (counts _ _ _ _ _ d _ q)
