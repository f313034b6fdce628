use mathlib.Core.Path.{◌≡◌, refl, subst}
use native.Mathlib.Omega.{arith}
use lib.ListN.{get_or}
use Rattle.std.specs.Prelude.{Err, Ok}
use Rattle.image.specs.declared.Places.{Places}
use Rattle.image.specs.Sections.{block_section}
use Rattle.text_decode.specs.store.Store.{store_in, stored}
use Rattle.text_decode.proofs.AnswerLaws.{fitting}
use Rattle.load.specs.Loaded.{uses_in, tops_in}
use Rattle.exec_ready.specs.Ready.{ReadyIs}
use Rattle.exec_ready.proofs.Laws.{unready, loaded_at, asks, bars_first, may_start}
use Rattle.exec_ready.proofs.make_ready.Goals as goal

pub returns-in_err-c : goal.returns-in_err-c
returns-in_err-c c =
    let l = c.load.new in
    let σ = stored l.image l.numbers in
    let e : c.from_residual.result ≡ Err c.in_err-c.field-0.0 = grind arith in
    let h = unready c.args.text.now σ (uses_in l.image) (tops_in l.image) σ.instrs σ.operands l.numbers σ.blocks _ c.in_err-c.ensures in
    rw e h

pub first_fault-requires : goal.first_fault-requires
first_fault-requires c =
    let l = loaded_at c.args.text.now c.lay_out-p.result c.load.new.image c.load.new.numbers c.in_ok-c.c c.lay_out-p.ensures (c.in_ok-c.ensures.answered refl) in
    let asked = asks _ _ _ _ _ l.is in
    (l.ordered, asked.0, asked.1, (l.is.loaded c.in_ok-c.c refl).scoped)

pub returns-in-Some : goal.returns-in-Some
returns-in-Some c =
    let image = c.load.new.image in
    let σ = stored image c.load.new.numbers in
    let l = loaded_at c.args.text.now c.lay_out-p.result image c.load.new.numbers c.in_ok-c.c c.lay_out-p.ensures (c.in_ok-c.ensures.answered refl) in
    fitting refl (bars_first _ _ _ _ _ l.is c.first_fault.result c.first_fault.ensures c.in-Some.fault _ _ _ _ c.in-Some.is)

pub samples_wanted-requires : goal.samples_wanted-requires
samples_wanted-requires c =
    let l = loaded_at c.args.text.now c.lay_out-p.result c.load.new.image c.load.new.numbers c.in_ok-c.c c.lay_out-p.ensures (c.in_ok-c.ensures.answered refl) in
    let asked = asks _ _ _ _ _ l.is in
    (l.ordered, asked.0)

pub returns : goal.returns
returns c =
    let image = c.load.new.image in
    let numbers = c.load.new.numbers in
    let at : Places = c.lay_out-p.result in
    let l = loaded_at c.args.text.now at image numbers c.in_ok-c.c c.lay_out-p.ensures (c.in_ok-c.ensures.answered refl) in
    fitting refl (subst (λ (q : Places). ReadyIs c.args.text.now (store_in q image
    numbers).instrs (store_in q image numbers).operands numbers (store_in q image numbers).blocks (Ok (record {
      blocks = c.in_ok-c.c.blocks;
      instrs = c.in_ok-c.c.instrs;
      samples = c.samples_wanted.result;
    }))) c.lay_out-p.ensures
    (may_start _ _ _ _ _ l.is c.first_fault.result c.first_fault.ensures c.samples_wanted.result
    (get_or (block_section at image) 0 0) c.in_default.is refl c.samples_wanted.ensures))
