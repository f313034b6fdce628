use mathlib.Core.Path.{◌≡◌, refl, ap, sym, subst, ◌∙◌}
use mathlib.Core.List.{List}
use Prim.Native.Nat.{ℕ}
use lib.ListN.{length}
use Rattle.std.specs.Prelude.{Result}
use Rattle.image.specs.declared.Counts.{Counts}
use Rattle.image.specs.declared.Places.{Places}
use Rattle.image.specs.Sections.{Ordered, use_section, top_section}
use Rattle.image.specs.Layout.{places_of}
use Rattle.text_decode.specs.declared.state.Unread.{Unread}
use Rattle.text_decode.specs.store.Store.{store_in, stored}
use Rattle.text_decode.proofs.AnswerLaws.{fitting, unfitting, failed}
use Rattle.load.specs.Loaded.{Space, LoadIs}
use Rattle.load.proofs.Laws.{seen, found_two, rows_seen, rows_small_in, loaded_in, few_ok, space_in, space_at}
use Rattle.load.proofs.load.Goals as goal

pub has_space-requires : goal.has_space-requires
has_space-requires c =
    let s = seen c.args.text.now c.lay_out-p.result c.read_text.new.image c.read_text.new.numbers c.in_ok-c.c c.lay_out-p.ensures (c.in_ok-c.ensures.answered refl) in
    ((length c.read_text.new.image, s.ordered), s.decoded.few_rows)

pub returns-then-not-has_space : goal.returns-then-not-has_space
returns-then-not-has_space c =
    let at : Places = c.lay_out-p.result in
    let s = seen c.args.text.now at c.read_text.new.image c.read_text.new.numbers c.in_ok-c.c c.lay_out-p.ensures (c.in_ok-c.ensures.answered refl) in
    unfitting refl (λ q. failed c.has_space.result c.has_space.ensures.1 (search)
    (space_at at c.args.image.now c.args.numbers.now c.in_ok-c.c.rows (subst (Ordered at)
    c.read_text.auto.image s.ordered) s.decoded.few_rows (subst (λ (x : Places). Space (store_in x c.args.image.now
    c.args.numbers.now) (length (use_section x c.args.image.now)) (length (top_section x c.args.image.now)))
    (sym (c.lay_out-p.ensures ∙ ap places_of c.read_text.auto.image)) q)))

pub second_pass-requires : goal.second_pass-requires
second_pass-requires c =
    let s = seen c.args.text.now c.lay_out-p.result c.read_text.new.image c.read_text.new.numbers c.in_ok-c.c c.lay_out-p.ensures (c.in_ok-c.ensures.answered refl) in
    let q = few_ok _ _ _ s.decoded s.clear in
    (s.ordered, q.0, q.1)

pub returns-in-Some : goal.returns-in-Some
returns-in-Some c =
    let s = seen c.args.text.now c.lay_out-p.result c.read_text.new.image c.read_text.new.numbers c.in_ok-c.c c.lay_out-p.ensures (c.in_ok-c.ensures.answered refl) in
    fitting refl (found_two _ _ _ s.decoded s.clear c.second_pass.result c.second_pass.ensures c.in-Some.f _ _ _ c.in-Some.is)

pub prepare-requires : goal.prepare-requires
prepare-requires c =
    let s = seen c.args.text.now c.lay_out-p.result c.read_text.new.image c.read_text.new.numbers c.in_ok-c.c c.lay_out-p.ensures (c.in_ok-c.ensures.answered refl) in
    let space = c.has_space.ensures.0 (search) in
    record {
      ordered = (s.ordered, s.decoded.few_rows, space);
      rows_clear = (
        rows_seen _ _ _ s.decoded s.clear c.second_pass.result c.second_pass.ensures c.in_default.is,
        rows_small_in _ _ _ s.decoded s.clear c.second_pass.result c.second_pass.ensures,
      );
    }

pub returns : goal.returns
returns c =
    let text : List ℕ = c.args.text.now in
    let image : List ℕ = c.read_text.new.image in
    let at : Places = c.lay_out-p.result in
    let s = seen text at image c.read_text.new.numbers c.in_ok-c.c c.lay_out-p.ensures (c.in_ok-c.ensures.answered refl) in
    let placed : (l ns : List ℕ) (r : Result Counts Unread) → length l ≡ length image → LoadIs text (store_in at l ns) (use_section at l) (top_section at l) r → LoadIs text (stored l ns) (use_section (places_of (length l)) l) (top_section (places_of (length l)) l) r = λ l ns r e x. subst (λ (q : Places). LoadIs text (store_in q l ns) (use_section q l) (top_section q l) r) (c.lay_out-p.ensures ∙ sym (ap places_of e)) x in
    let space = c.has_space.ensures.0 (search) in
    let k = c.prepare.ensures.1 in
    fitting refl (placed c.prepare.new.image c.read_text.new.numbers _ k.size (loaded_in text at image c.read_text.new.numbers
    c.in_ok-c.c s.decoded s.clear c.second_pass.result c.second_pass.ensures c.prepare.new.image c.prepare.ensures.0
    k c.in_default.is (space_in at c.prepare.new.image c.in_ok-c.c.rows (subst (Ordered at) (sym k.size) s.ordered) space)))
