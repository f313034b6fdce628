use mathlib.Core.Path.{◌≡◌, refl, ap, sym, subst, ◌∙◌}
use mathlib.Core.Bool.{true, not}
use mathlib.Core.List.{List}
use Prim.Native.Nat.{ℕ, ◌+◌, ◌-◌, ◌<◌, zero-le}
use native.Mathlib.Omega.{arith}
use lib.ListN.{length, take, drop}
use borrow.Author.Tests.{not-false}
use Rattle.image.specs.Sections.{Ordered}
use Rattle.text_decode.specs.store.Store.{Store, store_in, stored, RoomFor}
use Rattle.text_decode.specs.store.Lines.{LineIs, NoForm}
use Rattle.text_decode.specs.Decoded.{fits, ReadIs}
use Rattle.text_decode.proofs.AnswerLaws.{fitting, unfitting, last_fits}
use Rattle.text_decode.proofs.LoopLaws.{line_short, Going, started, read_long, at_end, at_unended, at_none, at_fault, turned, line_end, line_part, end_before, end_inside, line_as, none_as, ends_there, open_end, no_room}
use Rattle.text_decode.proofs.TextImage.{ordered_in, stored_as, as_long_in, as_long_still}
use Rattle.text_decode.proofs.read_text.Goals as goal

pub returns-then-text-gt65536 : goal.returns-then-text-gt65536
returns-then-text-gt65536 c = fitting (ap fits c.faulty.ensures) (read_long _ _ (search) _ (search))

pub loop-at-init : goal.loop-at-init
loop-at-init c = (started _ _ (search) _ (search), refl, refl, zero-le)

pub has_plenty-plenty-requires : goal.has_plenty-plenty-requires
has_plenty-plenty-requires c = (length c.args.image.now, ordered_in _ c.args.image.now c.args.image.now c.lay_out-p.ensures refl)

pub has_room-requires : goal.has_room-requires
has_room-requires c =
    let order_of : Ordered c.lay_out-p.result (length c.loop-at.image) = ordered_in c.lay_out-p.result c.args.image.now c.loop-at.image c.lay_out-p.ensures c.loop-at.invariant.1 in
    ((length c.loop-at.image, order_of), search, λ w l ns o e. c.has_plenty-plenty.ensures w l ns o (e ∙ c.loop-at.invariant.2))

pub returns-then-not-has_room : goal.returns-then-not-has_room
returns-then-not-has_room c =
    let order_of : Ordered c.lay_out-p.result (length c.loop-at.image) = ordered_in c.lay_out-p.result c.args.image.now c.loop-at.image c.lay_out-p.ensures c.loop-at.invariant.1 in
    let h : not c.has_room.result ≡ true = search in
    unfitting refl (no_room _ _ _ _ (search) (as_long_in _ c.args.image.now c.loop-at.image c.lay_out-p.ensures c.loop-at.invariant.1 _ c.loop-at.numbers c.loop-at.invariant.2) (c.has_room.ensures _ _ order_of refl).1 h)

pub read_line-requires : goal.read_line-requires
read_line-requires c =
    let order_of : Ordered c.lay_out-p.result (length c.loop-at.image) = ordered_in c.lay_out-p.result c.args.image.now c.loop-at.image c.lay_out-p.ensures c.loop-at.invariant.1 in
    (order_of, (c.has_room.ensures _ _ order_of refl).0 (not-false _ (search)), search, line_part _ _ _ c.last_end-end.ensures (search))

pub returns-in_default : goal.returns-in_default
returns-in_default c =
    let inside : c.loop-at.at < c.last_end-end.result = search in
    let size_of : length c.read_line.new.image ≡ length c.args.image.now = c.read_line.ensures.1.size ∙ c.loop-at.invariant.1 in
    let text : List ℕ = c.args.text.now in
    let before : Store = store_in c.lay_out-p.result c.loop-at.image c.loop-at.numbers in
    let after : Store = store_in c.lay_out-p.result c.read_line.new.image c.read_line.new.numbers in
    let its_end : ℕ = line_end text c.loop-at.at c.last_end-end.result c.last_end-end.ensures inside in
    let its_end_inside : its_end < length text = end_inside text c.loop-at.at c.last_end-end.result c.last_end-end.ensures inside in
    let starts_inside : c.loop-at.at < length text = omega (arith, its_end_inside) in
    let is_none : NoForm (take (its_end - c.loop-at.at) (drop c.loop-at.at text)) c.loop-at.u before after = none_as text c.loop-at.at c.last_end-end.result c.last_end-end.ensures inside c.loop-at.u before after c.in_default.ensures.0 in
    fitting (ap fits c.faulty-in_default.ensures) (subst (λ (σ : Store). ReadIs text σ c.faulty-in_default.result) (stored_as c.lay_out-p.result c.args.image.now c.read_line.new.image c.lay_out-p.ensures size_of c.read_line.new.numbers)
    (at_none text c.loop-at.at c.loop-at.line c.loop-at.place c.loop-at.u before c.loop-at.invariant.0 starts_inside its_end refl its_end_inside after is_none c.faulty-in_default.result c.faulty-in_default.ensures))

pub returns-in-Some-line_fault : goal.returns-in-Some-line_fault
returns-in-Some-line_fault c =
    let inside : c.loop-at.at < c.last_end-end.result = search in
    let size_of : length c.read_line.new.image ≡ length c.args.image.now = c.read_line.ensures.1.size ∙ c.loop-at.invariant.1 in
    let text : List ℕ = c.args.text.now in
    let before : Store = store_in c.lay_out-p.result c.loop-at.image c.loop-at.numbers in
    let after : Store = store_in c.lay_out-p.result c.read_line.new.image c.read_line.new.numbers in
    let its_end : ℕ = line_end text c.loop-at.at c.last_end-end.result c.last_end-end.ensures inside in
    let its_end_inside : its_end < length text = end_inside text c.loop-at.at c.last_end-end.result c.last_end-end.ensures inside in
    let starts_inside : c.loop-at.at < length text = omega (arith, its_end_inside) in
    let line_is : LineIs (take (its_end - c.loop-at.at) (drop c.loop-at.at text)) c.loop-at.u before after c.in-Some.x.line = line_as text c.loop-at.at c.last_end-end.result c.last_end-end.ensures inside c.loop-at.u before after c.in-Some.x c.in-Some.ensures.0 in
    let r = c.faulty-in-Some-line_fault in
    fitting (ap fits r.ensures) (subst (λ (σ : Store). ReadIs text σ r.result) (stored_as c.lay_out-p.result c.args.image.now c.read_line.new.image c.lay_out-p.ensures size_of c.read_line.new.numbers)
    (at_fault text c.loop-at.at c.loop-at.line c.loop-at.place c.loop-at.u before c.loop-at.invariant.0 starts_inside its_end refl its_end_inside after c.in-Some.x.line line_is c.in-Some-line_fault.f (sym c.line_fault.ensures ∙ c.in-Some-line_fault.is) r.result r.ensures))

pub used_after-u-requires : goal.used_after-u-requires
used_after-u-requires c =
    let q = line_short c.args.text.now c.loop-at.at in
    let i = c.in-Some.ensures.0.is in
    (c.loop-at.invariant.0.few, i.few, omega (arith, i.carried, c.loop-at.invariant.0.short))

pub overflow_add-at : goal.overflow_add-at
overflow_add-at c =
    let inside : c.loop-at.at < c.last_end-end.result = search in
    let text : List ℕ = c.args.text.now in
    let before : Store = store_in c.lay_out-p.result c.loop-at.image c.loop-at.numbers in
    let after : Store = store_in c.lay_out-p.result c.read_line.new.image c.read_line.new.numbers in
    let its_end_inside = end_inside text c.loop-at.at c.last_end-end.result c.last_end-end.ensures inside in
    let e = ends_there text c.loop-at.at c.last_end-end.result c.last_end-end.ensures inside c.loop-at.u before after c.in-Some.x c.in-Some.ensures.0 in
    omega (arith, its_end_inside, c.loop-at.invariant.0.short)

pub overflow_add-at-in-loop-at : goal.overflow_add-at-in-loop-at
overflow_add-at-in-loop-at c =
    let inside : c.loop-at.at < c.last_end-end.result = search in
    let text : List ℕ = c.args.text.now in
    let before : Store = store_in c.lay_out-p.result c.loop-at.image c.loop-at.numbers in
    let after : Store = store_in c.lay_out-p.result c.read_line.new.image c.read_line.new.numbers in
    let its_end_inside = end_inside text c.loop-at.at c.last_end-end.result c.last_end-end.ensures inside in
    let e = ends_there text c.loop-at.at c.last_end-end.result c.last_end-end.ensures inside c.loop-at.u before after c.in-Some.x c.in-Some.ensures.0 in
    omega (arith, its_end_inside, c.loop-at.invariant.0.short)

pub loop-at-preserved : goal.loop-at-preserved
loop-at-preserved c =
    let order_of : Ordered c.lay_out-p.result (length c.loop-at.image) = ordered_in c.lay_out-p.result c.args.image.now c.loop-at.image c.lay_out-p.ensures c.loop-at.invariant.1 in
    let inside : c.loop-at.at < c.last_end-end.result = search in
    let roomy : RoomFor c.loop-at.u (store_in c.lay_out-p.result c.loop-at.image c.loop-at.numbers) = (c.has_room.ensures c.loop-at.image c.loop-at.numbers order_of refl).0 (not-false c.has_room.result (search)) in
    let size_of : length c.read_line.new.image ≡ length c.args.image.now = c.read_line.ensures.1.size ∙ c.loop-at.invariant.1 in
    let count_of : length c.read_line.new.numbers ≡ length c.args.numbers.now = c.read_line.auto.numbers ∙ c.loop-at.invariant.2 in
    let text : List ℕ = c.args.text.now in
    let before : Store = store_in c.lay_out-p.result c.loop-at.image c.loop-at.numbers in
    let after : Store = store_in c.lay_out-p.result c.read_line.new.image c.read_line.new.numbers in
    let its_end : ℕ = line_end text c.loop-at.at c.last_end-end.result c.last_end-end.ensures inside in
    let its_end_inside : its_end < length text = end_inside text c.loop-at.at c.last_end-end.result c.last_end-end.ensures inside in
    let starts_inside : c.loop-at.at < length text = omega (arith, its_end_inside) in
    let line_is : LineIs (take (its_end - c.loop-at.at) (drop c.loop-at.at text)) c.loop-at.u before after c.in-Some.x.line = line_as text c.loop-at.at c.last_end-end.result c.last_end-end.ensures inside c.loop-at.u before after c.in-Some.x c.in-Some.ensures.0 in
    let e : c.loop-at.at + (c.in-Some.x.next + 1) ≡ its_end + 1 = ends_there text c.loop-at.at c.last_end-end.result c.last_end-end.ensures inside c.loop-at.u before after c.in-Some.x c.in-Some.ensures.0 in
    let goes_on : Going text (its_end + 1) (c.loop-at.line + 1) c.place_behind-place.result c.used_after-u.result after = turned text c.loop-at.at c.loop-at.line c.loop-at.place c.loop-at.u before c.loop-at.invariant.0
    starts_inside its_end refl its_end_inside after roomy (as_long_still c.lay_out-p.result c.loop-at.image
    c.read_line.new.image c.loop-at.numbers c.read_line.new.numbers order_of
    c.read_line.ensures.1.size c.read_line.auto.numbers) c.in-Some.x.line line_is (sym c.line_fault.ensures ∙ c.in_default-line_fault.is) c.used_after-u.result c.used_after-u.ensures
    c.place_behind-place.result c.place_behind-place.ensures in
    let b = end_before _ _ _ c.last_end-end.ensures inside in
    (subst (λ (k : ℕ). Going text k (c.loop-at.line + 1) c.place_behind-place.result c.used_after-u.result after) (sym e) goes_on, size_of, count_of, omega arith)

pub returns-then-at-text : goal.returns-then-at-text
returns-then-at-text c =
    let same_of : store_in c.lay_out-p.result c.loop-at.image c.loop-at.numbers ≡ stored c.loop-at.image c.loop-at.numbers = stored_as c.lay_out-p.result c.args.image.now c.loop-at.image c.lay_out-p.ensures c.loop-at.invariant.1 c.loop-at.numbers in
    let text : List ℕ = c.args.text.now in
    let text = c.args.text.now in
    fitting (ap fits c.faulty-then-at-text.ensures) (subst (λ (σ : Store). ReadIs text σ c.faulty-then-at-text.result) same_of (at_unended _ _ _ _ _ _ c.loop-at.invariant.0 (search) _ refl (open_end _ _ _ c.last_end-end.ensures (search) (search)) _ c.faulty-then-at-text.ensures))

pub returns : goal.returns
returns c =
    let same_of : store_in c.lay_out-p.result c.loop-at.image c.loop-at.numbers ≡ stored c.loop-at.image c.loop-at.numbers = stored_as c.lay_out-p.result c.args.image.now c.loop-at.image c.lay_out-p.ensures c.loop-at.invariant.1 c.loop-at.numbers in
    let text : List ℕ = c.args.text.now in
    let text = c.args.text.now in
    fitting (last_fits c.loop-at.place c.loop-at.line c.loop-at.u _ c.end_of_text.ensures) (subst (λ (σ : Store). ReadIs text σ c.end_of_text.result) same_of (at_end _ _ _ _ _ _ c.loop-at.invariant.0 (search) _ c.end_of_text.ensures))
