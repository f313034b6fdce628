use mathlib.Core.Path.{ap, sym, subst, ◌∙◌}
use mathlib.Core.List.{List}
use Prim.Native.Nat.{ℕ, ◌-◌, ◌<◌, ◌+◌}
use lib.ListN.{length}
use Rattle.text_reader.specs.Reading.{line_from, next_from, ended_at}
use Rattle.text_reader.specs.declared.Reader.{Reader}
use Rattle.text_reader.proofs.Reading.{Parts, ReadTo, one_read, nearer, all_read}
use Rattle.text_reader.proofs.read_all.Goals as goal

pub loop-r-smaller : goal.loop-r-smaller
loop-r-smaller c =
    let i = c.loop-r.invariant in
    let at = c.loop-r.r.at in
    let text = c.args.text.now in
    let t = ap (λ (s : List ℕ). ended_at s at) (sym i.0) ∙ sym c.at_end.ensures ∙ c.loop-r-test.true in
    let n = nearer text c.args.out.now c.loop-r.out at c.loop-r.n i.1 t in
    let a = ap (λ (r : Reader). r.at) c.next-line.ensures.1 ∙ ap (λ (s : List ℕ). next_from s at) i.0 in
    subst (λ (p : ℕ). length text - p < length text - at) (sym a) n

pub loop-r-preserved : goal.loop-r-preserved
loop-r-preserved c =
    let i = c.loop-r.invariant in
    let at = c.loop-r.r.at in
    let n = c.loop-r.n in
    let text = c.args.text.now in
    let before = c.args.out.now in
    let t = ap (λ (s : List ℕ). ended_at s at) (sym i.0) ∙ sym c.at_end.ensures ∙ c.loop-r-test.true in
    let e = c.next-line.ensures.0 ∙ ap (λ (s : List ℕ). line_from s at) i.0 in
    let a = ap (λ (r : Reader). r.at) c.next-line.ensures.1 ∙ ap (λ (s : List ℕ). next_from s at) i.0 in
    let one = one_read text before c.loop-r.out at n i.1 c.next-line.result t e in (
      ap (λ (r : Reader). r.text.now) c.next-line.ensures.1 ∙ i.0,
      subst (λ (p : ℕ). ReadTo text before c.put.new.s p (n + 1)) (sym a)
          (subst (λ (out : Parts). ReadTo text before out (next_from text at) (n + 1)) (sym c.put.ensures) one),
    )

pub returns : goal.returns
returns c =
    let i = c.loop-r.invariant in
    let at = c.loop-r.r.at in
    let t = ap (λ (s : List ℕ). ended_at s at) (sym i.0) ∙ sym c.at_end.ensures ∙ c.loop-r-test.false in
    all_read c.args.text.now c.args.out.now c.loop-r.out at c.loop-r.n i.1 t
