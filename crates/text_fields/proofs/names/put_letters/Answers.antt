use Rattle.std.proofs.Common.{ℕ, ◌+◌, ◌-◌, List, map, reverse, get_or, take, set, sym, refl, ap, ◌∙◌, length-set}
use lib.Seq.{sets, take-length}
use Rattle.text_fields.specs.names.Pieces.{letter_code}
use Rattle.text_fields.proofs.names.CodeRows.{letter_stack, codes_one}
use Rattle.text_fields.proofs.names.Stores.{sets_out, sets_one}
use Rattle.text_fields.proofs.names.put_letters.Goals as goal

pub loop-i-init : goal.loop-i-init
loop-i-init c =
    (refl, ap (λ (s : List ℕ). sets c.args.out.now c.args.at (map letter_code (reverse s))) (take-length c.args.f.now))

pub returns-then-out-to : goal.returns-then-out-to
returns-then-out-to c =
    sym (sets_out _ _ (map letter_code (reverse (take c.loop-i.i c.args.f.now))) c.if-out-to.true) ∙ c.loop-i.invariant.1

pub loop-i-preserved : goal.loop-i-preserved
loop-i-preserved c =
    let f = c.args.f.now in
    let i = c.loop-i.i in
    let ls = map letter_code (reverse (take (i - 1) f)) in
    let v = c.from.ensures ∙ letter_stack (get_or f (i - 1) 0) in (
      simp length-set (search),
      ap (λ (x : ℕ). sets (set c.loop-i.out c.loop-i.to x) (c.loop-i.to + 1) ls) v
          ∙ sets_one c.loop-i.out c.loop-i.to (letter_code (get_or f (i - 1) 0)) ls
          ∙ ap (sets c.loop-i.out c.loop-i.to) (sym (codes_one f i c.loop-i-test.true c.loop-i.auto.i))
          ∙ c.loop-i.invariant.1,
    )
