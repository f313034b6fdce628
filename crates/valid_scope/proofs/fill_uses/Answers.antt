use mathlib.Core.Path.{◌≡◌, ◌∙◌, ap}
use Prim.Native.Nat.{◌-◌}
use native.Mathlib.Omega.{arith}
use Rattle.image.specs.Sections.{part, part_section}
use Rattle.image.proofs.Laws.{before}
use Rattle.valid_scope.specs.variables.Free.{top_of, free_in}
use Rattle.valid_scope.proofs.Laws.{use_now}
use Rattle.valid_scope.proofs.Bounds.{past_limit, top_bound}
use Rattle.valid_scope.proofs.Sections.{filling_first, filling_next, filling_last, filling_out}
use Rattle.valid_scope.proofs.fill_uses.Goals as goal

pub loop-k-init : goal.loop-k-init
loop-k-init c = filling_first _ (search)

pub loop-k-preserved : goal.loop-k-preserved
unfolding part
loop-k-preserved c =
    let a = c.args in
    let h = c.requires in
    let f = c.loop-k.invariant in
    let parts = part_section a.p a.image.now in
    let same : part_section a.p c.loop-k.image ≡ parts = before _ _ _ _ (omega (arith, h.0)) f.out _ _ h.0.parts (omega (arith, h.0)) in
    let e = use_now _ _ _ _ h.2.checked f.free (c.form_at-f.ensures.0 _) (rw same at c.use_in-u.ensures) in
    filling_next f (omega (arith, h.0)) h.1 c.limit_of-limit.ensures.1 (omega arith) e (search)

pub returns : goal.returns
unfolding part
returns c =
    let h = c.requires in
    let f = c.loop-k.invariant in
    let n = c.limit_of-limit.result in
    let e : c.loop-k.k ≡ n = omega arith in
    let x = c.form_at-f.result in
    let past = past_limit _ _ _ _ h.2.checked h.3 h.2.within x.kind x.first x.second n (c.form_at-f.ensures.0 _) c.limit_of-limit.ensures.0 in (
      f.highest ∙ ap (top_of (λ j. free_in j _)) e ∙ top_bound (λ j. free_in j _) n 64 (64 - n) (omega arith) past,
      filling_last f
          (omega (arith, h.0)) h.1 c.limit_of-limit.ensures.1 c.clear.new.uses e h.2.checked past c.clear.auto.uses
          c.clear.ensures,
      filling_out f (omega (arith, h.0)) h.1 c.limit_of-limit.ensures.1 c.clear.new.uses c.clear.auto.uses,
    )
