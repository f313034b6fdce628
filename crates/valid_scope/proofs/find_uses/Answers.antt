use native.Mathlib.Omega.{arith}
use Rattle.types_rows.specs.Read.{tab}
use Rattle.image.specs.Sections.{part}
use Rattle.valid_scope.specs.variables.Free.{free_in}
use Rattle.valid_scope.specs.Scoped.{row_type}
use Rattle.valid_scope.proofs.Rows.{top_le}
use Rattle.valid_scope.proofs.Bounds.{within_more, within_small}
use Rattle.valid_scope.proofs.Sections.{row_out, row_scoped}
use Rattle.valid_scope.proofs.find_uses.Goals as goal

pub mark-requires : goal.mark-requires
mark-requires c =
    let a = c.args in
    let τ = tab (part a.p.rows a.p.blocks a.image.now) (part a.p.parts a.p.operands a.image.now) in
    let h = top_le (λ j. free_in j (row_type τ a.r)) 64 in
    let e = c.fill_uses-top.ensures.0 in
    omega arith

pub returns : goal.returns
unfolding part
returns c =
    let h = c.requires in
    let f = c.fill_uses-top.ensures in (
      row_scoped _ h.0.uses h.0.tops (omega (arith, h.0)) f.2 _ h.1.uses h.1.tops _ _ h.2.checked h.3
          c.row_respected-respected.ensures f.0 (search) f.1,
      within_small _ _ _ _ h.2.checked h.3.free h.2.within _ _ h.2.few
          f.0 (search),
      within_more _ _ _ _ h.2.checked h.3.free h.2.within _ _ f.0 (search),
      row_out _ h.0.uses
          h.0.tops (omega (arith, h.0)) f.2 _ h.1.uses h.1.tops,
    )
