use mathlib.Core.Path.{refl}
use native.Mathlib.Omega.{arith}
use Rattle.types_rows.specs.Read.{tab}
use Rattle.types_equal.proofs.Items.{spare_kept, length_first}
use Rattle.types_equal.proofs.Plain.{plain_context, link_few}
use Rattle.types_equal.proofs.filling.Fill.{packs_are, tabled_one, spare_one}
use borrow.Author.Rules.{rules}
use Rattle.types_equal.proofs.filling.packs.Goals as goal

pub eq_named-requires : goal.eq_named-requires
eq_named-requires c =
    let z = c.current.ensures in
    let f = c.requires.0 in
    let a = link_few (tab c.args.rows.now c.args.parts.now) c.args.rows.now c.args.n c.link_of-l.result c.args.t c.link_of-l.ensures in
    let b = link_few (tab c.args.rows.now c.args.parts.now) c.args.rows.now c.args.n c.link_of-r.result c.args.x.row c.link_of-r.ensures in
    rw (plain_context _ c.default.ensures) (
      tabled_one _ _ _ c.args.a _ _ c.args.t c.args.x.row f.rows c.requires.1 refl c.link_of-l.ensures c.link_of-r.ensures,
      search rules,
      record { few = f.few; left = let v = f.few in omega arith; right = f.env },
      spare_kept 1 _ _ _ _ (spare_one (tab c.args.rows.now c.args.parts.now) c.args.n _ _ c.args.t c.args.x.row f.rows c.link_of-l.ensures c.link_of-r.ensures)
          (length_first 1543 c.args.pending.now c.requires.2),
    )

pub returns : goal.returns
returns c =
    packs_are _ _ c.args.envs.now _ _ _ _ _ _ _ _ c.requires.0.env refl c.requires.1 c.current.ensures c.link_of-l.ensures c.link_of-r.ensures (rw (plain_context _ c.default.ensures) at c.eq_named.ensures)
