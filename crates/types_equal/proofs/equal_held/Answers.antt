use Rattle.types_rows.specs.Read.{tab}
use Rattle.types_equal.proofs.Items.{spare_kept, length_first}
use Rattle.types_equal.proofs.Plain.{plain_context, link_few, tabled_plain, spare_plain, held_are}
use borrow.Author.Rules.{rules}
use Rattle.types_equal.proofs.equal_held.Goals as goal

pub eq_named-requires : goal.eq_named-requires
eq_named-requires c =
    let fw = c.requires.0 in
    let a = link_few (tab c.args.rows.now c.args.parts.now) c.args.rows.now c.args.n c.link_of-x.result c.args.l.row c.link_of-x.ensures in
    let b = link_few (tab c.args.rows.now c.args.parts.now) c.args.rows.now c.args.n c.link_of-y.result c.args.r.row c.link_of-y.ensures in
    rw (plain_context _ c.default.ensures) (
      tabled_plain (tab c.args.rows.now c.args.parts.now) c.args.rows.now c.args.n c.link_of-x.result
          c.link_of-y.result c.args.l.row c.args.r.row fw c.link_of-x.ensures c.link_of-y.ensures,
      search rules,
      record { few = c.requires.1; left = c.requires.2.0; right = c.requires.2.1 },
      spare_kept 0
          c.link_of-x.result c.link_of-y.result _ _ (spare_plain (tab c.args.rows.now c.args.parts.now) c.args.rows.now
          c.args.n c.link_of-x.result c.link_of-y.result c.args.l.row c.args.r.row fw c.link_of-x.ensures c.link_of-y.ensures)
          (length_first 1543 c.args.pending.now c.requires.3),
    )

pub returns : goal.returns
returns c =
    held_are _ _ _ c.args.envs.now _ _ c.args.l.env _ c.args.r.env _ c.requires.2.0 c.requires.2.1 c.link_of-x.ensures c.link_of-y.ensures (rw (plain_context _ c.default.ensures) at c.eq_named.ensures)
