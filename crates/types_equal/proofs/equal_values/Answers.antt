use Rattle.types_rows.specs.Read.{tab}
use Rattle.types_equal.proofs.Items.{spare_kept, length_first}
use Rattle.types_equal.proofs.Plain.{plain_context, link_few, tabled_plain, spare_plain, values_are}
use borrow.Author.Rules.{rules}
use Rattle.types_equal.proofs.equal_values.Goals as goal

pub eq_value-requires : goal.eq_value-requires
eq_value-requires c =
    let fw = c.requires.0 in
    let a = link_few (tab c.args.rows.now c.args.parts.now) c.args.rows.now c.args.n c.link_of-x.result c.args.l c.link_of-x.ensures in
    let b = link_few (tab c.args.rows.now c.args.parts.now) c.args.rows.now c.args.n c.link_of-y.result c.args.r c.link_of-y.ensures in
    rw (plain_context _ c.default.ensures) (
      tabled_plain (tab c.args.rows.now c.args.parts.now) c.args.rows.now c.args.n c.link_of-x.result
          c.link_of-y.result c.args.l c.args.r fw c.link_of-x.ensures c.link_of-y.ensures,
      search rules,
      spare_kept 0
          c.link_of-x.result c.link_of-y.result _ _ (spare_plain (tab c.args.rows.now c.args.parts.now) c.args.rows.now
          c.args.n c.link_of-x.result c.link_of-y.result c.args.l c.args.r fw c.link_of-x.ensures c.link_of-y.ensures)
          (length_first 1543 c.args.pending.now c.requires.1),
    )

pub returns : goal.returns
returns c = values_are _ _ _ _ _ _ _ c.link_of-x.ensures c.link_of-y.ensures (rw (plain_context _ c.default.ensures) at c.eq_value.ensures)
