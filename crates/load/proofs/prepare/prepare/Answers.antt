use native.Mathlib.Omega.{arith}
use Rattle.image.specs.Sections.{part, part_section}
use Rattle.load.proofs.prepare.Laws.{image_room, image_sizes, image_ordered, image_checked, image_prepared, image_kept}
use Rattle.load.proofs.prepare.prepare.Goals as goal

pub count_items-requires : goal.count_items-requires
unfolding part
count_items-requires c =
    let a = c.args in
    let h = c.requires.ordered in
    let e = c.put_two.ensures in
    (omega arith, image_room a.p a.image.now a.n h.0 h.2.rows c.put_two.new.rows e, (part_section a.p a.image.now, image_sizes a.p a.image.now a.n h.0 h.2.rows c.put_two.new.rows e c.requires.rows_clear.0))

pub find_all-requires : goal.find_all-requires
unfolding part
find_all-requires c =
    let a = c.args in
    let h = c.requires.ordered in
    let e = c.put_two.ensures in
    let f = c.count_items.ensures (part_section a.p a.image.now) (image_sizes a.p a.image.now a.n h.0 h.2.rows c.put_two.new.rows e c.requires.rows_clear.0) in (
      image_ordered a.p a.image.now a.n h.0 h.2.rows c.put_two.new.rows e c.count_items.new.rows c.count_items.auto.rows f,
      h.2.uses,
      h.2.tops,
      image_checked a.p a.image.now a.n h.0 h.2.rows c.put_two.new.rows e c.count_items.new.rows c.count_items.auto.rows f c.requires.rows_clear.0 c.requires.rows_clear.1,
    )

pub returns : goal.returns
unfolding part
returns c =
    let a = c.args in
    let h = c.requires.ordered in
    let e = c.put_two.ensures in
    let f = c.count_items.ensures (part_section a.p a.image.now) (image_sizes a.p a.image.now a.n h.0 h.2.rows c.put_two.new.rows e c.requires.rows_clear.0) in
    let q = c.find_all.ensures in (
      image_prepared a.p a.image.now a.n h.0 h.2.rows c.put_two.new.rows e c.count_items.new.rows c.count_items.auto.rows f c.find_all.new.image q.1 h.1 q.0,
      image_kept a.p a.image.now a.n h.0 h.2.rows c.put_two.new.rows e c.count_items.new.rows c.count_items.auto.rows f c.find_all.new.image q.1,
    )
