use native.Mathlib.Omega.{arith}
use mathlib.Core.Path.{◌≡◌, refl, sym, subst, ◌∙◌}
use mathlib.Core.List.{[]}
use Rattle.valid_context.specs.Context.{EnvsIn}
use Prim.Native.Nat.{ℕ, ◌+◌}
use Rattle.types.specs.Types.{items}
use Rattle.image.specs.Sections.{part, shared_section, slot_section}
use Rattle.types_rows.specs.Read.{mean_s}
use Rattle.types_rows.proofs.Bridge.{counted_to}
use Rattle.valid_typing.specs.Image.{row_table}
use Rattle.valid_pass_three.proofs.body.Flat.{small_vars}
use Rattle.valid_pass_three.proofs.body.Registers.{entered}
use Rattle.valid_pass_three.proofs.body.code_block.Goals as goal

pub enter-requires : goal.enter-requires
unfolding part
enter-requires c =
    let q = c.requires in
    (q.0.tables.ready, record { some = q.3.some; row = omega (arith, q.3.row); start = q.3.start }, q.2.registers)

pub flatten-requires : goal.flatten-requires
unfolding part
flatten-requires c =
    let q = c.requires in
    let t = q.0.tables in (
      t.ready,
      record {
        row = omega (arith, q.3.row, q.3.below);
        room = omega (arith, q.3.few, q.2.items);
        vars = small_vars (shared_section c.args.p c.args.image.now) (slot_section c.args.p c.args.image.now) c.args.c.rows
            t.ready.int_row t.ready.junk_row t.small c.args.x.stack (omega (arith, q.3.row, q.3.below));
      },
      omega arith,
    )

pub item_count-depth-requires : goal.item_count-depth-requires
item_count-depth-requires c =
    let q = c.requires in
    let l = q.0.tables.ready.few in
    omega (arith, q.3.row, q.3.below)

pub body-requires : goal.body-requires
unfolding part
body-requires c =
    let count_is : c.item_count-depth.result ≡ items (mean_s (row_table c.args.p c.args.image.now) c.args.x.stack) = let q = c.requires in
    c.item_count-depth.ensures.0 ∙ counted_to (row_table c.args.p c.args.image.now) (c.args.c.rows + 2) q.0.tables.ready.counted c.args.x.stack (omega (arith, q.3.row, q.3.below)) in
    let q = c.requires in (
      q.0,
      q.1,
      record {
        registers = omega (arith, c.enter.auto.regs, q.2.registers);
        items = omega (arith, c.flatten.auto.sp, q.2.items);
        work = q.2.work;
        pending = q.2.pending;
      },
      record {
        hidden = refl;
        depth = omega (arith, count_is, q.3.few);
        regs_in = c.enter.ensures.1;
        sp_in = subst (λ (k : ℕ). EnvsIn 0 c.flatten.new.sp k) (sym count_is) c.flatten.ensures.1;
      },
    )

pub shape_of-regs : goal.shape_of-regs
shape_of-regs c = c.body.auto.regs ∙ c.enter.auto.regs

pub returns : goal.returns
unfolding part
returns c =
    let count_is : c.item_count-depth.result ≡ items (mean_s (row_table c.args.p c.args.image.now) c.args.x.stack) = let q = c.requires in
    c.item_count-depth.ensures.0 ∙ counted_to (row_table c.args.p c.args.image.now) (c.args.c.rows + 2) q.0.tables.ready.counted c.args.x.stack (omega (arith, q.3.row, q.3.below)) in
    let a = c.args in
    λ P g. entered P (shared_section a.p a.image.now) (slot_section a.p a.image.now) c.enter.new.regs
    c.flatten.new.sp a.c.rows a.x.link a.x.stack a.x.start c.item_count-depth.result c.letter_count-count.result
    _ _ _ (c.body.ensures P g) c.letter_count-count.ensures.0 c.enter.ensures.0 (c.flatten.ensures.0 []) count_is

pub shape_of-sp : goal.shape_of-sp
shape_of-sp c = (cc)
