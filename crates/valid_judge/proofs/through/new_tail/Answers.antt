use native.Mathlib.Omega.{arith}
use mathlib.Core.Path.{◌≡◌, refl, ◌∙◌}
use Rattle.std.specs.Prelude.{Err}
use Rattle.faults.specs.declared.Fault.TheVariants.{Unequal}
use Rattle.valid_context.specs.Context.{sp_of}
use Rattle.valid_context.proofs.Results.{number_told}
use Rattle.types.specs.Types.{items}
use Rattle.valid_typing.specs.Typing.{held_in}
use Rattle.valid_typing.proofs.Stacks.{count_is}
use Rattle.valid_judge.specs.through.Forms.{stack_in}
use Rattle.valid_judge.proofs.Results.{is_zero, not_zero, stopped, link_number, if_held}
use Rattle.valid_judge.proofs.heap.Laws.{given_same}
use Rattle.valid_judge.proofs.stack.Laws.{flat_read, count_read}
use Rattle.valid_judge.proofs.through.Laws.{tail_none, tail_told, tail_made, both_there}
use Rattle.valid_judge.proofs.through.new_tail.Goals as goal

pub returns-in_err-both : goal.returns-in_err-both
returns-in_err-both c =
    let a = c.args in
    let e : c.from_residual.result ≡ Err c.in_err-both.field-0.0 = grind arith in
    let y = sp_of (held_in a.rows.now a.parts.now a.n a.envs.now) a.work.now (items (stack_in a.rows.now a.parts.now a.envs.now a.x.env a.x.row)) in
    rw e (
      λ P Δ Γ s q l. tail_none _ _ _ _ _ c.row_item-y.result _ _ _ _ (c.row_item-y.ensures.0 _ _) (c.holds_or.ensures ∙ link_number 10 c.row_item-y.result) (c.holds_or-2.ensures ∙ link_number 8 a.u.link) c.both.ensures y
          (not_zero c.in_err-both.was) P Δ Γ s l ∙ stopped y c.in_err-both.was,
      tt,
    )

pub overflow_sub-u : goal.overflow_sub-u
overflow_sub-u c =
    omega (arith, both_there c.args.u.link 8 _ _ _ (c.holds_or-2.ensures ∙ link_number 8 c.args.u.link) c.both.ensures (is_zero c.in_ok-both.was))

pub set_item-requires : goal.set_item-requires
set_item-requires c =
    let k = count_is _ _ _ _ c.requires.0.ready c.requires.1.row in
    let f = c.requires.0.ready.few in
    (c.item_count-m.ensures.1, omega (arith, c.item_count-m.ensures.0, c.requires.1.room, k), omega (arith, c.requires.2.link_in), c.requires.2.link_env)

pub returns : goal.returns
returns c =
    let a = c.args in
    let fl = flat_read a.envs.now a.x.env _ _ _ (c.flatten.ensures.0 a.envs.now) in
    let ct = c.item_count-m.ensures.0 ∙ count_read _ _ _ _ c.requires.0.ready c.requires.1.row a.envs.now a.x.env in
    let ef = c.holds_or.ensures ∙ link_number 10 c.row_item-y.result in
    let eg = c.holds_or-2.ensures ∙ link_number 8 a.u.link in (
      λ P Δ Γ s e w. tail_told _ _ _ _ _ _ _ _ _ _ (c.row_item-y.ensures.0 _ _) ef eg
          c.both.ensures _ _ _ _ c.given_row.result c.set_item.result _ (is_zero c.in_ok-both.was) fl ct
          (c.set_item.ensures.0 _) c.points.ensures c.points.result refl P Δ Γ s (given_same _ _ _ _ P _ c.given_row.ensures.0 e c.requires.0.ready) w
          ∙ number_told _ c.holds_or-3.result c.holds_or-3.ensures,
      if_held _ c.points.result Unequal c.holds_or-3.result c.holds_or-3.ensures (λ t. tail_made _ _ _ a.t _ _ _ _ _ _ (c.row_item-y.ensures.0 _ _) ef eg
          c.both.ensures _ _ _ _ c.given_row.result c.set_item.result _ (is_zero c.in_ok-both.was) fl ct
          (c.set_item.ensures.0 _) c.points.ensures _ c.given_row.ensures.0 t),
    )
