use native.Mathlib.Omega.{arith}
use mathlib.Core.Path.{◌∙◌, sym}
use Rattle.types_rows.specs.Environments.{read_in}
use Rattle.types_rows.specs.Read.{mean_s}
use Rattle.valid_typing.proofs.Forms.{link_fits, is_pointer, not_pointer, pointer_low}
use Rattle.valid_judge.proofs.stack.Laws.{point_same, point_other}
use Rattle.valid_judge.proofs.stack.points.Goals as goal

pub read_value-v-requires : goal.read_value-v-requires
read_value-v-requires c =
    let h = link_fits c.args.n c.args.t.row c.link.result c.link.ensures in
    (omega (arith, c.requires.0.ready.few), omega arith)

pub returns-in_default : goal.returns-in_default
returns-in_default c =
    point_other _ _ (not_pointer _ _ _ _ _ c.link.ensures c.read_value-v.ensures.0 c.args.envs.now c.args.t.env c.in_default.not-Pointer)

pub same_items-requires : goal.same_items-requires
same_items-requires c =
    let h = link_fits c.args.n c.args.t.row c.link.result c.link.ensures in
    let l = pointer_low c.link.result c.in-Pointer.is c.read_value-v.ensures.1 in
    (c.requires.0, omega arith, c.requires.3, c.requires.1)

pub returns : goal.returns
returns c =
    c.same_items.ensures
    ∙ sym (point_same _ (read_in c.args.envs.now c.args.t.env (mean_s _ c.in-Pointer.x)) _ (is_pointer _ _ _ _ _ c.link.ensures c.read_value-v.ensures.0 c.args.envs.now c.args.t.env c.in-Pointer.is))
