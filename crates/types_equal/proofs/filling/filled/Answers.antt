use native.Mathlib.Omega.{arith}
use lib.ListN.{length}
use Rattle.types_rows.specs.Read.{tab}
use Rattle.types_equal.proofs.Items.{spare_kept, length_first}
use Rattle.types_equal.proofs.filling.Fill.{tabled_args, spare_args, fill_types, code_form_lem, fill_left, fill_right, code_low, codes_of, closed_code}
use Rattle.types_equal.proofs.filling.filled.Goals as goal

pub returns-in_default : goal.returns-in_default
returns-in_default c =
    fill_types _ _ _ c.args.envs.now c.args.c.env _ _ _ _ c.requires.1 c.link_of-l.ensures c.link_of-r.ensures (fill_left _ _ c.read_value.ensures.0 _ c.args.envs.now c.args.c.env _ (search) c.in_default.not-Code)

pub returns-in_default-read_value : goal.returns-in_default-read_value
returns-in_default-read_value c =
    fill_types _ _ _ c.args.envs.now c.args.c.env _ _ _ _ c.requires.1 c.link_of-l.ensures c.link_of-r.ensures
    (fill_right _ _ c.read_value-2.ensures.0 _ c.args.envs.now c.args.c.env _ c.in-Code.x c.in-Code.p
    (code_form_lem _ _ c.read_value.ensures.0 c.in-Code.is) c.read_value-2.ensures.1 c.in_default-read_value.not-Code)

pub fill_named-requires : goal.fill_named-requires
fill_named-requires c =
    let f = code_low _ c.in-Code.is c.read_value.ensures.1 in
    let g = code_low _ c.in-Code-read_value.is c.read_value-2.ensures.1 in (
      tabled_args _ _ _ _ _ _ _ c.requires.0.rows c.requires.1 c.link_of-l.ensures c.link_of-r.ensures,
      record { few = let v = c.requires.0.few in omega arith; env = let v = c.requires.0.env in omega arith; formed = closed_code _ c.args.args.now _ _ _ c.in-Code.x c.in-Code.p c.link_of-l.ensures (code_form_lem _ _ c.read_value.ensures.0 c.in-Code.is) c.requires.2 },
      record { few = c.requires.0.few; left = c.requires.0.env; right = omega arith },
      record {
        left_stack = f.0;
        left_file = f.1;
        right_stack = g.0;
        right_file = g.1;
      },
      spare_kept (length c.args.args.now) _ _ _ _
          (spare_args (tab c.args.rows.now c.args.parts.now) _ c.args.args.now _ _ _ _ c.requires.0.rows c.link_of-l.ensures
          c.link_of-r.ensures) (length_first 1543 c.args.pending.now c.requires.3),
    )

pub returns : goal.returns
returns c =
    fill_types _ _ _ c.args.envs.now c.args.c.env _ _ _ _ c.requires.1 c.link_of-l.ensures c.link_of-r.ensures (codes_of _ _ c.args.envs.now c.args.c.env _ _ c.in-Code.x
    c.in-Code.p c.in-Code-read_value.y c.in-Code-read_value.q c.requires.0.env (code_form_lem _ _ c.read_value.ensures.0 c.in-Code.is)
    (code_form_lem _ _ c.read_value-2.ensures.0 c.in-Code-read_value.is) c.fill_named.ensures)
