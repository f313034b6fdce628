use native.Mathlib.Omega.{arith}
use Prim.Native.Nat.{◌-◌}
use mathlib.Core.Path.{◌∙◌, ap}
use Rattle.types_rows.specs.Read.{mean_v}
use Rattle.types_rows.specs.Environments.{read_in}
use Rattle.valid_typing.proofs.target.Registers.{lower_le, fits_none, fits_unknown, fits_type}
use Rattle.valid_typing.proofs.target.register_fits.Goals as goal

pub returns-then-x-eq0 : goal.returns-then-x-eq0
returns-then-x-eq0 c = fits_none _ _ _ _ _ _ c.if-x-eq0.true

pub returns-then-u-eq0 : goal.returns-then-u-eq0
returns-then-u-eq0 c = fits_unknown _ _ _ _ _ _ c.if-x-eq0.false (search)

pub row_of-requires : goal.row_of-requires
row_of-requires c =
    let k = lower_le c.args.h.row (c.args.x - 1) in
    (c.requires.0.ready.few, omega (arith, c.link.ensures, c.requires.1.link_in))

pub same_rows-requires : goal.same_rows-requires
same_rows-requires c = (c.requires.0, c.requires.1.small, c.requires.3)

pub returns : goal.returns
returns c =
    fits_type _ _ _ _ _ _ _ c.if-x-eq0.false (search) (ap (read_in _ _) (c.row_of.ensures.0 _ _ c.requires.0.ready ∙ ap (mean_v _) c.link.ensures)) c.same_rows.ensures
