use mathlib.Core.Path.{ap, ◌∙◌}
use Prim.Native.Nat.{ℕ}
use Rattle.syntax.specs.Syntax.{value}
use Rattle.types.specs.Rows.{type_at, types_of}
use Rattle.tables.specs.Tables.{rows_in}
use Rattle.types_rows.specs.Read.{tab}
use Rattle.valid.specs.Program.{block_of}
use Rattle.valid.specs.Rules.{declared}
use Rattle.image.specs.Sections.{part, row_section, part_section}
use Rattle.exec_ready.proofs.samples_wanted.Goals as goal

pub returns : goal.returns
unfolding part
returns c =
    let a = c.args in
    λ xs. c.sample_count.ensures xs ∙ ap (λ (c : ℕ). declared (block_of (type_at value (types_of (rows_in (tab (row_section a.p a.image.now) (part_section a.p a.image.now)) a.n)) c) xs).regs) c.at-c.ensures.0
