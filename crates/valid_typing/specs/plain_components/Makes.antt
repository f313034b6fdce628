-- What a yes says.
use Rattle.std.specs.Prelude.{List, ◌≡◌}
use Rattle.syntax.specs.Syntax.{Kind, value, stack, Operand}
use Rattle.types.specs.Types.{Ty, tuple}
use Rattle.valid.specs.Program.{Program}
use Rattle.valid_context.specs.Told.{gives, told_of}
use Rattle.valid_typing.specs.components.Components.{components}

-- the operands have types, and u is the tuple of these
pub record Makes (P : Program) (Δ : List Kind) (g : Ty stack) (vs : List Operand) (u : Ty value) : Type 0 where
  pub parts : Ty stack
  pub told : told_of (components P Δ g vs) ≡ gives parts
  pub whole : u ≡ tuple parts
