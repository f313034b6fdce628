-- The state that the run program lends: as many words as the limits allow, each the integer 0, and none in use.
use Rattle.std.specs.Prelude.{ℕ, replicate}
use Rattle.syntax.specs.Syntax.{register_count}
use Rattle.exec.specs.Machine.{Memory, int_kind, State, stack_limit, heap_limit}

-- n words, each the integer 0
abbrev pub zeros : ℕ → Memory
zeros n = record { kinds = replicate n int_kind; numbers = replicate n 0 }

-- the state before a start
unfoldable pub fresh : State
fresh =
    record {
      registers = zeros register_count;
      stack = zeros stack_limit;
      heap = zeros heap_limit;
      depth = 0;
      used = 0;
      position = 0;
    }
