-- What the library's calls answer, as numbers and lent words.
use Rattle.std.specs.Prelude.{ℕ, List}
use Rattle.std.proofs.Math.Option.{Option, none, some}
use Rattle.valid.specs.Verdict as valid
use Rattle.valid.specs.Verdict.{accepted}
use Rattle.exec.specs.Machine.{State}
use Rattle.exec.specs.Run as exec
use Rattle.exec.specs.Run.{refused, halted_after, paused_after, stack_full_after, heap_full_after, stuck_after}
use Rattle.exec_words.specs.memory.Lent.{lent}
use Rattle.stal_numbers.specs.declared.Verdict.{Verdict}
use Rattle.stal_numbers.specs.declared.Reply.{Reply}

-- ---- check
-- 0 and the counts of blocks and instructions, or the fault's number, its line and the first item that does not fit
abbrev pub verdict : ℕ → ℕ → ℕ → Verdict
verdict c a b = record { code = c; first = a; second = b }

-- an item's number; 100 for none
unfoldable pub item_number : Option ℕ → ℕ
item_number none = 100
item_number (some i) = i

-- the numbers of a verdict
unfoldable pub verdict_of : valid.Verdict → Verdict
verdict_of (accepted b i) = verdict 0 b i
verdict_of (valid.refused r) = verdict r.number r.line (item_number r.item)

-- ---- start and continue
-- 0 halted, the steps, r1's kind and number; 1 to 16 the fault's number, its line; 17 paused, 18 stack full, 19 heap full, 20 stuck, the steps
abbrev pub reply : ℕ → ℕ → ℕ → ℕ → Reply
reply c a k n = record { code = c; first = a; kind = k; number = n }

-- the numbers of an answer
unfoldable pub reply_of : exec.Answer → Reply
reply_of (refused n l) = reply n l 0 0
reply_of (halted_after s k n) = reply 0 s k n
reply_of (paused_after s) = reply 17 s 0 0
reply_of (stack_full_after s) = reply 18 s 0 0
reply_of (heap_full_after s) = reply 19 s 0 0
reply_of (stuck_after s) = reply 20 s 0 0

-- a call's numbers, and the lent state that it leaves
pub record Call : Type 0 where
  pub reply : Reply
  pub state : State

-- these numbers and this state
abbrev pub call : Reply → State → Call
call r σ = record { reply = r; state = σ }

-- an outcome's numbers and state
unfoldable pub call_of : exec.Outcome → Call
call_of o = call (reply_of o.answer) o.state

-- the lent state: kinds and numbers of registers, stack and heap; depth, heap use, position
abbrev pub state_in : List ℕ → List ℕ → List ℕ → List ℕ → List ℕ → List ℕ → ℕ → ℕ → ℕ → State
state_in rk rn sk sn hk hn d u p = record { registers = lent rk rn; stack = lent sk sn; heap = lent hk hn; depth = d; used = u; position = p }
