-- Which lines tell a stop of the run program, and which stop (document 02, point 1). The form is that of crate print (specs/Lines.antt);
-- `Tells` is what must be believed, and `stop_of` finds it (proofs/Stops.antt: `stop_exactly`).
use Rattle.std.specs.Prelude.{ℕ, ◌≡◌, Bool, true, false, ◌&&◌, ◌||◌, not, cond, List, [], ◌∷◌, eqb, leb, ltb}
use Rattle.std.proofs.Math.Option.{Option, none, some}
use Rattle.syntax.specs.Bits.{modulus}
use Rattle.syntax.specs.Partial.{chain, guarded}
use Rattle.text.specs.Bytes.{bytes, same_bytes, fields_of, number, literal}
use Rattle.exec.specs.Machine.{int_kind, code_kind, tuple_kind, height_kind, junk_kind}
use Rattle.exec.specs.Run.{Answer, refused, halted_after, paused_after, stack_full_after, heap_full_after, stuck_after}
use Rattle.print.specs.Lines.{parted, answer_fields}

-- "steps 0 to 1,000,000"
abbrev pub most_steps : ℕ
most_steps = 1000000

-- "r1's number of 32 signed bits, junk 0"
unfoldable pub word_fits : ℕ → ℕ → Bool
word_fits kind number = leb kind junk_kind && ltb number modulus && (not (eqb kind junk_kind) || eqb number 0)

-- the stops that a line may tell; a refusal is none
unfoldable pub permitted : Answer → Bool
permitted (refused n line) = false
permitted (halted_after steps kind number) = leb steps most_steps && word_fits kind number
permitted (paused_after steps) = leb steps most_steps
permitted (stack_full_after steps) = leb steps most_steps
permitted (heap_full_after steps) = leb steps most_steps
permitted (stuck_after steps) = leb steps most_steps

-- the bytes s, an LF behind them, are the line that the run program prints for the stop a
abbrev pub Tells : List ℕ → Answer → Type 0
Tells s a = (s ≡ parted (answer_fields a)) × (permitted a ≡ true)

-- ---- found by its fields
-- the kind of that name
unfoldable pub kind_of : List ℕ → Option ℕ
kind_of s =
    cond (same_bytes s (bytes "int")) (some int_kind)
    (cond (same_bytes s (bytes "code")) (some code_kind)
    (cond (same_bytes s (bytes "tuple")) (some tuple_kind)
    (cond (same_bytes s (bytes "height")) (some height_kind)
    (guarded (same_bytes s (bytes "junk")) junk_kind))))

-- the stop of that name, other than a halt
unfoldable pub plain_stop : List ℕ → ℕ → Option Answer
plain_stop s steps =
    cond (same_bytes s (bytes "paused")) (some (paused_after steps))
    (cond (same_bytes s (bytes "stack")) (some (stack_full_after steps))
    (cond (same_bytes s (bytes "heap")) (some (heap_full_after steps))
    (guarded (same_bytes s (bytes "stuck")) (stuck_after steps))))

-- a halt with a word of that kind and number
unfoldable pub halt_with : ℕ → ℕ → ℕ → Option Answer
halt_with steps kind number = guarded (word_fits kind number) (halted_after steps kind number)

-- a halt by its last three fields
unfoldable pub halt_of : List ℕ → List ℕ → List ℕ → Option Answer
halt_of n k m = chain (number 0 most_steps n) (λ steps. chain (kind_of k) (λ kind. chain (literal m) (λ bits. halt_with steps kind bits)))

-- a stop by its fields
unfoldable pub stop_in : List (List ℕ) → Option Answer
stop_in [] = none
stop_in (w ∷ []) = none
stop_in (w ∷ n ∷ []) = chain (number 0 most_steps n) (plain_stop w)
stop_in (w ∷ n ∷ k ∷ []) = none
stop_in (w ∷ n ∷ k ∷ m ∷ []) = cond (same_bytes w (bytes "halted")) (halt_of n k m) none
stop_in (w ∷ n ∷ k ∷ m ∷ f ∷ fs) = none

-- the stop that the bytes s tell
unfoldable pub stop_of : List ℕ → Option Answer
stop_of s = stop_in (fields_of s)
