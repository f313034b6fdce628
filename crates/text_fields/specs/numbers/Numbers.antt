-- What an answer of this crate stands for, and the pieces that the readers are made of.
use Rattle.std.specs.Prelude.{◌≡◌, ℕ, ◌+◌, ◌*◌, ◌-◌, Bool, false, ◌&&◌, List, [], ◌∷◌, length, ◌==◌, nat_le, Option as Maybe, Some, None}
use Prim.Native.Char.{code}
use Rattle.std.proofs.Math.Option.{Option, none, some}
use Rattle.syntax.specs.Partial.{guarded}
use Rattle.text.specs.Bytes.{is_digit, all_digits, spelled}
use Rattle.text_lines.specs.Parts.{field_in}
use Rattle.text_fields.specs.declared.numbers.Scan.{Scan}

-- what every contract of this crate says of an answer
abbrev pub number_of : Maybe ℕ → Option ℕ
number_of (Some n) = some n
number_of None = none

-- ---- the pieces
-- the number that the digits of n and then b spell, if b is a digit and the number is at most high
unfoldable pub with_digit : ℕ → ℕ → ℕ → Option ℕ
with_digit high n b = guarded (is_digit b && nat_le (n * 10 + (b - code "0")) high) (n * 10 + (b - code "0"))

-- the number that digits spell after those that spell n, if it is at most high
unfoldable pub up_to : ℕ → ℕ → List ℕ → Option ℕ
up_to high n s = guarded (all_digits s && nat_le (spelled n s) high) (spelled n s)

-- of several bytes the first is a zero
unfoldable pub zero_led : List ℕ → Bool
zero_led [] = false
zero_led (b ∷ []) = false
zero_led (b ∷ c ∷ s) = b == (code "0")

-- ---- a number read from a place of a line on
-- x is the number o, and where the field at `at` ends
pub record ScanRead (s : List ℕ) (at : ℕ) (o : Option ℕ) (x : Scan) : Type 0 where
  pub says : o ≡ some x.value
  pub ends : x.next ≡ at + length (field_in s at)

-- r says o, and where the field at `at` ends if o is a number
abbrev pub ScanIs : List ℕ → ℕ → Option ℕ → Maybe Scan → Type 0
ScanIs s at o None = o ≡ none
ScanIs s at o (Some x) = ScanRead s at o x
