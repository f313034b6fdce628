-- What the private functions of this crate give: the pieces that the readers are made of.
use Rattle.std.specs.Prelude.{ℕ, suc, ◌+◌, ◌*◌, Bool, cond, ◌&&◌, ◌||◌, List, [], ◌∷◌, length, ◌==◌, nat_le}
use Prim.Native.Char.{code}
use Rattle.std.proofs.Math.Option.{Option}
use Rattle.syntax.specs.Partial.{chain, guarded}
use Rattle.text.specs.Bytes.{bytes}
use Rattle.text.specs.Grammar.{Named, each_letter}

-- ---- names
-- bytes as one number, the first the least; the 1 on top keeps their count
unfoldable pub packed : List ℕ → ℕ
packed [] = 1
packed (b ∷ s) = packed s * 256 + b

-- the names, each as one number
unfoldable pub keys_of : List Named → List ℕ
keys_of [] = []
keys_of (n ∷ ns) = packed (bytes n.name) ∷ keys_of ns

-- the place of the first number k; their count where there is none
unfoldable pub key_place : List ℕ → ℕ → ℕ
key_place [] k = 0
key_place (x ∷ xs) k = cond (x == k) 0 (suc (key_place xs k))

-- ---- letters
-- the byte is a letter
abbrev pub is_letter : ℕ → Bool
is_letter b = (b == (code "v")) || (b == (code "s"))

-- a letter, as a number
unfoldable pub letter_code : ℕ → ℕ
letter_code b = cond (b == (code "s")) 1 0

-- the number of letters of a field that is not `-`
unfoldable pub word_count : List ℕ → Option ℕ
word_count f = chain (each_letter f) (λ q. guarded (nat_le 1 (length q) && nat_le (length q) 8) (length q))
