-- The fields of a line, and the place of the first among the forms of crate text.
use Rattle.std.specs.Prelude.{ℕ, zero, suc, cond, List, [], ◌∷◌}
use Rattle.std.proofs.Math.Option.{none}
use Rattle.text.specs.Bytes.{bytes, same_bytes}
use Rattle.text.specs.Grammar.{Named, Form, forms}

-- the place of the first form of that name; their count where there is none
unfoldable pub place_of : List Named → List ℕ → ℕ
place_of [] f = 0
place_of (n ∷ ns) f = cond (same_bytes (bytes n.name) f) 0 (suc (place_of ns f))

-- I 0, N 1, .. unpack 35; 36 for any other field
unfoldable pub name_code : List ℕ → ℕ
name_code f = place_of forms f

-- how the form at that place reads the other fields
unfoldable pub form_at : List Named → ℕ → Form
form_at [] k fs = none
form_at (n ∷ ns) zero fs = n.fields fs
form_at (n ∷ ns) (suc k) fs = form_at ns k fs
