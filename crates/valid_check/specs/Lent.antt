-- Working memory that is lent for a check.
use Rattle.std.specs.Prelude.{ℕ, ◌≤◌, Bool, true, false, List, length}
use Rattle.std.proofs.Math.Option.{none}
use Rattle.valid.specs.Verdict.{Verdict, refused, check}

-- an image and its numbers have room for every text, and for its rows once more
abbrev pub Roomy : List ℕ → List ℕ → Type 0
Roomy image numbers = (161694 ≤ length image) × (16400 ≤ length numbers)

-- the verdict with working memory lent: check's if it is long enough, else 16, line 0
unfoldable pub check_in : Bool → List ℕ → Verdict
check_in true text = check text
check_in false text = refused (record { number = 16; line = 0; item = none })
