-- A file's name is ASCII, and so it is text.
use Rattle.std.proofs.Common.{rules, ℕ, List, Result, Ok, Err, MatchResult, refl}
use Rattle.std.specs.Result.{IsOk}
use Rattle.std.specs.Str.{IsAscii, IsUtf8}
use Rattle.std.proofs.lemmas.Str.{IsUtf8-from_ascii}
use Rattle.std.proofs.lemmas.Str.Ascii.{IsAscii-nil, IsAscii-cons}
use Rattle.cases.proofs.try_file.Goals as goal

-- what is an error only where the bytes are no text is none where they are ASCII
ok_at_ascii : {T E : Type 0} (bs : List ℕ) (r : Result T E) (P : T → Type 0) (Q : E → Type 0) → MatchResult r P (λ e. (IsUtf8 bs → ⊥) × Q e) → IsAscii bs → IsOk r
ok_at_ascii bs (Ok x) P Q h a = refl
ok_at_ascii bs (Err e) P Q h a = absurd (h.0 (IsUtf8-from_ascii bs a))

pub unwrap-requires : goal.unwrap-requires
unwrap-requires g c = ok_at_ascii _ _ _ _ c.from_utf8.ensures.cases (search (rules, IsAscii-cons, IsAscii-nil))
