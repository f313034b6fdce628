-- What a reader that stands at a place of a text hands back, and where it then stands, by the definitions of crates text and lines.
use Rattle.std.specs.Prelude.{ℕ, zero, suc, ◌+◌, Bool, true, false, cond, ◌≡◌, List, [], ◌∷◌, map, ltb, length, take, drop}
use Rattle.std.specs.Borrow.{Bor}
use Rattle.text.specs.Bytes.{Line, lines_of}
use Rattle.text_lines.specs.Parts.{lf, first_part, contents, line_at}
use Rattle.text_reader.specs.declared.Reader.{Reader}

-- where the line at `at` ends: at its LF, or at the end of the text
unfoldable pub end_from : List ℕ → ℕ → ℕ
end_from text at = at + length (first_part lf (drop at text))

-- past the LF at e; the end of the text is passed by nothing
unfoldable pub past_lf : List ℕ → ℕ → ℕ
past_lf text e = cond (ltb e (length text)) (e + 1) e

-- the line at `at`, without its LF: line 0 of what is left
unfoldable pub line_from : List ℕ → ℕ → List ℕ
line_from text at = line_at (drop at text) 0

-- where the next line starts
unfoldable pub next_from : List ℕ → ℕ → ℕ
next_from text at = past_lf text (end_from text at)

abbrev none : List Line → Bool
none [] = true
none (l ∷ ls) = false

-- no line is left
unfoldable pub ended_at : List ℕ → ℕ → Bool
ended_at text at = none (lines_of (drop at text))

-- where a reader stands that has read n lines from the start
unfoldable pub place_after : List ℕ → ℕ → ℕ
place_after text zero = 0
place_after text (suc n) = next_from text (place_after text n)

-- the same text, one line on
abbrev pub moved : Reader → Reader
moved r = record { text = r.text; at = next_from r.text.now r.at }

-- the lines of a text, from the first on, without their LFs
unfoldable pub all_lines : List ℕ → List (List ℕ)
all_lines text = map contents (lines_of text)

-- the text has n lines; the first places of `after`, as many as there are lines and room for them, hold the text's lines, and past them it is as before
pub record ReadAll (text : List ℕ) (before after : List (Bor (List ℕ))) (n : ℕ) : Type 0 where
  pub count : n ≡ length (all_lines text)
  pub lines : map (λ x. x.now) (take n after) ≡ take (length before) (all_lines text)
  pub others : drop n after ≡ drop n before
