-- Where the parts and the lines of a text stand, by the definitions of crate text.
use Rattle.std.specs.Prelude.{ℕ, ◌+◌, ◌-◌, ◌<◌, ◌≤◌, ◌≡◌, List, [], ◌∷◌, map, length, get_or, drop}
use Prim.Native.Char.{code}
use Rattle.text.specs.Bytes.{split, Line, ended, unended, lines_of}

-- ---- parts
-- the first part; empty where there is none
abbrev pub first_of : List (List ℕ) → List ℕ
first_of [] = []
first_of (p ∷ ps) = p

-- the bytes up to the first byte c, or all of them
unfoldable pub first_part : ℕ → List ℕ → List ℕ
first_part c s = first_of (split c s)

-- ---- lines
-- the byte LF
abbrev pub lf : ℕ
lf = code "\n"

-- a line's bytes without its LF
unfoldable pub contents : Line → List ℕ
contents (ended s) = s
contents (unended s) = s

-- line n, counted from 0, without its LF; empty where there is none
unfoldable pub line_at : List ℕ → ℕ → List ℕ
line_at text n = get_or (map contents (lines_of text)) n []

-- r is past the line at `at`, and the next one starts there
pub record NextLine (text : List ℕ) (at r : ℕ) : Type 0 where
  pub within : r ≤ length text
  pub moves : at < length text → at < r
  pub others : lines_of (drop r text) ≡ drop 1 (lines_of (drop at text))

-- the text behind r has no LF, and r is behind one or 0
pub record LastEnd (text : List ℕ) (r : ℕ) : Type 0 where
  pub within : r ≤ length text
  pub ended : 0 < r → get_or text (r - 1) 0 ≡ lf
  pub rest : r + length (first_part lf (drop r text)) ≡ length text

-- ---- the first line and its fields
-- what parts the fields of a line
abbrev pub comma : ℕ
comma = code ","

-- the first line, without its LF
abbrev pub line_in : List ℕ → List ℕ
line_in s = first_part lf s

-- its field that starts at `at`
abbrev pub field_in : List ℕ → ℕ → List ℕ
field_in s at = first_part comma (drop at (line_in s))

-- `at` is a place of the first line or that of its LF, and there is one
pub record InLine (s : List ℕ) (at : ℕ) : Type 0 where
  pub within : at ≤ length (line_in s)
  pub ended : length (line_in s) < length s

-- the byte at `at` is a comma of the first line or its LF
pub record StopAt (s : List ℕ) (at : ℕ) : Type 0 where
  pub place : InLine s at
  pub stops : at < length (line_in s) → get_or s at 0 ≡ comma
