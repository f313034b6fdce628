-- A load's samples as text (document 01, "Loads worked through": "one per line, LF"): numbers as literals are, as bits.
use Prim.Native.Nat.{ℕ}
use mathlib.Core.Option.{Option, none, some}
use mathlib.Core.List.{List, [], _∷_}
use Rattle·syntax.specs.Partial.{chain}
use Rattle·text·specs.specs.Bytes.{Line, ended, unended, linesOf, literal}

-- a line's sample; a line without LF has none
unfoldable pub sample : Line → Option ℕ
sample (ended s) = literal s
sample (unended s) = none

-- the samples of all lines; none if a line has none
unfoldable pub samplesFrom : List Line → Option (List ℕ)
samplesFrom [] = some []
samplesFrom (l ∷ ls) = chain (sample l) (λ n. chain (samplesFrom ls) (λ ns. some (n ∷ ns)))

-- `none` for malformed samples
unfoldable pub samplesOf : List ℕ → Option (List ℕ)
samplesOf text = samplesFrom (linesOf text)
