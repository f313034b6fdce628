-- Tuples' starts as a table of marks, and good words by that table.
use Rattle.std.specs.Prelude.{◌≡◌, ◌<◌, ◌≤◌, ℕ, zero, suc, Option, Some, None, Bool, true, false, ◌&&◌, ◌||◌, List, [], ◌∷◌, leb, ltb, eqb, get_or}
use Rattle.exec.specs.Machine.{Word, stack_limit, heap_limit, int_kind, code_kind, tuple_kind, height_kind, junk_kind}
use Rattle.exec_machine.specs.declared.Place.{Place}
use Rattle.exec.specs.Run.{tuple_length}

-- true for a word that starts a tuple
unfoldable pub mark_of : ℕ → Bool
mark_of zero = true
mark_of (suc k) = false

-- the code's number of components is n, or it has none and n is more than a tuple has
abbrev pub Few : ℕ → Option ℕ → Type 0
Few n None = 16 < n
Few n (Some m) = (m ≡ n) × (m ≤ 16)

-- the components left of a tuple after the word, if k are left before it
unfoldable pub left_after : ℕ → Word → ℕ
left_after zero w = tuple_length w
left_after (suc k) w = k

-- the marks of words before which k components of a tuple are left
unfoldable pub marks_from : List Word → ℕ → List Bool
marks_from [] k = []
marks_from (w ∷ ws) k = mark_of k ∷ marks_from ws (left_after k w)

-- `good_word` and `good_words` of crate exec, by marks
unfoldable pub good_by : List Bool → Word → Bool
good_by marks w =
    eqb w.kind int_kind
    || eqb w.kind code_kind
    || (eqb w.kind tuple_kind && get_or marks w.number false)
    || (eqb w.kind height_kind && leb w.number 256)
    || (eqb w.kind junk_kind && eqb w.number 0)

-- every word is good
unfoldable pub all_good_by : List Bool → List Word → Bool
all_good_by marks [] = true
all_good_by marks (w ∷ ws) = good_by marks w && all_good_by marks ws

-- "depth and heap use within limits, .. position at an instruction" of that many
unfoldable pub in_limits : ℕ → Place → Bool
in_limits count p = leb p.depth stack_limit && leb p.used heap_limit && ltb p.position count
