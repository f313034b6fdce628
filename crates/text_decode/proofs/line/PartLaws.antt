-- Laws of the loop that reads a line's fields as rows or registers into a table.
-- Assumes nothing.
use mathlib.Core.Path.{◌≡◌, refl, ap₂, ◌∙◌}
use mathlib.Core.Bool.{Bool}
use mathlib.Core.List.{List, [], ◌∷◌, ◌++◌}
use Rattle.std.specs.Prelude.{Some, None}
use mathlib.Core.Option.{none, some}
use Prim.Native.Nat.{ℕ, ◌+◌, ◌-◌, ◌<◌, ◌≤◌, zero-le}
use native.Mathlib.Omega.{arith}
use native.Mathlib.Nat.{le_refl, le-add_right}
use lib.ListN.{length, take, drop, set, length-set}
use lib.Seq.{take-set-le, get_or-set_same}
use Rattle.tables.specs.Tables.{span}
use Rattle.tables.proofs.Spans.{span_same, span_snoc}
use Rattle.text_lines.specs.Parts.{first_part}
use Rattle.text_decode.specs.line.Fields.{fields_from, part_number}
use Rattle.text_decode.specs.line.Answers.{PartsRead}
use Rattle.text_decode.proofs.line.Walk.{Walked, walk_start, walk_on, walk_bad, walk_many, walk_end, fields_past, fields_next}

-- n fields are read, and what is left starts at i
pub record PartsGo (rest : List ℕ) (at : ℕ) (known : Bool) (most : ℕ) (before : List ℕ) (p : ℕ) (parts : List ℕ) (i n : ℕ) : Type 0 where
  pub few : n ≤ most
  pub as_long : length parts ≡ length before
  pub kept : take p parts ≡ take p before
  pub walked : Walked (part_number known) (fields_from rest at) (fields_from rest i) n (span parts p n)

module _ (rest : List ℕ) (at : ℕ) (known : Bool) (most : ℕ) (before : List ℕ) (p : ℕ) where
  pub parts_start : PartsGo rest at known most before p before at 0
  unfolding span
  parts_start = record { few = zero-le; as_long = refl; kept = refl; walked = walk_start (part_number known) (fields_from rest at) }

  module _ (parts : List ℕ) (i n : ℕ) (g : PartsGo rest at known most before p parts i n) where
    pub parts_end : length rest < i → (z : ℕ) → PartsRead (fields_from rest at) known most p before parts (Some (record { count = n; args = 0; next = z }))
    parts_end h z = record {
      kept = g.kept;
      read = record { few = g.few; says = walk_end (part_number known) (fields_from rest at) n (span parts p n) most (rw (← (fields_past rest i h)) g.walked) g.few };
    }

    module _ (l : i ≤ length rest) (e : ℕ) (is : e ≡ i + length (first_part 44 (drop i rest))) where
      next : Walked (part_number known) (fields_from rest at) (take (e - i) (drop i rest) ∷ fields_from rest (e + 1)) n (span parts p n)
      next = rw (fields_next rest i e is l) at g.walked

      pub parts_bad : part_number known (take (e - i) (drop i rest)) ≡ none → PartsRead (fields_from rest at) known most p before parts None
      parts_bad b = record {
        kept = g.kept;
        read = walk_bad (part_number known) (fields_from rest at) (fields_from rest (e + 1)) n (span parts p n) most (take (e - i) (drop i rest)) next b;
      }

      pub parts_on : (v : ℕ) → part_number known (take (e - i) (drop i rest)) ≡ some v → n < most → p + n < length parts → PartsGo rest at known most before p (set parts (p + n) v) (e + 1) (n + 1)
      parts_on v b m h =
          let here : span (set parts (p + n) v) p (n + 1) ≡ span parts p n ++ (v ∷ []) = span_snoc (set parts (p + n) v) p n
          ∙ ap₂ (λ (xs : List ℕ) (x : ℕ). xs ++ (x ∷ [])) (span_same (p + n) (set parts (p + n) v) parts p n (le_refl (p + n))
          (take-set-le (p + n) parts (p + n) v (le_refl (p + n)))) (get_or-set_same parts (p + n) v 0 h) in
          record {
            few = omega arith;
            as_long = length-set parts (p + n) v ∙ g.as_long;
            kept = take-set-le p parts (p + n) v (le-add_right p n) ∙ g.kept;
            walked = rw here (walk_on (part_number known) (fields_from rest at) (fields_from rest (e + 1)) n (span parts p n) (take (e - i) (drop i rest)) v next b);
          }

    pub parts_many : i ≤ length rest → n ≡ most → PartsRead (fields_from rest at) known most p before parts None
    parts_many l m = record {
      kept = g.kept;
      read = walk_many (part_number known) (fields_from rest at) (fields_from rest (i + length (first_part 44 (drop i rest)) + 1)) n (span parts p n) most (take (i + length (first_part 44 (drop i rest)) - i) (drop i rest)) (next l (i + length (first_part 44 (drop i rest))) refl) (omega arith);
    }
