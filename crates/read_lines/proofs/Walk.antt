-- Laws of a walk through a text by the reader: after n lines the reader stands at line n, and each line that it handed back was the line finder's.
-- Assumes nothing.
use mathlib.Core.Path.{◌≡◌, refl, ap, sym, ◌∙◌}
use mathlib.Core.Bool.{Bool, cond}
use mathlib.Core.List.{List}
use Prim.Native.Nat.{ℕ, ◌+◌, ◌<◌, ◌≤◌, zero-le}
use native.Mathlib.Omega.{arith}
use lib.ListN.{length, drop, length-drop}
use lib.Seq.{drop-drop}
use Rattle.text.specs.Bytes.{same_bytes, lines_of}
use Rattle.text_lines.specs.Parts.{line_at}
use Rattle.text_lines.proofs.Parts.{one_more_lem, lines_none}
use Rattle.text_reader.specs.Reading.{line_from, next_from}
use Rattle.text_reader.proofs.Reading.{next_is, line_there}
use Rattle.read_lines.proofs.Compare.{same_self}

pub record Walked (text : List ℕ) (at n agree : ℕ) : Type 0 where
  pub from : n ≤ at
  pub within : at ≤ length text
  pub stands : lines_of (drop at text) ≡ drop n (lines_of text)
  pub some : n ≤ length (lines_of text)
  pub all : agree ≡ n

module _ (text : List ℕ) where
  pub starts : Walked text 0 0 0
  starts = record { from = zero-le; within = zero-le; stands = refl; some = zero-le; all = refl }

  module _ (at n agree : ℕ) (w : Walked text at n agree) where
    -- the line read is line n
    pub agrees : (k : ℕ) (line other : List ℕ) → line ≡ line_from text at → other ≡ line_at text n → k ≡ cond (same_bytes line other) 1 0 → k ≡ 1
    agrees k line other e f g =
        let q : line ≡ other = e ∙ line_there text at n w.stands ∙ sym f in
        g ∙ ap (λ (l : List ℕ). cond (same_bytes l other) 1 0) q ∙ ap (λ (t : Bool). cond t 1 0) (same_self other)

    pub goes_on : (k at' : ℕ) → at < length text → k ≡ 1 → at' ≡ next_from text at → Walked text at' (n + 1) (agree + k)
    goes_on k at' h e f =
        let x = next_is text at w.within in
        let m = x.moves h in
        let u = w.from in
        let v = w.within in
        let c = w.some in
        record {
          from = omega arith;
          within = omega (arith, x.within);
          stands = ap (λ (a : ℕ). lines_of (drop a text)) f ∙ x.others ∙ ap (drop 1) w.stands ∙ drop-drop 1 n (lines_of text);
          some = omega (arith, one_more_lem text at (next_from text at) h x, ap length w.stands, length-drop n (lines_of text));
          all = omega (arith, w.all);
        }

    pub farther : (at' : ℕ) → at < length text → at' ≡ next_from text at → (at < at') × (at' ≤ length text)
    farther at' h f =
        let x = next_is text at w.within in
        let m = x.moves h in
        (omega arith, omega (arith, x.within))

    pub ends : length text ≤ at → agree ≡ length (lines_of text)
    ends h =
        let c = w.some in
        omega (arith, w.all, ap length (sym w.stands ∙ lines_none text at h), length-drop n (lines_of text))
