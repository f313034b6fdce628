-- The tables of an image, as the loop over the lines of a text keeps them.
-- Assumes nothing.
use mathlib.Core.Path.{◌≡◌, ap, sym, subst, ◌∙◌}
use mathlib.Core.List.{List}
use Prim.Native.Nat.{ℕ}
use lib.ListN.{length}
use Rattle.image.specs.declared.Places.{Places}
use Rattle.image.specs.Sections.{Ordered}
use Rattle.image.specs.Layout.{places_of}
use Rattle.image.proofs.Laws.{ordered}
use Rattle.text_decode.specs.store.Store.{store_in, stored}
use Rattle.text_decode.proofs.state.Room.{lengths}
use Rattle.text_decode.proofs.LoopLaws.{AsLong}

module _ (p : Places) (l₀ l : List ℕ) (e : p ≡ places_of (length l₀)) (s : length l ≡ length l₀) where
  pub ordered_in : Ordered p (length l)
  ordered_in = rw (e, s) (ordered (length l₀))

  pub stored_as : (ns : List ℕ) → store_in p l ns ≡ stored l ns
  stored_as ns = ap (λ (q : Places). store_in q l ns) (e ∙ sym (ap places_of s))

  pub as_long_in : (ns₀ ns : List ℕ) → length ns ≡ length ns₀ → AsLong (store_in p l ns) (stored l₀ ns₀)
  as_long_in ns₀ ns n =
      let o₀ : Ordered p (length l₀) = rw e (ordered (length l₀)) in
      let w = lengths p l ordered_in in
      let w₀ = lengths p l₀ o₀ in
      rw (← e) (record {
        rows = w.rows ∙ sym w₀.rows;
        parts = w.parts ∙ sym w₀.parts;
        operands = w.operands ∙ sym w₀.operands;
        numbers = n;
        args = w.args ∙ sym w₀.args;
        instrs = w.instrs ∙ sym w₀.instrs;
        blocks = w.blocks ∙ sym w₀.blocks;
      })

-- tables in one image at the same places are as long as they were
pub as_long_still : (p : Places) (l l' ns ns' : List ℕ) → Ordered p (length l) → length l' ≡ length l → length ns' ≡ length ns → AsLong (store_in p l' ns') (store_in p l ns)
as_long_still p l l' ns ns' o s n =
    let w = lengths p l o in
    let w' = lengths p l' (subst (Ordered p) (sym s) o) in
    record {
      rows = w'.rows ∙ sym w.rows;
      parts = w'.parts ∙ sym w.parts;
      operands = w'.operands ∙ sym w.operands;
      numbers = n;
      args = w'.args ∙ sym w.args;
      instrs = w'.instrs ∙ sym w.instrs;
      blocks = w'.blocks ∙ sym w.blocks;
    }
