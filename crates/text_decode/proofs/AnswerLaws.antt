-- Laws of a text that fits the tables, and of one that does not.
-- Assumes nothing.
use mathlib.Core.Path.{◌≡◌, ap, sym, ◌∙◌, refl}
use mathlib.Core.Bool.{Bool, true, false, not, cond, true≢false}
use Prim.Native.Nat.{ℕ}
use borrow.Author.Tests.{not-true}
use Rattle.std.specs.Prelude.{Result, Ok}
use Rattle.faults.specs.declared.Fault.TheVariants.{Misplaced}
use Rattle.image.specs.declared.Counts.{Counts}
use Rattle.text_decode.specs.declared.store.Used.{Used}
use Rattle.text_decode.specs.declared.state.Place.{Place}
use Rattle.text_decode.specs.declared.state.Unread.{Unread}
use Rattle.text_decode.specs.state.State.{faulty, counts_in, last_read, inside_block}
use Rattle.text_decode.specs.Decoded.{fits, Fitting}

-- ---- a text that fits, and one that does not
pub fitting : {R A : Type 0} {b : Bool} → b ≡ true → A → Fitting R b A
fitting e a = record { enough = λ r. e; answered = λ w. a }

pub unfitting : {R A : Type 0} {b : Bool} → b ≡ false → (R → ⊥) → Fitting R b A
unfitting e n = record { enough = λ r. absurd (n r); answered = λ w. absurd (true≢false (sym w ∙ e)) }

pub failed : {R : Type 0} (b : Bool) → (R → b ≡ true) → not b ≡ true → R → ⊥
failed b h e r = true≢false (sym (h r) ∙ not-true b e)

-- ---- at the end of the text
pub last_fits : (p : Place) (n : ℕ) (u : Used) (r : Result Counts Unread) → r ≡ last_read p n u → fits r ≡ true
last_fits p n u r e = ap fits e ∙ go (inside_block p)
  where
    go : (t : Bool) → fits {A = Counts} (cond t (faulty Misplaced n) (Ok (counts_in u))) ≡ true
    go true = refl
    go false = refl
