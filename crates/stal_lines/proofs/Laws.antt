-- The 64 bits of an integer are read as it, and seven numbers at the start of lent memory.
use mathlib.Core.Path.{◌≡◌, refl, ◌∙◌, sym}
use mathlib.Core.Bool.{Bool, true, false, cond}
use Prim.Native.Nat.{ℕ, suc, ◌-◌, ◌^◌}
use lib.Dec.{ltb}
use lib.IntN.{ℤ, pos, negsuc}
use mir.Syntax.{w64}
use mir.Val.{SFits, to_z, of_z, sel}
use Rattle.std.proofs.lemmas.Int.{to_z-of_z}
use Rattle.report_day.specs.declared.Figures.{Figures}
use Rattle.report_day.specs.Answers.{figures_is}
use Rattle.stal_lines.specs.Wide.{signed64}
use Rattle.stal_lines.specs.Day.{bits_of, figures_read}

signed64_is : (n : ℕ) → to_z w64 n ≡ signed64 n
unfolding signed64
signed64_is n = go (ltb n (2 ^ 63))
  where
    go : (t : Bool) → sel t (pos n) (negsuc (2 ^ 64 - suc n)) ≡ cond t (pos n) (negsuc (2 ^ 64 - suc n))
    go true = refl
    go false = refl

back : (z : ℤ) → SFits w64 z → signed64 (of_z w64 z) ≡ z
back z h = sym (signed64_is (of_z w64 z)) ∙ to_z-of_z w64 z h

pub read_back : (f : Figures) → SFits w64 f.total → SFits w64 f.smallest → SFits w64 f.largest → SFits w64 f.quotient → figures_read (bits_of f) ≡ figures_is f
read_back f a b c d = rw (back f.total a, back f.smallest b, back f.largest c, back f.quotient d) refl
