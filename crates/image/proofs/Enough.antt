-- Laws of working memory that is long enough.
-- Assumes nothing.
use Prim.Native.Nat.{ℕ, ◌≤◌}
use mathlib.Core.Path.{◌≡◌, refl, sym}
use mathlib.Core.Bool.{Bool, true, false, true≢false, ◌&&◌}
use lib.Dec.{leb}
use borrow.Author.Tests.{leb-true}
use Rattle.image.specs.Enough.{enough, enough_to_check}

both : (a b : Bool) → a && b ≡ true → (a ≡ true) × (b ≡ true)
both true b e = (refl, e)
both false b e = absurd (true≢false (sym e))

-- how long each is then
pub enough_is : (i n p : ℕ) → enough i n p ≡ true → (161694 ≤ i) × (16400 ≤ n) × (8208 ≤ p)
unfolding enough
enough_is i n p e =
    let a = both (leb 161694 i && leb 16400 n) (leb 8208 p) e in
    let b = both (leb 161694 i) (leb 16400 n) a.0 in
    (leb-true 161694 i b.0, leb-true 16400 n b.1, leb-true 8208 p a.1)

pub to_check_is : (i n p w : ℕ) → enough_to_check i n p w ≡ true → (161694 ≤ i) × (16400 ≤ n) × (8208 ≤ p) × (8192 ≤ w)
unfolding enough_to_check
to_check_is i n p w e =
    let a = both (enough i n p) (leb 8192 w) e in
    let b = enough_is i n p a.0 in
    (b.0, b.1, b.2, leb-true 8192 w a.1)
