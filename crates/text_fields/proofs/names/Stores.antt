-- Laws of a run of stores into lent memory, for the writers of this crate and for their callers.
-- Assumes nothing.
use Rattle.std.proofs.Common.{◌≡◌, ℕ, suc, ◌+◌, ◌≤◌, List, [], ◌∷◌, length, set, refl, ap, ◌∙◌, add-one, arith, length-set}
use lib.Seq.{sets, set_out}

-- past the end nothing is stored
pub sets_out : (l : List ℕ) (i : ℕ) (vs : List ℕ) → length l ≤ i → sets l i vs ≡ l
sets_out l i [] h = refl
sets_out l i (v ∷ vs) h =
    let q : length (set l i v) ≤ suc i = omega (arith, length-set l i v) in
    sets_out (set l i v) (suc i) vs q ∙ set_out l i v h

-- one store, then the others from the next place on
pub sets_one : (l : List ℕ) (i v : ℕ) (vs : List ℕ) → sets (set l i v) (i + 1) vs ≡ sets l i (v ∷ vs)
sets_one l i v vs = ap (λ (j : ℕ). sets (set l i v) j vs) (add-one i)
