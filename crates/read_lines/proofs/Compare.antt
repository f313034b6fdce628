-- Laws of two lines compared.
use mathlib.Core.Path.{◌≡◌, refl, ap, ◌∙◌}
use mathlib.Core.Bool.{Bool, true, false, ◌&&◌, cond}
use mathlib.Core.List.{List, [], ◌∷◌}
use Prim.Native.Nat.{ℕ}
use lib.Dec.{eqb}
use borrow.Author.Tests.{eq-eqb}
use Rattle.std.specs.Int.{from_bool}
use Rattle.std.specs.Str.{bytes_eq}
use Rattle.text.specs.Bytes.{same_bytes}

pub same_self : (s : List ℕ) → same_bytes s s ≡ true
unfolding same_bytes
same_self [] = refl
same_self (b ∷ s) = ap (λ (x : Bool). x && same_bytes s s) (eq-eqb b b refl) ∙ same_self s

-- `==` of two lines
same_texts : (s t : List ℕ) → bytes_eq s t ≡ same_bytes s t
unfolding same_bytes
same_texts [] [] = refl
same_texts [] (c ∷ t) = refl
same_texts (b ∷ s) [] = refl
same_texts (b ∷ s) (c ∷ t) = ap (λ (x : Bool). eqb b c && x) (same_texts s t)

pub agreed : (s t : List ℕ) {b : Bool} {n : ℕ} → b ≡ bytes_eq s t → n ≡ from_bool b → n ≡ cond (same_bytes s t) 1 0
agreed s t {b} h e = e ∙ go b ∙ ap (λ (x : Bool). cond x 1 0) (h ∙ same_texts s t)
  where
    go : (x : Bool) → from_bool x ≡ cond x 1 0
    go true = refl
    go false = refl
