-- Laws of types compared.
use mathlib.Core.Path.{◌≡◌, refl, ap, sym, ◌∙◌}
use mathlib.Core.Bool.{Bool, true, false}
use Rattle.syntax.specs.Syntax.{Kind, stack}
use Rattle.types.specs.Types.{Ty, items}
use Rattle.types.specs.Equal.{same}
use Rattle.types.proofs.Equal.{none_true, same_sound, same_refl}

-- ---- lists of items
pub same_items : (a b : Ty stack) → (items a ≡ items b → ⊥) → same a b ≡ false
same_items a b h = go (same a b) refl
  where
    go : (x : Bool) → same a b ≡ x → x ≡ false
    go true e = absurd (h (ap items (same_sound a b e)))
    go false e = refl

pub same_sym : {κ : Kind} (x y : Ty κ) → same x y ≡ same y x
same_sym x y = go (same x y) (same y x) refl refl
  where
    go : (a b : Bool) → same x y ≡ a → same y x ≡ b → a ≡ b
    go true true e f = refl
    go false false e f = refl
    go true false e f = none_true (sym f ∙ ap (λ z. same y z) (same_sound x y e) ∙ same_refl y)
    go false true e f = sym (none_true (sym e ∙ ap (λ z. same x z) (same_sound y x f) ∙ same_refl x))
