-- What is found, and what a package hides.
use Prim.Native.Nat.{ℕ, suc, ◌+◌, ◌*◌, ◌≤◌}
use native.Mathlib.Omega.{arith}
use mathlib.Core.Path.{◌≡◌, ap, sym, ◌∙◌}
use mathlib.Core.Option.{none}
use mathlib.Core.List.{List, [], ◌∷◌, ◌++◌}
use lib.ListN.{length}
use Rattle.syntax.specs.Syntax.{value}
use Rattle.types.specs.Types.{Ty, hidden}
use Rattle.types.specs.Rows.{type_at}
use Rattle.valid.specs.Tests.{as_hidden}
use Rattle.valid.specs.PassThree.{or_fault}
use Rattle.types_rows.specs.Read.{tab, mean_v}
use Rattle.types_rows.specs.Environments.{read_in, Known}
use Rattle.types_rows.proofs.Environments.{read_none, read_opened}
use Rattle.valid_context.specs.Told.{told_of, answer}
use Rattle.valid_context.proofs.Told.{told_some, told_none}
use Rattle.valid_typing.specs.Typing.{types_in, held_in, Found}
use Rattle.types_rows.specs.declared.Held.{Held}

-- what is read now
pub found_now : {n : ℕ} {E regs : List ℕ} {t : Held} → length E ≤ 64 → t.row ≤ n + 1 → t.env ≡ 2 * length E → Found n E regs t
found_now l h e = record { row_in = h; small = omega arith; exists = λ g. omega arith }

-- ---- what a package hides
module _ (rows parts : List ℕ) (n t : ℕ) where
  -- a type that is no package's
  pub inside_none : ((E : List ℕ) (e : ℕ) → as_hidden ((held_in rows parts n E).type e t) ≡ none)
      → ((y : Ty value) → told_of (or_fault 9 (as_hidden (type_at value (types_in rows parts n) t))) ≡ answer 9 y) × ((E : List ℕ) (e : ℕ) (y : Ty value) → told_of (or_fault 9 (as_hidden ((held_in rows parts n E).type e t))) ≡ answer 9 y)
  inside_none h =
      let p : as_hidden (type_at value (types_in rows parts n) t) ≡ none = ap as_hidden (sym (read_none (type_at value (types_in rows parts n) t))) ∙ h [] 0 in
      (λ y. rw p (told_none 8 y), λ E e y. rw (h E e) (told_none 8 y))

  -- one that is: its row now, and once the package is opened
  pub inside_some : (x w : ℕ) → type_at value (types_in rows parts n) t ≡ hidden (mean_v (tab rows parts) x) → type_at value (types_in rows parts n) w ≡ mean_v (tab rows parts) x
      → (told_of (or_fault 9 (as_hidden (type_at value (types_in rows parts n) t))) ≡ answer 0 (type_at value (types_in rows parts n) w))
      × ((E : List ℕ) (e : ℕ) → Known E → e ≤ 2 * length E → told_of (or_fault 9 (as_hidden ((held_in rows parts n E).type e t))) ≡ answer 0 ((held_in rows parts n (E ++ e ∷ [])).type (suc (2 * length E)) w))
  unfolding as_hidden
  inside_some x w f g = (
    rw (f, g) (told_some 9 (mean_v (tab rows parts) x)),
    λ E e k l. rw (f, g, read_opened E e k l (mean_v (tab rows parts) x)) (told_some 9 (read_in (E ++ e ∷ []) (suc (2 * length E)) (mean_v (tab rows parts) x))),
  )
