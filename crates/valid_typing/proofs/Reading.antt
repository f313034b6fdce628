-- A type that was read in an environment has the form of its row, and its parts are read there.
use Prim.Native.Nat.{ℕ, zero, suc}
use mathlib.Core.Path.{◌≡◌, refl, ap, ◌∙◌}
use mathlib.Core.Bool.{Bool, true, false}
use mathlib.Core.Option.{Option, none, some}
use Rattle.std.specs.Prelude.{Option as CodeOption, Some, None}
use mathlib.Core.List.{List}
use lib.ListN.{get_or}
use Rattle.syntax.specs.Partial.{guarded}
use Rattle.syntax.specs.Syntax.{value, stack}
use Rattle.types.specs.Types.{Ty, nil, push, svar, gap}
use Rattle.valid.specs.Tests.{item_at}
use Rattle.types_rows.specs.Read.{slot_at, on_slot, parts_of, drop_s}
use Rattle.types_rows.specs.Environments.{read_in}
use Rattle.types_rows.proofs.Environments.{read_nil, read_push, read_svar, read_gap}

-- what is there, as f makes it
abbrev pub over : {A B : Type 0} → (A → B) → Option A → Option B
over f none = none
over f (some x) = some (f x)

pub over_guarded : {A B : Type 0} (f : A → B) (b : Bool) (x : A) → over f (guarded b x) ≡ guarded b (f x)
over_guarded f true x = refl
over_guarded f false x = refl

module _ (E : List ℕ) (e : ℕ) where
  pub read_drop : (j : ℕ) (a : Ty stack) → drop_s j (read_in E e a) ≡ read_in E e (drop_s j a)
  unfolding drop_s
  read_drop zero a = refl
  read_drop (suc j) nil = rw (read_nil E e)
  read_drop (suc j) (push t a) = rw (read_push E e t a) (read_drop j a)
  read_drop (suc j) (svar k a) = rw (read_svar E e k a) (read_drop j a)
  read_drop (suc j) (gap a) = rw (read_gap E e a) (read_drop j a)

  pub read_item : (a : Ty stack) (i : ℕ) → item_at (read_in E e a) i ≡ over (read_in E e) (item_at a i)
  unfolding item_at
  read_item nil i = rw (read_nil E e)
  read_item (push t a) zero = rw (read_push E e t a)
  read_item (push t a) (suc i) = rw (read_push E e t a) (read_item a i)
  read_item (svar k a) i = rw (read_svar E e k a)
  read_item (gap a) zero = rw (read_gap E e a)
  read_item (gap a) (suc i) = rw (read_gap E e a) (read_item a i)

  slot_read : (v : ℕ → Ty value) (s : CodeOption ℕ) (a : Ty stack) → read_in E e (on_slot v s a) ≡ on_slot (λ t. read_in E e (v t)) s (read_in E e a)
  slot_read v None a = read_gap E e a
  slot_read v (Some t) a = read_push E e (v t) a

  -- the parts of a row
  pub read_parts : (v : ℕ → Ty value) (ps : List ℕ) (file : Bool) (h p n : ℕ) → read_in E e (parts_of v ps file h p n) ≡ parts_of (λ t. read_in E e (v t)) ps file h p n
  unfolding parts_of
  read_parts v ps file h p zero = read_nil E e
  read_parts v ps file h p (suc n) =
      slot_read v (slot_at file h (get_or ps p 0)) (parts_of v ps file h (suc p) n) ∙ ap (on_slot (λ t. read_in E e (v t)) (slot_at file h (get_or ps p 0))) (read_parts v ps file h (suc p) n)

  -- an item that is there, and one that is not
  pub read_part : (a : Ty stack) (i : ℕ) {t : Ty value} → item_at a i ≡ some t → item_at (read_in E e a) i ≡ some (read_in E e t)
  read_part a i q = read_item a i ∙ ap (over (read_in E e)) q

  pub read_past : (a : Ty stack) (i : ℕ) → item_at a i ≡ none → item_at (read_in E e a) i ≡ none
  read_past a i q = read_item a i ∙ ap (over (read_in E e)) q
