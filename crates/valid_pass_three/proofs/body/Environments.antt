-- The environments of a block's packages, which stand at the front of a list.
use Prim.Native.Nat.{ℕ, zero, suc, ◌+◌, ◌-◌, ◌≤◌, ◌<◌}
use native.Mathlib.Omega.{arith}
use mathlib.Core.Path.{◌≡◌, refl, ap, sym, ◌∙◌}
use Rattle.std.specs.Prelude.{Option as Maybe, Some, None}
use mathlib.Core.List.{List, [], ◌∷◌}
use lib.ListN.{length, length-append, take, set}
use lib.Seq.{length-take-le, take-suc-set}
use Rattle.types_rows.specs.Environments.{Known}
use Rattle.valid_context.specs.Context.{HeldIn}
use Rattle.valid_judge.specs.Image.{after}

-- what is in force before an instruction: the environments of h packages, and those that are held
pub record Under (envs : List ℕ) (h : ℕ) (γ σ : List ℕ) (d : ℕ) : Type 0 where
  pub long : length envs ≡ 64
  pub few : h ≤ 64
  pub depth : d ≤ 64
  pub known : Known (take h envs)
  pub held : HeldIn (take h envs) γ σ d

pub none_is : (o : Maybe ℕ) → ((e : ℕ) → o ≡ Some e → ⊥) → o ≡ None
none_is None k = refl
none_is (Some e) k = absurd (k e refl)

module _ (l : List ℕ) (h : ℕ) where
  pub note_none : (h ≤ length l) → (take h l ≡ after (take h l) None) × (h ≡ length (after (take h l) None))
  unfolding after
  note_none k = (refl, sym (length-take-le h l k))

  one_more_lem : (e : ℕ) → h ≤ length l → length (after (take h l) (Some e)) ≡ h + 1
  unfolding after
  one_more_lem e k = length-append (take h l) (e ∷ []) ∙ ap (λ (x : ℕ). x + 1) (length-take-le h l k)

  pub note_room : (e : ℕ) → h ≤ length l → length (after (take h l) (Some e)) ≤ length l → h < length l
  note_room e k r = let q = one_more_lem e k in omega arith

  pub note_one : (e : ℕ) → h < length l → (take (h + 1) (set l h e) ≡ after (take h l) (Some e)) × (h + 1 ≡ length (after (take h l) (Some e)))
  unfolding after
  note_one e k =
      let q : h + 1 ≡ suc h = omega arith in
      (rw q (take-suc-set l h e k), sym (one_more_lem e (omega arith)))

-- ---- the invariant
module _ {l : List ℕ} {h : ℕ} {γ σ : List ℕ} {d : ℕ} (u : Under l h γ σ d) where
  pub taken_fits : h ≤ length l
  taken_fits = let q = u.long in let k = u.few in omega arith

  pub taken_few : length (take h l) ≤ 64
  taken_few = let q = length-take-le h l taken_fits in let k = u.few in omega arith

  pub noted : (o : Maybe ℕ) {m : List ℕ} {j : ℕ} {γ' σ' : List ℕ} {d' : ℕ} → length m ≡ length l → take j m ≡ after (take h l) o → j ≡ length (after (take h l) o) → d' ≤ 64
      → length (after (take h l) o) ≤ 64 → Known (after (take h l) o) → HeldIn (after (take h l) o) γ' σ' d' → Under m j γ' σ' d'
  noted o w e q k f n g = record { long = w ∙ u.long; few = omega arith; depth = k; known = rw e n; held = rw e g }
